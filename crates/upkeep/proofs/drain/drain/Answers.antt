use Rattle.std.proofs.Common.{◌≡◌, length, count_by, sym, ◌∙◌, zero-add, rules}
use Rattle.protocol.specs.Places.{line_count}
use Rattle.upkeep.proofs.Counts.{is_modified, has_columns, census_counts}
use Rattle.upkeep.proofs.Drains.{drain_count}
use Rattle.upkeep.proofs.drain.drain.Goals as goal

pub returns-clause-counted : goal.returns-clause-counted
returns-clause-counted g c =
    let geometry = c.args.cluster.now.geometry in
    let lines = c.args.lines.now in
    let fit : length lines ≡ line_count geometry.measures = search rules in
    drain_count lines 0 c.in_ok-blocks.blocks (g.M.Memory.model c.args.memory.now)
    c.in_ok-blocks.ensures.answer ∙ zero-add (count_by is_modified lines)
    ∙ sym (census_counts geometry.measures lines geometry.few_processors (has_columns geometry) fit)
