use Rattle.std.proofs.Common.{◌≡◌, refl, ap, subst, ◌∙◌, arith}
use Rattle.protocol.specs.Limits.{LowCosts}
use Rattle.cluster.specs.Board.{board_of}
use Rattle.trace.specs.Traces.{records_of}
use Rattle.run.specs.Running.{started, steps_of, to_go, end_of}
use Rattle.run.proofs.Ends.{start_few}
use Rattle.run.proofs.Turns.{few_records}
use Rattle.upkeep.specs.Counting.{row_of}
use Rattle.stats.specs.Copies.{blocks_by_copies}
use Rattle.stats.specs.Statistics.{statistics_of}
use Rattle.stats.specs.Tallying.{tally_of}
use Rattle.stats.proofs.Tallies.{all_added, tallied}
use Rattle.stats.proofs.Adding.{cycles_add_up, steps_add_up}
use Rattle.stats.proofs.Along.{saw_all, few_steps, each_served}
use Rattle.stats.proofs.statistics.run_statistics.Goals as goal

pub returns : goal.returns
unfolding statistics_of
returns g c =
    let cluster = c.args.cluster.now in
    let m = cluster.geometry.measures in
    let recs = records_of c.args.trace.records.now in
    let before = board_of cluster c.args.lines.now c.args.locks.now (g.M.Memory.model c.args.memory.now) in
    let first = started recs before in
    let steps = steps_of m recs first in
    let geometry = c.geometry-geometry.ensures in
    let costs = c.costs.ensures.value ∙ ap (λ x. x.measures.costs) geometry in
    let low = subst LowCosts costs c.costs.ensures.low in
    let few = few_steps m recs (to_go m recs first) first in
    let bound = start_few m recs first cluster.geometry.few_processors (few_records c.args.trace) refl in
    let told = c.in_ok-summary.ensures in
    let tally : c.run_watched.new.watcher.tally ≡ tally_of m.costs steps
    = saw_all steps _ c.run_watched.new.watcher told.seen
    ∙ (λ i. all_added (costs i) (c.empty.ensures i) steps)
    ∙ tallied m.costs low steps (omega (arith, few, bound)) in
    let last = c.run_watched.new in
    let left = board_of last.cluster last.lines last.locks (g.M.Memory.model last.memory) in
    let end = end_of m before recs in
    let blocks = c.blocks-2.ensures ∙ ap (λ b. b.memory.count) {x = left} {y = end.board} told.board in
    record {
      statistics = λ i. record {
        processors = (c.processors.ensures.value ∙ ap (λ x. x.measures.processors) geometry) i;
        summary = told.answer i;
        tally = tally i;
        lines = (c.lines_by_state.ensures
            ∙ ap (λ b. row_of b.lines) {x = left} {y = end.board} told.board) i;
        copies = (c.in_ok-blocks_by_copies.ensures
            ∙ (λ j. blocks_by_copies (told.board j).lines (blocks j))) i;
      };
      cycles = cycles_add_up m recs before last.watcher.tally c.in_ok-summary.summary tally told.answer;
      steps = steps_add_up m recs before last.watcher.tally c.in_ok-summary.summary tally told.answer
          (each_served c.args.trace);
      board = told.board;
      geometry = told.geometry;
      kept = told.kept;
    }
