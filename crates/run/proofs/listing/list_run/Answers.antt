use Rattle.std.proofs.Common.{◌≡◌, ◌++◌, vec_items, ap, ◌∙◌}
use Rattle.cluster.specs.Board.{board_of}
use Rattle.text.specs.Lines.{line_of, summary_lines}
use Rattle.trace.specs.Traces.{records_of}
use Rattle.run.specs.declared.listing.Lines.{Lines}
use Rattle.run.specs.Listing.{lines_of, all_lines}
use Rattle.run.specs.Running.{started, steps_of}
use Rattle.run.proofs.Listings.{seen_lines}
use Rattle.run.proofs.listing.list_run.Goals as goal

pub returns-clause-listing : goal.returns-clause-listing
unfolding all_lines
returns-clause-listing g c =
    let cluster = c.args.cluster.now in
    let recs = records_of c.args.trace.records.now in
    let before = board_of cluster c.args.lines.now c.args.locks.now (g.M.Memory.model c.args.memory.now)
    in
    let steps = steps_of cluster.geometry.measures recs (started recs before) in
    let told = c.in_ok-summary.ensures in
    let lines = seen_lines {W = Lines} (λ a s b. vec_items b.out ≡ vec_items a.out ++ line_of s)
    (λ w. vec_items w.out) (λ a s b h. h) steps _ _ told.seen in
    let first = ap (λ l. l ++ lines_of steps) c.new.ensures.items in
    c.in_ok-put_summary.ensures ∙ (λ k. (lines ∙ first) k ++ summary_lines (told.answer k))
