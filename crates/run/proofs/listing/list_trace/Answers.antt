use Rattle.std.proofs.Common.{◌≡◌, IfOk, vec_items, ap, subst}
use Rattle.trace.specs.Traces.{records_of}
use Rattle.run.specs.Listing.{all_lines}
use Rattle.run.proofs.Laws.{new_lent}
use Rattle.run.specs.Running.{started}
use Rattle.run.proofs.listing.list_trace.Goals as goal

pub returns-clause-listing : goal.returns-clause-listing
returns-clause-listing g c =
    let recs = records_of c.args.trace.records.now in
    let mem = g.M.Memory.model c.args.memory.now in
    let new = c.in_ok-board.ensures.new in
    let made = new_lent new c.deref_mut.ensures.value c.deref_mut-2.ensures.value mem in
    let same = ap (λ x. x.measures) new.geometry in
    subst (λ listing. IfOk c.list_run.result (λ out. vec_items out ≡ listing))
    (λ k. all_lines (same k) recs (started recs (made k))) c.list_run.ensures.listing
