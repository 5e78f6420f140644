use Rattle.std.proofs.Common.{◌≡◌, IfOk, ap, subst}
use Rattle.trace.specs.Traces.{records_of}
use Rattle.run.proofs.Laws.{new_lent}
use Rattle.stats.specs.Statistics.{statistics_of}
use Rattle.stats.proofs.statistics.trace_statistics.Goals as goal

pub returns-clause-statistics : goal.returns-clause-statistics
returns-clause-statistics g c =
    let recs = records_of c.args.trace.records.now in
    let mem = g.M.Memory.model c.args.memory.now in
    let new = c.in_ok-board.ensures.new in
    let made = new_lent new c.deref_mut.ensures.value c.deref_mut-2.ensures.value mem in
    let same = ap (λ x. x.measures) new.geometry in
    subst (λ s. IfOk c.run_statistics.result (λ r. r ≡ s)) (λ k. statistics_of (same k) recs (made k))
    c.run_statistics.ensures.statistics
