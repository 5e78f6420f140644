use Rattle.cluster.specs.Waiting.{awaited_in}
use Rattle.trace.specs.Sizes.{records_in}
use Rattle.run.proofs.Dues.{FoundBelow}
use Rattle.run.proofs.run.Run.due.Given as goal

abbrev pub invariant-loop-p : goal.invariant-loop-p
invariant-loop-p l =
    let waits = awaited_in l.cluster.geometry.measures l.cluster.processors in
    FoundBelow waits l.self.next (records_in l.self.trace.records.now) l.p l.earliest l.due
