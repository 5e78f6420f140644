use Rattle.std.proofs.Common.{true}
use Rattle.run.proofs.Turns.{settled_next}
use Rattle.run.proofs.run.Run.account.Goals as goal

pub invariant_of-self-clause-settled : goal.invariant_of-self-clause-settled
invariant_of-self-clause-settled c =
    let run = c.args.self.now in
    let t = run.trace in
    rw c.next_of.ensures.value
    (settled_next t.processors t.records.now t.sound t.served.1 run.next run.eight run.settled
    c.args.processor c.requires.listed c.requires.inside true)
