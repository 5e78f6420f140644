use Rattle.run.proofs.Turns.{all_unfinished, settled_start}
use Rattle.run.proofs.run.Run.start.Goals as goal

pub invariant_of-result-clause-settled : goal.invariant_of-result-clause-settled
invariant_of-result-clause-settled c =
    let t = c.args.trace in
    settled_start t.processors t.records.now t.sound t.served.1 _ c.first_records.ensures.each

pub returns-clause-first : goal.returns-clause-first
returns-clause-first c b =
    let t = c.args.trace in
    let all = all_unfinished t.processors t.records.now t.sound t.served.1 _ c.first_records.ensures.each
    in
    λ k. record { board = b; unfinished = all k; steps = 0; cycles = 0 }
