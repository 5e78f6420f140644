use Rattle.std.proofs.Common.{Some, None, sym, ◌∙◌}
use Rattle.trace.specs.Sizes.{records_in}
use Rattle.trace.proofs.Reading.{wrong_at}
use Rattle.trace.proofs.trace.first_wrong.Goals as goal

pub loop-i-preserved : goal.loop-i-preserved
loop-i-preserved c =
    let bs = c.args.records.now in
    sym (wrong_at c.args.processors c.loop-i.stamp c.loop-i.i (records_in bs) bs
    (Some c.in-Some.next) c.loop-i-test.true c.in-Some.ensures)
    ∙ c.loop-i.invariant

pub returns-in-None : goal.returns-in-None
returns-in-None c =
    let bs = c.args.records.now in
    sym (wrong_at c.args.processors c.loop-i.stamp c.loop-i.i (records_in bs) bs None
    c.loop-i-test.true c.in-None.ensures)
    ∙ c.loop-i.invariant
