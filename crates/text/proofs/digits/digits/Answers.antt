use Rattle.std.proofs.Common.{◌∙◌}
use Rattle.std.proofs.lemmas.List.{length-set}
use Rattle.text.proofs.Figures.{one_more, no_more}
use Rattle.text.proofs.digits.digits.Goals as goal

pub loop-place-preserved : goal.loop-place-preserved
loop-place-preserved g c =
    let at = c.loop-place in (
      length-set at.place-items _ _ ∙ at.invariant.0,
      one_more c.args.base _ at.place-index at.rest at.place-items _ c.loop-place-test.true
          at.invariant.0 c.digit.ensures
          ∙ at.invariant.1,
    )

pub returns : goal.returns
returns g c =
    let at = c.loop-place in
    c.reverse.ensures.after
    ∙ no_more c.args.base _ at.place-index at.rest at.place-items c.loop-place-test.false
    at.invariant.0
    ∙ at.invariant.1
