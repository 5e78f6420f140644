use Rattle.std.proofs.Common.{◌≡◌, suc, ◌+◌, ◌-◌, take, ◌∙◌, arith}
use Rattle.recipe.proofs.Fits.{next_drawn, none_drawn}
use Rattle.recipe.proofs.recipe.put_all.Goals as goal

pub loop-done-preserved : goal.loop-done-preserved
loop-done-preserved c =
    let w = c.args.bounds.words in
    let p = c.args.bounds.processors in
    let i = c.loop-done.done in
    let inv = c.loop-done.invariant in
    let put = c.put_draw-count.ensures in
    let few = put.few in
    let less = c.loop-done-test.true in
    let value = c.next_value-value.ensures in
    let left : c.args.draws - i ≡ suc (c.args.draws - (i + 1)) = omega (arith, less) in (
      next_drawn w p (c.args.draws - (i + 1)) (c.args.draws - i) (i + 1) c.loop-done.value
          c.next_value-value.result (take c.loop-done.count c.loop-done.records) _ left value
          put.records
          ∙ inv.0,
      omega (arith, few, inv.1),
      put.long ∙ inv.2,
    )

pub returns-clause-records : goal.returns-clause-records
returns-clause-records c =
    let w = c.args.bounds.words in
    let p = c.args.bounds.processors in
    let i = c.loop-done.done in
    let inv = c.loop-done.invariant in
    let over = c.loop-done-test.false in
    none_drawn w p (c.args.draws - i) (i + 1) c.loop-done.value
    (take c.loop-done.count c.loop-done.records) (omega (arith, over)) ∙ inv.0
