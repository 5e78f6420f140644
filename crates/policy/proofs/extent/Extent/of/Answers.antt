use Rattle.std.proofs.Common.{◌≡◌, ℕ, ◌*◌, ◌/◌, ◌<◌, ◌∙◌, ap, arith}
use Rattle.std.proofs.Math.Nat.{mul-div_cancel, mul-div_cancel_left}
use Rattle.policy.proofs.extent.Extent.of.Goals as goal

columns : (p c w n r s : ℕ) → n ≡ p * c * w → r ≡ w → s ≡ p → 0 < p → 0 < w → n / r / s ≡ c
columns p c w n r s e f g some_p some_w =
    ap (λ k. k / r / s) e ∙ ap (λ k. p * c * w / k / s) f ∙ ap (λ k. p * c * w / w / k) g
    ∙ ap (λ k. k / p) (mul-div_cancel (p * c) some_w) ∙ mul-div_cancel_left c some_p

pub returns-clause-value : goal.returns-clause-value
returns-clause-value c =
    let m = c.args.geometry.now.measures in
    let e = columns m.processors m.columns m.ways _ _ _ c.line_count.ensures
    c.ways-ways.ensures.value c.processors-processors.ensures.value
    (omega arith) (omega arith) in
    λ i.
    record {
      processors = c.processors-processors.ensures.value i;
      columns = e i;
      ways = c.ways-ways.ensures.value i;
    }
