use Rattle.std.proofs.Common.{◌≡◌, ◌+◌, ◌-◌, take, drop, ◌∙◌, arith}
use Rattle.judging.specs.Rules.{trailer_byte, record_fault}
use Rattle.judging.proofs.checking.fault_at.Goals as goal

pub returns : goal.returns
returns c =
    let bytes = c.args.bytes.now in
    let at = c.record_place-at.result in
    let wide : at + 16 - at ≡ 16 = omega arith in
    c.record_fault.ensures
    ∙ (λ k. record_fault (trailer_byte bytes 5) (c.stamp_before.ensures k)
    (take (wide k) (drop (c.record_place-at.ensures.place k) bytes)))
