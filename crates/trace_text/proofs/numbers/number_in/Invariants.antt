use Rattle.std.proofs.Common.{◌≡◌, ◌<◌, drop}
use Rattle.trace_text.specs.Numbers.{value_from, fitting}
use Rattle.trace_text.proofs.numbers.number_in.Given as goal

-- the digits that are left give the number
abbrev pub invariant-loop-byte : goal.invariant-loop-byte
invariant-loop-byte l =
    let left = drop l.byte-index l.digits in
    (fitting (value_from l.base l.number left) ≡ fitting (value_from l.base 0 l.digits))
    × (l.number < 4294967296)
