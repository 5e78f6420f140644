use Rattle.std.proofs.Common.{◌≡◌, ◌-◌, ◌++◌, length, take, reverse}
use Rattle.text.specs.Digits.{fixed}
use Rattle.text.proofs.digits.digits.Given as goal

-- the digits that are left, in front of those that are there, which stand last digit first
abbrev pub invariant-loop-place : goal.invariant-loop-place
invariant-loop-place g l =
    (length l.place-items ≡ g.row.W)
    × (fixed l.base (g.row.W - l.place-index) l.rest ++ reverse (take l.place-index l.place-items)
    ≡ fixed l.base g.row.W l.value)
