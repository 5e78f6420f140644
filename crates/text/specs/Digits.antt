-- Numbers in a fixed number of digits.
use Rattle.std.specs.Prelude.{ℕ, zero, suc, ◌+◌, ◌/◌, ◌%◌, if◌then◌else◌, List, [], ◌∷◌, ◌++◌, nat_lt}

-- 0 to 9, then A to F
abbrev pub digit_of : ℕ → ℕ
digit_of n = if nat_lt n 10 then 48 + n else 55 + n

-- the last digits of a number, as many as the width, in a base
unfoldable pub fixed : ℕ → ℕ → ℕ → List ℕ
fixed base zero n = []
fixed base (suc width) n = fixed base width (n / base) ++ (digit_of (n % base) ∷ [])
