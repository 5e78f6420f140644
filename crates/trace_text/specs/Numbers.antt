-- Numbers in digits.
use Rattle.std.specs.Prelude.{ℕ, ◌+◌, ◌*◌, ◌&&◌, if◌then◌else◌, List, [], ◌∷◌, length, Some, None, Option, ◌==◌, nat_le, nat_lt}
use Rattle.std.specs.Char.{digit_value}
use Rattle.text.specs.Digits.{fixed}
use Rattle.trace.specs.Traces.{when_some}

-- the value of a digit, if the base has it: 0 to 9, then letters of either case
abbrev pub digit_in : ℕ → ℕ → Option ℕ
digit_in base byte = if nat_lt (digit_value byte) base then Some (digit_value byte) else None

-- the number that digits make, behind those that make n
abbrev pub value_from : ℕ → ℕ → List ℕ → Option ℕ
value_from base n [] = Some n
value_from base n (byte ∷ digits) =
    when_some (digit_in base byte) (λ d. value_from base (n * base + d) digits) None

-- the number, if it is below 2^32
abbrev pub fitting : Option ℕ → Option ℕ
fitting o = when_some o (λ n. if nat_lt n 4294967296 then Some n else None) None

-- the number that 1 to so many digits are, if it is below 2^32
abbrev pub number_in : ℕ → ℕ → List ℕ → Option ℕ
number_in base most digits =
    if nat_le 1 (length digits) && nat_le (length digits) most then fitting (value_from base 0 digits)
    else None

abbrev pub hexadecimal_of : List ℕ → Option ℕ
hexadecimal_of digits = number_in 16 8 digits

abbrev pub decimal_of : List ℕ → Option ℕ
decimal_of digits = number_in 10 10 digits

-- the last digit stays
abbrev pub without_zeros : List ℕ → List ℕ
without_zeros [] = []
without_zeros (digit ∷ []) = digit ∷ []
without_zeros (digit ∷ (next ∷ later)) =
    if digit == 48 then without_zeros (next ∷ later) else digit ∷ (next ∷ later)

-- a number below 2^32 in decimal digits without leading zeros
abbrev pub decimal_text : ℕ → List ℕ
decimal_text n = without_zeros (fixed 10 10 n)
