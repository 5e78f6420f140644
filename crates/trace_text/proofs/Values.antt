-- The value of digits.
use Rattle.std.proofs.Common.{◌≡◌, ℕ, ◌+◌, ◌*◌, ◌<◌, ◌≤◌, true, false, ltb, leb, List, [], ◌∷◌, length, get_or, drop, Some, None, subst, sym, refl, ap, ◌∙◌, arith}
use Rattle.std.proofs.Math.Nat.{le-mul_of_pos_right}
use Rattle.std.proofs.lemmas.List.{drop_more, drop_all}
use Rattle.std.proofs.lemmas.Bool.Decides.{nat_tests}
use Rattle.std.specs.Char.{digit_value}
use Rattle.trace.specs.Traces.{when_some}
use Rattle.trace_text.specs.Numbers.{digit_in, value_from, fitting, number_in, without_zeros}

-- more digits leave a number that does not fit
pub too_large : (base n : ℕ) (digits : List ℕ) → 0 < base → 4294967296 ≤ n
    → fitting (value_from base n digits) ≡ None
too_large base n [] h large = let past : ltb n 4294967296 ≡ false = grind (arith, nat_tests) in rw past refl
too_large base n (digit ∷ digits) h large =
    let more : (d : ℕ) → fitting (value_from base (n * base + d) digits) ≡ None
    = λ d.
    let up : n ≤ n * base = le-mul_of_pos_right n h in
    too_large base (n * base + d) digits h (omega arith) in
    elim (digit_in base digit) as (λ o.
    fitting (when_some o (λ d. value_from base (n * base + d) digits) None) ≡ None)
    [ None ↦ refl | Some d ↦ more d ]

-- one digit read
pub next_digit : (base n i d : ℕ) (digits : List ℕ) → i < length digits
    → digit_in base (get_or digits i 0) ≡ Some d
    → value_from base n (drop i digits) ≡ value_from base (n * base + d) (drop (i + 1) digits)
next_digit base n i d digits h e =
    ap (value_from base n) (drop_more digits i 0 h)
    ∙ ap (λ o. when_some o (λ v. value_from base (n * base + v) (drop (i + 1) digits)) None) e

pub in_number : (base most : ℕ) (digits : List ℕ) → 0 < length digits → length digits ≤ most
    → number_in base most digits ≡ fitting (value_from base 0 digits)
in_number base most digits some few =
    let one : leb 1 (length digits) ≡ true = grind (arith, nat_tests) in
    let fits : leb (length digits) most ≡ true = grind (arith, nat_tests) in
    rw one (rw fits refl)

-- a single digit stays
pub one_digit : (digits : List ℕ) → length digits ≤ 1 → without_zeros digits ≡ digits
one_digit [] h = refl
one_digit (digit ∷ []) h = refl
one_digit (digit ∷ (next ∷ later)) h = absurd (omega arith)

pub digit_read : (base byte char d : ℕ) → char ≡ byte → (digit_value char < base) × (d ≡ digit_value char)
    → digit_in base byte ≡ Some d
digit_read base byte char d e (below, is) =
    let here : ltb (digit_value char) base ≡ true = grind (arith, nat_tests) in
    let low : ltb (digit_value byte) base ≡ true = subst (λ x. ltb (digit_value x) base ≡ true) e here in
    rw low (ap (λ x. Some x) (ap digit_value (sym e) ∙ sym is))

-- a number that does not fit, or the whole number, is the answer
module _ (base most n i : ℕ) (digits : List ℕ) (few : length digits ≤ most)
    (kept : fitting (value_from base n (drop i digits)) ≡ fitting (value_from base 0 digits)) where
  pub overflowed : (d : ℕ) → 10 ≤ base → i < length digits → digit_in base (get_or digits i 0) ≡ Some d
      → 4294967296 ≤ n * base + d → number_in base most digits ≡ None
  overflowed d h inside read large =
      in_number base most digits (omega arith) few ∙ sym kept
      ∙ ap fitting (next_digit base n i d digits inside read)
      ∙ too_large base (n * base + d) (drop (i + 1) digits) (omega arith) large

  pub whole_number : 0 < length digits → length digits ≤ i → n < 4294967296
      → number_in base most digits ≡ Some n
  whole_number some done small =
      let low : ltb n 4294967296 ≡ true = grind (arith, nat_tests) in
      let none : drop i digits ≡ [] = drop_all i digits done in
      let all : fitting (value_from base n (drop i digits)) ≡ Some n
      = ap (λ ds. fitting (value_from base n ds)) none ∙ rw low refl in
      in_number base most digits some few ∙ sym kept ∙ all
