-- Digits that are written are read as the number that they were written for.
use Rattle.std.proofs.Common.{◌≡◌, ℕ, zero, suc, ◌+◌, ◌*◌, ◌/◌, ◌%◌, ◌^◌, ◌<◌, ◌≤◌, Bool, true, false, cond, eqb, ltb, List, [], ◌∷◌, ◌++◌, length, Some, None, Option, sym, refl, ap, ◌∙◌, arith, length-append}
use Rattle.std.proofs.Math.Nat.{pow-zero, pow-suc, one-le-pow}
use Rattle.std.proofs.Math.Arith.{mod-mul}
use Rattle.std.proofs.lemmas.Bool.Decides.{nat_tests}
use Rattle.text.specs.Digits.{digit_of, fixed}
use Rattle.trace.specs.Traces.{when_some}
use Rattle.trace_text.specs.Lines.{is_filled}
use Rattle.trace_text.specs.Numbers.{digit_in, value_from, fitting, hexadecimal_of, decimal_of, without_zeros, decimal_text}
use Rattle.trace_text.proofs.Values.{in_number}
use Rattle.trace_text.proofs.Words.{Above, Above-append, Word, filled-append}

digit_back : (base d : ℕ) → base ≤ 16 → d < base → digit_in base (digit_of d) ≡ Some d
digit_back base d h k = grind (arith, nat_tests)

value-append : (base n : ℕ) (xs ys : List ℕ)
    → value_from base n (xs ++ ys) ≡ when_some (value_from base n xs) (λ v. value_from base v ys) None
value-append base n [] ys = refl
value-append base n (x ∷ xs) ys =
    elim (digit_in base x) as (λ o. when_some o (λ d. value_from base (n * base + d) (xs ++ ys)) None
    ≡ when_some (when_some o (λ d. value_from base (n * base + d) xs) None) (λ v. value_from base v ys) None)
    [ None ↦ refl | Some d ↦ value-append base (n * base + d) xs ys ]

module _ (base : ℕ) (two : 2 ≤ base) (most : base ≤ 16) where
  value_fixed : (width n : ℕ) → value_from base 0 (fixed base width n) ≡ Some (n % base ^ width)
  unfolding fixed
  value_fixed zero n =
      let none : 0 ≡ n % 1 = omega arith in
      ap (λ v. Some v) (none ∙ ap (λ m. n % m) (sym (pow-zero base)))
  value_fixed (suc width) n =
      let low : n % base < base = omega arith in
      let small = value_fixed width (n / base) in
      let digit = digit_back base (n % base) most low in
      let front = n / base % base ^ width in
      let some : 1 ≤ base ^ width = one-le-pow width base (omega arith) in
      let all : front * base + n % base ≡ n % base ^ suc width
      = sym (mod-mul n {m = base ^ width} {c = base} some (omega arith))
      ∙ ap (λ m. n % m) (sym (pow-suc base width)) in
      value-append base 0 (fixed base width (n / base)) (digit_of (n % base) ∷ [])
      ∙ ap (λ o. when_some o (λ v. value_from base v (digit_of (n % base) ∷ [])) None) small
      ∙ ap (λ o. when_some o (λ d. Some (front * base + d)) None) digit
      ∙ ap (λ v. Some v) all

  length-fixed : (width n : ℕ) → length (fixed base width n) ≡ width
  unfolding fixed
  length-fixed zero n = refl
  length-fixed (suc width) n =
      let front = length-fixed width (n / base) in
      let both = length-append (fixed base width (n / base)) (digit_of (n % base) ∷ []) in omega arith

  high_digit : (d : ℕ) → 35 < digit_of d
  high_digit d = grind (arith, nat_tests)

  high_fixed : (width n : ℕ) → Above 35 (fixed base width n)
  unfolding fixed
  high_fixed zero n = tt
  high_fixed (suc width) n =
      Above-append 35 (fixed base width (n / base)) (digit_of (n % base) ∷ [])
      (high_fixed width (n / base)) (high_digit (n % base), tt)

  filled_fixed : (width n : ℕ) → is_filled (fixed base (suc width) n) ≡ true
  unfolding fixed
  filled_fixed width n = filled-append (fixed base width (n / base)) (digit_of (n % base)) []

  pub word_fixed : (width n : ℕ) → Word (fixed base (suc width) n)
  word_fixed width n = record { filled = filled_fixed width n; high = high_fixed (suc width) n }

-- a leading zero adds nothing
zero_first : (base digit : ℕ) (digits : List ℕ) → 0 < base → digit ≡ 48
    → value_from base 0 (digit ∷ digits) ≡ value_from base 0 digits
zero_first base digit digits h e =
    let low : ltb 0 base ≡ true = grind (arith, nat_tests) in
    let none : 0 * base + 0 ≡ 0 = omega arith in
    ap (λ x. value_from base 0 (x ∷ digits)) e
    ∙ ap (λ v. when_some (cond v (Some 0) None) (λ d. value_from base (0 * base + d) digits) None) low
    ∙ ap (λ n. value_from base n digits) none

value_zeros : (base : ℕ) (digits : List ℕ) → 0 < base
    → value_from base 0 (without_zeros digits) ≡ value_from base 0 digits
value_zeros base [] h = refl
value_zeros base (digit ∷ []) h = refl
value_zeros base (digit ∷ (next ∷ later)) h =
    let rest = next ∷ later in
    let all = digit ∷ rest in
    let read : List ℕ → Option ℕ = value_from base 0 in
    let fewer : read (without_zeros rest) ≡ read rest = value_zeros base (next ∷ later) h in
    let by_digit : (b : Bool) → eqb digit 48 ≡ b → read (cond b (without_zeros rest) all) ≡ read all
    = λ b. elim b as (λ v. eqb digit 48 ≡ v → read (cond v (without_zeros rest) all) ≡ read all) [
      | true ↦ λ e. fewer ∙ sym (zero_first base digit rest h (grind (arith, nat_tests)))
      | false ↦ λ e. refl
    ] in
    by_digit (eqb digit 48) refl

length_zeros : (digits : List ℕ) → length (without_zeros digits) ≤ length digits
length_zeros [] = omega arith
length_zeros (digit ∷ []) = omega arith
length_zeros (digit ∷ (next ∷ later)) =
    let rest = next ∷ later in
    let fewer : length (without_zeros rest) ≤ length rest = length_zeros (next ∷ later) in
    elim (eqb digit 48) as (λ v. length (cond v (without_zeros rest) (digit ∷ rest)) ≤ length (digit ∷ rest))
    [ true ↦ omega arith | false ↦ omega arith ]

word_zeros : (digits : List ℕ) → Word digits → Word (without_zeros digits)
word_zeros [] w = w
word_zeros (digit ∷ []) w = w
word_zeros (digit ∷ (next ∷ later)) w =
    let rest = word_zeros (next ∷ later) (record { filled = refl; high = w.high.1 }) in
    elim (eqb digit 48) as (λ v. Word (cond v (without_zeros (next ∷ later)) (digit ∷ (next ∷ later))))
    [ true ↦ rest | false ↦ w ]

pub word_decimal : (n : ℕ) → Word (decimal_text n)
word_decimal n = word_zeros (fixed 10 10 n) (word_fixed 10 (omega arith) (omega arith) 9 n)

fits : (n : ℕ) → n < 4294967296 → fitting (Some n) ≡ Some n
fits n h = let low : ltb n 4294967296 ≡ true = grind (arith, nat_tests) in rw low refl

pub hexadecimal_back : (n : ℕ) → n < 4294967296 → hexadecimal_of (fixed 16 8 n) ≡ Some n
hexadecimal_back n h =
    let long = length-fixed 16 (omega arith) (omega arith) 8 n in
    let same : n % 4294967296 ≡ n = omega arith in
    in_number 16 8 (fixed 16 8 n) (omega arith) (omega arith)
    ∙ ap fitting (value_fixed 16 (omega arith) (omega arith) 8 n ∙ ap (λ v. Some v) same)
    ∙ fits n h

some_filled : (digits : List ℕ) → is_filled digits ≡ true → 0 < length digits
some_filled [] h = cc
some_filled (digit ∷ digits) h = omega arith

pub decimal_back : (n : ℕ) → n < 4294967296 → decimal_of (decimal_text n) ≡ Some n
decimal_back n h =
    let ten = fixed 10 10 n in
    let long = length-fixed 10 (omega arith) (omega arith) 10 n in
    let few = length_zeros ten in
    let word = word_decimal n in
    let same : n % 10000000000 ≡ n = omega arith in
    let value = value_zeros 10 ten (omega arith) ∙ value_fixed 10 (omega arith) (omega arith) 10 n in
    in_number 10 10 (without_zeros ten) (some_filled (without_zeros ten) word.filled) (omega arith)
    ∙ ap fitting (value ∙ ap (λ v. Some v) same)
    ∙ fits n h
