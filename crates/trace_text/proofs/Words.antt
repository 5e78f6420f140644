-- The fields of a line that was written, and the lines of a text.
use Prim.{tt}
use Rattle.std.proofs.Common.{◌≡◌, ℕ, ◌+◌, ◌<◌, ◌≤◌, true, false, cond, ◌||◌, eqb, List, [], ◌∷◌, ◌++◌, filter, sym, refl, ap, ◌∙◌, append_assoc, arith}
use Rattle.std.proofs.lemmas.Bool.Decides.{nat_tests}
use Rattle.trace_text.specs.Parts.{in_front, parts}
use Rattle.trace_text.specs.Lines.{is_filled, lines_of, fields_of, is_comment, no_fields, is_passed_over, written, line_of}

-- each byte is above this one
abbrev pub Above : ℕ → List ℕ → Type 0
Above low [] = Unit {0}
Above low (byte ∷ bytes) = (low < byte) × Above low bytes

pub Above-append : (low : ℕ) (xs ys : List ℕ) → Above low xs → Above low ys → Above low (xs ++ ys)
Above-append low [] ys h k = k
Above-append low (x ∷ xs) ys h k = (h.0, Above-append low xs ys h.1 k)

lower : (low high : ℕ) (xs : List ℕ) → low ≤ high → Above high xs → Above low xs
lower low high [] l h = tt
lower low high (x ∷ xs) l h = (let first = h.0 in omega arith, lower low high xs l h.1)

pub filled-append : (xs : List ℕ) (y : ℕ) (ys : List ℕ) → is_filled (xs ++ (y ∷ ys)) ≡ true
filled-append [] y ys = refl
filled-append (x ∷ xs) y ys = refl

-- a field as it is written: no space, end of line or # is in it
pub record Word (bytes : List ℕ) : Type 0 where
  pub filled : is_filled bytes ≡ true
  pub high : Above 35 bytes

abbrev pub AllWords : List (List ℕ) → Type 0
AllWords [] = Unit {0}
AllWords (word ∷ words) = Word word × AllWords words

-- parts of bytes above the separator
module _ (low separator : ℕ) (under : separator ≤ low) where
  pub part_ended : (xs rest : List ℕ) → Above low xs
      → parts separator (xs ++ (separator ∷ rest)) ≡ xs ∷ parts separator rest
  part_ended [] rest h = let same : eqb separator separator ≡ true = grind (arith, nat_tests) in rw same refl
  part_ended (x ∷ xs) rest h =
      let first = h.0 in
      let other : eqb x separator ≡ false = grind (arith, nat_tests) in
      rw other (ap (in_front x) (part_ended xs rest h.1))

  front_last : (x : ℕ) (xs : List ℕ) → Above low xs → in_front x (parts separator xs) ≡ (x ∷ xs) ∷ []
  front_last x [] h = refl
  front_last x (y ∷ ys) h =
      let first = h.0 in
      let other : eqb y separator ≡ false = grind (arith, nat_tests) in
      rw other (ap (in_front x) (front_last y ys h.1))

  pub part_last : (x : ℕ) (xs : List ℕ) → Above low (x ∷ xs) → parts separator (x ∷ xs) ≡ (x ∷ xs) ∷ []
  part_last x xs h =
      let first = h.0 in
      let other : eqb x separator ≡ false = grind (arith, nat_tests) in
      rw other (front_last x xs h.1)

-- fields with one space between them
abbrev pub spaced : List (List ℕ) → List ℕ
spaced [] = []
spaced (word ∷ []) = word
spaced (word ∷ (next ∷ later)) = word ++ (32 ∷ spaced (next ∷ later))

last_field_read : (word : List ℕ) → Word word → fields_of word ≡ word ∷ []
last_field_read [] w = let none = w.filled in cc
last_field_read (x ∷ xs) w = ap (filter is_filled) (part_last 35 32 (omega arith) x xs w.high)

pub fields_read : (words : List (List ℕ)) → AllWords words → fields_of (spaced words) ≡ words
fields_read [] h = refl
fields_read (word ∷ []) h = last_field_read word h.0
fields_read (word ∷ (next ∷ later)) h =
    let behind = spaced (next ∷ later) in
    let rest = fields_read (next ∷ later) h.1 in
    ap (filter is_filled) (part_ended 35 32 (omega arith) word behind h.0.high)
    ∙ ap (λ v. cond v (word ∷ fields_of behind) (fields_of behind)) h.0.filled
    ∙ ap (λ ws. word ∷ ws) rest

line_spaced : (word : List ℕ) (words : List (List ℕ))
    → line_of (word ∷ words) ≡ spaced (word ∷ words) ++ (10 ∷ [])
line_spaced word [] = refl
line_spaced word (next ∷ later) =
    append_assoc word (32 ∷ []) (line_of (next ∷ later))
    ∙ ap (λ ys. word ++ (32 ∷ ys)) (line_spaced next later)
    ∙ sym (append_assoc word (32 ∷ spaced (next ∷ later)) (10 ∷ []))

high_spaced : (words : List (List ℕ)) → AllWords words → Above 10 (spaced words)
high_spaced [] h = tt
high_spaced (word ∷ []) h = lower 10 35 word (omega arith) h.0.high
high_spaced (word ∷ (next ∷ later)) h =
    Above-append 10 word (32 ∷ spaced (next ∷ later)) (lower 10 35 word (omega arith) h.0.high)
    (omega arith, high_spaced (next ∷ later) h.1)

no_comment : (word rest : List ℕ) → Word word → is_comment (word ++ rest) ≡ false
no_comment [] rest w = let none = w.filled in cc
no_comment (x ∷ xs) rest w = let first = w.high.0 in grind (arith, nat_tests)

no_comment_spaced : (word : List ℕ) (words : List (List ℕ)) → Word word
    → is_comment (spaced (word ∷ words)) ≡ false
no_comment_spaced [] [] w = let none = w.filled in cc
no_comment_spaced (x ∷ xs) [] w = let first = w.high.0 in grind (arith, nat_tests)
no_comment_spaced word (next ∷ later) w = no_comment word (32 ∷ spaced (next ∷ later)) w

-- a line that was written is a line of the text, and it is not passed over
module _ (word : List ℕ) (words : List (List ℕ)) (all : AllWords (word ∷ words)) where
  abbrev pub body : List ℕ
  body = spaced (word ∷ words)

  next_line : (rest : List ℕ) → lines_of (line_of (word ∷ words) ++ rest) ≡ body ∷ lines_of rest
  next_line rest =
      ap (λ text. lines_of (text ++ rest)) (line_spaced word words)
      ∙ ap lines_of (append_assoc body (10 ∷ []) rest)
      ∙ part_ended 10 10 (omega arith) body rest (high_spaced (word ∷ words) all)

  not_passed : is_passed_over body ≡ false
  not_passed =
      ap (λ v. v || no_fields (fields_of body)) (no_comment_spaced word words all.0)
      ∙ ap no_fields (fields_read (word ∷ words) all)

  pub next_written : (n : ℕ) (rest : List ℕ) → written n (lines_of (line_of (word ∷ words) ++ rest))
      ≡ record { number = n; text = body } ∷ written (n + 1) (lines_of rest)
  next_written n rest =
      let later = written (n + 1) (lines_of rest) in
      ap (written n) (next_line rest)
      ∙ ap (λ v. cond v later (record { number = n; text = body } ∷ later)) not_passed
