-- Lines split off the front of a listing.
use Rattle.std.proofs.Common.{◌≡◌, ℕ, suc, ◌+◌, ◌<◌, ◌≤◌, ◌==◌, Bool, true, false, List, [], ◌∷◌, length, take, drop, Some, None, position, sym, refl, ap, ◌∙◌, arith}
use Rattle.std.specs.Prelude.{if◌then◌else◌, not, slice_get}
use Rattle.std.specs.List.{concat, position_or_len}
use Rattle.std.proofs.lemmas.List.{take_all}
use Rattle.std.proofs.lemmas.Bool.Decides.{nat_tests}
use Rattle.judging.specs.Lines.{in_front, lines_in}

abbrev pub first_end : List ℕ → ℕ
first_end bs = position_or_len (λ b. b == 10) bs

-- one byte more in front of lines of which the first ends at a place
more_front : (b : ℕ) (rest : List ℕ) (e : ℕ) (ls : List (List ℕ)) (v : Bool)
    → slice_get ls 0 ≡ Some (take (e + 1) rest)
    → slice_get (if v then (b ∷ []) ∷ ls else in_front b ls) 0
    ≡ Some (take ((if not v then 1 + e else 0) + 1) (b ∷ rest))
more_front b rest e ls true h = refl
more_front b rest e [] false h = cc
more_front b rest e (l ∷ ls) false h =
    let on : 1 + e + 1 ≡ suc (e + 1) = omega arith in
    let same : l ≡ take (e + 1) rest = cc in
    ap (λ x. Some (b ∷ x)) same ∙ ap (λ n. Some (take n (b ∷ rest))) (sym on)

-- the first line goes up to the first byte 10
pub first_line : (bs : List ℕ) → 0 < length bs
    → slice_get (lines_in bs) 0 ≡ Some (take (first_end bs + 1) bs)
first_line [] h = absurd (omega (arith, h))
first_line (b ∷ []) h =
    let both : (v : Bool) → slice_get (if v then (b ∷ []) ∷ [] else in_front b []) 0
    ≡ Some (take ((if not v then 1 else 0) + 1) (b ∷ []))
    = λ v. elim v as (λ v. slice_get (if v then (b ∷ []) ∷ [] else in_front b []) 0
    ≡ Some (take ((if not v then 1 else 0) + 1) (b ∷ []))) [ true ↦ refl | false ↦ refl ] in
    both (b == 10)
first_line (b ∷ (c ∷ bs)) h =
    more_front b (c ∷ bs) (first_end (c ∷ bs)) (lines_in (c ∷ bs)) (b == 10)
    (first_line (c ∷ bs) (omega arith))

-- the first line where there is a byte 10
pub line_ended : (bs : List ℕ) (end : ℕ) → Some end ≡ position (λ b. b == 10) bs
    → Some (take (end + 1) bs) ≡ slice_get (lines_in bs) 0
line_ended bs end found =
    let below : first_end bs < length bs = grind (arith, nat_tests) in
    let same : end ≡ first_end bs = grind (arith, nat_tests) in
    ap (λ n. Some (take (n + 1) bs)) same ∙ sym (first_line bs (omega arith))

-- the first line where there is none
pub line_open : (bs : List ℕ) → None ≡ position (λ b. b == 10) bs → 0 < length bs
    → Some bs ≡ slice_get (lines_in bs) 0
line_open bs none some =
    let past : length bs ≤ first_end bs = grind (arith, nat_tests) in
    ap Some (sym (take_all (first_end bs + 1) bs (omega arith))) ∙ sym (first_line bs some)

-- behind the first line stand the other lines
peel_front : (b : ℕ) (bs : List ℕ) (ls : List (List ℕ)) (v : Bool) (a : List ℕ) → ls ≡ lines_in bs
    → ((l : List ℕ) → slice_get ls 0 ≡ Some l → ls ≡ l ∷ lines_in (drop (length l) bs))
    → slice_get (if v then (b ∷ []) ∷ ls else in_front b ls) 0 ≡ Some a
    → (if v then (b ∷ []) ∷ ls else in_front b ls) ≡ a ∷ lines_in (drop (length a) (b ∷ bs))
peel_front b bs ls true a e peel h =
    let same : (b ∷ []) ≡ a = cc in
    ap (λ rest. (b ∷ []) ∷ rest) e ∙ ap (λ x. x ∷ lines_in (drop (length x) (b ∷ bs))) same
peel_front b bs [] false a e peel h =
    let same : (b ∷ []) ≡ a = cc in
    ap (λ rest. (b ∷ []) ∷ rest) e ∙ ap (λ x. x ∷ lines_in (drop (length x) (b ∷ bs))) same
peel_front b bs (l ∷ ls) false a e peel h =
    let same : (b ∷ l) ≡ a = cc in
    let rest : ls ≡ lines_in (drop (length l) bs) = let p = peel l refl in cc in
    ap (λ x. (b ∷ l) ∷ x) rest ∙ ap (λ x. x ∷ lines_in (drop (length x) (b ∷ bs))) same

pub peel : (bs a : List ℕ) → slice_get (lines_in bs) 0 ≡ Some a
    → lines_in bs ≡ a ∷ lines_in (drop (length a) bs)
peel [] a h = cc
peel (b ∷ bs) a h = peel_front b bs (lines_in bs) (b == 10) a refl (λ l. peel bs l) h

whole_front : (b : ℕ) (ls : List (List ℕ)) (v : Bool)
    → concat (if v then (b ∷ []) ∷ ls else in_front b ls) ≡ b ∷ concat ls
whole_front b ls true = refl
whole_front b [] false = refl
whole_front b (l ∷ ls) false = refl

-- the lines, one after another, are the listing
pub whole : (bs : List ℕ) → concat (lines_in bs) ≡ bs
whole [] = refl
whole (b ∷ bs) = whole_front b (lines_in bs) (b == 10) ∙ ap (λ x. b ∷ x) (whole bs)

some_front : (b : ℕ) (ls : List (List ℕ)) (v : Bool) (a : List ℕ)
    → slice_get (if v then (b ∷ []) ∷ ls else in_front b ls) 0 ≡ Some a → 0 < length a
some_front b ls true a h = let same : (b ∷ []) ≡ a = cc in let n = ap length same in omega arith
some_front b [] false a h = let same : (b ∷ []) ≡ a = cc in let n = ap length same in omega arith
some_front b (l ∷ ls) false a h =
    let same : (b ∷ l) ≡ a = cc in
    let n = ap length same in
    omega arith

-- no line is empty
pub some_byte : (bs a : List ℕ) → slice_get (lines_in bs) 0 ≡ Some a → 0 < length a
some_byte [] a h = cc
some_byte (b ∷ bs) a h = some_front b (lines_in bs) (b == 10) a h
