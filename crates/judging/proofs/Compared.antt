-- The first line that differs.
use Rattle.std.proofs.Common.{◌≡◌, ℕ, zero, suc, ◌+◌, ◌-◌, ◌<◌, ◌≤◌, Bool, true, false, List, [], ◌∷◌, length, take, drop, Some, None, sym, refl, ap, subst, ◌∙◌, arith, length-append, length-drop}
use Rattle.std.specs.Prelude.{◌≢◌, slice_get, if◌then◌else◌}
use Rattle.std.specs.List.{concat}
use Rattle.std.specs.Str.{bytes_eq}
use Rattle.std.proofs.lemmas.List.{drop-drop}
use Rattle.std.proofs.lemmas.Slice.Eq.{bytes_eq-Decides}
use Rattle.judging.specs.declared.comparing.Difference.{Difference}
use Rattle.judging.specs.declared.comparing.Verdict.{Verdict}
use Rattle.judging.specs.declared.comparing.Verdict.TheVariants.{Agree, Differ}
use Rattle.judging.specs.declared.fields.Field.TheVariants.{Line}
use Rattle.judging.specs.Fields.{field_of}
use Rattle.judging.specs.Lines.{lines_in, line_from}
use Rattle.judging.specs.Verdicts.{differing, verdict_from, verdict_of, IsAgree, IsFirst, OnDiffer}
use Rattle.judging.proofs.Splits.{peel, whole, some_byte}

-- equal lines agree
same_agree : (line start : ℕ) (ls : List (List ℕ)) → verdict_from line start ls ls ≡ Agree
same_agree line start [] = refl
same_agree line start (l ∷ ls) =
    let e = (bytes_eq-Decides l l).1 refl in
    rw e (same_agree (line + 1) (start + length l) ls)

-- lines that agree are equal
agree_same : (line start : ℕ) (xs ys : List (List ℕ)) → IsAgree (verdict_from line start xs ys)
    → ys ≡ xs
agree_same line start [] [] h = refl
agree_same line start [] (y ∷ ys) h = absurd h
agree_same line start (x ∷ xs) [] h = absurd h
agree_same line start (x ∷ xs) (y ∷ ys) h =
    let rest = verdict_from (line + 1) (start + length x) xs ys in
    let by : (v : Bool) → v ≡ bytes_eq x y
    → IsAgree (if v then rest else differing line start (field_of x y)) → (y ∷ ys) ≡ (x ∷ xs)
    = λ v. elim v as (λ v. v ≡ bytes_eq x y
    → IsAgree (if v then rest else differing line start (field_of x y)) → (y ∷ ys) ≡ (x ∷ xs)) [
      | true ↦ (λ e agree.
          let same : x ≡ y = (bytes_eq-Decides x y).0 (sym e) in
          let others = agree_same (line + 1) (start + length x) xs ys agree in
          cc)
      | false ↦ (λ e agree. absurd agree)
    ] in
    by (bytes_eq x y) refl h

pub agree_exactly : (ours theirs : List ℕ)
    → (IsAgree (verdict_of ours theirs) → theirs ≡ ours)
    × (theirs ≡ ours → IsAgree (verdict_of ours theirs))
unfolding verdict_of
agree_exactly ours theirs = (
  λ h. sym (whole theirs)
      ∙ ap concat (agree_same 1 0 (lines_in ours) (lines_in theirs) h) ∙ whole ours,
  λ e. subst (λ bs. IsAgree (verdict_from 1 0 (lines_in ours) (lines_in bs))) (sym e)
      (subst IsAgree (sym (same_agree 1 0 (lines_in ours))) tt),
)

-- the difference of some lines, which begin with this number and at this place
record FirstFrom (line start : ℕ) (xs ys : List (List ℕ)) (d : Difference) : Type 0 where
  count : ℕ
  number : d.line ≡ line + count
  place : d.start ≡ start + length (concat (take count xs))
  before : take count xs ≡ take count ys
  not_same : slice_get xs count ≢ slice_get ys count

one_more : (line start : ℕ) (x y : List ℕ) (xs ys : List (List ℕ)) (d : Difference) → x ≡ y
    → FirstFrom (line + 1) (start + length x) xs ys d → FirstFrom line start (x ∷ xs) (y ∷ ys) d
one_more line start x y xs ys d e f =
    let long = length-append x (concat (take f.count xs)) in
    let at = f.place in
    let n = f.number in
    record {
      count = suc f.count;
      number = omega arith;
      place = omega arith;
      before = λ i. e i ∷ f.before i;
      not_same = f.not_same;
    }

-- what holds of a difference
pub on_differ : {P Q : Difference → Type 0} (v : Verdict) → ((d : Difference) → P d → Q d)
    → OnDiffer v P → OnDiffer v Q
on_differ Agree f h = tt
on_differ (Differ d) f h = f d h

first_from : (line start : ℕ) (xs ys : List (List ℕ))
    → OnDiffer (verdict_from line start xs ys) (FirstFrom line start xs ys)
first_from line start [] [] = tt
first_from line start [] (y ∷ ys) =
    record {
      count = 0;
      number = omega arith;
      place = omega arith;
      before = refl;
      not_same = λ e. cc;
    }
first_from line start (x ∷ xs) [] =
    record {
      count = 0;
      number = omega arith;
      place = omega arith;
      before = refl;
      not_same = λ e. cc;
    }
first_from line start (x ∷ xs) (y ∷ ys) =
    let rest = verdict_from (line + 1) (start + length x) xs ys in
    let by : (v : Bool) → v ≡ bytes_eq x y
    → OnDiffer (if v then rest else differing line start (field_of x y))
    (FirstFrom line start (x ∷ xs) (y ∷ ys))
    = λ v. elim v as (λ v. v ≡ bytes_eq x y
    → OnDiffer (if v then rest else differing line start (field_of x y))
    (FirstFrom line start (x ∷ xs) (y ∷ ys))) [
      | true ↦ (λ e.
          on_differ rest (λ d. one_more line start x y xs ys d ((bytes_eq-Decides x y).0 (sym e)))
          (first_from (line + 1) (start + length x) xs ys))
      | false ↦ (λ e. record {
        count = 0;
        number = omega arith;
        place = omega arith;
        before = refl;
        not_same = λ same. let all = (bytes_eq-Decides x y).1 cc in cc;
      })
    ] in
    by (bytes_eq x y) refl

-- the line of a number begins behind all lines before it
behind : (n : ℕ) (bs : List ℕ) (ls : List (List ℕ)) → lines_in bs ≡ ls
    → ((more : List ℕ) → slice_get (lines_in more) n
    ≡ line_from (length (concat (take n (lines_in more)))) more)
    → slice_get ls (suc n) ≡ line_from (length (concat (take (suc n) ls))) bs
behind n bs [] e rest = sym (ap (λ ls. slice_get ls 0) e)
behind n bs (l ∷ ls) e rest =
    let more = drop (length l) bs in
    let split = peel bs l (ap (λ ls. slice_get ls 0) e) in
    let others : ls ≡ lines_in more = cc in
    let long : length (concat (l ∷ take n ls)) ≡ length l + length (concat (take n ls))
    = length-append l (concat (take n ls)) in
    ap (λ x. slice_get x n) others ∙ rest more
    ∙ ap (λ x. line_from (length (concat (take n x))) more) (sym others)
    ∙ ap (λ x. slice_get (lines_in x) 0) (drop-drop (length (concat (take n ls))) (length l) bs)
    ∙ ap (λ m. line_from m bs) (sym long)

nth_line : (n : ℕ) (bs : List ℕ)
    → slice_get (lines_in bs) n ≡ line_from (length (concat (take n (lines_in bs)))) bs
nth_line zero bs = refl
nth_line (suc n) bs = behind n bs (lines_in bs) refl (nth_line n)

is_first : (ours theirs : List ℕ) (d : Difference)
    → FirstFrom 1 0 (lines_in ours) (lines_in theirs) d → IsFirst ours theirs d
is_first ours theirs d f =
    let at : d.line - 1 ≡ f.count = let n = f.number in omega arith in
    let here : length (concat (take f.count (lines_in ours))) ≡ d.start
    = let at = f.place in omega arith in
    let our = nth_line f.count ours ∙ ap (λ m. line_from m ours) here in
    let their =
    nth_line f.count theirs
    ∙ ap (λ ls. line_from (length (concat ls)) theirs) (sym f.before)
    ∙ ap (λ m. line_from m theirs) here in
    record {
      number = let n = f.number in omega arith;
      before = rw at f.before;
      our_line = rw at our;
      their_line = rw at their;
      not_same = λ e. f.not_same (our ∙ e ∙ sym their);
    }

first_differs : (ours theirs : List ℕ) → OnDiffer (verdict_of ours theirs) (IsFirst ours theirs)
unfolding verdict_of
first_differs ours theirs =
    on_differ (verdict_from 1 0 (lines_in ours) (lines_in theirs)) (is_first ours theirs)
    (first_from 1 0 (lines_in ours) (lines_in theirs))

module _ (ours theirs : List ℕ) where
  pub agree_at : (v : Verdict) → v ≡ verdict_of ours theirs
      → (IsAgree v → theirs ≡ ours) × (theirs ≡ ours → IsAgree v)
  agree_at v e =
      let P : Verdict → Type 0
      = λ v. (IsAgree v → theirs ≡ ours) × (theirs ≡ ours → IsAgree v) in
      subst P (sym e) (agree_exactly ours theirs)

  pub first_at : (d : Difference) → Differ d ≡ verdict_of ours theirs → IsFirst ours theirs d
  first_at d e =
      subst (λ v. OnDiffer v (IsFirst ours theirs)) (sym e) (first_differs ours theirs)

no_line : (ls : List (List ℕ)) → None ≡ slice_get ls 0 → ls ≡ []
no_line [] e = refl
no_line (l ∷ ls) e = cc

-- the verdict by the first lines of the two listings
module _ (line start : ℕ) (xs ys : List (List ℕ)) where
  pub both_end : None ≡ slice_get xs 0 → None ≡ slice_get ys 0 → Agree ≡ verdict_from line start xs ys
  both_end e f = λ i. verdict_from line start (sym (no_line xs e) i) (sym (no_line ys f) i)

pub theirs_ends : (line start : ℕ) (x : List ℕ) (xs ys : List (List ℕ)) → Some x ≡ slice_get xs 0
    → None ≡ slice_get ys 0 → differing line start Line ≡ verdict_from line start xs ys
theirs_ends line start x [] ys e f = cc
theirs_ends line start x (z ∷ xs) ys e f =
    ap (verdict_from line start (z ∷ xs)) (sym (no_line ys f))

pub ours_ends : (line start : ℕ) (y : List ℕ) (xs ys : List (List ℕ)) → None ≡ slice_get xs 0
    → Some y ≡ slice_get ys 0 → differing line start Line ≡ verdict_from line start xs ys
ours_ends line start y xs [] e f = cc
ours_ends line start y xs (z ∷ ys) e f =
    ap (λ xs. verdict_from line start xs (z ∷ ys)) (sym (no_line xs e))

pub lines_differ : (line start : ℕ) (x y : List ℕ) (xs ys : List (List ℕ)) → Some x ≡ slice_get xs 0
    → Some y ≡ slice_get ys 0 → bytes_eq x y ≡ false
    → differing line start (field_of x y) ≡ verdict_from line start xs ys
lines_differ line start x y [] ys e f other = cc
lines_differ line start x y (w ∷ xs) [] e f other = cc
lines_differ line start x y (w ∷ xs) (z ∷ ys) e f other =
    let our : x ≡ w = cc in
    let their : y ≡ z = cc in
    let rest = verdict_from (line + 1) (start + length w) xs ys in
    (λ i. differing line start (field_of (our i) (their i)))
    ∙ ap (λ v. if v then rest else differing line start (field_of w z))
    (sym other ∙ (λ i. bytes_eq (our i) (their i)))

-- behind equal lines the verdict is that of the lines to come
module _ (line : ℕ) (ours theirs : List ℕ) (start : ℕ) (x y : List ℕ)
    (our : Some x ≡ line_from start ours) (their : Some y ≡ line_from start theirs)
    (same : bytes_eq x y ≡ true) where
  abbrev pub lines_at : ℕ → List ℕ → List (List ℕ)
  lines_at from bs = lines_in (drop from bs)

  pub go_on : verdict_from (line + 1) (start + length x) (lines_at (start + length x) ours)
      (lines_at (start + length x) theirs)
      ≡ verdict_from line start (lines_at start ours) (lines_at start theirs)
  go_on =
      let equal : x ≡ y = (bytes_eq-Decides x y).0 same in
      let first = peel (drop start ours) x (sym our) in
      let second = peel (drop start theirs) y (sym their) in
      let here : (bs : List ℕ) → lines_in (drop (length x) (drop start bs))
      ≡ lines_at (start + length x) bs
      = λ bs. ap lines_in (drop-drop (length x) start bs) in
      let next = verdict_from (line + 1) (start + length x) in
      sym ((λ i. verdict_from line start (first i) (second i))
      ∙ ap (λ v. if v
      then next (lines_in (drop (length x) (drop start ours)))
      (lines_in (drop (length y) (drop start theirs)))
      else differing line start (field_of x y)) same
      ∙ (λ i. next (here ours i) (lines_in (drop (length (sym equal i)) (drop start theirs))))
      ∙ (λ i. next (lines_at (start + length x) ours) (here theirs i)))

-- a line begins inside the listing, ends there, and has some bytes
pub further : (bs : List ℕ) (start : ℕ) (x : List ℕ) → Some x ≡ line_from start bs
    → (0 < length x) × (start + length x ≤ length bs)
further bs start x here =
    let some = some_byte (drop start bs) x (sym here) in
    let split = ap concat (peel (drop start bs) x (sym here)) in
    let long = ap length (sym split ∙ whole (drop start bs)) in
    let parts = length-append x (concat (lines_in (drop (length x) (drop start bs)))) in
    let left = length-drop start bs in
    (some, omega arith)
