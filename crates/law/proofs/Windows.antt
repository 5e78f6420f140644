-- Tables of entries: searches and counts over a window, an entry exchanged, entries changed by their place.
use Rattle.std.proofs.Common.{◌≡◌, ℕ, zero, suc, ◌+◌, ◌-◌, ◌*◌, ◌<◌, ◌≤◌, Bool, true, false, cond, ltb, ◌⊎◌, List, [], ◌∷◌, length, get_or, take, drop, replicate, set, is_some, Some, None, Option, sym, refl, ap, ◌∙◌, inl, inr, mul-le-mul_right, suc-mul, arith, length-drop, length-take, drop-set-lt}
use lib.Seq.{take-set-le, take-set-lt, drop-set-add}
use Rattle.std.specs.List.{count_by, position_or_len}
use Rattle.std.proofs.lemmas.Bool.{false≢true}
use Rattle.std.proofs.lemmas.Bool.Decides.{leb_tells, nat_tests}
use Rattle.std.proofs.lemmas.List.{get_or-take, get_or-drop}
use Rattle.std.proofs.lemmas.List.Sums.{sum_by-cons, passes_at_first, fails_before_first}
use Rattle.std.proofs.lemmas.Option.{cond_some}
use Rattle.protocol.proofs.Finding.{first_from}
use Rattle.protocol.specs.Finding.{first_in, window_of}
use Rattle.cluster.specs.Tables.{map_from}

module _ {X : Type 0} (test : X → Bool) where
  abbrev one : X → ℕ
  one x = cond (test x) 1 0

  -- entries changed so that the test sees no difference
  pub count-map : (f : ℕ → X → X) → ((i : ℕ) (x : X) → test (f i x) ≡ test x) → (at : ℕ) (xs : List X)
      → count_by test (map_from f at xs) ≡ count_by test xs
  count-map f same at [] = refl
  count-map f same at (x ∷ xs) =
      sum_by-cons one (f at x) (map_from f (at + 1) xs)
      ∙ (λ k. cond (same at x k) 1 0 + count-map f same (at + 1) xs k) ∙ sym (sum_by-cons one x xs)

  -- one is found exactly where there are some
  pub first_counted : (at : ℕ) (xs : List X) → is_some (first_in test at xs) ≡ ltb 0 (count_by test xs)
  first_counted at [] = refl
  first_counted at (x ∷ xs) =
      by_test (test x) (first_counted (at + 1) xs) ∙ ap (ltb 0) (sym (sum_by-cons one x xs))
    where
      by_test : (b : Bool) → is_some (first_in test (at + 1) xs) ≡ ltb 0 (count_by test xs)
          → is_some (cond b (Some at) (first_in test (at + 1) xs)) ≡ ltb 0 (cond b 1 0 + count_by test xs)
      by_test true rest =
          sym (let some : ltb 0 (1 + count_by test xs) ≡ true = grind (arith, nat_tests) in some)
      by_test false rest =
          rest ∙ ap (ltb 0) (let none : count_by test xs ≡ 0 + count_by test xs = omega arith in none)

pub get_or-window : {X : Type 0} (xs : List X) (s n j : ℕ) (d : X) → j < n
    → get_or (window_of s n xs) j d ≡ get_or xs (s + j) d
get_or-window xs s n j d low = get_or-take n (drop s xs) j d low ∙ get_or-drop s xs j d

pub in_window : {X : Type 0} (xs : List X) (s n j : ℕ) → j < n → s + j < length xs
    → j < length (window_of s n xs)
in_window xs s n j low inside =
    let long = length-take n (drop s xs) in
    let left = length-drop s xs in
    omega (arith, low, inside, long, left)

module _ {X : Type 0} (test : X → Bool) (xs : List X) (s n : ℕ) (d : X) where
  -- an entry of the window passes the test
  pub record Stands (place : ℕ) : Type 0 where
    pub from : s ≤ place
    pub to : place < s + n
    pub inside : place < length xs
    pub passes : test (get_or xs place d) ≡ true

  abbrev window : List X
  window = window_of s n xs

  pub stands : (place : ℕ) → first_in test s window ≡ Some place → Stands place
  stands place e =
      let j = position_or_len test window in
      let found = cond_some (ltb j (length window)) (s + j) place (sym (first_from test s window) ∙ e) in
      let within : j < length window = (let there = found.0 in grind (arith, nat_tests)) in
      let is : place ≡ s + j = sym found.1 in
      let long = length-take n (drop s xs) in
      let left = length-drop s xs in
      let low : j < n = omega (arith, within, long) in
      record {
        from = omega (arith, is);
        to = omega (arith, is, low);
        inside = omega (arith, is, within, long, left);
        passes = ap (λ k. test (get_or xs k d)) is ∙ ap test (sym (get_or-window xs s n j d low))
            ∙ passes_at_first test window d within;
      }

  -- a search that finds nothing
  pub none_stands : first_in test s window ≡ None → (place : ℕ) → Stands place → ⊥
  none_stands e place h =
      let from = h.from in
      let j = place - s in
      let low : j < n = (let to = h.to in omega (arith, from, to)) in
      let at : s + j ≡ place = omega (arith, from) in
      let there = in_window xs s n j low (let inside = h.inside in omega (arith, at, inside)) in
      let passed : length window ≤ position_or_len test window =
      (let none = by_test (ltb (position_or_len test window) (length window))
      (sym (first_from test s window) ∙ e) in grind (arith, nat_tests)) in
      let fails = fails_before_first test window j d (omega (arith, passed, there)) in
      false≢true (sym fails ∙ ap test (get_or-window xs s n j d low) ∙ ap (λ k. test (get_or xs k d)) at
      ∙ h.passes)
    where
      by_test : (b : Bool) → cond b (Some (s + position_or_len test window)) None ≡ None → b ≡ false
      by_test true h = absurd (cc)
      by_test false h = refl

  pub found_by : (place : ℕ) → Stands place → is_some (first_in test s window) ≡ true
  found_by place h = by_search (first_in test s window) refl
    where
      by_search : (o : Option ℕ) → first_in test s window ≡ o → is_some o ≡ true
      by_search None e = absurd (none_stands e place h)
      by_search (Some i) e = refl

module _ {X : Type 0} (xs : List X) (s n i : ℕ) (e : X) where
  -- an entry outside a window
  pub window_outside : (i < s) ⊎ (s + n ≤ i) → window_of s n (set xs i e) ≡ window_of s n xs
  window_outside (inl before) = ap (take n) (drop-set-lt s xs i e before)
  window_outside (inr behind) =
      let on : i ≡ s + (i - s) = omega (arith, behind) in
      ap (λ k. take n (drop s (set xs k e))) on ∙ ap (take n) (drop-set-add s xs (i - s) e)
      ∙ take-set-le n (drop s xs) (i - s) e (omega (arith, behind))

  -- and one inside it
  pub window_inside : (j : ℕ) → i ≡ s + j → j < n
      → window_of s n (set xs i e) ≡ set (window_of s n xs) j e
  window_inside j at low =
      ap (λ k. take n (drop s (set xs k e))) at ∙ ap (take n) (drop-set-add s xs j e)
      ∙ take-set-lt n (drop s xs) j e low

-- a table of equal entries, by what its entries and the one past its end have in common
pub seen-replicate : {X Y : Type 0} (f : X → Y) (n i : ℕ) (x d : X) → f x ≡ f d
    → f (get_or (replicate n x) i d) ≡ f d
seen-replicate f zero i x d e = refl
seen-replicate f (suc n) zero x d e = e
seen-replicate f (suc n) (suc i) x d e = seen-replicate f n i x d e

-- windows of two processors do not overlap
pub apart : (n p q i : ℕ) → (p ≡ q → ⊥) → p * n ≤ i → i < p * n + n → (i < q * n) ⊎ (q * n + n ≤ i)
apart n p q i other low high = elim (leb_tells p q) [
  | inl less ↦ elim (leb_tells (p + 1) q) [
    | inl below ↦ let up : (p + 1) * n ≤ q * n =
        mul-le-mul_right n below.1 in inl (omega (arith, high, up, next_row n p))
    | inr same ↦ absurd (other (omega (arith, less.1, same.1)))
  ]
  | inr more ↦ let up : (q + 1) * n ≤ p * n =
      mul-le-mul_right n (omega (arith, more.1)) in inr (omega (arith, low, up, next_row n q))
]
  where
    next_row : (n p : ℕ) → (p + 1) * n ≡ p * n + n
    next_row n p = ap (λ k. k * n) (let one : p + 1 ≡ suc p = omega arith in one) ∙ suc-mul p n

-- entries changed by their place
pub length-map : {X : Type 0} (f : ℕ → X → X) (at : ℕ) (xs : List X)
    → length (map_from f at xs) ≡ length xs
length-map f at [] = refl
length-map f at (x ∷ xs) = ap suc (length-map f (at + 1) xs)

pub get_or-map : {X : Type 0} (f : ℕ → X → X) (at : ℕ) (xs : List X) (i : ℕ) (d : X) → i < length xs
    → get_or (map_from f at xs) i d ≡ f (at + i) (get_or xs i d)
get_or-map f at [] i d h = absurd (omega (arith, h))
get_or-map f at (x ∷ xs) zero d h = let same : at ≡ at + 0 = omega arith in ap (λ k. f k x) same
get_or-map f at (x ∷ xs) (suc i) d h =
    let same : at + 1 + i ≡ at + suc i = omega arith in
    get_or-map f (at + 1) xs i d (omega (arith, h)) ∙ ap (λ k. f k (get_or xs i d)) same

module _ {X : Type 0} (f : ℕ → X → X) where
  drop-map : (s at : ℕ) (xs : List X) → drop s (map_from f at xs) ≡ map_from f (at + s) (drop s xs)
  drop-map zero at xs = let same : at ≡ at + 0 = omega arith in ap (λ k. map_from f k xs) same
  drop-map (suc s) at [] = refl
  drop-map (suc s) at (x ∷ xs) =
      let same : at + 1 + s ≡ at + suc s = omega arith in
      drop-map s (at + 1) xs ∙ ap (λ k. map_from f k (drop s xs)) same

  take-map : (n at : ℕ) (xs : List X) → take n (map_from f at xs) ≡ map_from f at (take n xs)
  take-map zero at xs = refl
  take-map (suc n) at [] = refl
  take-map (suc n) at (x ∷ xs) = ap (λ ys. f at x ∷ ys) (take-map n (at + 1) xs)

  pub window-map : (s n : ℕ) (xs : List X)
      → window_of s n (map_from f 0 xs) ≡ map_from f (0 + s) (window_of s n xs)
  window-map s n xs = ap (take n) (drop-map s 0 xs) ∙ take-map n (0 + s) (drop s xs)
