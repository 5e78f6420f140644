-- The steps of a search over a window.
use Rattle.std.proofs.Common.{◌≡◌, ℕ, zero, suc, ◌+◌, ◌-◌, ◌<◌, ◌≤◌, Bool, true, false, cond, not, ◌&&◌, leb, ltb, List, [], ◌∷◌, length, get_or, take, drop, Some, None, Option, sym, refl, ap, ◌∙◌, inl, inr, arith}
use Rattle.std.specs.List.{position, position_or_len}
use Rattle.std.proofs.lemmas.List.{drop_more, get_or-drop}
use Rattle.std.proofs.lemmas.Bool.{and_parts}
use Rattle.std.proofs.lemmas.Bool.Decides.{leb_tells, nat_tests}
use Rattle.std.proofs.iter.Yields.{nat_range_steps}
use Rattle.std.proofs.lemmas.Iterator.{first_from_Range}
use Rattle.std.specs.Bool.{⊤}
use Rattle.std.specs.Fn.{CalledAt}
use Rattle.std.specs.Iterator.{YieldsThen}
use Rattle.std.specs.List.{FoldsTo}
use Rattle.std.specs.Option.{MatchOption}
use Rattle.std.specs.declared.ops.Range.{Range}
use Prim.{Unit}
use denote.Param.Members.{Mut}
use denote.Ref.{Bor}
use Rattle.protocol.specs.Finding.{lies_in, first_in, window_of, lowest_from}

-- the place that is found is counted from where the list starts
pub first_from : {X : Type 0} (test : X → Bool) (at : ℕ) (xs : List X)
    → first_in test at xs
    ≡ cond (ltb (position_or_len test xs) (length xs)) (Some (at + position_or_len test xs)) None
first_from test at [] = refl
first_from {X} test at (x ∷ xs) = by (test x) (first_from test (at + 1) xs)
  where
    by : (b : Bool)
        → first_in test (at + 1) xs
        ≡ cond (ltb (position_or_len test xs) (length xs))
        (Some (at + 1 + position_or_len test xs)) None
        → cond b (Some at) (first_in test (at + 1) xs)
        ≡ cond (ltb (cond (not b) (1 + position_or_len test xs) 0) (suc (length xs)))
        (Some (at + cond (not b) (1 + position_or_len test xs) 0)) None
    by true e = grind (arith, nat_tests)
    by false e = grind (arith, nat_tests, e)

module _ {X : Type 0} (test : X → Bool) (at : ℕ) (xs : List X) where
  pub none_found : None ≡ position test xs → None ≡ first_in test at xs
  none_found e = grind (arith, first_from test at xs, e)

  pub first_found : (i : ℕ) → Some i ≡ position test xs → Some (at + i) ≡ first_in test at xs
  first_found i e = grind (arith, first_from test at xs, e)

-- the step of a search over a window, by what the test says
pub first_more : {X : Type 0} (test : X → Bool) (xs : List X) (i end : ℕ) (d : X) (b : Bool)
    → i < end → end ≤ length xs → test (get_or xs i d) ≡ b
    → first_in test i (take (end - i) (drop i xs))
    ≡ cond b (Some i) (first_in test (i + 1) (take (end - (i + 1)) (drop (i + 1) xs)))
first_more test xs i end d b h k e =
    let at : i < length xs = omega arith in
    let one : end - i ≡ suc (end - (i + 1)) = omega arith in
    ap (λ n. first_in test i (take n (drop i xs))) one
    ∙ ap (λ ys. first_in test i (take (suc (end - (i + 1))) ys)) (drop_more xs i d at)
    ∙ ap (λ c. cond c (Some i) (first_in test (i + 1) (take (end - (i + 1)) (drop (i + 1) xs)))) e

pub first_end : {X : Type 0} (test : X → Bool) (xs : List X) (i end : ℕ) → end ≤ i
    → first_in test i (take (end - i) (drop i xs)) ≡ None
first_end test xs i end h =
    let none : end - i ≡ 0 = omega arith in ap (λ n. first_in test i (take n (drop i xs))) none

-- and over numbers
pub lowest_more : (test : ℕ → Bool) (i end : ℕ) (b : Bool) → i < end → test i ≡ b
    → lowest_from test i (end - i) ≡ cond b (Some i) (lowest_from test (i + 1) (end - (i + 1)))
lowest_more test i end b h e =
    let one : end - i ≡ suc (end - (i + 1)) = omega arith in
    ap (lowest_from test i) one
    ∙ ap (λ c. cond c (Some i) (lowest_from test (i + 1) (end - (i + 1)))) e

-- what the lowest that passes tells, and that there is none
abbrev pub Lowest : (ℕ → Bool) → ℕ → ℕ → Option ℕ → Type 0
Lowest test from count None = (j : ℕ) → from ≤ j → j < from + count → test j ≡ false
Lowest test from count (Some i) =
    (from ≤ i) × (i < from + count) × (test i ≡ true)
    × ((j : ℕ) → from ≤ j → j < i → test j ≡ false)

module _ (test : ℕ → Bool) where
  -- what holds of one number and of those behind it
  unless_here : (from j : ℕ) → test from ≡ false → from ≤ j → (from + 1 ≤ j → test j ≡ false)
      → test j ≡ false
  unless_here from j e low rest = elim (leb_tells (from + 1) j) [
    | inl later ↦ rest later.1
    | inr here ↦ let same : j ≡ from = omega (arith, here.1, low) in ap test same ∙ e
  ]

  from_here : (from count : ℕ) (b : Bool) (o : Option ℕ) → test from ≡ b
      → Lowest test (from + 1) count o → Lowest test from (suc count) (cond b (Some from) o)
  from_here from count true o e h =
      (omega arith, omega arith, e, λ j low high. absurd (omega (arith, low, high)))
  from_here from count false None e h =
      λ j low high. unless_here from j e low (λ later. h j later (omega (arith, high)))
  from_here from count false (Some i) e h = (
    omega (arith, h.0),
    omega (arith, h.1),
    h.2,
    λ j low high. unless_here from j e low (λ later. h.3 j later high),
  )

  pub lowest_tells : (count from : ℕ) → Lowest test from count (lowest_from test from count)
  lowest_tells zero from = λ j low high. absurd (omega (arith, low, high))
  lowest_tells (suc count) from =
      from_here from count (test from) (lowest_from test (from + 1) count) refl
      (lowest_tells count (from + 1))

  -- the lowest is the one that passes behind others that do not
  pub lowest_is : (count from i : ℕ) → from ≤ i → i < from + count → test i ≡ true
      → ((j : ℕ) → from ≤ j → j < i → test j ≡ false) → lowest_from test from count ≡ Some i
  lowest_is zero from i low high e none = absurd (omega (arith, low, high))
  lowest_is (suc count) from i low high e none = elim (leb_tells (from + 1) i) [
    | inl later ↦
        rw (none from (omega arith) (omega (arith, later.1)))
        (lowest_is count (from + 1) i later.1 (omega (arith, high)) e
        (λ j a b. none j (omega (arith, a)) b))
    | inr here ↦
        let same : from ≡ i = omega (arith, here.1, low) in rw (ap test same ∙ e) (ap Some same)
  ]

  pub lowest_none : (count from : ℕ) → ((j : ℕ) → from ≤ j → j < from + count → test j ≡ false)
      → lowest_from test from count ≡ None
  lowest_none zero from none = refl
  lowest_none (suc count) from none =
      rw (none from (omega arith) (omega arith))
      (lowest_none count (from + 1) (λ j a b. none j (omega (arith, a)) (omega (arith, b))))

-- what a `find` over the numbers from `from` up to `end`, `count` in all, gives, where its closure
-- sees what the test tells
module _ (test seen : ℕ → Bool) (from end count : ℕ) (all : end - from ≡ count)
    (same : (i : ℕ) → i < end → seen i ≡ test i) where
  by_answer : (r : Option ℕ)
      → MatchOption r ((k : ℕ) → from ≤ k → k < end → seen k ≡ false)
      (λ i. (from ≤ i) × (i < end) × (seen i ≡ true)
      × ((k : ℕ) → from ≤ k → k < i → seen k ≡ false))
      → r ≡ lowest_from test from count
  by_answer None h =
      sym (lowest_none test count from (λ i low high.
      let below : i < end = omega (arith, low, high, all) in sym (same i below) ∙ h i low below))
  by_answer (Some i) h =
      sym (lowest_is test count from i h.0 (let (low, high, _, _) = h in omega arith)
      (sym (same i h.1) ∙ h.2)
      (λ k low high.
      let below : k < end = omega (arith, h.1, high) in sym (same k below) ∙ h.3 k low high))

  pub lowest_found : {F : Type 0} {g : Mut F (Bor ℕ × Unit {0}) Bool} (u : Range ℕ) (f : F)
      (r : Option ℕ)
      → (xs : List ℕ) × (j : F)
      × YieldsThen nat_range_steps (record { start = from; end = end }) xs r u
      × FoldsTo (λ p x q. CalledAt g p x false q) f xs j
      × MatchOption r ⊤ (λ x. (h : F) × CalledAt g j x true h)
      → ((x : ℕ) (q : F) → CalledAt g f x true q → seen x ≡ true)
      → ((x : ℕ) (q : F) → CalledAt g f x false q → (q ≡ f) × (seen x ≡ false))
      → r ≡ lowest_from test from count
  lowest_found u f r ran passes fails =
      by_answer r (first_from_Range (record { start = from; end = end }) u f r
      (λ i. seen i ≡ true) (λ i. seen i ≡ false) ran passes fails)

-- the entry that is found passes the test
module _ {X : Type 0} (test : X → Bool) (d : X) where
  pub record Found (at : ℕ) (xs : List X) (place : ℕ) : Type 0 where
    pub behind : ℕ
    pub is : place ≡ at + behind
    pub passes : test (get_or xs behind d) ≡ true

  pub found_in : (count at : ℕ) (xs : List X) (place : ℕ)
      → first_in test at (take count xs) ≡ Some place → Found at xs place
  found_in zero at xs place e = absurd (cc)
  found_in (suc count) at [] place e = absurd (cc)
  found_in (suc count) at (x ∷ xs) place e = by (test x) refl (found_in count (at + 1) xs place) e
    where
      by : (b : Bool) → test x ≡ b
          → (first_in test (at + 1) (take count xs) ≡ Some place → Found (at + 1) xs place)
          → cond b (Some at) (first_in test (at + 1) (take count xs)) ≡ Some place
          → Found at (x ∷ xs) place
      by true here rest same =
          let at_place : at ≡ place = cc in
          record { behind = 0; is = omega (arith, at_place); passes = here }
      by false here rest later =
          let found = rest later in
          record {
            behind = suc found.behind;
            is = let same : place ≡ at + 1 + found.behind = found.is in omega (arith, same);
            passes = found.passes;
          }

  -- it is an entry of the table
  pub found_passes : (xs : List X) (start count place : ℕ)
      → first_in test start (window_of start count xs) ≡ Some place → test (get_or xs place d) ≡ true
  found_passes xs start count place e =
      let found = found_in count start (drop start xs) place e in
      ap (λ i. test (get_or xs i d)) found.is
      ∙ ap test (sym (get_or-drop start xs found.behind d)) ∙ found.passes

-- in use with a key from `key` to `key` is what has that key
pub found_key : {X : Type 0} (used : X → Bool) (label : X → ℕ) (key : ℕ) (x : X)
    → lies_in used label key key x ≡ true → label x ≡ key
found_key used label key x h =
    let tests = and_parts (used x && leb key (label x)) (leb (label x) key) h in
    let low : leb key (label x) ≡ true = (and_parts (used x) (leb key (label x)) tests.0).1 in
    let high : leb (label x) key ≡ true = tests.1 in
    grind (arith, nat_tests)
