-- Finding an entry, in both tables.
use Rattle.std.specs.Prelude.{ℕ, zero, suc, ◌+◌, ◌<◌, ◌≤◌, Bool, if◌then◌else◌, not, ◌&&◌, List, [], ◌∷◌, length, take, drop, IfSome, Some, None, Option, nat_le}

-- in use, with a key from low to high
abbrev pub lies_in : {X : Type 0} → (X → Bool) → (X → ℕ) → ℕ → ℕ → X → Bool
lies_in used label low high x = used x && nat_le low (label x) && nat_le (label x) high

abbrev pub unused : {X : Type 0} → (X → Bool) → X → Bool
unused used x = not (used x)

-- the place of the first that passes the test, counted from `at`
abbrev pub first_in : {X : Type 0} → (X → Bool) → ℕ → List X → Option ℕ
first_in test at [] = None
first_in test at (x ∷ xs) = if test x then Some at else first_in test (at + 1) xs

abbrev pub window_of : {X : Type 0} → ℕ → ℕ → List X → List X
window_of from count xs = take count (drop from xs)

-- a place that was found lies in the window and in the table
abbrev pub Within : {X : Type 0} → ℕ → ℕ → List X → Option ℕ → Type 0
Within from count xs r = IfSome r (λ i. (from ≤ i) × (i < from + count) × (i < length xs))

-- the lowest of `count` numbers from `from` on that passes the test
abbrev pub lowest_from : (ℕ → Bool) → ℕ → ℕ → Option ℕ
lowest_from test from zero = None
lowest_from test from (suc count) =
    if test from then Some from else lowest_from test (from + 1) count
