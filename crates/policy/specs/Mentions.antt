-- Which way of a column was unmentioned longest, by the tellings alone.
use Rattle.std.specs.Prelude.{ℕ, zero, suc, ◌+◌, ◌<◌, ◌≤◌, Bool, if◌then◌else◌, not, ◌&&◌, List, min, reverse, take_while, ◌==◌}
use Rattle.std.specs.List.{list_any}
use Rattle.protocol.specs.declared.measures.Measures.{Measures}
use Rattle.policy.specs.declared.policy.Telling.{Telling}
use Rattle.policy.specs.Meaning.{Choice}

abbrev pub mentions : ℕ → ℕ → ℕ → Telling → Bool
mentions processor column way telling =
    telling.processor == processor && telling.column == column && telling.way == way

-- the tellings after the last that mentions the way, or all; the latest first
abbrev pub since_mention : ℕ → ℕ → List Telling → ℕ → List Telling
since_mention processor column tellings way =
    take_while (λ telling. not (mentions processor column way telling)) (reverse tellings)

-- how many numbers below n pass the test
abbrev pub count_below : ℕ → (ℕ → Bool) → ℕ
count_below zero test = 0
count_below (suc n) test = (if test n then 1 else 0) + count_below n test

-- how many ways of the column were mentioned since; the way itself is not among them
abbrev pub others_since : ℕ → ℕ → ℕ → List Telling → ℕ → ℕ
others_since ways processor column tellings way =
    count_below ways
    (λ other. list_any (mentions processor column other)
    (since_mention processor column tellings way))

-- of the ways below their number, the lowest of those that have the greatest `value`
pub record IsLowestGreatest (value : ℕ → ℕ) (ways way : ℕ) : Type 0 where
  pub below : way < ways
  pub greatest : (other : ℕ) → other < ways → value other ≤ value way
  pub lowest : (other : ℕ) → other < way → value other < value way

-- after any tellings it names the lowest of the ways unmentioned longest, as far as 3 others tell
pub record NamesLongest (m : Measures) (c : Choice) : Type 0 where
  pub named :
      (tellings : List Telling) (processor column : ℕ) → processor < m.processors
      → column < m.columns
      → IsLowestGreatest (λ way. min 3 (others_since m.ways processor column tellings way)) m.ways
      (c.names tellings processor column)
