-- The policy that names the way unmentioned longest, by ages.
use Rattle.std.specs.Prelude.{ℕ, ◌+◌, ◌*◌, Bool, if◌then◌else◌, ◌&&◌, List, ◌++◌, length, map, fold, max, take, drop, position, replicate, unwrap_or, ◌==◌, nat_le, nat_lt, slice_index, slice_set}
use Rattle.protocol.specs.declared.measures.Measures.{Measures}
use Rattle.protocol.specs.Finding.{window_of}
use Rattle.protocol.specs.Places.{line_count}
use Rattle.policy.specs.declared.extent.Extent.{Extent}
use Rattle.policy.specs.declared.policy.Telling.{Telling}
use Rattle.policy.specs.Extents.{extent_of, no_extent, has_column, has}
use Rattle.policy.specs.Meaning.{Choice, state_after}

-- an age below 3 that is not above the limit is raised
abbrev pub aged : ℕ → ℕ → ℕ
aged limit age = if nat_lt age 3 && nat_le age limit then age + 1 else age

-- the ages of a column once a way of it is mentioned
abbrev pub mentioned : ℕ → List ℕ → List ℕ
mentioned way ages = slice_set (map (aged (slice_index ages way)) ages) way 0

-- the lowest way of the highest age
abbrev pub highest_way : List ℕ → ℕ
highest_way ages = unwrap_or (position (λ age. age == fold max 0 ages) ages) 0

-- ages are ordered by processor, then column, then way, as lines are
abbrev pub column_start : Extent → ℕ → ℕ → ℕ
column_start e processor column = (processor * e.columns + column) * e.ways

abbrev pub ages_of : Extent → ℕ → ℕ → List ℕ → List ℕ
ages_of e processor column ages = window_of (column_start e processor column) e.ways ages

-- the ages of the told column change, and no others
abbrev pub ages_told : Extent → List ℕ → Telling → List ℕ
ages_told e ages telling =
    let start = column_start e telling.processor telling.column in
    if has e telling
    then take start ages
    ++ (mentioned telling.way (ages_of e telling.processor telling.column ages)
    ++ drop (start + e.ways) ages)
    else ages

abbrev pub ageing : Extent → List ℕ → Choice
ageing e ages =
    record {
      processors = e.processors;
      columns = e.columns;
      ways = e.ways;
      names =
          λ later processor column.
          if has_column e processor column
          then highest_way (ages_of e processor column (state_after (ages_told e) ages later))
          else 0;
    }

-- one age for each line
abbrev pub fits : Measures → List ℕ → Bool
fits m ages = length ages == line_count m

-- a table that fits is cleared
abbrev pub new_ages : Measures → List ℕ → List ℕ
new_ages m ages = if fits m ages then replicate (length ages) 0 else ages

-- over a table that does not fit it is a policy for nothing
abbrev pub new_extent : Measures → List ℕ → Extent
new_extent m ages = if fits m ages then extent_of m else no_extent

abbrev pub new_ageing : Measures → List ℕ → Choice
new_ageing m ages = ageing (new_extent m ages) (new_ages m ages)
