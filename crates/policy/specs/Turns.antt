-- The policy that takes the ways in turn.
use Rattle.std.specs.Prelude.{ℕ, ◌+◌, ◌%◌, if◌then◌else◌, ◌&&◌, List, replicate, slice_index, slice_set}
use Rattle.protocol.specs.declared.measures.Measures.{Measures}
use Rattle.policy.specs.declared.extent.Extent.{Extent}
use Rattle.policy.specs.declared.policy.Telling.{Telling}
use Rattle.policy.specs.Extents.{extent_of, has}
use Rattle.policy.specs.Meaning.{Choice, state_after}

-- the processor's turn goes on if it had named the way
abbrev pub turned : Extent → List ℕ → Telling → List ℕ
turned e turns telling =
    if telling.named && has e telling
    then slice_set turns telling.processor
    ((slice_index turns telling.processor % e.ways + 1) % e.ways)
    else turns

abbrev pub turning : Extent → List ℕ → Choice
turning e turns =
    record {
      processors = e.processors;
      columns = e.columns;
      ways = e.ways;
      names =
          λ later processor column.
          slice_index (state_after (turned e) turns later) processor % e.ways;
    }

-- every turn is 0
abbrev pub new_turning : Measures → Choice
new_turning m = turning (extent_of m) (replicate 8 0)
