-- A policy that names the way with the number of tellings so far.
use Rattle.std.specs.Prelude.{ℕ, ◌+◌, ◌%◌, ◌≤◌, length}
use Rattle.std.proofs.Common.{arith}
use Rattle.protocol.specs.declared.measures.Measures.{Measures}
use Rattle.policy.specs.declared.extent.Extent.{Extent}
use Rattle.policy.specs.Extents.{extent_of}
use Rattle.policy.specs.Meaning.{Choice, Lawful}

abbrev pub counting : Extent → ℕ → Choice
counting e tellings =
    record {
      processors = e.processors;
      columns = e.columns;
      ways = e.ways;
      names = λ later processor column. (tellings + length later) % e.ways;
    }

abbrev pub new_counting : Measures → Choice
new_counting m = counting (extent_of m) 0

pub lawful_counting : (e : Extent) (tellings : ℕ) → 1 ≤ e.ways → Lawful (counting e tellings)
lawful_counting e tellings some = record { named = λ later processor column p c. omega arith }
