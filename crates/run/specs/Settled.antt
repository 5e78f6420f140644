-- The indices that a run keeps.
use Rattle.std.specs.Prelude.{◌≡◌, ℕ, ◌<◌, true, List, slice_index}
use Rattle.trace.specs.Sizes.{records_in}
use Rattle.trace.specs.Traces.{is_of}

-- each index is that of a record of its processor, or past all records
abbrev pub Settled : List ℕ → List ℕ → Type 0
Settled bytes next =
    (p : ℕ) → p < 8 → slice_index next p < records_in bytes
    → is_of p bytes (slice_index next p) ≡ true
