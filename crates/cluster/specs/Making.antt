-- A new cluster: every line I, every lock entry E, every number 0, nobody waits.
use Rattle.std.specs.Prelude.{ℕ, Bool, ◌&&◌, List, replicate, None, ◌==◌}
use Rattle.protocol.specs.declared.measures.Measures.{Measures}
use Rattle.protocol.specs.declared.lock.LockEntry.{LockEntry}
use Rattle.protocol.specs.declared.lock.LockState.TheVariants.{E}
use Rattle.protocol.specs.Places.{line_count, lock_count}
use Rattle.cluster.specs.declared.cluster.Processor.{Processor}

abbrev pub blank_entry : LockEntry
blank_entry = record { state = E; address = 0 }

abbrev pub resting : Processor
resting = record { turn = 0; waits_for = None }

abbrev pub all_resting : List Processor
all_resting = replicate 8 resting

-- a line for each processor, column and way, and each processor's lock entries
abbrev pub tables_fit : Measures → ℕ → ℕ → Bool
tables_fit m lines locks = lines == line_count m && locks == lock_count m
