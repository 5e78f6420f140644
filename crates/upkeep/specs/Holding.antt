-- The lock question: who holds an address.
use Rattle.std.specs.Prelude.{ℕ, Bool, if◌then◌else◌, List, length, is_some, Ok, Err, Option, Result, ◌==◌}
use Rattle.protocol.specs.declared.lock.LockEntry.{LockEntry}
use Rattle.protocol.specs.declared.measures.Measures.{Measures}
use Rattle.protocol.specs.declared.refusal.Refusal.{Refusal}
use Rattle.protocol.specs.declared.refusal.Refusal.TheVariants.{TableLength}
use Rattle.protocol.specs.Finding.{lowest_from}
use Rattle.protocol.specs.Places.{lock_count}
use Rattle.cluster.specs.Board.{Board}
use Rattle.cluster.specs.Locks.{held_entry}

abbrev pub holds : Measures → List LockEntry → ℕ → ℕ → Bool
holds m locks address processor = is_some (held_entry m locks processor address)

-- the lowest processor that holds the address
abbrev pub holder_of : Measures → List LockEntry → ℕ → Option ℕ
holder_of m locks address = lowest_from (holds m locks address) 0 m.processors

-- a lock table of another length is refused
abbrev pub question_rule : Measures → Board → ℕ → Result (Option ℕ) Refusal
question_rule m b address =
    if length b.locks == lock_count m then Ok (holder_of m b.locks address) else Err TableLength
