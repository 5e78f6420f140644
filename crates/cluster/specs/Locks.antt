-- Who holds locks, and what becomes of the lock entries.
use Rattle.std.specs.Prelude.{ℕ, ◌+◌, ◌*◌, Bool, true, false, if◌then◌else◌, not, ◌&&◌, List, is_some, Option, ◌==◌, nat_le, nat_lt}
use Rattle.protocol.specs.declared.measures.Measures.{Measures}
use Rattle.protocol.specs.declared.lock.LockEntry.{LockEntry}
use Rattle.protocol.specs.declared.lock.LockState.{LockState}
use Rattle.protocol.specs.declared.lock.LockState.TheVariants.{E, L, LW}
use Rattle.protocol.specs.Entries.{locked}
use Rattle.protocol.specs.Places.{locks_start}
use Rattle.protocol.specs.Finding.{lies_in, unused, first_in, window_of, lowest_from}
use Rattle.cluster.specs.Tables.{map_from}

abbrev pub in_use : LockEntry → Bool
in_use e = locked e.state

abbrev pub locks_from : ℕ → ℕ → LockEntry → Bool
locks_from low high = lies_in in_use (λ e. e.address) low high

-- a block's addresses are 4b to 4b + 3
abbrev pub locks_block : ℕ → LockEntry → Bool
locks_block block = locks_from (4 * block) (4 * block + 3)

-- the processor's first entry that passes the test
abbrev pub entry_of : Measures → List LockEntry → ℕ → (LockEntry → Bool) → Option ℕ
entry_of m locks processor test =
    let start = locks_start m processor in
    first_in test start (window_of start m.lock_entries locks)

abbrev pub held_entry : Measures → List LockEntry → ℕ → ℕ → Option ℕ
held_entry m locks processor address = entry_of m locks processor (locks_from address address)

abbrev pub free_entry : Measures → List LockEntry → ℕ → Option ℕ
free_entry m locks processor = entry_of m locks processor (unused in_use)

abbrev pub has_lock : Measures → List LockEntry → ℕ → ℕ → Bool
has_lock m locks block processor = is_some (entry_of m locks processor (locks_block block))

abbrev pub other_lock : Measures → List LockEntry → ℕ → ℕ → ℕ → Bool
other_lock m locks asking block processor =
    not (processor == asking) && has_lock m locks block processor

-- the lowest processor but the asking one that has a lock in the block
abbrev pub holder_of : Measures → List LockEntry → ℕ → ℕ → Option ℕ
holder_of m locks asking block = lowest_from (other_lock m locks asking block) 0 m.processors

abbrev pub own_entry : Measures → ℕ → ℕ → Bool
own_entry m processor place =
    let start = locks_start m processor in
    nat_le start place && nat_lt place (start + m.lock_entries)

-- the asking processor begins to wait: a lock of another processor in the block becomes LW
abbrev pub waited_at : Measures → ℕ → ℕ → ℕ → LockEntry → LockEntry
waited_at m asking block place e =
    if not (own_entry m asking place) && locks_block block e
    then record { state = LW; address = e.address } else e

abbrev pub waited_for : Measures → List LockEntry → ℕ → ℕ → List LockEntry
waited_for m locks asking block = map_from (waited_at m asking block) 0 locks

abbrev pub waits_on : LockState → Bool
waits_on E = false
waits_on L = false
waits_on LW = true

abbrev pub somebody_waits : LockEntry → Bool
somebody_waits e = waits_on e.state
