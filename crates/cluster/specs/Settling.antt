-- Lock entries after a done command.
use Rattle.std.specs.Prelude.{ℕ, Bool, true, false, if◌then◌else◌, not, ◌&&◌, List, Some, None, Option, slice_index_or, slice_set}
use Rattle.protocol.specs.declared.command.Command.{Command}
use Rattle.protocol.specs.declared.command.Command.TheVariants.{R, W, DW, RI, RP, RB, LR, UW, U}
use Rattle.protocol.specs.declared.lock.LockEntry.{LockEntry}
use Rattle.protocol.specs.declared.lock.LockState.TheVariants.{L}
use Rattle.cluster.specs.declared.cluster.Processor.{Processor}
use Rattle.cluster.specs.Locks.{somebody_waits}
use Rattle.cluster.specs.Making.{blank_entry}
use Rattle.cluster.specs.Waiting.{all_woken}

abbrev pub takes_lock : Command → Bool
takes_lock R = false
takes_lock (W word) = false
takes_lock (DW word) = false
takes_lock RI = false
takes_lock RP = false
takes_lock RB = false
takes_lock LR = true
takes_lock (UW word) = false
takes_lock U = false

abbrev pub releases_lock : Command → Bool
releases_lock R = false
releases_lock (W word) = false
releases_lock (DW word) = false
releases_lock RI = false
releases_lock RP = false
releases_lock RB = false
releases_lock LR = false
releases_lock (UW word) = true
releases_lock U = true

abbrev pub locked_at : ℕ → LockEntry
locked_at address = record { state = L; address = address }

-- LR writes its address as L into its entry; a release empties its entry; other commands have none
abbrev pub locks_settled : Command → ℕ → List LockEntry → Option ℕ → List LockEntry
locks_settled command address locks None = locks
locks_settled command address locks (Some place) =
    slice_set locks place (if takes_lock command then locked_at address else blank_entry)

-- UL is sent where the entry that is emptied was LW
abbrev pub ul_sent : Command → List LockEntry → Option ℕ → Bool
ul_sent command locks None = false
ul_sent command locks (Some place) =
    not (takes_lock command) && somebody_waits (slice_index_or locks place blank_entry)

-- with UL, all who wait for the block stop waiting
abbrev pub woken_by : Bool → ℕ → List Processor → List Processor
woken_by ul block ps = if ul then all_woken block ps else ps
