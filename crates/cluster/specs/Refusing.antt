-- Refusals 3 to 10 of a command, in their order, and what one meets that none of them refuses.
use Rattle.std.specs.Prelude.{ℕ, ◌*◌, ◌/◌, Bool, true, false, if◌then◌else◌, not, ◌&&◌, ◌||◌, List, [], ◌∷◌, is_some, Some, None, Ok, Err, Option, Result, nat_le, slice_index_or}
use Rattle.protocol.specs.declared.command.Action.{Action}
use Rattle.protocol.specs.declared.command.Action.TheVariants.{R, W, DW, RI, RP, LR, UW, U}
use Rattle.protocol.specs.declared.command.Request.{Request}
use Rattle.protocol.specs.declared.line.Line.{Line}
use Rattle.protocol.specs.declared.lock.LockEntry.{LockEntry}
use Rattle.protocol.specs.declared.measures.Measures.{Measures}
use Rattle.protocol.specs.declared.refusal.Refusal.{Refusal}
use Rattle.protocol.specs.declared.refusal.Refusal.TheVariants.{Processor as NoProcessor, Address, Waiting, LockHeld, NoLockEntry, NoLock, CopyElsewhere, MachineCheck as Checked}
use Rattle.protocol.specs.declared.state.State.{State}
use Rattle.protocol.specs.declared.table.Effect.{Effect}
use Rattle.protocol.specs.Acting.{acts_as}
use Rattle.protocol.specs.Entries.{valid}
use Rattle.protocol.specs.StateTable.{cell_of}
use Rattle.cluster.specs.declared.case.Case.{Case}
use Rattle.cluster.specs.declared.cluster.Processor.{Processor}
use Rattle.cluster.specs.Copies.{line_of, line_at, supplier_of}
use Rattle.cluster.specs.Locks.{held_entry, free_entry, holder_of}
use Rattle.cluster.specs.Making.{resting}
use Rattle.cluster.specs.Settling.{takes_lock, releases_lock}

-- the first test that holds gives the refusal
abbrev pub unless_refused : {X : Type 0} → List (Bool × Refusal) → Result X Refusal
    → Result X Refusal
unless_refused [] answer = answer
unless_refused (test ∷ tests) answer = if test.0 then Err test.1 else unless_refused tests answer

abbrev pub is_direct_write : Action → Bool
is_direct_write R = false
is_direct_write W = false
is_direct_write DW = true
is_direct_write RI = false
is_direct_write RP = false
is_direct_write LR = false
is_direct_write UW = false
is_direct_write U = false

-- 3 to 5
abbrev pub admission : Measures → List Processor → ℕ → Request → List (Bool × Refusal)
admission m ps blocks q =
    (nat_le m.processors q.processor, NoProcessor)
    ∷ ((nat_le (4 * blocks) q.address, Address)
    ∷ ((is_some (slice_index_or ps q.processor resting).waits_for, Waiting) ∷ []))

-- 6 to 8
abbrev pub lock_tests : Measures → List LockEntry → Request → List (Bool × Refusal)
lock_tests m locks q =
    let held = held_entry m locks q.processor q.address in
    let free = free_entry m locks q.processor in
    (takes_lock q.command && is_some held, LockHeld)
    ∷ ((takes_lock q.command && not (is_some free), NoLockEntry)
    ∷ ((releases_lock q.command && not (is_some held), NoLock) ∷ []))

-- LR uses its lowest empty entry, a release the first entry with the address
abbrev pub entry_used : Measures → List LockEntry → Request → Option ℕ
entry_used m locks q =
    if takes_lock q.command then free_entry m locks q.processor
    else if releases_lock q.command then held_entry m locks q.processor q.address
    else None

-- 10 where the cell says so
abbrev pub unless_checked : State → Option Effect → (Effect → Case) → Result Case Refusal
unless_checked found None case = Err (Checked found)
unless_checked found (Some effect) case = Ok (case effect)

-- 9 and 10, and else what the command meets
abbrev pub case_met : Measures → List Line → List LockEntry → Request → Option ℕ
    → Result Case Refusal
case_met m lines locks q entry =
    let block = q.address / 4 in
    let place = line_of m lines q.processor block in
    let found = (line_at lines place).state in
    let copy = supplier_of m lines q.processor block in
    let holder = holder_of m locks q.processor block in
    let action = acts_as q.command q.address found (is_some copy) in
    let elsewhere = is_some copy || is_some holder in
    unless_refused ((is_direct_write action && not (valid found) && elsewhere, CopyElsewhere) ∷ [])
    (unless_checked found (cell_of action found)
    (λ effect. record {
      processor = q.processor;
      command = q.command;
      address = q.address;
      block = block;
      action = action;
      place = place;
      found = found;
      effect = effect;
      copy = copy;
      holder = holder;
      entry = entry;
    }))

abbrev pub case_of : Measures → List Processor → List Line → List LockEntry → ℕ → Request
    → Result Case Refusal
case_of m ps lines locks blocks q =
    unless_refused (admission m ps blocks q)
    (unless_refused (lock_tests m locks q) (case_met m lines locks q (entry_used m locks q)))
