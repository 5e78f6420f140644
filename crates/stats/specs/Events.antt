-- What one step of a run did.
use Rattle.std.specs.Prelude.{ℕ, ◌+◌, ◌*◌, Bool, true, false, if◌then◌else◌, not, ◌&&◌, is_some, Some, None, Ok, Err, Option, Result, ◌==◌, nat_lt}
use Rattle.protocol.specs.declared.answer.Answer.{Answer}
use Rattle.protocol.specs.declared.answer.Answer.TheVariants.{Done, Wait}
use Rattle.protocol.specs.declared.answer.Completion.{Completion}
use Rattle.protocol.specs.declared.answer.Supplier.{Supplier}
use Rattle.protocol.specs.declared.answer.Supplier.TheVariants.{Memory, Cache}
use Rattle.protocol.specs.declared.command.BusCommand.{BusCommand}
use Rattle.protocol.specs.declared.command.BusCommand.TheVariants.{F, FI, I as bus_i}
use Rattle.protocol.specs.declared.command.Command.{Command}
use Rattle.protocol.specs.declared.command.Command.TheVariants.{R, W, DW, RI, RP, RB, LR, UW, U}
use Rattle.protocol.specs.declared.command.Request.{Request}
use Rattle.protocol.specs.declared.refusal.Refusal.{Refusal}
use Rattle.protocol.specs.declared.state.State.{State}
use Rattle.protocol.specs.declared.state.State.TheVariants.{I, S, SM, EC, EM}
use Rattle.protocol.specs.Entries.{valid}
use Rattle.protocol.specs.Numbers.{number_of}
use Rattle.cluster.specs.Doing.{invalidates}
use Rattle.text.specs.declared.step.Step.{Step}

-- what a done step answers
abbrev pub completion_of : Result Answer Refusal → Option Completion
completion_of (Ok (Done done)) = Some done
completion_of (Ok (Wait hit)) = None
completion_of (Err refusal) = None

abbrev pub waits : Result Answer Refusal → Bool
waits (Ok (Done done)) = false
waits (Ok (Wait hit)) = true
waits (Err refusal) = false

abbrev pub passes : (Completion → Bool) → Option Completion → Bool
passes test None = false
passes test (Some done) = test done

-- a done step whose answer passes the test
abbrev pub done_with : (Completion → Bool) → Step → Bool
done_with test step = passes test (completion_of step.answer)

abbrev pub is_done : Step → Bool
is_done = done_with (λ done. true)

abbrev pub is_waiting : Step → Bool
is_waiting step = waits step.answer

abbrev pub refuses : Result Answer Refusal → Bool
refuses (Ok answer) = false
refuses (Err refusal) = true

abbrev pub is_refused : Step → Bool
is_refused step = refuses step.answer

-- refused with the number
abbrev pub refusal_in : Result Answer Refusal → Option ℕ
refusal_in (Ok answer) = None
refusal_in (Err refusal) = Some (number_of refusal)

abbrev pub is_number : ℕ → Option ℕ → Bool
is_number n None = false
is_number n (Some number) = number == n

abbrev pub is_refused_with : ℕ → Step → Bool
is_refused_with n step = is_number n (refusal_in step.answer)

-- the state found is not I, or is I
abbrev pub is_hit : Step → Bool
is_hit = done_with (λ done. valid done.found)

abbrev pub is_miss : Step → Bool
is_miss = done_with (λ done. not (valid done.found))

abbrev pub by_cache : Option Supplier → Bool
by_cache None = false
by_cache (Some Memory) = false
by_cache (Some (Cache q)) = true

abbrev pub by_memory : Option Supplier → Bool
by_memory None = false
by_memory (Some Memory) = true
by_memory (Some (Cache q)) = false

-- another cache supplied the block, or memory did
abbrev pub is_from_cache : Step → Bool
is_from_cache = done_with (λ done. by_cache done.supplier)

abbrev pub is_from_memory : Step → Bool
is_from_memory = done_with (λ done. by_memory done.supplier)

-- a modified line was written back
abbrev pub swaps_out : Step → Bool
swaps_out = done_with (λ done. is_some done.swapped_out)

abbrev pub is_f : Option BusCommand → Bool
is_f None = false
is_f (Some F) = true
is_f (Some FI) = false
is_f (Some bus_i) = false

abbrev pub is_fi : Option BusCommand → Bool
is_fi None = false
is_fi (Some F) = false
is_fi (Some FI) = true
is_fi (Some bus_i) = false

-- the bus command, and the signals of the lock directory
abbrev pub sends_f : Step → Bool
sends_f = done_with (λ done. is_f done.bus)

abbrev pub sends_fi : Step → Bool
sends_fi = done_with (λ done. is_fi done.bus)

abbrev pub sends_i : Step → Bool
sends_i = done_with (λ done. invalidates done.bus)

abbrev pub sends_lk : Step → Bool
sends_lk = done_with (λ done. done.lk)

abbrev pub sends_ul : Step → Bool
sends_ul = done_with (λ done. done.ul)

abbrev pub is_lr : Command → Bool
is_lr R = false
is_lr (W word) = false
is_lr (DW word) = false
is_lr RI = false
is_lr RP = false
is_lr RB = false
is_lr LR = true
is_lr (UW word) = false
is_lr U = false

abbrev pub exclusive : State → Bool
exclusive EM = true
exclusive EC = true
exclusive SM = false
exclusive S = false
exclusive I = false

-- a done LR that found the block, or found it in EM or EC
abbrev pub is_lr_hit : Step → Bool
is_lr_hit step = is_lr step.request.command && is_hit step

abbrev pub is_exclusive_lr_hit : Step → Bool
is_exclusive_lr_hit step =
    is_lr step.request.command && done_with (λ done. exclusive done.found) step

abbrev pub unlocks : Command → Bool
unlocks R = false
unlocks (W word) = false
unlocks (DW word) = false
unlocks RI = false
unlocks RP = false
unlocks RB = false
unlocks LR = false
unlocks (UW word) = true
unlocks U = true

-- a done U or UW; nobody waits for the block where it sends no UL
abbrev pub is_release : Step → Bool
is_release step = unlocks step.request.command && is_done step

abbrev pub is_unwaited_release : Step → Bool
is_unwaited_release step = is_release step && not (sends_ul step)

-- the order of commands in the tables
abbrev pub place_of : Command → ℕ
place_of R = 0
place_of (W word) = 1
place_of (DW word) = 2
place_of RI = 3
place_of RP = 4
place_of RB = 5
place_of LR = 6
place_of (UW word) = 7
place_of U = 8

-- where a step is counted in a table of eight processors and nine commands, ordered by processor
abbrev pub cell_of : Bool → Request → Option ℕ
cell_of counts q =
    if counts && nat_lt q.processor 8 then Some (q.processor * 9 + place_of q.command) else None

-- a step of the processor with the command
abbrev pub asks : ℕ → ℕ → Request → Bool
asks processor command q = q.processor == processor && place_of q.command == command
