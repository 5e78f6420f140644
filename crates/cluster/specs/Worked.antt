-- Eight short runs worked out by hand, and three column counts.
use Rattle.std.specs.Prelude.{◌≡◌, ℕ, Bool, true, false, List, [], ◌∷◌, map, replicate, Some, None, Ok, Err, Option, Result, slice_index_or}
use Rattle.protocol.specs.declared.answer.Answer.{Answer}
use Rattle.protocol.specs.declared.answer.Answer.TheVariants.{Done, Wait}
use Rattle.protocol.specs.declared.answer.Supplier.{Supplier}
use Rattle.protocol.specs.declared.answer.Supplier.TheVariants.{Memory, Cache}
use Rattle.protocol.specs.declared.command.Command.{Command}
use Rattle.protocol.specs.declared.command.Command.TheVariants.{R, W, DW, RP, LR, U}
use Rattle.protocol.specs.declared.command.Request.{Request}
use Rattle.protocol.specs.declared.measures.Measures.{Measures}
use Rattle.protocol.specs.declared.refusal.Refusal.{Refusal}
use Rattle.protocol.specs.declared.refusal.Refusal.TheVariants.{Address, Waiting, LockHeld, NoLockEntry, MachineCheck}
use Rattle.protocol.specs.declared.state.State.{State}
use Rattle.protocol.specs.declared.state.State.TheVariants.{I, S, SM, EC, EM}
use Rattle.protocol.specs.Limits.{lawful}
use Rattle.protocol.specs.Lines.{blank_line}
use Rattle.protocol.specs.Standard.{standard_costs, with_columns}
use Rattle.memory.specs.Words.{table_of}
use Rattle.cluster.specs.Board.{Board, Outcome, new_board}
use Rattle.cluster.specs.Rule.{command_rule}

-- two processors with one line and one lock entry each
abbrev pub two : Measures
two = record { processors = 2; columns = 1; ways = 1; lock_entries = 1; costs = standard_costs }

abbrev pub by : ℕ → Command → ℕ → Request
by processor command address =
    record { processor = processor; command = command; address = address }

-- each command starts from what the one before left
abbrev pub play_from : Board → List Request → List (Outcome Answer)
play_from b [] = []
play_from b (q ∷ qs) = let o = command_rule two b q in o ∷ play_from o.board qs

-- a new cluster over sixteen zero words
abbrev pub play : List Request → List (Outcome Answer)
play qs = play_from (new_board two (table_of (replicate 16 0))) qs

pub data Told : Type 0 where
  Did : (word : ℕ) (left : State) (supplier : Option Supplier) (swapped : Option ℕ)
      (ul : Bool) (cycles : ℕ) → Told
  Waits : (holder : ℕ) → Told
  Refused : Refusal → Told

abbrev pub tell : Result Answer Refusal → Told
tell (Ok (Done d)) = Did d.word d.left d.supplier d.swapped_out d.ul d.cycles
tell (Ok (Wait hit)) = Waits hit.holder
tell (Err r) = Refused r

abbrev pub told : List Request → List Told
told qs = map (λ o. tell o.answer) (play qs)

-- the state of processor 0's line after each command
abbrev pub first_line : Outcome Answer → State
first_line o = (slice_index_or o.board.lines 0 blank_line).state

abbrev pub from_memory : ℕ → State → Told
from_memory word left = Did word left (Some Memory) None false 13

abbrev pub silent : ℕ → State → Told
silent word left = Did word left None None false 0

-- a block that is read under lock while another waits for it, and then by the other
abbrev pub waiting_once : List Request
waiting_once = by 0 LR 0 ∷ (by 1 R 3 ∷ (by 1 R 8 ∷ (by 0 U 0 ∷ (by 1 R 3 ∷ []))))

pub record WorkedCases : Type 0 where
  pub end_of_memory : told (by 0 R 15 ∷ (by 0 R 16 ∷ []))
      ≡ from_memory 0 EC ∷ (Refused Address ∷ [])
  pub written_then_shared : told (by 0 (W 5) 0 ∷ (by 1 R 0 ∷ []))
      ≡ from_memory 0 EM ∷ (Did 5 S (Some (Cache 0)) None false 7 ∷ [])
  pub supplier_keeps_sm : map first_line (play (by 0 (W 5) 0 ∷ (by 1 R 0 ∷ []))) ≡ EM ∷ (SM ∷ [])
  pub swapped_out : told (by 0 R 0 ∷ (by 0 (W 5) 0 ∷ (by 0 R 4 ∷ [])))
      ≡ from_memory 0 EC ∷ (silent 0 EM ∷ (Did 0 EC (Some Memory) (Some 0) false 18 ∷ []))
  pub direct_write : told (by 0 (DW 5) 0 ∷ (by 0 R 1 ∷ [])) ≡ silent 0 EM ∷ (silent 0 EM ∷ [])
  pub direct_write_twice : told (by 0 (DW 0) 0 ∷ (by 0 (DW 0) 0 ∷ []))
      ≡ silent 0 EM ∷ (Refused (MachineCheck EM) ∷ [])
  pub waits_and_wakes : told waiting_once
      ≡ from_memory 0 EC
      ∷ (Waits 0 ∷ (Refused Waiting ∷ (Did 0 EC None None true 2
      ∷ (Did 0 S (Some (Cache 0)) None false 7 ∷ []))))
  pub unlocked_clean : map first_line (play waiting_once) ≡ EC ∷ (EC ∷ (EC ∷ (EC ∷ (S ∷ []))))
  pub entries_run_out : told (by 0 LR 0 ∷ (by 0 LR 1 ∷ (by 0 LR 0 ∷ [])))
      ≡ from_memory 0 EC ∷ (Refused NoLockEntry ∷ (Refused LockHeld ∷ []))
  pub purged : told (by 0 (W 5) 0 ∷ (by 0 RP 0 ∷ (by 0 R 0 ∷ [])))
      ≡ from_memory 0 EM ∷ (silent 5 I ∷ (from_memory 0 EC ∷ []))
  pub columns_256 : lawful (with_columns 256) ≡ true
  pub columns_512 : lawful (with_columns 512) ≡ false
  pub columns_3 : lawful (with_columns 3) ≡ false
