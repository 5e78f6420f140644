-- The ledger: bookkeeping outside the cluster, fed only calls and their answers.
use Rattle.std.specs.Prelude.{ℕ, ◌*◌, ◌/◌, ◌%◌, Bool, true, false, if◌then◌else◌, ◌&&◌, Some, None, Ok, Err, Option, Result, ◌==◌, nat_lt, slice_index}
use Rattle.protocol.specs.declared.answer.Answer.{Answer}
use Rattle.protocol.specs.declared.answer.Answer.TheVariants.{Done, Wait}
use Rattle.protocol.specs.declared.command.Command.{Command}
use Rattle.protocol.specs.declared.command.Command.TheVariants.{W, DW, RP, RB, LR, UW, U}
use Rattle.protocol.specs.declared.command.Request.{Request}
use Rattle.protocol.specs.declared.refusal.Refusal.{Refusal}
use Rattle.memory.specs.Meaning.{Mem}
use Rattle.law.specs.Calls.{Call, command, Said, answered}

-- the word at each address, the addresses that a processor holds locks at, the block it waits for
pub record Ledger : Type 0 where
  pub words : ℕ → Option ℕ
  pub holds : ℕ → ℕ → Bool
  pub waits : ℕ → Option ℕ

abbrev pub block_of : ℕ → ℕ
block_of address = address / 4

abbrev pub word_at : Mem → ℕ → ℕ
word_at mem address = slice_index (mem.words (block_of address)) (address % 4)

-- at first memory's words, no locks, nobody waits
abbrev pub opened : Mem → Ledger
opened mem =
    record {
      words = λ a. if nat_lt a (4 * mem.count) then Some (word_at mem a) else None;
      holds = λ processor address. false;
      waits = λ processor. None;
    }

abbrev pub entered : ℕ → ℕ → Ledger → Ledger
entered address word l = record l { words = λ a. if a == address then Some word else l.words a }

-- a DW at a start enters its word and 0 for the other three addresses
abbrev block_entered : ℕ → ℕ → Ledger → Ledger
block_entered address word l =
    let made : ℕ → Option ℕ = λ a. Some (if a == address then word else 0) in
    record l { words = λ a. if block_of a == block_of address then made a else l.words a }

abbrev purged : ℕ → Ledger → Ledger
purged block l = record l { words = λ a. if block_of a == block then None else l.words a }

abbrev holding : ℕ → ℕ → Bool → Ledger → Ledger
holding processor address held l =
    record l { holds = λ p a. if p == processor && a == address then held else l.holds p a }

abbrev pub waits_in : ℕ → Option ℕ → Bool
waits_in block None = false
waits_in block (Some b) = b == block

abbrev awake : ℕ → Ledger → Ledger
awake block l = record l { waits = λ p. if waits_in block (l.waits p) then None else l.waits p }

abbrev waiting : ℕ → ℕ → Ledger → Ledger
waiting processor block l =
    record l { waits = λ p. if p == processor then Some block else l.waits p }

abbrev pub released : ℕ → ℕ → Bool → Ledger → Ledger
released processor address ul l =
    let after = holding processor address false l in
    if ul then awake (block_of address) after else after

-- a done command
abbrev pub done_by : ℕ → ℕ → Bool → Command → Ledger → Ledger
done_by processor address ul (W word) l = entered address word l
done_by processor address ul (DW word) l =
    if address % 4 == 0 then block_entered address word l else entered address word l
done_by processor address ul RP l = purged (block_of address) l
done_by processor address ul RB l = if address % 4 == 3 then purged (block_of address) l else l
done_by processor address ul LR l = holding processor address true l
done_by processor address ul (UW word) l = released processor address ul (entered address word l)
done_by processor address ul U l = released processor address ul l
done_by processor address ul c l = l

abbrev pub command_fed : Request → Result Answer Refusal → Ledger → Ledger
command_fed q (Ok (Done done)) l = done_by q.processor q.address done.ul q.command l
command_fed q (Ok (Wait hit)) l = waiting q.processor (block_of q.address) l
command_fed q (Err refusal) l = l

-- all else changes nothing
abbrev pub fed : Call → Said → Ledger → Ledger
fed (command q) (answered r) l = command_fed q r l
fed call said l = l
