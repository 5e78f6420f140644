-- The rule of the command call: its answer, and all that it leaves.
use Rattle.std.specs.Prelude.{ℕ, if◌then◌else◌, length, Some, None, Ok, Option, slice_index_or, slice_set}
use Rattle.protocol.specs.declared.answer.Answer.{Answer}
use Rattle.protocol.specs.declared.answer.Answer.TheVariants.{Done, Wait}
use Rattle.protocol.specs.declared.command.Request.{Request}
use Rattle.protocol.specs.declared.measures.Measures.{Measures}
use Rattle.protocol.specs.declared.refusal.Refusal.TheVariants.{TableLength}
use Rattle.memory.specs.Meaning.{Mem}
use Rattle.cluster.specs.declared.case.Case.{Case}
use Rattle.cluster.specs.declared.supply.Supply.{Supply}
use Rattle.cluster.specs.declared.ways.Taken.{Taken}
use Rattle.cluster.specs.Board.{Board, Outcome, refusing, unless_err}
use Rattle.cluster.specs.Doing.{lock_hit, supplied, victim_of, swapped_out, memory_after}
use Rattle.cluster.specs.Finishing.{way_taken, lines_after, processors_after, completed}
use Rattle.cluster.specs.Locks.{waited_for}
use Rattle.cluster.specs.Making.{resting, tables_fit}
use Rattle.cluster.specs.Refusing.{case_of}
use Rattle.cluster.specs.Settling.{locks_settled}
use Rattle.cluster.specs.Waiting.{waiting_for}

abbrev pub unless_some : (ℕ → Outcome Answer) → Option ℕ → Outcome Answer → Outcome Answer
unless_some hit None go = go
unless_some hit (Some holder) go = hit holder

module _ (m : Measures) (b : Board) where
  -- the processor waits for the block, and the others' locks in it become LW
  abbrev pub waiting : Case → ℕ → Outcome Answer
  waiting c holder =
      let asking = slice_index_or b.processors c.processor resting in
      record {
        answer = Ok (Wait (record {
          holder = holder;
          found = c.found;
          cycles = m.costs.lock_signal;
        }));
        board = record {
          processors = slice_set b.processors c.processor (waiting_for asking c.block);
          lines = b.lines;
          locks = waited_for m b.locks c.processor c.block;
          memory = b.memory;
        };
      }

  abbrev pub finishing : Case → Supply → Option Taken → Option ℕ → Mem → Outcome Answer
  finishing c s taken swapped after =
      record {
        answer = Ok (Done (completed m b.locks c s swapped));
        board = record {
          processors = processors_after m b.processors b.locks c taken;
          lines = lines_after m b.lines c s taken;
          locks = locks_settled c.command c.address b.locks c.entry;
          memory = after;
        };
      }

  -- the victim is written before the tables change
  abbrev pub swapping : Case → Supply → Outcome Answer
  swapping c s =
      let taken = way_taken m b.processors b.lines c in
      let victim = victim_of b.lines taken in
      unless_err b (swapped_out b.memory victim)
      (λ swapped. finishing c s taken swapped (memory_after b.memory victim))

  -- the block is read before the victim is written
  abbrev pub supplying : Case → Outcome Answer
  supplying c = unless_err b (supplied m b.lines b.memory c) (swapping c)

  abbrev pub proceeding : Case → Outcome Answer
  proceeding c = unless_some (waiting c) (lock_hit c) (supplying c)

  abbrev pub meeting : Request → Outcome Answer
  meeting q = unless_err b (case_of m b.processors b.lines b.locks b.memory.count q) proceeding

  abbrev pub command_rule : Request → Outcome Answer
  command_rule q =
      if tables_fit m (length b.lines) (length b.locks) then meeting q else refusing b TableLength
