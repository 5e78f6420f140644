-- What the run of a recipe's trace comes to.
use Rattle.std.specs.Prelude.{◌≡◌, ℕ, ◌*◌, ◌<◌, ◌≤◌, Bool, true, false, List, length, Ok, Err, Result}
use Rattle.std.specs.List.{list_all}
use Rattle.protocol.specs.declared.answer.Answer.{Answer}
use Rattle.protocol.specs.declared.answer.Answer.TheVariants.{Done, Wait}
use Rattle.protocol.specs.declared.geometry.Geometry.{Geometry}
use Rattle.protocol.specs.declared.measures.Measures.{Measures}
use Rattle.protocol.specs.declared.refusal.Refusal.{Refusal}
use Rattle.memory.specs.Meaning.{Mem, Lawful}
use Rattle.cluster.specs.Board.{Board, new_board}
use Rattle.text.specs.declared.step.Step.{Step}
use Rattle.trace.specs.declared.record.Record.{Record}
use Rattle.run.specs.Running.{started, steps_of, end_of, summary_of}

abbrev pub is_done : Result Answer Refusal → Bool
is_done (Ok (Done done)) = true
is_done (Ok (Wait hit)) = false
is_done (Err refusal) = false

abbrev pub step_done : Step → Bool
step_done step = is_done step.answer

-- the run from a board leaves no record and has a step for each, none of them refused or waiting
pub record AllDone (m : Measures) (b : Board) (records : List Record) : Type 0 where
  pub none_left : (summary_of m records (end_of m b records)).left ≡ 0
  pub all_done : list_all step_done (steps_of m records (started records b)) ≡ true
  pub as_many : length (steps_of m records (started records b)) ≡ length records

-- from every new cluster with so many processors, over every lawful memory of live blocks that has
-- so many words at least
abbrev pub RunsThrough : ℕ → ℕ → List Record → Type 0
RunsThrough words processors records =
    (g : Geometry) → g.measures.processors ≡ processors
    → (mem : Mem) → Lawful mem → words ≤ 4 * mem.count
    → ((block : ℕ) → block < mem.count → mem.live block ≡ true)
    → AllDone g.measures (new_board g.measures mem) records
