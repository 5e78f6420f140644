-- What a run keeps, in the words of its rule.
use Rattle.std.specs.Prelude.{◌≡◌, ℕ, ◌+◌, ◌<◌, ◌≤◌, Bool, if◌then◌else◌, ◌&&◌, List, length, Some, None, Option, Result, nat_le, nat_lt, slice_index, slice_set}
use Rattle.std.specs.Option.{option_map}
use Rattle.protocol.specs.declared.answer.Answer.{Answer}
use Rattle.protocol.specs.declared.measures.Measures.{Measures}
use Rattle.protocol.specs.declared.refusal.Refusal.{Refusal}
use Rattle.cluster.specs.Board.{Board}
use Rattle.trace.specs.declared.record.Record.{Record}
use Rattle.trace.specs.Traces.{records_of, next_of, when_some}
use Rattle.text.specs.declared.step.Step.{Step}
use Rattle.text.specs.declared.step.Summary.{Summary}
use Rattle.run.specs.declared.run.Run.{Run}
use Rattle.run.specs.Answered.{finishes_record}
use Rattle.run.specs.Running.{Running, how_many, request_at, due, stepped, shown, to_go, run_from, ran, started}

abbrev pub records_for : Run → List Record
records_for run = records_of run.trace.records.now

-- all records of a processor before its index are finished, and no later ones
abbrev pub unfinished_by : List Record → List ℕ → ℕ → Bool
unfinished_by records next i =
    nat_lt i (length records) && nat_le (slice_index next (request_at records i).processor) i

unfoldable pub is_left : Run → ℕ → Bool
is_left run i = unfinished_by (records_for run) run.next i

abbrev pub left_by : Run → ℕ
left_by run = how_many (unfinished_by (records_for run) run.next) 0 (length (records_for run))

-- what a run has come to
abbrev pub summary_by : Run → Summary
summary_by run = record { steps = run.steps; cycles = run.cycles; left = left_by run }

abbrev pub state_of : Run → Board → Running
state_of run b =
    record {
      board = b;
      unfinished = unfinished_by (records_for run) run.next;
      steps = run.steps;
      cycles = run.cycles;
    }

-- a run that has just been started
abbrev pub AtFirst : Run → Type 0
AtFirst run = (b : Board) → state_of run b ≡ started (records_for run) b

module _ (m : Measures) (run : Run) (b : Board) where
  abbrev here : Running
  here = state_of run b

  -- the step that a run takes next, if it takes one
  abbrev pub next_step : Option Step
  next_step = option_map (shown m (records_for run) here) (due m (records_for run) here)

  -- what the run has then
  abbrev pub after_step : Running
  after_step = when_some (due m (records_for run) here) (stepped m (records_for run) here) here

  -- what the run has at its end
  abbrev pub ran_on : Running
  ran_on = ran m (records_for run) here

  abbrev pub to_go_on : ℕ
  to_go_on = to_go m (records_for run) here

  -- a step leaves less to go
  abbrev pub Falls : Type 0
  Falls = to_go m (records_for run) after_step < to_go_on

-- no processor that does not wait has an earlier index
abbrev pub Earliest : (ℕ → Option ℕ) → List ℕ → ℕ → Option ℕ → Type 0
Earliest waits next count None = (q : ℕ) → q < 8 → waits q ≡ None → count ≤ slice_index next q
Earliest waits next count (Some p) =
    (p < 8) × (waits p ≡ None) × (slice_index next p < count)
    × ((q : ℕ) → q < 8 → waits q ≡ None → slice_index next p ≤ slice_index next q)

-- a processor whose record is finished goes on to its next one
abbrev pub next_after : List ℕ → List ℕ → ℕ → ℕ → Result Answer Refusal → List ℕ
next_after bytes next processor index answer =
    if finishes_record answer
    then slice_set next processor (next_of processor (index + 1) bytes)
    else next

-- a run on its way: so many steps are enough, and they lead to the end that it had at first
pub record Going (m : Measures) (records : List Record) (first now : Running) (fuel : ℕ) : Type 0 where
  pub enough : to_go m records now ≤ fuel
  pub same_end : run_from m records fuel now ≡ ran m records first
  pub few : now.steps + to_go m records now ≤ 999999999
