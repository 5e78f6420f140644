-- A run: the records of a trace issued one after another on a board.
use Rattle.std.specs.Prelude.{◌≡◌, ℕ, zero, suc, ◌+◌, ◌*◌, Bool, if◌then◌else◌, not, ◌&&◌, List, [], ◌∷◌, length, is_some, None, Ok, Err, Option, Result, ◌==◌, nat_lt, slice_index_or}
use Rattle.protocol.specs.declared.answer.Answer.{Answer}
use Rattle.protocol.specs.declared.command.Command.TheVariants.{R}
use Rattle.protocol.specs.declared.command.Request.{Request}
use Rattle.protocol.specs.declared.measures.Measures.{Measures}
use Rattle.protocol.specs.declared.refusal.Refusal.{Refusal}
use Rattle.protocol.specs.declared.refusal.Refusal.TheVariants.{TableLength}
use Rattle.protocol.specs.Finding.{lowest_from}
use Rattle.cluster.specs.Making.{tables_fit}
use Rattle.cluster.specs.Board.{Board, Outcome, refusing}
use Rattle.cluster.specs.Rule.{command_rule}
use Rattle.cluster.specs.Waiting.{awaited_in, idle}
use Rattle.trace.specs.declared.record.Record.{Record}
use Rattle.trace.specs.Traces.{Content, trace_of, when_some}
use Rattle.text.specs.declared.step.Step.{Step}
use Rattle.text.specs.declared.step.Summary.{Summary}
use Rattle.run.specs.Answered.{cost_of, finishes_record}

-- what a run has between two steps; `unfinished` tells it for each record's index
pub record Running : Type 0 where
  pub board : Board
  pub unfinished : ℕ → Bool
  pub steps : ℕ
  pub cycles : ℕ

abbrev pub no_record : Record
no_record = record { stamp = 0; request = record { processor = 0; command = R; address = 0 } }

abbrev pub request_at : List Record → ℕ → Request
request_at records i = (slice_index_or records i no_record).request

-- how many of `count` numbers from `from` on pass the test
abbrev pub how_many : (ℕ → Bool) → ℕ → ℕ → ℕ
how_many test from zero = 0
how_many test from (suc count) = (if test from then 1 else 0) + how_many test (from + 1) count

module _ (m : Measures) (records : List Record) where
  -- the record is unfinished and its processor does not wait
  abbrev pub may_step : Running → ℕ → Bool
  may_step s i =
      let asking = (request_at records i).processor in
      s.unfinished i && not (is_some (awaited_in m s.board.processors asking))

  -- the earliest of these; a processor's earlier unfinished record comes before its later ones
  unfoldable pub due : Running → Option ℕ
  due s = lowest_from (may_step s) 0 (length records)

  abbrev pub outcome_at : Running → ℕ → Outcome Answer
  outcome_at s i = command_rule m s.board (request_at records i)

  -- WAIT leaves the record unfinished, every other answer finishes it
  unfoldable pub stepped : Running → ℕ → Running
  stepped s i =
      let o = outcome_at s i in
      record {
        board = o.board;
        unfinished = λ j. s.unfinished j && not (finishes_record o.answer && j == i);
        steps = s.steps + 1;
        cycles = s.cycles + cost_of o.answer;
      }

  unfoldable pub shown : Running → ℕ → Step
  shown s i =
      record {
        number = s.steps + 1;
        request = request_at records i;
        answer = (outcome_at s i).answer;
      }

  abbrev pub left : Running → ℕ
  left s = how_many s.unfinished 0 (length records)

  -- falls with every step, so that a run has no more steps than this
  abbrev pub to_go : Running → ℕ
  to_go s = m.processors * left s + idle m.processors s.board.processors

  -- at most n steps, as many as are possible
  unfoldable pub run_from : ℕ → Running → Running
  run_from zero s = s
  run_from (suc n) s = when_some (due s) (λ i. run_from n (stepped s i)) s

  unfoldable pub steps_from : ℕ → Running → List Step
  steps_from zero s = []
  steps_from (suc n) s = when_some (due s) (λ i. shown s i ∷ steps_from n (stepped s i)) []

  -- the run to its end, when no step is possible
  abbrev pub ran : Running → Running
  ran s = run_from (to_go s) s

  abbrev pub steps_of : Running → List Step
  steps_of s = steps_from (to_go s) s

  abbrev pub summary_of : Running → Summary
  summary_of s = record { steps = s.steps; cycles = s.cycles; left = left s }

-- before the first step every record is unfinished
abbrev pub started : List Record → Board → Running
started records b =
    record { board = b; unfinished = λ i. nat_lt i (length records); steps = 0; cycles = 0 }

module _ (m : Measures) (b : Board) where
  abbrev pub end_of : List Record → Running
  end_of records = ran m records (started records b)

  abbrev pub ran_all : List Record → Outcome Summary
  ran_all records =
      let end = end_of records in
      record { answer = Ok (summary_of m records end); board = end.board }

  abbrev ran_trace : Result Content Refusal → Outcome Summary
  ran_trace (Ok trace) = ran_all trace.records
  ran_trace (Err refusal) = refusing b refusal

  -- what a run of a trace answers, and what it leaves
  unfoldable pub run_rule : List ℕ → Outcome Summary
  run_rule bytes =
      if tables_fit m (length b.lines) (length b.locks)
      then ran_trace (trace_of bytes)
      else refusing b TableLength

  -- no record is due any more at the end
  abbrev pub Ended : Result Content Refusal → Type 0
  Ended (Ok trace) = due m trace.records (end_of trace.records) ≡ None
  Ended (Err refusal) = Unit {0}
