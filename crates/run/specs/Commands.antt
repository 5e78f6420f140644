-- A run is a list of commands, issued one after another.
use Rattle.std.specs.Prelude.{◌≡◌, List, [], map, Ok, Err, Result}
use Rattle.protocol.specs.declared.measures.Measures.{Measures}
use Rattle.protocol.specs.declared.refusal.Refusal.{Refusal}
use Rattle.law.specs.Accounts.{left_along, said_along}
use Rattle.cluster.specs.Board.{Board}
use Rattle.law.specs.Calls.{Call, command, answered}
use Rattle.trace.specs.declared.record.Record.{Record}
use Rattle.trace.specs.Traces.{Content}
use Rattle.text.specs.declared.step.Step.{Step}
use Rattle.run.specs.Running.{started, steps_of}

-- the steps of a run of these records from a board
abbrev pub steps_over : Measures → Board → List Record → List Step
steps_over m b records = steps_of m records (started records b)

-- the steps of a trace's run from a board; none if the trace is refused
abbrev pub steps_on : Measures → Board → Result Content Refusal → List Step
steps_on m b (Ok trace) = steps_over m b trace.records
steps_on m b (Err refusal) = []

-- the command that each step issues
abbrev pub issued : List Step → List Call
issued steps = map (λ step. command step.request) steps

-- the steps leave what their commands leave, and show what these are answered
pub record AsCommands (m : Measures) (before after : Board) (steps : List Step) : Type 0 where
  pub left : after ≡ left_along m before (issued steps)
  pub answers : map (λ step. answered step.answer) steps ≡ said_along m before (issued steps)

-- the same of a run of these records
abbrev pub RunAsCommands : Measures → Board → Board → List Record → Type 0
RunAsCommands m before after records = AsCommands m before after (steps_over m before records)
