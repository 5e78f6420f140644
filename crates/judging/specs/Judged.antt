-- The steps of the run that a listing shows.
use Rattle.std.specs.Prelude.{◌≡◌, ℕ, ◌-◌, ◌/◌, ◌≤◌, slice_get, List, length}
use Rattle.std.specs.Option.{option_map}
use Rattle.protocol.specs.declared.measures.Measures.{Measures}
use Rattle.memory.specs.Meaning.{Mem}
use Rattle.cluster.specs.Board.{new_board}
use Rattle.text.specs.declared.step.Step.{Step}
use Rattle.text.specs.Lines.{line_of}
use Rattle.trace.specs.declared.record.Record.{Record}
use Rattle.run.specs.Running.{started, steps_of}
use Rattle.judging.specs.declared.comparing.Difference.{Difference}
use Rattle.judging.specs.Lines.{line_from}

-- the steps of records run on a new board over a memory
abbrev pub steps_on : Measures → Mem → List Record → List Step
steps_on m mem records = steps_of m records (started records (new_board m mem))

-- how many lines of 45 bytes there are, with fewer than 45 bytes behind them
abbrev pub steps_listed : List ℕ → ℕ
steps_listed listing = length listing / 45

-- a line whose number is not over the number of steps is the line of the step with this number
abbrev pub ShowsStep : List Step → List ℕ → Difference → Type 0
ShowsStep steps ours d =
    d.line ≤ length steps
    → line_from d.start ours ≡ option_map line_of (slice_get steps (d.line - 1))
