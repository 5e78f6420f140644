-- The listing of a trace, byte for byte.
use Rattle.std.specs.Prelude.{ℕ, if◌then◌else◌, List, [], ◌∷◌, ◌++◌, length, replicate, Ok, Err, Result, nat_lt}
use Rattle.protocol.specs.declared.measures.Measures.{Measures}
use Rattle.protocol.specs.declared.refusal.Refusal.{Refusal}
use Rattle.protocol.specs.declared.refusal.Refusal.TheVariants as refusal
use Rattle.memory.specs.Meaning.{Mem}
use Rattle.memory.specs.Words.{table_of}
use Rattle.cluster.specs.Board.{new_board}
use Rattle.text.specs.declared.step.Step.{Step}
use Rattle.text.specs.Lines.{line_of, summary_lines, refusal_line}
use Rattle.trace.specs.declared.record.Record.{Record}
use Rattle.trace.specs.Traces.{Content, trace_of}
use Rattle.run.specs.Board.{listing_measures}
use Rattle.run.specs.Running.{Running, started, steps_of, ran, summary_of}

abbrev pub lines_of : List Step → List ℕ
lines_of [] = []
lines_of (step ∷ steps) = line_of step ++ lines_of steps

-- the lines of all steps of a run, and its summary
unfoldable pub all_lines : Measures → List Record → Running → List ℕ
all_lines m records s =
    lines_of (steps_of m records s) ++ summary_lines (summary_of m records (ran m records s))

-- the run of records on a new board over a memory
abbrev pub listing_on : Measures → Mem → List Record → List ℕ
listing_on m mem records = all_lines m records (started records (new_board m mem))

-- a new cluster with the trace's processors, over 1,024 words, all 0
abbrev pub run_lines : Content → List ℕ
run_lines trace =
    listing_on (listing_measures trace.processors) (table_of (replicate 1024 0)) trace.records

abbrev listed : Result Content Refusal → List ℕ
listed (Ok trace) = run_lines trace
listed (Err refusal) = refusal_line refusal

-- an input of over 65,536 bytes counts as one with a wrong trailer
abbrev pub listing_of : List ℕ → List ℕ
listing_of input =
    if nat_lt 65536 (length input) then refusal_line refusal.Trailer else listed (trace_of input)
