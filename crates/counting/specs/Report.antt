-- The census of a run, byte for byte.
use Rattle.std.specs.Prelude.{ℕ, ◌+◌, if◌then◌else◌, List, [], ◌∷◌, ◌++◌, length, take, replicate, Ok, Err, Result, codes, nat_lt, slice_index}
use Rattle.protocol.specs.declared.measures.Measures.{Measures}
use Rattle.protocol.specs.declared.refusal.Refusal.{Refusal}
use Rattle.protocol.specs.declared.refusal.Refusal.TheVariants as refusal
use Rattle.protocol.specs.Numbers.{number_of}
use Rattle.memory.specs.Meaning.{Mem}
use Rattle.memory.specs.Words.{table_of}
use Rattle.cluster.specs.Board.{Board, new_board}
use Rattle.upkeep.specs.declared.drain.Drained.{Drained}
use Rattle.upkeep.specs.Counting.{census_of, modified_in}
use Rattle.upkeep.specs.Draining.{drain_rule}
use Rattle.text.specs.Digits.{fixed}
use Rattle.text.specs.Lines.{field, last_field, refusal_line}
use Rattle.trace.specs.declared.record.Record.{Record}
use Rattle.trace.specs.Traces.{Content, trace_of}
use Rattle.run.specs.Board.{listing_measures}
use Rattle.run.specs.Running.{end_of}

abbrev pub count_shown : List ℕ → ℕ → List ℕ
count_shown row state = fixed 10 4 (slice_index row state)

-- the processor, and its lines in EM, EC, SM, S and I in four digits each
abbrev pub row_line : ℕ → List ℕ → List ℕ
row_line processor row =
    field (fixed 10 1 processor) ++ (field (count_shown row 0) ++ (field (count_shown row 1)
    ++ (field (count_shown row 2) ++ (field (count_shown row 3) ++ last_field (count_shown row 4)))))

-- a line a row, numbered from a processor on
abbrev pub rows_from : ℕ → List (List ℕ) → List ℕ
rows_from processor [] = []
rows_from processor (row ∷ rows) = row_line processor row ++ rows_from (processor + 1) rows

abbrev pub modified_line : List (List ℕ) → List ℕ
modified_line rows = field (codes "MODIFIED") ++ last_field (fixed 10 4 (modified_in rows))

-- the blocks that a drain writes, and their cycles; or the number of what stopped it
abbrev pub drained_line : Result Drained Refusal → List ℕ
drained_line (Ok d) =
    field (codes "DRAINED") ++ (field (fixed 10 4 d.blocks) ++ last_field (fixed 10 12 d.cycles))
drained_line (Err r) = field (codes "DRAINED") ++ last_field (fixed 10 2 (number_of r))

-- a title, a line for each processor of the geometry, the modified lines, and what a drain writes
unfoldable pub report_of : Measures → Board → List ℕ
report_of m b =
    let rows = census_of m b.lines in
    last_field (codes "P EM   EC   SM   S    I")
    ++ (rows_from 0 (take m.processors rows)
    ++ (modified_line rows ++ drained_line (drain_rule m b).answer))

-- after the run of records on a new board over a memory
abbrev pub counting_on : Measures → Mem → List Record → List ℕ
counting_on m mem records = report_of m (end_of m (new_board m mem) records).board

-- a new cluster with the trace's processors, over 1,024 words, all 0
abbrev counted : Result Content Refusal → List ℕ
counted (Ok trace) =
    counting_on (listing_measures trace.processors) (table_of (replicate 1024 0)) trace.records
counted (Err refusal) = refusal_line refusal

-- an input of over 65,536 bytes counts as one with a wrong trailer
abbrev pub counting_of : List ℕ → List ℕ
counting_of input =
    if nat_lt 65536 (length input) then refusal_line refusal.Trailer else counted (trace_of input)
