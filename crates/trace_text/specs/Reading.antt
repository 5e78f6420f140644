-- What reading gives, as a trace's content.
use Rattle.std.specs.Prelude.{◌≡◌, ℕ, ◌+◌, ◌*◌, ◌≤◌, List, length, Ok}
use Rattle.trace.specs.Traces.{Content}
use Rattle.trace.specs.Writing.{write_rule}
use Rattle.trace_text.specs.declared.reading.TraceRecords.{TraceRecords}

abbrev pub content_in : TraceRecords → Content
content_in read = record { processors = read.processors; records = read.records.items }

-- an output that has room for the records and the trailer takes them as a trace
abbrev pub MayBeWritten : TraceRecords → Type 0
MayBeWritten read =
    let size = length read.records.items * 16 + 8 in
    (output : List ℕ) → size ≤ length output
    → (write_rule output read.processors read.records.items).answer ≡ Ok size
