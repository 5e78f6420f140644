use Rattle.std.proofs.Common.{◌≡◌, length, take, drop, None, flat_map}
use Rattle.trace.specs.Records.{encoded}
use Rattle.trace.specs.Written.{HasPut}
use Rattle.trace.specs.Writing.{written, first_refusal}
use Rattle.trace.proofs.writing.write_trace.Given as goal

-- the records so far are in the output, and none of those left is refused
abbrev pub invariant-loop-record : goal.invariant-loop-record
invariant-loop-record l =
    let w = l.writer in
    (w.processors ≡ l.initial.writer.processors)
    × (w.count ≡ l.record-index)
    × (first_refusal w.processors w.count w.stamp (length l.output) (drop l.record-index l.records)
    ≡ None)
    × (l.output ≡ written l.initial.output 0 (flat_map encoded (take l.record-index l.records)))
    × HasPut w l.output (take l.record-index l.records)
