use Rattle.std.proofs.Common.{◌≡◌, ◌+◌, ◌*◌, take, drop, None}
use Rattle.trace.specs.Sizes.{records_in}
use Rattle.trace.specs.Traces.{wrong_from}
use Rattle.trace.specs.Writing.{written}
use Rattle.trace.proofs.copying.copy_trace.Given as goal

-- the records so far are in the output, and those left may follow
abbrev pub invariant-loop-record : goal.invariant-loop-record
invariant-loop-record l =
    let bytes = l.initial.record-iterator.bytes.now in
    let rest = l.record-iterator.bytes.now in
    let i = l.writer.count in
    (l.writer.processors ≡ l.initial.writer.processors)
    × (i + records_in rest ≡ records_in bytes)
    × (rest ≡ drop (i * 16) bytes)
    × (l.output ≡ written l.initial.output 0 (take (i * 16) bytes))
    × (wrong_from l.writer.processors l.writer.stamp i (records_in rest) rest ≡ None)
