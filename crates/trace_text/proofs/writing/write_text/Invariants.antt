use Rattle.std.proofs.Common.{◌≡◌, ◌++◌, flat_map}
use Rattle.trace.specs.Traces.{records_of}
use Rattle.trace_text.specs.Texts.{record_line}
use Rattle.trace_text.proofs.Law.{AllInRange}
use Rattle.trace_text.proofs.writing.write_text.Given as goal

-- the text so far and the lines of the records that are left; the numbers of the records so far fit
abbrev pub invariant-loop-record : goal.invariant-loop-record
invariant-loop-record l =
    let left = records_of l.record-iterator.bytes.now in
    let all = records_of l.initial.record-iterator.bytes.now in
    (l.text.items ++ flat_map record_line left ≡ l.initial.text.items ++ flat_map record_line all)
    × (AllInRange left → AllInRange all)
