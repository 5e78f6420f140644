use Rattle.std.proofs.Common.{◌≡◌, ◌++◌, length}
use Rattle.std.specs.Result.{result_map_both}
use Rattle.trace_text.specs.Left.{lines_left}
use Rattle.trace_text.specs.Texts.{records_in}
use Rattle.trace_text.proofs.reading.read_records.Given as goal

-- the records so far and those that the lines left are
abbrev pub invariant-loop-line : goal.invariant-loop-line
invariant-loop-line l =
    result_map_both (λ rs. l.records.items ++ rs) (λ n. n)
    (records_in l.processors l.last (length l.records.items) (lines_left l.lines))
    ≡ records_in l.processors 0 0 (lines_left l.initial.lines)

abbrev pub decreases-loop-line : goal.decreases-loop-line
decreases-loop-line l = length l.lines.rest.now
