use Rattle.std.proofs.Common.{◌≡◌, ◌≤◌, length}
use Rattle.trace_text.specs.Left.{lines_left, number_behind}
use Rattle.trace_text.proofs.lines.Lines.next_written.Given as goal

-- the lines so far are passed over
abbrev pub invariant-loop-text : goal.invariant-loop-text
invariant-loop-text l =
    (lines_left l.self ≡ lines_left l.initial.self)
    × (number_behind l.self ≡ number_behind l.initial.self)
    × (length l.self.rest.now ≤ length l.initial.self.rest.now)

abbrev pub decreases-loop-text : goal.decreases-loop-text
decreases-loop-text l = length l.self.rest.now
