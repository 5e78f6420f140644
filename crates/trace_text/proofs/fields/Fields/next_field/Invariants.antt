use Rattle.std.proofs.Common.{◌≡◌, length}
use Rattle.trace_text.specs.Lines.{fields_of}
use Rattle.trace_text.proofs.fields.Fields.next_field.Given as goal

abbrev pub invariant-loop-part : goal.invariant-loop-part
invariant-loop-part l = fields_of l.self.rest.now ≡ fields_of l.initial.self.rest.now

abbrev pub decreases-loop-part : goal.decreases-loop-part
decreases-loop-part l = length l.self.rest.now
