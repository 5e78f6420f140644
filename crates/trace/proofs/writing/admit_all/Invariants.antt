use Rattle.std.proofs.Common.{◌≡◌, length, drop}
use Rattle.trace.specs.Writing.{first_refusal}
use Rattle.trace.proofs.writing.admit_all.Given as goal

-- what is refused of the records left is what is refused of them all
abbrev pub invariant-loop-next : goal.invariant-loop-next
invariant-loop-next l =
    let w = l.trial in
    (w.processors ≡ l.initial.trial.processors)
    × (w.count ≡ l.next-index)
    × (first_refusal w.processors w.count w.stamp (length l.output) (drop l.next-index l.records)
    ≡ first_refusal l.initial.trial.processors 0 0 (length l.output) l.records)
