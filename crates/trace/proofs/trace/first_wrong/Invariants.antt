use Rattle.std.proofs.Common.{◌≡◌, ◌-◌, ◌*◌, drop}
use Rattle.trace.specs.Sizes.{records_in}
use Rattle.trace.specs.Traces.{wrong_from}
use Rattle.trace.proofs.trace.first_wrong.Given as goal

-- what is left of the records gives the answer
abbrev pub invariant-loop-i : goal.invariant-loop-i
invariant-loop-i l =
    let n = records_in l.records in
    wrong_from l.processors l.stamp l.i (n - l.i) (drop (l.i * 16) l.records)
    ≡ wrong_from l.processors 0 0 n l.records
