use Rattle.std.proofs.Common.{◌≡◌, ◌++◌, take, vec_items}
use Rattle.counting.specs.Report.{rows_from}
use Rattle.counting.proofs.report.put_rows.Given as goal

-- the rows of the processors before
abbrev pub invariant-loop-p : goal.invariant-loop-p
invariant-loop-p l = vec_items l.out ≡ vec_items l.initial.out ++ rows_from 0 (take l.p l.rows)
