use Rattle.std.proofs.Common.{◌≡◌, ◌≤◌, ◌+◌, ◌*◌, ◌^◌, drop}
use Rattle.upkeep.specs.Counting.{modified_in}
use Rattle.counting.proofs.report.modified.Given as goal

-- the lines counted so far and those of the rows to come are all
abbrev pub invariant-loop-row : goal.invariant-loop-row
invariant-loop-row l =
    (l.n + modified_in (drop l.row-index l.rows) ≡ modified_in l.rows) × (l.n ≤ l.row-index * 2 ^ 33)
