use Rattle.std.proofs.Common.{◌≡◌, ◌≤◌, take}
use Rattle.upkeep.specs.Counting.{count_in}
use Rattle.upkeep.proofs.census.count.Given as goal

-- the lines so far are counted
abbrev pub invariant-loop-line : goal.invariant-loop-line
invariant-loop-line l =
    (l.n ≡ count_in l.state (take l.line-index l.lines)) × (l.n ≤ l.line-index)
