use Rattle.std.proofs.Common.{◌≡◌, ℕ, ◌+◌, ◌-◌, ◌≤◌, List, length, drop}
use Rattle.judging.specs.Lines.{lines_in}
use Rattle.judging.specs.Verdicts.{verdict_from, verdict_of}
use Rattle.judging.proofs.comparing.compare.Given as goal

-- the lines from the place on give the verdict
pub record Invariant (line start : ℕ) (ours theirs : List ℕ) : Type 0 where
  pub verdict :
      verdict_from line start (lines_in (drop start ours)) (lines_in (drop start theirs))
      ≡ verdict_of ours theirs
  pub inside : start ≤ length ours
  pub few : line ≤ start + 1

abbrev pub invariant-loop-our_line : goal.invariant-loop-our_line
invariant-loop-our_line l = Invariant l.line l.start l.ours l.theirs

abbrev pub decreases-loop-our_line : goal.decreases-loop-our_line
decreases-loop-our_line l = length l.ours - l.start
