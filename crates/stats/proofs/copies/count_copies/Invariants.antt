use Rattle.std.proofs.Common.{◌≡◌, take}
use Rattle.stats.specs.Copies.{copy_in, all_counted}
use Rattle.stats.proofs.copies.count_copies.Given as goal

abbrev pub invariant-loop-line : goal.invariant-loop-line
invariant-loop-line l = l.copies ≡ all_counted copy_in l.initial.copies (take l.line-index l.lines)
