use Rattle.std.proofs.Common.{◌≡◌, Some, take, replicate}
use Rattle.stats.specs.Copies.{all_counted}
use Rattle.stats.proofs.copies.count_numbers.Given as goal

abbrev pub invariant-loop-number : goal.invariant-loop-number
invariant-loop-number l = l.counts ≡ all_counted Some (replicate 9 0) (take l.number-index l.numbers)
