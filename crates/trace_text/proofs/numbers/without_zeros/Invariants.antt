use Rattle.std.proofs.Common.{◌≡◌, length}
use Rattle.trace_text.specs.Numbers.{without_zeros}
use Rattle.trace_text.proofs.numbers.without_zeros.Given as goal

abbrev pub invariant-loop-rest : goal.invariant-loop-rest
invariant-loop-rest l = without_zeros l.rest ≡ without_zeros l.digits

abbrev pub decreases-loop-rest : goal.decreases-loop-rest
decreases-loop-rest l = length l.rest
