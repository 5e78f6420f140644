use Rattle.std.proofs.Common.{refl}
use lib.Count.{ones, ones_in}
use Rattle.protocol.proofs.geometry.Geometry.standard.Goals as goal

pub invariant_of-result-clause-power_of_two : goal.invariant_of-result-clause-power_of_two
unfolding ones ones_in
invariant_of-result-clause-power_of_two c = refl
