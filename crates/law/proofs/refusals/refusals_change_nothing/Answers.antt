use Rattle.law.proofs.Unchanged.{unchanged}
use Rattle.law.proofs.refusals.refusals_change_nothing.Goals as goal

pub returns : goal.returns
returns c = unchanged
