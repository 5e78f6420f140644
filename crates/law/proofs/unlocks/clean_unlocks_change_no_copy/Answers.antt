use Rattle.law.proofs.Unlocked.{unlocked}
use Rattle.law.proofs.unlocks.clean_unlocks_change_no_copy.Goals as goal

pub returns : goal.returns
returns c = unlocked
