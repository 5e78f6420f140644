use Rattle.law.proofs.Lawful.{law_holds}
use Rattle.law.proofs.law.law_holds.Goals as goal

pub returns : goal.returns
returns c = law_holds
