use Rattle.law.proofs.Told.{locks_told}
use Rattle.law.proofs.accounts.locks_are_told.Goals as goal

pub returns : goal.returns
returns c = locks_told
