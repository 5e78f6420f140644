use Rattle.std.proofs.Common.{◌∙◌}
use Rattle.memory.proofs.Lists.{any_listed}
use Rattle.memory.proofs.dead.DeadList.contains.Goals as goal

pub returns : goal.returns
returns c = c.contains.ensures.value ∙ any_listed c.args.block c.args.self.now.blocks
