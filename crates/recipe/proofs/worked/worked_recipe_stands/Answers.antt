use Rattle.std.proofs.Common.{refl}
use Rattle.recipe.specs.Draws.{records_for, records_drawn}
use Rattle.recipe.proofs.worked.worked_recipe_stands.Goals as goal

pub returns : goal.returns
unfolding records_for records_drawn
returns c = record { number = refl; first = refl }
