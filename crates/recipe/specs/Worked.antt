-- A recipe worked by hand: the first number drawn from 1 is 1,015,568,748.
use Rattle.std.specs.Prelude.{◌≡◌, [], ◌∷◌}
use Rattle.protocol.specs.declared.command.Command.TheVariants.{R}
use Rattle.recipe.specs.Draws.{drawn, records_of_recipe}

pub record WorkedRecipe : Type 0 where
  pub number : drawn 1 ≡ 1015568748
  -- R by 4 at 364
  pub first : records_of_recipe 1 1 1024 8
      ≡ record { stamp = 1; request = record { processor = 4; command = R; address = 364 } } ∷ []
