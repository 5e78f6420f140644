-- What a policy names once it was told a list of things.
use Rattle.std.proofs.Common.{◌≡◌, ℕ, List, [], ◌∷◌, refl}
use Rattle.policy.specs.declared.policy.Telling.{Telling}
use Rattle.policy.specs.Meaning.{Choice, told}
use Rattle.test_policies.specs.Telling.{told_all}

pub names_told : (c : Choice) (tellings : List Telling) (processor column : ℕ)
    → (told_all c tellings).names [] processor column ≡ c.names tellings processor column
names_told c [] processor column = refl
names_told c (t ∷ tellings) processor column = names_told (told t c) tellings processor column
