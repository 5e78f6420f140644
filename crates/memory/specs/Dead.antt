-- Lists of at most 16 dead blocks.
use Rattle.std.specs.Prelude.{ℕ, ◌-◌, Bool, false, ◌||◌, List, [], ◌∷◌, ◌++◌, map, length, replicate, Some, None, Option, ◌==◌}

abbrev pub names : Option ℕ → ℕ → Bool
names None block = false
names (Some dead) block = dead == block

abbrev pub listed : List (Option ℕ) → ℕ → Bool
listed [] block = false
listed (entry ∷ entries) block = names entry block || listed entries block

-- the numbers in their order, then places that name nothing
abbrev pub filled : List ℕ → List (Option ℕ)
filled numbers = map Some numbers ++ replicate (16 - length numbers) None
