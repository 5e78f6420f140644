-- Changing each entry of a table by its place.
use Rattle.std.specs.Prelude.{ℕ, ◌+◌, List, [], ◌∷◌}

abbrev pub map_from : {X : Type 0} → (ℕ → X → X) → ℕ → List X → List X
map_from f at [] = []
map_from f at (x ∷ xs) = f at x ∷ map_from f (at + 1) xs
