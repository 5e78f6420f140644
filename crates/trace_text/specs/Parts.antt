-- The parts of some bytes between separators.
use Rattle.std.specs.Prelude.{ℕ, zero, suc, if◌then◌else◌, List, [], ◌∷◌, ◌==◌}

-- a byte in front of the first of some parts
abbrev pub in_front : ℕ → List (List ℕ) → List (List ℕ)
in_front byte [] = (byte ∷ []) ∷ []
in_front byte (part ∷ later) = (byte ∷ part) ∷ later

-- each part is ended by the separator, or by the end of the bytes
abbrev pub parts : ℕ → List ℕ → List (List ℕ)
parts separator [] = []
parts separator (byte ∷ bytes) =
    if byte == separator then [] ∷ parts separator bytes else in_front byte (parts separator bytes)

-- where a separator first stands, or the number of bytes
abbrev pub place_of : ℕ → List ℕ → ℕ
place_of separator [] = zero
place_of separator (byte ∷ bytes) = if byte == separator then zero else suc (place_of separator bytes)
