-- The parts of a case in an input, and the line above what a case gives.
use Rattle.std.specs.Prelude.{ℕ, ◌*◌, if◌then◌else◌, List, [], ◌∷◌, ◌++◌, length, take, drop, Option, Some, None, codes, nat_le}

-- the items behind a byte with their count, and what follows; none where they are not all there
abbrev pub counted : ℕ → List ℕ → Option (List ℕ × List ℕ)
counted width [] = None
counted width (count ∷ rest) =
    if nat_le (count * width) (length rest)
    then Some (take (count * width) rest, drop (count * width) rest)
    else None

abbrev pub heading : List ℕ → List ℕ
heading name = codes "== " ++ (name ++ (10 ∷ []))
