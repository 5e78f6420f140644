-- The lines of a listing.
use Rattle.std.specs.Prelude.{ℕ, ◌-◌, if◌then◌else◌, List, [], ◌∷◌, length, take, drop, Option, ◌==◌, slice_get, slice_index}

-- a byte in front of the first line
abbrev pub in_front : ℕ → List (List ℕ) → List (List ℕ)
in_front b [] = (b ∷ []) ∷ []
in_front b (line ∷ lines) = (b ∷ line) ∷ lines

-- each line with the byte 10 that ends it; the bytes behind the last byte 10 are a line without one
abbrev pub lines_in : List ℕ → List (List ℕ)
lines_in [] = []
lines_in (b ∷ bytes) = if b == 10 then (b ∷ []) ∷ lines_in bytes else in_front b (lines_in bytes)

-- the line that begins at a place, if there is one
abbrev pub line_from : ℕ → List ℕ → Option (List ℕ)
line_from start listing = slice_get (lines_in (drop start listing)) 0

-- a line without its byte 10
abbrev pub text_of : List ℕ → List ℕ
text_of line =
    let before = length line - 1 in
    if slice_index line before == 10 then take before line else line
