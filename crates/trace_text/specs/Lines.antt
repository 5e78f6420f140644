-- The lines of a text, and the fields of a line.
use Rattle.std.specs.Prelude.{ℕ, ◌+◌, Bool, true, false, if◌then◌else◌, ◌||◌, List, [], ◌∷◌, ◌++◌, ◌==◌, filter}
use Rattle.text.specs.Lines.{field, last_field}
use Rattle.trace_text.specs.Parts.{parts}

-- byte 10 ends a line; behind the last one, bytes that it does not end are a line too
abbrev pub lines_of : List ℕ → List (List ℕ)
lines_of text = parts 10 text

abbrev pub is_filled : List ℕ → Bool
is_filled [] = false
is_filled (byte ∷ bytes) = true

-- one or more spaces stand between fields; those before the first and behind the last are no part of one
abbrev pub fields_of : List ℕ → List (List ℕ)
fields_of line = filter is_filled (parts 32 line)

abbrev pub is_comment : List ℕ → Bool
is_comment [] = false
is_comment (byte ∷ bytes) = byte == 35

abbrev pub no_fields : List (List ℕ) → Bool
no_fields [] = true
no_fields (first ∷ later) = false

-- a comment begins with #; a blank line has no field
abbrev pub is_passed_over : List ℕ → Bool
is_passed_over line = is_comment line || no_fields (fields_of line)

pub record Numbered : Type 0 where
  pub number : ℕ
  pub text : List ℕ

-- the lines that are not passed over, each with its number; the first of all has this one
abbrev pub written : ℕ → List (List ℕ) → List Numbered
written number [] = []
written number (line ∷ lines) =
    if is_passed_over line then written (number + 1) lines
    else record { number = number; text = line } ∷ written (number + 1) lines

-- the line that is written for some fields: one space between them, and byte 10 behind the last
abbrev pub line_of : List (List ℕ) → List ℕ
line_of [] = 10 ∷ []
line_of (text ∷ []) = last_field text
line_of (text ∷ (next ∷ later)) = field text ++ line_of (next ∷ later)
