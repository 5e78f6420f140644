-- The census: how many lines of each processor are in each state.
use Rattle.std.specs.Prelude.{ℕ, zero, suc, ◌+◌, ◌-◌, Bool, if◌then◌else◌, List, [], ◌∷◌, length, take, drop, count_by, replicate, ◌==◌, nat_lt, slice_index, Ok, Err, Result}
use Rattle.protocol.specs.declared.line.Line.{Line}
use Rattle.protocol.specs.declared.measures.Measures.{Measures}
use Rattle.protocol.specs.declared.refusal.Refusal.{Refusal}
use Rattle.protocol.specs.declared.refusal.Refusal.TheVariants.{TableLength}
use Rattle.protocol.specs.declared.state.State.{State}
use Rattle.protocol.specs.declared.state.State.TheVariants.{I, S, SM, EC, EM}
use Rattle.protocol.specs.StateTable.{column_for}
use Rattle.protocol.specs.Places.{line_count, window_start}
use Rattle.cluster.specs.Board.{Board}

abbrev pub stands : State → Line → Bool
stands state line = column_for line.state == column_for state

unfoldable pub count_in : State → List Line → ℕ
count_in state lines = count_by (stands state) lines

-- EM, EC, SM, S, I
abbrev pub row_of : List Line → List ℕ
row_of lines =
    count_in EM lines ∷ (count_in EC lines ∷ (count_in SM lines
    ∷ (count_in S lines ∷ (count_in I lines ∷ []))))

-- a processor's lines reach to the first of the next processor
abbrev pub first_line : Measures → ℕ → ℕ
first_line m processor = window_start m processor 0

abbrev pub cache_of : Measures → List Line → ℕ → List Line
cache_of m lines processor =
    let start = first_line m processor in
    take (first_line m (processor + 1) - start) (drop start lines)

-- a processor that the geometry does not have has a row of zeros
unfoldable pub row_at : Measures → List Line → ℕ → List ℕ
row_at m lines processor =
    if nat_lt processor m.processors then row_of (cache_of m lines processor) else replicate 5 0

abbrev pub rows_from : Measures → List Line → ℕ → ℕ → List (List ℕ)
rows_from m lines processor zero = []
rows_from m lines processor (suc n) = row_at m lines processor ∷ rows_from m lines (processor + 1) n

abbrev pub census_of : Measures → List Line → List (List ℕ)
census_of m lines = rows_from m lines 0 8

abbrev pub lines_fit : Measures → List Line → Bool
lines_fit m lines = length lines == line_count m

-- a line table of another length is refused
abbrev pub census_rule : Measures → Board → Result (List (List ℕ)) Refusal
census_rule m b = if lines_fit m b.lines then Ok (census_of m b.lines) else Err TableLength

-- the modified lines that a census counts: EM and SM of all rows
abbrev pub modified_in : List (List ℕ) → ℕ
modified_in [] = 0
modified_in (row ∷ rows) = slice_index row 0 + slice_index row 2 + modified_in rows
