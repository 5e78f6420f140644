-- The rows of a census, one behind another.
use Rattle.std.proofs.Common.{◌≡◌, ℕ, ◌+◌, true, refl, List, [], ◌∷◌, ◌++◌, length, sym, ap, ◌∙◌, append_assoc, append-nil, add-zero, arith}
use Rattle.std.proofs.lemmas.Bool.Decides.{nat_tests}
use Rattle.std.specs.Result.{result_unwrap_or}
use Rattle.protocol.specs.declared.measures.Measures.{Measures}
use Rattle.protocol.specs.Places.{line_count}
use Rattle.cluster.specs.Board.{Board}
use Rattle.upkeep.specs.Counting.{census_of, census_rule, lines_fit}
use Rattle.counting.specs.Report.{row_line, rows_from}

pub rows_more : (p : ℕ) (rows : List (List ℕ)) (row : List ℕ)
    → rows_from p (rows ++ (row ∷ [])) ≡ rows_from p rows ++ row_line (p + length rows) row
rows_more p [] row = append-nil (row_line p row) ∙ ap (λ q. row_line q row) (sym (add-zero p))
rows_more p (first ∷ rows) row =
    let place : p + 1 + length rows ≡ p + length (first ∷ rows) = omega arith in
    ap (λ l. row_line p first ++ l) (rows_more (p + 1) rows row)
    ∙ sym (append_assoc (row_line p first) (rows_from (p + 1) rows) (row_line (p + 1 + length rows) row))
    ∙ ap (λ q. row_line p first ++ rows_from (p + 1) rows ++ row_line q row) place

-- a line table of the right length is not refused
pub counted_rows : (m : Measures) (b : Board) (other : List (List ℕ)) → length b.lines ≡ line_count m
    → result_unwrap_or (census_rule m b) other ≡ census_of m b.lines
counted_rows m b other fit =
    let fits : lines_fit m b.lines ≡ true = grind (arith, nat_tests) in rw fits refl
