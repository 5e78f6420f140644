-- Counting lines.
use Rattle.std.proofs.Common.{◌≡◌, ℕ, zero, suc, ◌+◌, ◌-◌, ◌*◌, ◌%◌, ◌≤◌, Bool, true, false, cond, eqb, ltb, List, [], ◌∷◌, ◌++◌, length, get_or, take, drop, replicate, sym, refl, ap, ◌∙◌, add-zero, mul-le-mul_right, mod-eq_of_lt, zero-add, zero-mul, arith, take_all, take-add}
use Rattle.std.proofs.lemmas.List.{drop-drop}
use Rattle.std.proofs.lemmas.List.Sums.{sum_by-cons, sum_by-append}
use Rattle.std.proofs.lemmas.Nat.{ones_le_self}
use Rattle.std.proofs.lemmas.Bool.Decides.{nat_tests}
use Rattle.protocol.specs.declared.geometry.Geometry.{Geometry}
use Rattle.protocol.specs.declared.line.Line.{Line}
use Rattle.protocol.specs.declared.measures.Measures.{Measures}
use Rattle.protocol.specs.declared.state.State.{State}
use Rattle.protocol.specs.declared.state.State.TheVariants.{I, S, SM, EC, EM}
use Rattle.protocol.specs.Entries.{modified}
use Rattle.protocol.specs.Places.{line_count}
use Rattle.std.specs.Prelude.{count_by}
use Rattle.protocol.specs.StateTable.{column_for}
use Rattle.upkeep.specs.Counting.{stands, count_in, row_of, first_line, cache_of, row_at, rows_from, census_of, modified_in}

-- a power of two is not 0
pub has_columns : (g : Geometry) → 1 ≤ g.measures.columns
has_columns g = omega (arith, ones_le_self g.measures.columns, g.power_of_two)

-- the modified lines, counted by the census and by the drain
abbrev pub is_modified : Line → Bool
is_modified line = modified line.state

abbrev pub one_modified : Line → ℕ
one_modified line = cond (is_modified line) 1 0

one_state : (s : State) → cond (eqb (column_for s) 0) 1 0 + cond (eqb (column_for s) 2) 1 0
    ≡ cond {A = ℕ} (modified s) 1 0
one_state EM = refl
one_state EC = refl
one_state SM = refl
one_state S = refl
one_state I = refl

two_states : (lines : List Line)
    → count_by (stands EM) lines + count_by (stands SM) lines ≡ count_by is_modified lines
two_states [] = refl
two_states (line ∷ lines) =
    omega (
      arith,
      two_states lines,
      one_state line.state,
      sum_by-cons (λ x. cond (stands EM x) 1 0) line
          lines,
      sum_by-cons (λ x. cond (stands SM x) 1 0) line lines,
      sum_by-cons one_modified line lines,
    )

in_row : (lines : List Line) → get_or (row_of lines) 0 0 + get_or (row_of lines) 2 0
    ≡ count_by is_modified lines
unfolding count_in
in_row lines = two_states lines

module _ (m : Measures) (lines : List Line) where
  abbrev first : ℕ → ℕ
  first p = first_line m p

  rises : (p q : ℕ) → p ≤ q → first p ≤ first q
  rises p q h =
      let more : p * m.columns ≤ q * m.columns = mul-le-mul_right m.columns h in
      mul-le-mul_right m.ways (omega (arith, more))

  -- the rows of processors that the geometry has count the lines up to the next processor's first
  rows_count : (n p : ℕ) → p + n ≤ m.processors
      → modified_in (rows_from m lines p n)
      ≡ count_by is_modified (take (first (p + n) - first p) (drop (first p) lines))
  unfolding row_at
  rows_count zero p h =
      let same : p + 0 ≡ p = omega arith in
      let none : first (p + 0) - first p ≡ 0 = ap (λ q. first q - first p) same ∙ omega arith in
      sym (ap (λ k. count_by is_modified (take k (drop (first p) lines))) none)
  rows_count (suc n) p h =
      let here : ltb p m.processors ≡ true = grind (arith, nat_tests) in
      let rest = rows_count n (p + 1) (omega (arith, h)) in
      let same : p + 1 + n ≡ p + suc n = omega arith in
      let x = first (p + 1) - first p in
      let y = first (p + 1 + n) - first (p + 1) in
      let up = rises p (p + 1) (omega arith) in
      let on = rises (p + 1) (p + 1 + n) (omega arith) in
      let all : x + y ≡ first (p + suc n) - first p =
      (let sum : x + y ≡ first (p + 1 + n) - first p =
      omega (arith, up, on) in sum ∙ ap (λ q. first q - first p) same) in
      let next : first p + x ≡ first (p + 1) = omega (arith, up) in
      let behind : drop x (drop (first p) lines) ≡ drop (first (p + 1)) lines =
      drop-drop x (first p) lines ∙ ap (λ k. drop k lines) next in
      let whole : take (first (p + suc n) - first p) (drop (first p) lines)
      ≡ cache_of m lines p ++ take y (drop (first (p + 1)) lines)
      = ap (λ k. take k (drop (first p) lines)) (sym all) ∙ take-add x y (drop (first p) lines)
      ∙ ap (λ ls. cache_of m lines p ++ take y ls) behind in
      let row : get_or (row_at m lines p) 0 0 + get_or (row_at m lines p) 2 0
      ≡ count_by is_modified (cache_of m lines p)
      = ap (λ b. get_or (cond b (row_of (cache_of m lines p)) (replicate 5 0)) 0 0 + get_or
      (cond b (row_of (cache_of m lines p)) (replicate 5 0)) 2 0) here ∙ in_row (cache_of m lines p) in
      (λ k. row k + rest k) ∙ sym
      (ap (count_by is_modified) whole
      ∙ sum_by-append one_modified (cache_of m lines p) (take y (drop (first (p + 1)) lines)))

  -- rows of other processors count nothing
  no_rows : (n p : ℕ) → m.processors ≤ p → modified_in (rows_from m lines p n) ≡ 0
  unfolding row_at
  no_rows zero p h = refl
  no_rows (suc n) p h =
      let beyond : ltb p m.processors ≡ false = grind (arith, nat_tests) in
      let rest = no_rows n (p + 1) (omega (arith, h)) in
      let row : get_or (row_at m lines p) 0 0 + get_or (row_at m lines p) 2 0 ≡ 0
      = ap (λ b. get_or (cond b (row_of (cache_of m lines p)) (replicate 5 0)) 0 0 + get_or
      (cond b (row_of (cache_of m lines p)) (replicate 5 0)) 2 0) beyond in
      (λ k. row k + rest k)

  rows_more : (a b p : ℕ) → modified_in (rows_from m lines p (a + b))
      ≡ modified_in (rows_from m lines p a) + modified_in (rows_from m lines (p + a) b)
  rows_more zero b p =
      let none : zero + b ≡ b = omega arith in
      let same : p ≡ p + 0 = omega arith in
      ap (λ k. modified_in (rows_from m lines p k)) none
      ∙ ap (λ q. modified_in (rows_from m lines q b)) same ∙ omega arith
  rows_more (suc a) b p =
      let more : suc a + b ≡ suc (a + b) = omega arith in
      let same : p + 1 + a ≡ p + suc a = omega arith in
      let rest = rows_more a b (p + 1) in
      let moved : modified_in (rows_from m lines (p + 1 + a) b)
      ≡ modified_in (rows_from m lines (p + suc a) b) =
      ap (λ q. modified_in (rows_from m lines q b)) same in
      let row = get_or (row_at m lines p) 0 0 + get_or (row_at m lines p) 2 0 in
      ap (λ k. modified_in (rows_from m lines p k)) more ∙ omega (arith, rest, moved)

  pub census_counts : m.processors ≤ 8 → 1 ≤ m.columns → length lines ≡ line_count m
      → modified_in (census_of m lines) ≡ count_by is_modified lines
  census_counts few some fit =
      let n = m.processors in
      let split : 8 ≡ n + (8 - n) = omega (arith, few) in
      let column : 0 % m.columns ≡ 0 = mod-eq_of_lt some in
      let start : first 0 ≡ 0 =
      ap (λ k. (0 * m.columns + k) * m.ways) column ∙ ap (λ k. (k + 0) * m.ways) (zero-mul m.columns)
      ∙ zero-mul m.ways in
      let reach : first (0 + n) ≡ length lines =
      ap (λ k. ((0 + n) * m.columns + k) * m.ways) column
      ∙ ap (λ k. (k * m.columns + 0) * m.ways) (zero-add n)
      ∙ ap (λ k. k * m.ways) (add-zero (n * m.columns)) ∙ sym fit in
      let all : first (0 + n) - first 0 ≡ length lines = (λ k. reach k - start k) ∙ omega arith in
      ap (λ k. modified_in (rows_from m lines 0 k)) split ∙ rows_more n (8 - n) 0
      ∙ (λ k. rows_count n 0 (omega arith) k + no_rows (8 - n) (0 + n) (omega arith) k)
      ∙ add-zero (count_by is_modified (take (first (0 + n) - first 0) (drop (first 0) lines)))
      ∙ (λ k. count_by is_modified (take (all k) (drop (start k) lines)))
      ∙ ap (count_by is_modified) (take_all (length lines) lines (omega arith))
