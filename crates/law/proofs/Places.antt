-- Places of a table of lines: whose they are, where a search lands, what it tells if it finds nothing.
use Rattle.std.proofs.Common.{◌≡◌, ℕ, suc, ◌+◌, ◌*◌, ◌%◌, ◌<◌, ◌≤◌, true, List, length, is_some, Some, None, Option, sym, refl, ap, subst, mul-le-mul_right, suc-mul, arith}
use Rattle.std.proofs.Math.Nat.{mul_assoc, div-eq_of_lt-le, mod-lt}
use Rattle.protocol.specs.declared.line.Line.{Line}
use Rattle.protocol.specs.declared.measures.Measures.{Measures}
use Rattle.protocol.specs.Lines.{no_line}
use Rattle.protocol.specs.Places.{line_count, window_start}
use Rattle.cluster.specs.Copies.{holds_block, line_of, has_copy, supplier_of}
use Rattle.law.specs.Law.{owner}
use Rattle.law.proofs.Copied.{copy_valid, copy_block}
use Rattle.law.proofs.Invariant.{at_in, copy, Home, Homed}
use Rattle.law.proofs.Lowest.{the_some, other_found, none_other}
use Rattle.law.proofs.Windows.{stands, none_stands}

-- the copy that a cache's search found
pub record FoundAt (m : Measures) (lines : List Line) (p block i : ℕ) : Type 0 where
  pub copied : copy (at_in lines) block i
  pub owned : owner m i ≡ p
  pub home : Home m block i

-- a cache that supplies a block, and where it has it
pub record Supplying (m : Measures) (lines : List Line) (asking block p : ℕ) : Type 0 where
  pub listed : p < m.processors
  pub other : p ≡ asking → ⊥
  pub place : ℕ
  pub found : line_of m lines p block ≡ Some place

module _ (m : Measures) (some_columns : 0 < m.columns) where
  -- a window lies in its processor's part of the table
  window_from : (p block : ℕ) → p * (m.columns * m.ways) ≤ window_start m p block
  window_from p block =
      let up : p * m.columns * m.ways ≤ (p * m.columns + block % m.columns) * m.ways =
      mul-le-mul_right m.ways (omega arith) in
      let same = mul_assoc p m.columns m.ways in
      omega (arith, up, same)

  window_to : (p block : ℕ) → window_start m p block + m.ways ≤ suc p * (m.columns * m.ways)
  window_to p block =
      let low : block % m.columns < m.columns = mod-lt block some_columns in
      let row = suc-mul p m.columns in
      let up : suc (p * m.columns + block % m.columns) * m.ways ≤ suc p * m.columns * m.ways =
      mul-le-mul_right m.ways (omega (arith, low, row)) in
      let next = suc-mul (p * m.columns + block % m.columns) m.ways in
      let same = mul_assoc (suc p) m.columns m.ways in
      omega (arith, up, next, same)

  pub owner_in : (p block i : ℕ) → window_start m p block ≤ i → i < window_start m p block + m.ways
      → owner m i ≡ p
  owner_in p block i low high =
      let from = window_from p block in
      let to = window_to p block in
      let one : p + 1 ≡ suc p = omega arith in
      let same = ap (λ k. k * (m.columns * m.ways)) one in
      div-eq_of_lt-le (m.columns * m.ways) (omega (arith, from, low)) (omega (arith, to, high, same))

  pub home_in : (p block i : ℕ) → p < m.processors → window_start m p block ≤ i
      → i < window_start m p block + m.ways → Home m block i
  home_in p block i listed low high =
      let owned = sym (owner_in p block i low high) in
      record {
        listed = subst (λ o. o < m.processors) owned listed;
        from = subst (λ o. window_start m o block ≤ i) owned low;
        to = subst (λ o. i < window_start m o block + m.ways) owned high;
      }

  module _ (lines : List Line) (fit : length lines ≡ line_count m) where
    pub window_inside_table : (p block i : ℕ) → p < m.processors → i < window_start m p block + m.ways
        → i < length lines
    window_inside_table p block i listed high =
        let to = window_to p block in
        let up : suc p * (m.columns * m.ways) ≤ m.processors * (m.columns * m.ways) =
        mul-le-mul_right (m.columns * m.ways) listed in
        let same = mul_assoc m.processors m.columns m.ways in
        omega (arith, to, up, same, fit, high)

    module _ (homed : Homed m (at_in lines)) where
      -- a copy stands in its block's window in its owner's cache
      pub copy_home : (block i : ℕ) → copy (at_in lines) block i → Home m block i
      copy_home block i h =
          subst (λ b. Home m b i) (copy_block block (at_in lines i) h)
          (homed.home i (copy_valid block (at_in lines i) h))

      pub found_at : (p block i : ℕ) → p < m.processors → line_of m lines p block ≡ Some i
          → FoundAt m lines p block i
      found_at p block i listed e =
          let found = stands (holds_block block) lines (window_start m p block) m.ways no_line i e in
          record {
            copied =
                found.passes;
            owned =
                owner_in p block i found.from found.to;
            home = copy_home block i found.passes;
          }

      pub found_none : (p block : ℕ) → p < m.processors → line_of m lines p block ≡ None → (i : ℕ)
          → copy (at_in lines) block i → owner m i ≡ p → ⊥
      found_none p block listed e i here owned =
          let home = copy_home block i here in
          let (from, to) =
          subst (λ o. (window_start m o block ≤ i) × (i < window_start m o block + m.ways)) owned
          (home.from, home.to) in
          none_stands (holds_block block) lines (window_start m p block) m.ways no_line e i
          (record {
            from =
                from;
            to = to;
            inside = window_inside_table p block i listed to;
            passes = here;
          })

      pub supplier_some : (asking block p : ℕ) → supplier_of m lines asking block ≡ Some p
          → Supplying m lines asking block p
      supplier_some asking block p e =
          let found = other_found (has_copy m lines block) asking m.processors p e in
          let (place, at) = the_some (line_of m lines p block) found.2 in
          record { listed = found.0; other = found.1; place = place; found = at }

      pub supplier_none : (asking block : ℕ) → supplier_of m lines asking block ≡ None → (i : ℕ)
          → copy (at_in lines) block i → owner m i ≡ asking
      supplier_none asking block e i here =
          none_other (has_copy m lines block) asking m.processors (ap is_some e) (owner m i) home.listed
          (by_place (line_of m lines (owner m i) block) refl)
        where
          home : Home m block i
          home = copy_home block i here

          by_place : (o : Option ℕ) → line_of m lines (owner m i) block ≡ o → is_some o ≡ true
          by_place None is = absurd (found_none (owner m i) block home.listed is i here refl)
          by_place (Some place) is = refl
