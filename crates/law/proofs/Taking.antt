-- The way that a command takes lies in its processor's window.
use Rattle.std.proofs.Common.{◌≡◌, ℕ, ◌+◌, ◌%◌, ◌<◌, ◌≤◌, Bool, List, length, Some, None, Option, refl, arith}
use Rattle.std.proofs.Math.Nat.{mod-lt}
use Rattle.protocol.specs.declared.line.Line.{Line}
use Rattle.protocol.specs.declared.measures.Measures.{Measures}
use Rattle.protocol.specs.Entries.{valid}
use Rattle.protocol.specs.Finding.{unused}
use Rattle.protocol.specs.Lines.{no_line}
use Rattle.protocol.specs.Places.{line_count, window_start}
use Rattle.cluster.specs.Ways.{free_way, chosen_way, taken_way}
use Rattle.law.specs.Law.{owner}
use Rattle.law.proofs.Invariant.{Home}
use Rattle.law.proofs.Places.{owner_in, home_in, window_inside_table}
use Rattle.law.proofs.Windows.{Stands, stands}

pub record WayHome (m : Measures) (lines : List Line) (p block place : ℕ) : Type 0 where
  pub home : Home m block place
  pub owned : owner m place ≡ p
  pub inside : place < length lines

module _ (m : Measures) (some_columns : 0 < m.columns) (some_ways : 0 < m.ways) (lines : List Line)
    (fit : length lines ≡ line_count m)
    (p block turn : ℕ) (listed : p < m.processors) where
  abbrev start : ℕ
  start = window_start m p block

  abbrev is_free : Line → Bool
  is_free = unused (λ l. valid l.state)

  way_in : (place : ℕ) → start ≤ place → place < start + m.ways → WayHome m lines p block place
  way_in place low high =
      record {
        home = home_in m some_columns p block place listed low high;
        owned = owner_in m some_columns p block place low high;
        inside = window_inside_table m some_columns lines fit p block place listed high;
      }

  found : (place : ℕ) → free_way m lines p block ≡ Some place
      → Stands is_free lines start m.ways no_line place
  found place e = stands is_free lines start m.ways no_line place e

  -- whether it is free or by turn
  pub way_home : WayHome m lines p block (taken_way m lines p block turn).place
  way_home = by_free (free_way m lines p block) refl
    where
      by_free : (o : Option ℕ) → free_way m lines p block ≡ o
          → WayHome m lines p block (chosen_way o (start + turn % m.ways)).place
      by_free (Some place) e = let free = found place e in way_in place free.from free.to
      by_free None e =
          let low : turn % m.ways < m.ways = mod-lt turn some_ways in
          way_in (start + turn % m.ways) (omega arith) (omega (arith, low))
