-- The places that a command's case names lie in the tables.
use Rattle.std.specs.Prelude.{◌≡◌, ℕ, ◌/◌, ◌<◌, Bool, false, IfSome, Some, None, Option}
use Rattle.protocol.specs.declared.measures.Measures.{Measures}
use Rattle.cluster.specs.declared.ways.Taken.{Taken}
use Rattle.cluster.specs.declared.case.Case.{Case}

pub record Sound (m : Measures) (lines locks : ℕ) (c : Case) : Type 0 where
  pub processor : c.processor < m.processors
  pub block : c.block ≡ c.address / 4
  pub line : IfSome c.place (λ i. i < lines)
  pub entry : IfSome c.entry (λ i. i < locks)

-- a line stands in the way taken, else where it was found
abbrev pub own_place : Option ℕ → Option Taken → Option ℕ
own_place place None = place
own_place place (Some way) = Some way.place

abbrev pub by_turn : Option Taken → Bool
by_turn None = false
by_turn (Some way) = way.by_turn
