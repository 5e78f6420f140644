-- For how many processors, columns and ways a policy is made.
use Rattle.std.specs.Prelude.{ℕ, Bool, ◌&&◌, nat_lt}
use Rattle.protocol.specs.declared.measures.Measures.{Measures}
use Rattle.policy.specs.declared.extent.Extent.{Extent}
use Rattle.policy.specs.declared.policy.Telling.{Telling}

abbrev pub extent_of : Measures → Extent
extent_of m = record { processors = m.processors; columns = m.columns; ways = m.ways }

abbrev pub no_extent : Extent
no_extent = record { processors = 0; columns = 0; ways = 0 }

abbrev pub has_column : Extent → ℕ → ℕ → Bool
has_column e processor column = nat_lt processor e.processors && nat_lt column e.columns

-- a telling of other processors, columns or ways changes no policy
abbrev pub has : Extent → Telling → Bool
has e telling = has_column e telling.processor telling.column && nat_lt telling.way e.ways
