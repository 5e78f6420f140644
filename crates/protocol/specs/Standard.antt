-- The measures that a cluster has unless others are given.
use Rattle.std.specs.Prelude.{ℕ}
use Rattle.protocol.specs.declared.measures.Costs.{Costs}
use Rattle.protocol.specs.declared.measures.Measures.{Measures}

abbrev pub standard_costs : Costs
standard_costs =
    record { swap_in = 13; transfer = 7; invalidation = 2; swap_out = 5; lock_signal = 2 }

-- with other columns than 256
abbrev pub with_columns : ℕ → Measures
with_columns columns =
    record {
      processors = 8;
      columns = columns;
      ways = 4;
      lock_entries = 2;
      costs = standard_costs;
    }
