-- Which measures a cluster may have.
use Rattle.std.specs.Prelude.{ℕ, ◌≤◌, Bool, ◌&&◌, Ok, Err, Result, ◌==◌, count_ones, nat_le}
use Rattle.protocol.specs.declared.measures.Costs.{Costs}
use Rattle.protocol.specs.declared.measures.Measures.{Measures}
use Rattle.protocol.specs.declared.geometry.Geometry.{Geometry}
use Rattle.protocol.specs.declared.refusal.Refusal.{Refusal}

abbrev pub between : ℕ → ℕ → ℕ → Bool
between low high n = nat_le low n && nat_le n high

-- one binary digit is 1
abbrev pub power_of_two : ℕ → Bool
power_of_two n = count_ones n == 1

abbrev pub low_costs : Costs → Bool
low_costs c =
    nat_le c.swap_in 1000 && nat_le c.transfer 1000 && nat_le c.invalidation 1000
    && nat_le c.swap_out 1000 && nat_le c.lock_signal 1000

pub record LowCosts (c : Costs) : Type 0 where
  pub in_low : c.swap_in ≤ 1000
  pub transfer_low : c.transfer ≤ 1000
  pub invalidation_low : c.invalidation ≤ 1000
  pub out_low : c.swap_out ≤ 1000
  pub signal_low : c.lock_signal ≤ 1000

abbrev pub lawful : Measures → Bool
lawful m =
    between 1 8 m.processors && power_of_two m.columns && nat_le m.columns 256 && between 1 4 m.ways
    && between 1 4 m.lock_entries && low_costs m.costs

-- what was made, by its measures
abbrev pub measured : Result Geometry Refusal → Result Measures Refusal
measured (Ok g) = Ok g.measures
measured (Err e) = Err e
