-- What a memory means: how many blocks, which of them are live, and the four words of each.
use Rattle.std.specs.Prelude.{◌≡◌, ℕ, ◌≤◌, Bool, if◌then◌else◌, ◌&&◌, List, length, Ok, Err, Option, Result, ◌==◌, nat_lt}
use Rattle.memory.specs.declared.memory.Denied.{Denied}

pub record Mem : Type 0 where
  pub count : ℕ
  pub live : ℕ → Bool
  pub words : ℕ → List ℕ

pub record Lawful (m : Mem) : Type 0 where
  pub bounded : m.count ≤ 1048576
  pub four : (block : ℕ) → length (m.words block) ≡ 4

-- what no call changes beside the meaning: the loans that a memory stands on, by the names under
-- which the checker follows them, and the dead lists
pub data Standing : Type 0 where
  loan : ℕ → Standing
  both : Standing → Standing → Standing
  behind : List (Option ℕ) → Standing → Standing

-- reads and writes of a live block below the number are granted, and no others
abbrev pub grants : Mem → ℕ → Bool
grants m block = nat_lt block m.count && m.live block

abbrev pub denied : Denied
denied = record {}

abbrev pub reading : Mem → ℕ → Result (List ℕ) Denied
reading m block = if grants m block then Ok (m.words block) else Err denied

abbrev pub granted : Mem → ℕ → Result (Unit {0}) Denied
granted m block = if grants m block then Ok tt else Err denied

-- a granted write replaces the words of its block and of no other
abbrev pub written : Mem → ℕ → List ℕ → Mem
written m block words =
    record {
      count = m.count;
      live = m.live;
      words = λ k. if grants m block && k == block then words else m.words k;
    }
