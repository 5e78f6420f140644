-- The cluster that a listing is made with, and a new one with its tables.
use Rattle.std.specs.Prelude.{◌≡◌, ℕ, List}
use Rattle.protocol.specs.declared.geometry.Geometry.{Geometry}
use Rattle.protocol.specs.declared.line.Line.{Line}
use Rattle.protocol.specs.declared.lock.LockEntry.{LockEntry}
use Rattle.protocol.specs.declared.measures.Measures.{Measures}
use Rattle.protocol.specs.Standard.{standard_costs}
use Rattle.cluster.specs.declared.cluster.Cluster.{Cluster}
use Rattle.memory.specs.Meaning.{Mem}
use Rattle.cluster.specs.Board.{board_of, new_board}

abbrev pub listing_measures : ℕ → Measures
listing_measures processors =
    record {
      processors = processors;
      columns = 16;
      ways = 4;
      lock_entries = 2;
      costs = standard_costs;
    }

-- a cluster and tables that are new, whatever memory they are used with
pub record IsNew (g : Geometry) (c : Cluster) (lines : List Line) (locks : List LockEntry) : Type 0 where
  pub geometry : c.geometry ≡ g
  pub board : (mem : Mem) → board_of c lines locks mem ≡ new_board g.measures mem
