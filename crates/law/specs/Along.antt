-- The law from a new cluster, and along calls that follow others.
use Rattle.std.specs.Prelude.{◌≡◌, List}
use Rattle.protocol.specs.declared.geometry.Geometry.{Geometry}
use Rattle.protocol.specs.declared.line.Line.{Line}
use Rattle.protocol.specs.declared.lock.LockEntry.{LockEntry}
use Rattle.memory.specs.Meaning.{Mem, Lawful}
use Rattle.cluster.specs.Board.{Board, new_board, board_of}
use Rattle.cluster.specs.declared.cluster.Cluster.{Cluster}
use Rattle.law.specs.Accounts.{Throughout, left_along, ledger_along}
use Rattle.law.specs.Calls.{Call}
use Rattle.law.specs.Law.{Law}
use Rattle.law.specs.Ledger.{opened}

-- over any lawful memory it holds at the start and after each call, whatever is called
abbrev pub LawFrom : Geometry → Cluster → List Line → List LockEntry → Type 0
LawFrom g cluster lines locks =
    (mem : Mem) → Lawful mem → (calls : List Call)
    → Throughout (Law g.measures) g.measures (board_of cluster lines locks mem) (opened mem) calls

-- where calls from a new cluster over a lawful memory leave this, it holds here and after each of the
-- calls that follow
abbrev pub LawAlong : Geometry → Board → List Call → Type 0
LawAlong g b following =
    (mem : Mem) → Lawful mem → (calls : List Call)
    → b ≡ left_along g.measures (new_board g.measures mem) calls
    → Throughout (Law g.measures) g.measures b
    (ledger_along g.measures (new_board g.measures mem) (opened mem) calls) following
