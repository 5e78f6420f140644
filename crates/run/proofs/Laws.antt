-- The law from a new board.
use Rattle.std.proofs.Common.{◌≡◌, List, sym, subst, ◌∙◌}
use Rattle.protocol.specs.declared.geometry.Geometry.{Geometry}
use Rattle.protocol.specs.declared.line.Line.{Line}
use Rattle.protocol.specs.declared.lock.LockEntry.{LockEntry}
use Rattle.cluster.specs.declared.cluster.Cluster.{Cluster}
use Rattle.memory.specs.Meaning.{Mem}
use Rattle.cluster.specs.Board.{board_of, new_board}
use Rattle.law.specs.Accounts.{Throughout}
use Rattle.law.specs.Along.{LawFrom}
use Rattle.law.specs.Law.{Law}
use Rattle.law.specs.Ledger.{opened}
use Rattle.law.proofs.Lawful.{law_holds}
use Rattle.run.specs.Board.{IsNew}

-- new tables lent to a call with a new cluster
pub new_lent : {g : Geometry} {c : Cluster} {lines lent : List Line} {locks lent' : List LockEntry}
    → IsNew g c lines locks → lent ≡ lines → lent' ≡ locks → (mem : Mem)
    → board_of c lent lent' mem ≡ new_board g.measures mem
new_lent {c = c} new e e' mem = (λ k. board_of c (e k) (e' k) mem) ∙ new.board mem

pub law_from : (g : Geometry) (c : Cluster) (lines : List Line) (locks : List LockEntry)
    → IsNew g c lines locks
    → LawFrom g c lines locks
law_from g c lines locks new mem lawful calls =
    subst (λ b. Throughout (Law g.measures) g.measures b (opened mem) calls) (sym (new.board mem))
    (law_holds g mem lawful calls)
