-- The law along calls that follow others.
use Rattle.std.proofs.Common.{List, [], ◌∷◌, ◌++◌, sym, subst}
use Rattle.protocol.specs.declared.geometry.Geometry.{Geometry}
use Rattle.protocol.specs.declared.measures.Measures.{Measures}
use Rattle.cluster.specs.Board.{Board, new_board}
use Rattle.law.specs.Accounts.{Throughout, left_along, ledger_along}
use Rattle.law.specs.Calls.{Call, said_by, left_by}
use Rattle.law.specs.Law.{Law}
use Rattle.law.specs.Ledger.{Ledger, opened, fed}
use Rattle.law.specs.Along.{LawAlong}
use Rattle.law.proofs.Lawful.{law_holds}

-- what holds throughout calls holds, behind the first of them, throughout the others
throughout_after : (P : Board → Ledger → Type 0) (m : Measures) (b : Board) (l : Ledger)
    (calls more : List Call)
    → Throughout P m b l (calls ++ more)
    → Throughout P m (left_along m b calls) (ledger_along m b l calls) more
throughout_after P m b l [] more all = all
throughout_after P m b l (call ∷ calls) more all =
    throughout_after P m (left_by m b call) (fed call (said_by m b call) l) calls more all.1

pub law_along : (g : Geometry) (b : Board) (following : List Call) → LawAlong g b following
law_along g b following mem lawful calls is =
    let m = g.measures in
    let start = new_board m mem in
    subst (λ x. Throughout (Law m) m x (ledger_along m start (opened mem) calls) following) (sym is)
    (throughout_after (Law m) m start (opened mem) calls following
    (law_holds g mem lawful (calls ++ following)))
