-- The cluster's locks and waits are exactly the ledger's, whatever was called.
use Rattle.std.specs.Prelude.{◌≡◌, ℕ, ◌<◌, List, [], ◌∷◌}
use Rattle.protocol.specs.declared.geometry.Geometry.{Geometry}
use Rattle.protocol.specs.declared.measures.Measures.{Measures}
use Rattle.memory.specs.Meaning.{Mem}
use Rattle.cluster.specs.Board.{Board, new_board}
use Rattle.cluster.specs.Waiting.{awaited_in}
use Rattle.upkeep.specs.Holding.{holds}
use Rattle.law.specs.Calls.{Call, Said, said_by, left_by}
use Rattle.law.specs.Ledger.{Ledger, opened, fed}

-- each processor holds the addresses, and waits for the block, that the answers told
pub record Accounts (m : Measures) (b : Board) (l : Ledger) : Type 0 where
  pub locks : (processor address : ℕ) → processor < m.processors
      → holds m b.locks address processor ≡ l.holds processor address
  pub waits : (processor : ℕ) → awaited_in m b.processors processor ≡ l.waits processor

-- at the start and after each call, each call starting from what the one before left
abbrev pub Throughout : (Board → Ledger → Type 0) → Measures → Board → Ledger → List Call → Type 0
Throughout P m b l [] = P b l
Throughout P m b l (call ∷ calls) =
    P b l × Throughout P m (left_by m b call) (fed call (said_by m b call) l) calls

-- what calls leave, each starting from what the one before left
abbrev pub left_along : Measures → Board → List Call → Board
left_along m b [] = b
left_along m b (call ∷ calls) = left_along m (left_by m b call) calls

-- what they are answered
abbrev pub said_along : Measures → Board → List Call → List Said
said_along m b [] = []
said_along m b (call ∷ calls) = said_by m b call ∷ said_along m (left_by m b call) calls

-- the ledger fed all of them and their answers
abbrev pub ledger_along : Measures → Board → Ledger → List Call → Ledger
ledger_along m b l [] = l
ledger_along m b l (call ∷ calls) =
    ledger_along m (left_by m b call) (fed call (said_by m b call) l) calls

-- for every lawful geometry, every memory and every list of calls from a new cluster
abbrev pub LocksAreTold : Type 0
LocksAreTold =
    (g : Geometry) (mem : Mem) (calls : List Call)
    → Throughout (Accounts g.measures) g.measures (new_board g.measures mem) (opened mem) calls
