-- What is kept of locks and waits from call to call, and the promises that follow from it.
use Rattle.std.proofs.Common.{sym, subst, ◌≤◌}
use Rattle.protocol.specs.declared.command.Request.{Request}
use Rattle.protocol.specs.declared.measures.Measures.{Measures}
use Rattle.memory.specs.Meaning.{Mem}
use Rattle.cluster.specs.Board.{Board, new_board}
use Rattle.cluster.specs.Rule.{command_rule}
use Rattle.law.specs.Calls.{Call, command, drain, census, question, said_by, left_by}
use Rattle.law.specs.Law.{WaitsIf, locked_by_other}
use Rattle.law.specs.Ledger.{Ledger, block_of, opened, fed}
use Rattle.law.proofs.Invariant.{at_in, HolderAlone, OneHolder, AllMarked}
use Rattle.law.proofs.LocksKept.{HoldersListed, OwnFound, one_kept, listed_kept, waits_law}
use Rattle.law.proofs.Marked.{marked_kept, new_one_holder, new_marked, new_listed}
use Rattle.law.proofs.Shapes.{shape}
use Rattle.law.proofs.Told.{Kept, new_kept, kept_on, drain_left}

pub record LocksHold (m : Measures) (b : Board) (l : Ledger) : Type 0 where
  pub kept : Kept m b l
  pub one : OneHolder l
  pub listed : HoldersListed m l
  pub marked : AllMarked b.locks l

pub locks_on : (m : Measures) (b : Board) (l : Ledger) → m.processors ≤ 8 → LocksHold m b l
    → HolderAlone m (at_in b.lines) l → OwnFound m b → (call : Call)
    → LocksHold m (left_by m b call) (fed call (said_by m b call) l)
locks_on m b l few h alone own (command q) =
    let o = command_rule m b q in
    let way = shape m b q in
    record {
      kept = kept_on m b l few h.kept (command q);
      one = one_kept m b l h.kept h.one alone h.listed own q o way;
      listed = listed_kept m b l h.kept h.one alone h.listed own q o way;
      marked = marked_kept m b l h.marked q o way;
    }
locks_on m b l few h alone own drain =
    record {
      kept = kept_on m b l few h.kept drain;
      one = h.one;
      listed = h.listed;
      marked = subst (λ ls. AllMarked ls l) (sym (drain_left m b).1) h.marked;
    }
locks_on m b l few h alone own census = h
locks_on m b l few h alone own (question address) = h

pub waits_on_locks : (m : Measures) (b : Board) (l : Ledger) → LocksHold m b l
    → HolderAlone m (at_in b.lines) l → OwnFound m b → (q : Request)
    → WaitsIf (locked_by_other m l q.processor (block_of q.address)) (command_rule m b q).answer
waits_on_locks m b l h alone own q =
    waits_law m b l h.kept h.one alone h.listed own q (command_rule m b q) (shape m b q)

pub new_locks_hold : (m : Measures) (mem : Mem) → LocksHold m (new_board m mem) (opened mem)
new_locks_hold m mem = record {
  kept = new_kept m mem;
  one = new_one_holder mem;
  listed = new_listed m mem;
  marked = new_marked (new_board m mem).locks mem;
}
