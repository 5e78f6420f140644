-- The cluster's locks and waits are the ledger's throughout.
use Rattle.std.proofs.Common.{◌≡◌, ℕ, ◌<◌, ◌≤◌, Bool, true, false, cond, ltb, List, length, drop, replicate, Some, None, Option, refl, ap, ◌∙◌, arith, length-set}
use lib.ListN.{length-replicate}
use Rattle.protocol.specs.declared.command.Command.{Command}
use Rattle.protocol.specs.declared.command.Request.{Request}
use Rattle.protocol.specs.declared.line.Line.{Line}
use Rattle.protocol.specs.declared.lock.LockEntry.{LockEntry}
use Rattle.protocol.specs.declared.measures.Measures.{Measures}
use Rattle.protocol.specs.Finding.{window_of}
use Rattle.protocol.specs.Places.{lock_count, locks_start}
use Rattle.memory.specs.Meaning.{Mem}
use Rattle.cluster.specs.declared.case.Case.{Case}
use Rattle.cluster.specs.declared.cluster.Processor.{Processor}
use Rattle.cluster.specs.declared.ways.Taken.{Taken}
use Rattle.cluster.specs.Cases.{by_turn}
use Rattle.cluster.specs.Finishing.{turns_after, processors_after, way_taken}
use Rattle.cluster.specs.Locks.{locks_from}
use Rattle.cluster.specs.Making.{resting, blank_entry}
use Rattle.cluster.specs.Rule.{command_rule}
use Rattle.cluster.specs.Settling.{locks_settled, ul_sent}
use Rattle.cluster.specs.Waiting.{awaited_in}
use Rattle.protocol.specs.declared.refusal.Refusal.TheVariants.{TableLength}
use Rattle.upkeep.specs.Counting.{lines_fit}
use Rattle.upkeep.specs.Draining.{drain_from, costed, drain_rule}
use Rattle.law.specs.Accounts.{Accounts, LocksAreTold}
use Rattle.law.specs.Calls.{Call, command, drain, census, question, said_by, left_by}
use Rattle.law.specs.Ledger.{Ledger, opened, fed}
use Rattle.law.proofs.Awaits.{waits_kept}
use Rattle.law.proofs.Holds.{held_by, holds_kept}
use Rattle.law.proofs.Invariant.{throughout}
use Rattle.law.proofs.Shapes.{Shape, refused, waited, finished, shape}
use Rattle.law.proofs.Windows.{first_counted, length-map, seen-replicate}
use Rattle.std.specs.List.{count_by}
use Rattle.std.proofs.lemmas.List.Folds.{sum_by-replicate}
use Rattle.std.proofs.lemmas.List.Sums.{sum_by-take-drop, sum_by-take-le}
use Rattle.protocol.specs.declared.answer.Answer.{Answer}
use Rattle.cluster.specs.Board.{Board, Outcome, refusing, new_board}

-- the tables keep their lengths
length_settled : (c : Command) (a : ℕ) (locks : List LockEntry) (entry : Option ℕ)
    → length (locks_settled c a locks entry) ≡ length locks
length_settled c a locks None = refl
length_settled c a locks (Some place) = length-set locks place _

length_processors : (m : Measures) (ps : List Processor) (locks : List LockEntry) (c : Case)
    (taken : Option Taken)
    → length (processors_after m ps locks c taken) ≡ length ps
length_processors m ps locks c taken = by_both (ul_sent c.command locks c.entry) (by_turn taken) refl refl
  where
    turned : (t : Bool) → by_turn taken ≡ t → length (turns_after m ps c taken) ≡ length ps
    turned true e = rw e (length-set ps c.processor _)
    turned false e = rw e refl

    by_both : (u t : Bool) → ul_sent c.command locks c.entry ≡ u → by_turn taken ≡ t
        → length (processors_after m ps locks c taken) ≡ length ps
    by_both true t e f = rw e (length-map _ 0 (turns_after m ps c taken) ∙ turned t f)
    by_both false t e f = rw e (turned t f)

module _ (m : Measures) (board : Board) (q : Request) where
  locks_long : (o : Outcome Answer) → Shape m board q o → length o.board.locks ≡ length board.locks
  locks_long o (refused e is) = ap (λ x. length x.board.locks) is
  locks_long o (waited w) = ap (λ x. length x.board.locks) w.is ∙ length-map _ 0 board.locks
  locks_long o (finished f) =
      ap (λ x. length x.board.locks) f.is
      ∙ length_settled f.case.command f.case.address board.locks f.case.entry

  processors_long : (o : Outcome Answer) → Shape m board q o
      → length o.board.processors ≡ length board.processors
  processors_long o (refused e is) = ap (λ x. length x.board.processors) is
  processors_long o (waited w) =
      ap (λ x. length x.board.processors) w.is ∙ length-set board.processors w.case.processor _
  processors_long o (finished f) =
      ap (λ x. length x.board.processors) f.is
      ∙ length_processors m board.processors board.locks f.case
      (way_taken m board.processors board.lines f.case)

-- a drain leaves processors and locks
pub drain_left : (m : Measures) (b : Board)
    → ((drain_rule m b).board.processors ≡ b.processors) × ((drain_rule m b).board.locks ≡ b.locks)
unfolding drain_rule
drain_left m b = by_fit (lines_fit m b.lines)
  where
    by_fit : (f : Bool)
        → let d = drain_from 0 b.lines b.memory in
        let o = cond f
        (record { answer = costed m d.answer; board = record b { lines = d.lines; memory = d.memory } })
        (refusing b TableLength) in
        (o.board.processors ≡ b.processors) × (o.board.locks ≡ b.locks)
    by_fit true = (refl, refl)
    by_fit false = (refl, refl)

-- what is kept from call to call
pub record Kept (m : Measures) (b : Board) (l : Ledger) : Type 0 where
  pub eight : length b.processors ≡ 8
  pub fit : length b.locks ≡ lock_count m
  pub waits : (r : ℕ) → awaited_in m b.processors r ≡ l.waits r
  pub held : (p : ℕ) → p < m.processors → (a : ℕ) → held_by m b.locks p a ≡ cond (l.holds p a) 1 0

some_one : (b : Bool) → ltb 0 (cond b 1 0) ≡ b
some_one true = refl
some_one false = refl

pub accounts : (m : Measures) (b : Board) (l : Ledger) → Kept m b l → Accounts m b l
accounts m b l k = record {
  locks = λ p a h.
      first_counted (locks_from a a) (locks_start m p)
      (window_of (locks_start m p) m.lock_entries b.locks)
      ∙ ap (ltb 0) (k.held p h a) ∙ some_one (l.holds p a);
  waits = k.waits;
}

pub kept_on : (m : Measures) (b : Board) (l : Ledger) → m.processors ≤ 8 → Kept m b l → (call : Call)
    → Kept m (left_by m b call) (fed call (said_by m b call) l)
kept_on m b l few k (command q) =
    let way = shape m b q in
    let o = command_rule m b q in
    record {
      eight = processors_long m b q o way ∙ k.eight;
      fit = locks_long m b q o way ∙ k.fit;
      waits = waits_kept m b q l k.eight few k.waits o way;
      held = holds_kept m b q l k.held o way;
    }
kept_on m b l few k drain =
    let left = drain_left m b in
    record {
      eight = ap length left.0 ∙ k.eight;
      fit = ap length left.1 ∙ k.fit;
      waits = λ r. ap (λ ps. awaited_in m ps r) left.0 ∙ k.waits r;
      held = λ p h a. ap (λ ls. held_by m ls p a) left.1 ∙ k.held p h a;
    }
kept_on m b l few k census = k
kept_on m b l few k (question address) = k

-- a new cluster has no locks, and nobody waits
blank_counted : (a k : ℕ) → count_by (locks_from a a) (replicate k blank_entry) ≡ 0
blank_counted a k = sum_by-replicate (λ x. cond (locks_from a a x) 1 0) k blank_entry ∙ omega arith

nobody : (b : Bool) (w : Option ℕ) → w ≡ None → cond b w None ≡ None
nobody true w e = e
nobody false w e = refl

pub new_kept : (m : Measures) (mem : Mem) → Kept m (new_board m mem) (opened mem)
new_kept m mem = record {
  eight = length-replicate 8 resting;
  fit = length-replicate (lock_count m) blank_entry;
  waits = λ r. nobody (ltb r m.processors) _ (seen-replicate (λ p. p.waits_for) 8 r resting resting refl);
  held = λ p h a.
      let one = λ (e : LockEntry). cond {A = ℕ} (locks_from a a e) 1 0 in
      let blank = replicate (lock_count m) blank_entry in
      let part = sum_by-take-drop one blank (locks_start m p) in
      let some = sum_by-take-le one (drop (locks_start m p) blank) m.lock_entries in
      omega (arith, blank_counted a (lock_count m), part, some);
}

pub locks_told : LocksAreTold
locks_told g mem =
    let m = g.measures in
    throughout m (Accounts m) (Kept m) (accounts m) (λ b l. kept_on m b l g.few_processors)
    (new_board m mem) (opened mem) (new_kept m mem)
