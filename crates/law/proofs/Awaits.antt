-- Who waits: the cluster's processors and the ledger agree.
use Rattle.std.proofs.Common.{◌≡◌, ℕ, zero, suc, ◌+◌, ◌/◌, ◌%◌, ◌<◌, ◌≤◌, Bool, true, false, cond, ◌&&◌, eqb, ltb, leb, ◌⊎◌, List, [], ◌∷◌, length, get_or, set, Some, None, Option, sym, refl, ap, ◌∙◌, inl, inr, arith}
use Rattle.std.proofs.lemmas.List.{get_or-set_same, get_or-set_other}
use Rattle.std.proofs.lemmas.Bool.{cond_both, leb-false}
use Rattle.std.proofs.lemmas.Bool.Decides.{eqb_tells, nat_tests}
use Rattle.protocol.specs.declared.answer.Answer.{Answer}
use Rattle.protocol.specs.declared.command.Command.{Command}
use Rattle.protocol.specs.declared.command.Command.TheVariants.{R, W, DW, RI, RP, RB, LR, UW, U}
use Rattle.protocol.specs.declared.command.Request.{Request}
use Rattle.protocol.specs.declared.line.Line.{Line}
use Rattle.protocol.specs.declared.lock.LockEntry.{LockEntry}
use Rattle.protocol.specs.declared.measures.Measures.{Measures}
use Rattle.protocol.specs.declared.table.Effect.{Effect}
use Rattle.memory.specs.Meaning.{Mem}
use Rattle.cluster.specs.Board.{Board, Outcome}
use Rattle.cluster.specs.declared.case.Case.{Case}
use Rattle.cluster.specs.declared.cluster.Processor.{Processor}
use Rattle.cluster.specs.declared.ways.Taken.{Taken}
use Rattle.cluster.specs.Cases.{by_turn}
use Rattle.cluster.specs.Finishing.{turns_after, processors_after, way_taken}
use Rattle.cluster.specs.Locks.{free_entry}
use Rattle.cluster.specs.Making.{resting}
use Rattle.cluster.specs.Refusing.{entry_used}
use Rattle.cluster.specs.Rule.{waiting}
use Rattle.cluster.specs.Settling.{releases_lock, ul_sent}
use Rattle.cluster.specs.Tables.{map_from}
use Rattle.cluster.specs.Waiting.{awaited_in, waiting_for, waits_for, woken, turn_raised}
use Rattle.law.specs.Ledger.{Ledger, entered, released, command_fed, done_by}
use Rattle.law.proofs.Shapes.{Shape, refused, waited, finished, met}

abbrev wait_at : List Processor → ℕ → Option ℕ
wait_at ps r = (get_or ps r resting).waits_for

abbrev pub wake : ℕ → Option ℕ → Option ℕ
wake block w = cond (waits_for block w) None w

at_set : (ps : List Processor) (p r : ℕ) (x : Processor) → p < length ps
    → wait_at (set ps p x) r ≡ cond (eqb r p) x.waits_for (wait_at ps r)
at_set ps p r x h = elim (eqb_tells r p) [
  | inl same ↦ rw (same.0, same.1) (ap (λ y. y.waits_for) (get_or-set_same ps p x resting h))
  | inr other ↦ rw other.0 (ap (λ y. y.waits_for) (get_or-set_other ps p r x resting other.1))
]

one_woken : (block : ℕ) (p : Processor) → (woken block p).waits_for ≡ wake block p.waits_for
one_woken block p = by_wait (waits_for block p.waits_for) refl
  where
    by_wait : (b : Bool) → waits_for block p.waits_for ≡ b
        → (woken block p).waits_for ≡ wake block p.waits_for
    by_wait true e = rw e refl
    by_wait false e = rw e refl

at_woken : (block at : ℕ) (ps : List Processor) (r : ℕ)
    → wait_at (map_from (λ place. woken block) at ps) r ≡ wake block (wait_at ps r)
at_woken block at [] r = refl
at_woken block at (p ∷ ps) zero = one_woken block p
at_woken block at (p ∷ ps) (suc r) = at_woken block (at + 1) ps r

at_raised : (ways : ℕ) (ps : List Processor) (p r : ℕ) → wait_at (turn_raised ways ps p) r ≡ wait_at ps r
at_raised ways [] p r = refl
at_raised ways (x ∷ ps) zero zero = refl
at_raised ways (x ∷ ps) zero (suc r) = refl
at_raised ways (x ∷ ps) (suc p) zero = refl
at_raised ways (x ∷ ps) (suc p) (suc r) = at_raised ways ps p r

at_turns : (m : Measures) (ps : List Processor) (c : Case) (taken : Option Taken) (r : ℕ)
    → wait_at (turns_after m ps c taken) r ≡ wait_at ps r
at_turns m ps c taken r = turned_by (by_turn taken) refl
  where
    turned_by : (b : Bool) → by_turn taken ≡ b → wait_at (turns_after m ps c taken) r ≡ wait_at ps r
    turned_by true e = rw e (at_raised m.ways ps c.processor r)
    turned_by false e = rw e refl

at_after : (m : Measures) (ps : List Processor) (locks : List LockEntry) (c : Case) (taken : Option Taken)
    (r : ℕ)
    → wait_at (processors_after m ps locks c taken) r
    ≡ cond (ul_sent c.command locks c.entry) (wake c.block (wait_at ps r)) (wait_at ps r)
at_after m ps locks c taken r = by_ul (ul_sent c.command locks c.entry) refl
  where
    by_ul : (b : Bool) → ul_sent c.command locks c.entry ≡ b
        → wait_at (processors_after m ps locks c taken) r
        ≡ cond b (wake c.block (wait_at ps r)) (wait_at ps r)
    by_ul true e =
        rw e (at_woken c.block 0 (turns_after m ps c taken) r
        ∙ ap (wake c.block) (at_turns m ps c taken r))
    by_ul false e = rw e (at_turns m ps c taken r)

-- what a done command leaves of the waits in the ledger
released_waits : (l : Ledger) (processor address r : ℕ) (b : Bool)
    → (released processor address b l).waits r ≡ cond b (wake (address / 4) (l.waits r)) (l.waits r)
released_waits l processor address r true = refl
released_waits l processor address r false = refl

pub done_waits : (l : Ledger) (c : Command) (processor address r : ℕ) (b : Bool)
    → (done_by processor address b c l).waits r
    ≡ cond (releases_lock c && b) (wake (address / 4) (l.waits r)) (l.waits r)
done_waits l R processor address r b = refl
done_waits l (W word) processor address r b = refl
done_waits l (DW word) processor address r b =
    cond_both (eqb (address % 4) 0) _ _ (λ (k : Ledger). k.waits r ≡ l.waits r) (λ e. refl) (λ e. refl)
done_waits l RI processor address r b = refl
done_waits l RP processor address r b = refl
done_waits l RB processor address r b =
    cond_both (eqb (address % 4) 3) _ _ (λ (k : Ledger). k.waits r ≡ l.waits r) (λ e. refl) (λ e. refl)
done_waits l LR processor address r b = refl
done_waits l (UW word) processor address r b =
    released_waits (entered address word l) processor address r b
done_waits l U processor address r b = released_waits l processor address r b

-- UL is sent by releases alone
pub ul_quiet : (m : Measures) (locks : List LockEntry) (q : Request) (c : Command) → q.command ≡ c
    → (releases_lock c && ul_sent c locks (entry_used m locks q)) ≡ ul_sent c locks (entry_used m locks q)
ul_quiet m locks q R e = rw e refl
ul_quiet m locks q (W word) e = rw e refl
ul_quiet m locks q (DW word) e = rw e refl
ul_quiet m locks q RI e = rw e refl
ul_quiet m locks q RP e = rw e refl
ul_quiet m locks q RB e = rw e refl
ul_quiet m locks q LR e = rw e (by_entry (free_entry m locks q.processor))
  where
    by_entry : (o : Option ℕ) → false ≡ ul_sent LR locks o
    by_entry None = refl
    by_entry (Some place) = refl
ul_quiet m locks q (UW word) e = refl
ul_quiet m locks q U e = refl

module _ (m : Measures) (board : Board) (q : Request) (l : Ledger)
    (eight : length board.processors ≡ 8) (few : m.processors ≤ 8)
    (agree : (r : ℕ) → awaited_in m board.processors r ≡ l.waits r) where
  abbrev listed : List Processor → ℕ → Option ℕ
  listed xs r = cond (ltb r m.processors) (wait_at xs r) None

  wakes_listed : (b : Bool) (block r : ℕ)
      → cond (ltb r m.processors)
      (cond b (wake block (wait_at board.processors r)) (wait_at board.processors r)) None
      ≡ cond b (wake block (listed board.processors r)) (listed board.processors r)
  wakes_listed b block r = by_bools b (ltb r m.processors) (wait_at board.processors r)
    where
      by_bools : (b k : Bool) (w : Option ℕ)
          → cond k (cond b (wake block w) w) None ≡ cond b (wake block (cond k w None)) (cond k w None)
      by_bools true true w = refl
      by_bools true false w = refl
      by_bools false true w = refl
      by_bools false false w = refl

  by_done : (c : Case) (taken : Option Taken) (effect : Effect) → c ≡ met m board q effect → (r : ℕ)
      → awaited_in m (processors_after m board.processors board.locks c taken) r
      ≡ (done_by q.processor q.address (ul_sent c.command board.locks c.entry) q.command l).waits r
  by_done c taken effect is r =
      let b = ul_sent q.command board.locks (entry_used m board.locks q) in
      let same : ul_sent c.command board.locks c.entry ≡ b =
      ap (λ x. ul_sent x.command board.locks x.entry) is in
      let block : c.block ≡ q.address / 4 = ap (λ x. x.block) is in
      ap (λ w. cond (ltb r m.processors) w None) (at_after m board.processors board.locks c taken r)
      ∙ (λ k. cond (ltb r m.processors)
      (cond (same k) (wake (block k) (wait_at board.processors r)) (wait_at board.processors r)) None)
      ∙ wakes_listed b (q.address / 4) r
      ∙ ap (λ w. cond b (wake (q.address / 4) w) w) (agree r)
      ∙ ap (λ x. cond x (wake (q.address / 4) (l.waits r)) (l.waits r))
      (sym (ul_quiet m board.locks q q.command refl))
      ∙ sym (done_waits l q.command q.processor q.address r b)
      ∙ ap (λ x. (done_by q.processor q.address x q.command l).waits r) (sym same)

  by_wait : (c : Case) (effect : Effect) (holder : ℕ) → c ≡ met m board q effect
      → leb m.processors q.processor ≡ false → (r : ℕ)
      → awaited_in m (waiting m board c holder).board.processors r
      ≡ cond (eqb r q.processor) (Some (q.address / 4)) (l.waits r)
  by_wait c effect holder is known r =
      let p = q.processor in
      let low : p < m.processors = leb-false m.processors p known in
      ap (λ x. awaited_in m (waiting m board x holder).board.processors r) is
      ∙ ap (λ w. cond (ltb r m.processors) w None)
      (at_set board.processors p r (waiting_for (get_or board.processors p resting) (q.address / 4))
      (omega (arith, low, few, eight)))
      ∙ by_same r (eqb_tells r p)
      ∙ ap (λ w. cond (eqb r p) (Some (q.address / 4)) w) (agree r)
    where
      by_same : (r : ℕ) → ((eqb r q.processor ≡ true) × (r ≡ q.processor)) ⊎
          ((eqb r q.processor ≡ false) × (r ≡ q.processor → ⊥))
          → cond (ltb r m.processors)
          (cond (eqb r q.processor) (Some (q.address / 4)) (wait_at board.processors r)) None
          ≡ cond (eqb r q.processor) (Some (q.address / 4)) (awaited_in m board.processors r)
      by_same r (inl same) =
          let low : ltb r m.processors ≡ true = grind (arith, nat_tests, same.1) in rw (low, same.0) refl
      by_same r (inr other) = rw other.0 refl

  pub waits_kept : (o : Outcome Answer) → Shape m board q o → (r : ℕ)
      → awaited_in m o.board.processors r ≡ (command_fed q o.answer l).waits r
  waits_kept o (refused e is) r =
      ap (λ x. awaited_in m x.board.processors r) is ∙ agree r
      ∙ ap (λ x. (command_fed q x.answer l).waits r) (sym is)
  waits_kept o (waited w) r =
      ap (λ x. awaited_in m x.board.processors r) w.is
      ∙ by_wait w.case w.facts.effect w.blocker w.facts.is w.facts.known r
      ∙ ap (λ x. (command_fed q x.answer l).waits r) (sym w.is)
  waits_kept o (finished f) r =
      ap (λ x. awaited_in m x.board.processors r) f.is
      ∙ by_done f.case (way_taken m board.processors board.lines f.case) f.facts.effect f.facts.is r
      ∙ ap (λ x. (command_fed q x.answer l).waits r) (sym f.is)
