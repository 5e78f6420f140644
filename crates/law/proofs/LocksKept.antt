-- No two processors hold locks in one block, and WAIT is answered exactly where another holds one.
use Rattle.std.proofs.Common.{◌≡◌, ℕ, ◌/◌, ◌<◌, Bool, true, false, cond, not, ◌&&◌, ◌||◌, ◌⊎◌, List, is_some, Some, None, Option, sym, refl, ap, ◌∙◌, subst, inl, inr}
use Prim.{tt}
use Rattle.std.proofs.lemmas.Bool.{leb-false}
use Rattle.protocol.specs.declared.answer.Answer.{Answer}
use Rattle.protocol.specs.declared.command.Action.{Action}
use Rattle.protocol.specs.declared.command.Action.TheVariants as action
use Rattle.protocol.specs.declared.command.Request.{Request}
use Rattle.protocol.specs.declared.line.Line.{Line}
use Rattle.protocol.specs.declared.lock.LockEntry.{LockEntry}
use Rattle.protocol.specs.declared.measures.Measures.{Measures}
use Rattle.protocol.specs.declared.state.State.{State}
use Rattle.protocol.specs.declared.state.State.TheVariants.{I, S, SM, EC, EM}
use Rattle.protocol.specs.declared.table.Effect.{Effect}
use Rattle.protocol.specs.Acting.{acts_as}
use Rattle.protocol.specs.Entries.{valid}
use Rattle.protocol.specs.StateTable.{cell_of}
use Rattle.memory.specs.Meaning.{Mem}
use Rattle.cluster.specs.Board.{Board, Outcome}
use Rattle.cluster.specs.declared.cluster.Processor.{Processor}
use Rattle.cluster.specs.Copies.{line_of, line_at, supplier_of}
use Rattle.cluster.specs.Doing.{asks_for_block, lock_hit, is_unlock}
use Rattle.cluster.specs.Locks.{held_entry, holder_of}
use Rattle.cluster.specs.Refusing.{is_direct_write}
use Rattle.cluster.specs.Settling.{releases_lock, ul_sent}
use Rattle.law.specs.Law.{WaitsIf, owner, locks_in, locked_by_other}
use Rattle.law.specs.Ledger.{Ledger, block_of, command_fed, done_by}
use Rattle.law.proofs.Cells.{acts_unlock}
use Rattle.law.proofs.Holds.{Lock, older, newer, lock_after}
use Rattle.law.proofs.Invariant.{at_in, copy, HolderAlone, OneHolder}
use Rattle.law.proofs.LockLaw.{address_in, block_in, held_is, holder_is}
use Rattle.law.proofs.Lowest.{none_other, no_other}
use Rattle.law.proofs.Shapes.{Shape, refused, waited, finished, Waited, Finished}
use Rattle.law.proofs.Told.{Kept}

-- only processors of the geometry hold locks
abbrev pub HoldersListed : Measures → Ledger → Type 0
HoldersListed m l = (p a : ℕ) → l.holds p a ≡ true → p < m.processors

-- the own copy that a command finds stands in its own cache
abbrev pub OwnFound : Measures → Board → Type 0
OwnFound m b =
    (q : Request) → q.processor < m.processors
    → valid (line_at b.lines (line_of m b.lines q.processor (q.address / 4))).state ≡ true
    → (i : ℕ) × copy (at_in b.lines) (q.address / 4) i × (owner m i ≡ q.processor)

-- a cell that sends neither F, FI nor LK is of a copy that is there, of DW or of U
abbrev guarded : Option Effect → Bool
guarded None = true
guarded (Some e) = asks_for_block e.bus || e.lk

each_cell : (a : Action) (s : State)
    → (valid s || (is_direct_write a || (is_unlock a || guarded (cell_of a s)))) ≡ true
each_cell a S = refl
each_cell a SM = refl
each_cell a EC = refl
each_cell a EM = refl
each_cell action.R I = refl
each_cell action.W I = refl
each_cell action.DW I = refl
each_cell action.RI I = refl
each_cell action.RP I = refl
each_cell action.LR I = refl
each_cell action.UW I = refl
each_cell action.U I = refl

-- what a lock hit tells of the holder
no_hit : (asks lk : Bool) (holder : Option ℕ) → cond asks holder (cond lk holder None) ≡ None
    → (asks || lk) ≡ true → is_some holder ≡ false
no_hit true lk holder e g = ap is_some e
no_hit false true holder e g = ap is_some e
no_hit false false holder e g = absurd (cc)

hit_by : (asks lk : Bool) (holder : Option ℕ) (p : ℕ) → cond asks holder (cond lk holder None) ≡ Some p
    → is_some holder ≡ true
hit_by true lk holder p e = ap is_some e
hit_by false true holder p e = ap is_some e
hit_by false false holder p e = absurd (cc)

pub held_elsewhere : (m : Measures) (board : Board) (q : Request) (o : Outcome Answer)
    → Waited m board q o → is_some (holder_of m board.locks q.processor (q.address / 4)) ≡ true
held_elsewhere m board q o w =
    let effect = w.facts.effect in
    hit_by (asks_for_block effect.bus) effect.lk (holder_of m board.locks q.processor (q.address / 4))
    w.blocker (sym (ap lock_hit w.facts.is) ∙ w.hit)

not_elsewhere : (d v c h : Bool) → (d && not v && (c || h)) ≡ false → d ≡ true → v ≡ false → h ≡ false
not_elsewhere true false true h e x y = absurd (cc)
not_elsewhere true false false h e x y = e
not_elsewhere true true c h e x y = absurd (cc)
not_elsewhere false v c h e x y = absurd (cc)

has_it : (r h : Bool) → (r && not h) ≡ false → r ≡ true → h ≡ true
has_it true true e x = refl
has_it true false e x = absurd (cc)
has_it false h e x = absurd (cc)

module _ (m : Measures) (b : Board) (l : Ledger) (k : Kept m b l) (one : OneHolder l)
    (alone : HolderAlone m (at_in b.lines) l) (listed : HoldersListed m l)
    (own : OwnFound m b) (q : Request) where
  abbrev holder : Option ℕ
  holder = holder_of m b.locks q.processor (q.address / 4)

  abbrev found : State
  found = (line_at b.lines (line_of m b.lines q.processor (q.address / 4))).state

  abbrev acts : Action
  acts = acts_as q.command q.address found (is_some (supplier_of m b.lines q.processor (q.address / 4)))

  module _ (o : Outcome Answer) (f : Finished m b q o) where
    -- a copy of the block, no other's lock in it, or the lock itself
    ways : (valid found ≡ true) ⊎ (is_some holder ≡ false) ⊎ (l.holds q.processor q.address ≡ true)
    ways =
        let facts = f.facts in
        let effect = facts.effect in
        let hit : cond (asks_for_block effect.bus) holder (cond effect.lk holder None) ≡ None =
        sym (ap lock_hit facts.is) ∙ f.free in
        let cell = subst
        (λ x. (valid found || (is_direct_write acts || (is_unlock acts || guarded x))) ≡ true) facts.cell
        (each_cell acts found) in
        let low = leb-false m.processors q.processor facts.known in
        by_cell (valid found) (is_direct_write acts) (is_unlock acts)
        (asks_for_block effect.bus || effect.lk) refl refl refl cell
        (not_elsewhere (is_direct_write acts) (valid found) _ (is_some holder) facts.alone)
        (λ u. sym (held_is m b l k q.processor q.address low)
        ∙ has_it (releases_lock q.command) (is_some (held_entry m b.locks q.processor q.address))
        facts.held
        (ap releases_lock (acts_unlock q.address found _ q.command u)))
        (no_hit (asks_for_block effect.bus) effect.lk holder hit)
      where
        by_cell : (v d u g : Bool) → valid found ≡ v → is_direct_write acts ≡ d → is_unlock acts ≡ u
            → (v || (d || (u || g))) ≡ true
            → (is_direct_write acts ≡ true → valid found ≡ false → is_some holder ≡ false)
            → (is_unlock acts ≡ true → l.holds q.processor q.address ≡ true)
            → (g ≡ true → is_some holder ≡ false)
            → (valid found ≡ true) ⊎ (is_some holder ≡ false) ⊎ (l.holds q.processor q.address ≡ true)
        by_cell true d u g x y z h direct unlock guard = inl x
        by_cell false true u g x y z h direct unlock guard = inr (inl (direct y x))
        by_cell false false true g x y z h direct unlock guard = inr (inr (unlock z))
        by_cell false false false true x y z h direct unlock guard = inr (inl (guard refl))
        by_cell false false false false x y z h direct unlock guard = absurd (cc)

    pub no_other_holder : (p a : ℕ) → l.holds p a ≡ true → block_of a ≡ block_of q.address
        → p ≡ q.processor
    no_other_holder p a h same = elim ways [
      | inl there ↦
          let (i, stands, mine) = own q (leb-false m.processors q.processor f.facts.known) there in
          sym (alone p a i h (subst (λ x. copy (at_in b.lines) x i) (sym same) stands)) ∙ mine
      | inr (inl none) ↦
          none_other (locks_in l (block_of q.address)) q.processor m.processors
          (sym (holder_is m b l k q.processor (block_of q.address)) ∙ none)
          p (listed p a h) (block_in l (block_of q.address) p a same h)
      | inr (inr mine) ↦ one q.processor p q.address a mine h (sym same)
    ]

    no_other_lock : locked_by_other m l q.processor (block_of q.address) ≡ false
    no_other_lock = no_other (locks_in l (block_of q.address)) q.processor m.processors
        (λ j low e. let (a, same, held) =
        address_in l (block_of q.address) j e in no_other_holder j a held same)

    abbrev after : Ledger
    after = done_by q.processor q.address (ul_sent f.case.command b.locks f.case.entry) q.command l

    abbrev LockOf : ℕ → ℕ → Type 0
    LockOf p a = Lock q.command q.processor q.address l p a

    lock_of : (p a : ℕ) → after.holds p a ≡ true → LockOf p a
    lock_of = lock_after q.command q.processor q.address (ul_sent f.case.command b.locks f.case.entry) l

    one_done : OneHolder after
    one_done p r a c x y same = by_locks (lock_of p a x) (lock_of r c y)
      where
        by_locks : LockOf p a → LockOf r c → r ≡ p
        by_locks (older held) (older held_too) = one p r a c held held_too same
        by_locks (older held) (newer takes at_r at_c) =
            at_r ∙ sym (no_other_holder p a held (same ∙ ap block_of at_c))
        by_locks (newer takes at_p at_a) (older held) =
            no_other_holder r c held (sym same ∙ ap block_of at_a) ∙ sym at_p
        by_locks (newer takes at_p at_a) (newer takes_too at_r at_c) = at_r ∙ sym at_p

    listed_done : HoldersListed m after
    listed_done p a h = by_lock (lock_of p a h)
      where
        by_lock : LockOf p a → p < m.processors
        by_lock (older held) = listed p a held
        by_lock (newer takes at_p at_a) =
            subst (λ x. x < m.processors) (sym at_p) (leb-false m.processors q.processor f.facts.known)

  pub waits_law : (o : Outcome Answer) → Shape m b q o
      → WaitsIf (locked_by_other m l q.processor (block_of q.address)) o.answer
  waits_law o (refused e is) =
      subst (λ x. WaitsIf (locked_by_other m l q.processor (block_of q.address)) x.answer) (sym is) tt
  waits_law o (waited w) =
      let hit = held_elsewhere m b q o w in
      subst (λ x. WaitsIf (locked_by_other m l q.processor (block_of q.address)) x.answer) (sym w.is)
      (sym (holder_is m b l k q.processor (block_of q.address)) ∙ hit)
  waits_law o (finished f) =
      subst (λ x. WaitsIf (locked_by_other m l q.processor (block_of q.address)) x.answer) (sym f.is)
      (no_other_lock o f)

  pub one_kept : (o : Outcome Answer) → Shape m b q o → OneHolder (command_fed q o.answer l)
  one_kept o (refused e is) = subst (λ x. OneHolder (command_fed q x.answer l)) (sym is) one
  one_kept o (waited w) = subst (λ x. OneHolder (command_fed q x.answer l)) (sym w.is) one
  one_kept o (finished f) = subst (λ x. OneHolder (command_fed q x.answer l)) (sym f.is) (one_done o f)

  pub listed_kept : (o : Outcome Answer) → Shape m b q o → HoldersListed m (command_fed q o.answer l)
  listed_kept o (refused e is) = subst (λ x. HoldersListed m (command_fed q x.answer l)) (sym is) listed
  listed_kept o (waited w) = subst (λ x. HoldersListed m (command_fed q x.answer l)) (sym w.is) listed
  listed_kept o (finished f) =
      subst (λ x. HoldersListed m (command_fed q x.answer l)) (sym f.is) (listed_done o f)
