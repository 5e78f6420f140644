-- Who waits for a block has an entry that somebody waits for, so nobody waits for a block without locks.
use Prim.{tt}
use Rattle.std.proofs.Common.{◌≡◌, ℕ, zero, suc, ◌+◌, ◌*◌, ◌<◌, ◌≤◌, Bool, true, false, cond, not, ◌&&◌, eqb, ◌⊎◌, List, length, get_or, is_some, Some, None, Ok, Err, Option, Result, sym, refl, ap, ◌∙◌, subst, inl, inr, suc-mul, arith, length-set}
use Rattle.std.proofs.lemmas.List.{get_or-set_other}
use Rattle.std.proofs.lemmas.Bool.{false≢true, cond_both, false_from_ne_true}
use Rattle.std.proofs.lemmas.Bool.Decides.{eqb_tells, leb_tells, nat_tests}
use Rattle.protocol.specs.declared.answer.Answer.{Answer}
use Rattle.protocol.specs.declared.answer.Answer.TheVariants.{Done, Wait}
use Rattle.protocol.specs.declared.command.Request.{Request}
use Rattle.protocol.specs.declared.lock.LockEntry.{LockEntry}
use Rattle.protocol.specs.declared.lock.LockState.{LockState}
use Rattle.protocol.specs.declared.lock.LockState.TheVariants.{E, L, LW}
use Rattle.protocol.specs.declared.measures.Measures.{Measures}
use Rattle.protocol.specs.declared.refusal.Refusal.{Refusal}
use Rattle.protocol.specs.Entries.{locked as entry_locked}
use Rattle.protocol.specs.Finding.{unused}
use Rattle.protocol.specs.Places.{locks_start}
use Rattle.memory.specs.Meaning.{Mem}
use Rattle.cluster.specs.Board.{Board, Outcome}
use Rattle.cluster.specs.Locks.{in_use, locks_from, locks_block, entry_of, held_entry, free_entry, has_lock, holder_of, own_entry, waited_at, waited_for, waits_on, somebody_waits}
use Rattle.cluster.specs.Making.{blank_entry}
use Rattle.cluster.specs.Refusing.{entry_used}
use Rattle.cluster.specs.Rule.{command_rule}
use Rattle.cluster.specs.Settling.{takes_lock, releases_lock, locks_settled, ul_sent}
use Rattle.law.specs.Calls.{command, left_by}
use Rattle.law.specs.Law.{OnDone, locks_in, locked}
use Rattle.law.specs.Ledger.{Ledger, block_of, opened, waits_in, command_fed, done_by}
use Rattle.law.proofs.Awaits.{wake, done_waits, ul_quiet}
use Rattle.law.proofs.Entries.{entry_at, locks_at}
use Rattle.law.proofs.Invariant.{OneHolder, Marked, AllMarked}
use Rattle.law.proofs.LockLaw.{blocked_at, block_in, entry_holds}
use Rattle.law.proofs.LocksKept.{HoldersListed, held_elsewhere}
use Rattle.law.proofs.Lowest.{the_some, some_passes, other_found}
use Rattle.law.proofs.Shapes.{Shape, refused, waited, finished, shape}
use Rattle.law.proofs.Told.{Kept, kept_on}
use Rattle.law.proofs.Windows.{apart, length-map, get_or-map}

-- an entry that somebody waits for is in use
waited_used : (e : LockEntry) → somebody_waits e ≡ true → in_use e ≡ true
waited_used e = by_state e.state
  where
    by_state : (s : LockState) → waits_on s ≡ true → entry_locked s ≡ true
    by_state E h = h
    by_state L h = refl
    by_state LW h = refl

-- each place of the lock table is of some processor's window
window_with : (n count i : ℕ) → i < count * n → (p : ℕ) × (p < count) × (p * n ≤ i) × (i < p * n + n)
window_with n zero i h = absurd (omega (arith, h))
window_with n (suc count) i h = elim (leb_tells (count * n) i) [
  | inl here ↦ (count, omega arith, here.1, (let more = suc-mul count n in omega (arith, h, more)))
  | inr below ↦ (let (p, low, from, to) =
      window_with n count i below.1 in (p, omega (arith, low), from, to))
]

marked_locked : (m : Measures) (b : Board) (l : Ledger) → Kept m b l → (block : ℕ) → Marked b.locks block
    → locked m l block ≡ true
marked_locked m b l k block mark =
    let inside = mark.inside in
    let fit = k.fit in
    let (p, low, from, to) =
    window_with m.lock_entries m.processors mark.place (omega (arith, inside, fit)) in
    let e = get_or b.locks mark.place blank_entry in
    some_passes (locks_in l block) m.processors p low
    (block_in l block p e.address mark.here
    (entry_holds m b l k p mark.place low
    (record { from = from; to = to; inside = inside; passes = waited_used e mark.waited })))

-- without a lock in the block nobody waits for it
nobody_waits : (m : Measures) (b : Board) (l : Ledger) → Kept m b l → AllMarked b.locks l → (block : ℕ)
    → locked m l block ≡ false
    → (r : ℕ) → waits_in block (l.waits r) ≡ false
nobody_waits m b l k marked block free r = by_wait (l.waits r) refl
  where
    by_wait : (w : Option ℕ) → l.waits r ≡ w → waits_in block w ≡ false
    by_wait None e = refl
    by_wait (Some x) e = elim (eqb_tells x block) [
      | inl same ↦ absurd
          (false≢true (sym free ∙ marked_locked m b l k block (marked r block (e ∙ ap Some same.1))))
      | inr other ↦ other.0
    ]

-- the entries after a WAIT
module _ (m : Measures) (locks : List LockEntry) (asking block : ℕ) where
  at_waited : (i : ℕ) → i < length locks
      → get_or (waited_for m locks asking block) i blank_entry
      ≡ waited_at m asking block i (get_or locks i blank_entry)
  at_waited i h =
      let same : 0 + i ≡ i = omega arith in
      get_or-map (waited_at m asking block) 0 locks i blank_entry h
      ∙ ap (λ k. waited_at m asking block k (get_or locks i blank_entry)) same

  -- an entry that is waited for after it, by what becomes of it
  mark_at : (i to : ℕ) → i < length locks
      → somebody_waits (waited_at m asking block i (get_or locks i blank_entry)) ≡ true
      → block_of (waited_at m asking block i (get_or locks i blank_entry)).address ≡ to
      → Marked (waited_for m locks asking block) to
  mark_at i to low is_waited here = record {
    place = i;
    inside = subst (λ n. i < n) (sym (length-map (waited_at m asking block) 0 locks)) low;
    waited = ap somebody_waits (at_waited i low) ∙ is_waited;
    here = ap (λ x. block_of x.address) (at_waited i low) ∙ here;
  }

  still_marked : (to : ℕ) → Marked locks to → Marked (waited_for m locks asking block) to
  still_marked to mark =
      let e = get_or locks mark.place blank_entry in
      let both = cond_both (not (own_entry m asking mark.place) && locks_block block e)
      (record { state = LW; address = e.address }) e
      (λ x. (somebody_waits x ≡ true) × (block_of x.address ≡ to)) (λ t. (refl, mark.here))
      (λ t. (mark.waited, mark.here)) in
      mark_at mark.place to mark.inside both.0 both.1

  not_own : (p i : ℕ) → (p ≡ asking → ⊥) → locks_start m p ≤ i → i < locks_start m p + m.lock_entries
      → own_entry m asking i ≡ false
  not_own p i other from to = by_side (apart m.lock_entries p asking i other from to)
    where
      by_side : (i < locks_start m asking) ⊎ (locks_start m asking + m.lock_entries ≤ i)
          → own_entry m asking i ≡ false
      by_side (inl before) = grind (arith, nat_tests, before)
      by_side (inr behind) = grind (arith, nat_tests, behind)

  -- the one that asks waits for the holder's entry
  newly_marked : is_some (holder_of m locks asking block) ≡ true
      → Marked (waited_for m locks asking block) block
  newly_marked h =
      let (p, at) = the_some (holder_of m locks asking block) h in
      let other = other_found (has_lock m locks block) asking m.processors p at in
      by_entry p other.1 other.2
    where
      by_entry : (p : ℕ) → (p ≡ asking → ⊥) → has_lock m locks block p ≡ true
          → Marked (waited_for m locks asking block) block
      by_entry p other has =
          let (i, at) = the_some (entry_of m locks p (locks_block block)) has in
          let found = entry_at m locks p (locks_block block) i at in
          let e = get_or locks i blank_entry in
          let tells = blocked_at block e found.passes in
          let test : (not (own_entry m asking i) && locks_block block e) ≡ true =
          rw (not_own p i other found.from found.to, found.passes) refl in
          mark_at i block found.inside
          (ap (λ t. somebody_waits (cond t (record { state = LW; address = e.address }) e)) test)
          (ap (λ t. block_of (cond t (record { state = LW; address = e.address }) e).address) test
          ∙ tells.1)

-- a processor that waits still after UL waits for another block
still_waits : (u : Bool) (block to : ℕ) (w : Option ℕ) → cond u (wake block w) w ≡ Some to
    → (w ≡ Some to) × (u ≡ true → to ≡ block → ⊥)
still_waits false block to w e = (e, λ h. absurd (false≢true h))
still_waits true block to None e = absurd (cc)
still_waits true block to (Some x) e = elim (eqb_tells x block) [
  | inl same ↦ (let gone : None ≡ Some to = rw same.0 at e in absurd (cc))
  | inr other ↦ (let stays : Some x ≡ Some to =
      rw other.0 at e in (stays, λ h same. other.1 (let is : x ≡ to = cc in is ∙ same)))
]

module _ (m : Measures) (locks : List LockEntry) (q : Request) where
  -- the entry that LR fills is empty, and the one that a release empties has the address
  used_tells : (i : ℕ) → entry_used m locks q ≡ Some i
      → (in_use (get_or locks i blank_entry) ≡ false) ⊎
      ((takes_lock q.command ≡ false) × ((get_or locks i blank_entry).address ≡ q.address))
  used_tells i = by_tests (takes_lock q.command) (releases_lock q.command) refl
    where
      by_tests : (t r : Bool) → takes_lock q.command ≡ t
          → cond t (free_entry m locks q.processor)
          (cond r (held_entry m locks q.processor q.address) None) ≡ Some i
          → (in_use (get_or locks i blank_entry) ≡ false) ⊎
          ((takes_lock q.command ≡ false) × ((get_or locks i blank_entry).address ≡ q.address))
      by_tests true r e h =
          let found = entry_at m locks q.processor (unused in_use) i h in
          inl (false_from_ne_true (in_use (get_or locks i blank_entry))
          (λ used. false≢true (sym (ap not used) ∙ found.passes)))
      by_tests false true e h =
          let found = entry_at m locks q.processor (locks_from q.address q.address) i h in
          let tells = locks_at q.address (get_or locks i blank_entry) found.passes in
          inr (e, tells.1)
      by_tests false false e h = absurd (cc)

  -- what is waited for stays so, unless UL is sent for its block
  marked_settled : (entry : Option ℕ) → entry_used m locks q ≡ entry → (to : ℕ) → Marked locks to
      → (ul_sent q.command locks entry ≡ true → to ≡ block_of q.address → ⊥)
      → Marked (locks_settled q.command q.address locks entry) to
  marked_settled None same to mark quiet = mark
  marked_settled (Some i) same to mark quiet = elim (eqb_tells mark.place i) [
    | inl here ↦
        absurd (not_here
        (subst (λ k. somebody_waits (get_or locks k blank_entry) ≡ true) here.1 mark.waited)
        (subst (λ k. block_of (get_or locks k blank_entry).address ≡ to) here.1 mark.here))
    | inr other ↦
        let stays = get_or-set_other locks i mark.place _ blank_entry other.1 in
        record {
          place = mark.place;
          inside = subst (λ n. mark.place < n) (sym (length-set locks i _)) mark.inside;
          waited = ap somebody_waits stays ∙ mark.waited;
          here = ap (λ x. block_of x.address) stays ∙ mark.here;
        }
  ]
    where
      not_here : somebody_waits (get_or locks i blank_entry) ≡ true
          → block_of (get_or locks i blank_entry).address ≡ to → ⊥
      not_here waits here = elim (used_tells i same) [
        | inl empty ↦ false≢true (sym empty ∙ waited_used (get_or locks i blank_entry) waits)
        | inr emptied ↦ quiet (rw (emptied.0, waits) refl) (sym here ∙ ap block_of emptied.1)
      ]

module _ (m : Measures) (b : Board) (l : Ledger) (marked : AllMarked b.locks l) (q : Request) where
  abbrev block : ℕ
  block = block_of q.address

  abbrev used : Option ℕ
  used = entry_used m b.locks q

  marked_waiting : is_some (holder_of m b.locks q.processor block) ≡ true
      → (r to : ℕ) → cond (eqb r q.processor) (Some block) (l.waits r) ≡ Some to
      → Marked (waited_for m b.locks q.processor block) to
  marked_waiting h r to = by_same (eqb r q.processor)
    where
      by_same : (t : Bool) → cond t (Some block) (l.waits r) ≡ Some to
          → Marked (waited_for m b.locks q.processor block) to
      by_same true e =
          let is : block ≡ to =
          cc in subst (λ x. Marked (waited_for m b.locks q.processor block) x) is
          (newly_marked m b.locks q.processor block h)
      by_same false e = still_marked m b.locks q.processor block to (marked r to e)

  marked_done : AllMarked (locks_settled q.command q.address b.locks used)
      (done_by q.processor q.address (ul_sent q.command b.locks used) q.command l)
  marked_done r to e =
      let ul = ul_sent q.command b.locks used in
      let waits : cond ul (wake block (l.waits r)) (l.waits r) ≡ Some to
      = ap (λ u. cond u (wake block (l.waits r)) (l.waits r)) (sym (ul_quiet m b.locks q q.command refl))
      ∙ sym (done_waits l q.command q.processor q.address r ul) ∙ e in
      let still = still_waits ul block to (l.waits r) waits in
      marked_settled m b.locks q used refl to (marked r to still.0) still.1

  pub marked_kept : (o : Outcome Answer) → Shape m b q o
      → AllMarked o.board.locks (command_fed q o.answer l)
  marked_kept o (refused e is) =
      subst (λ x. AllMarked x.board.locks (command_fed q x.answer l)) (sym is) marked
  marked_kept o (waited w) =
      let hit = held_elsewhere m b q o w in
      subst (λ x. AllMarked x.board.locks (command_fed q x.answer l)) (sym w.is)
      (λ r to e. subst (λ c. Marked (waited_for m b.locks c.processor c.block) to) (sym w.facts.is)
      (marked_waiting hit r to e))
  marked_kept o (finished f) =
      subst (λ x. AllMarked x.board.locks (command_fed q x.answer l)) (sym f.is)
      (subst (λ c. AllMarked (locks_settled c.command c.address b.locks c.entry)
      (done_by q.processor q.address (ul_sent c.command b.locks c.entry) q.command l))
      (sym f.facts.is) marked_done)

  -- what a command leaves of a block: without a lock nobody waits
  wakes_on : m.processors ≤ 8 → Kept m b l
      → locked m (command_fed q (command_rule m b q).answer l) block ≡ false
      → (r : ℕ) → waits_in block ((command_fed q (command_rule m b q).answer l).waits r) ≡ false
  wakes_on few k =
      nobody_waits m (left_by m b (command q)) (command_fed q (command_rule m b q).answer l)
      (kept_on m b l few k (command q))
      (marked_kept (command_rule m b q) (shape m b q)) block

  pub wakes_law : m.processors ≤ 8 → Kept m b l → releases_lock q.command ≡ true
      → OnDone (command_rule m b q).answer (λ done. let after = command_fed q (Ok (Done done)) l in
      locked m after block ≡ false → (r : ℕ) → waits_in block (after.waits r) ≡ false)
  wakes_law few k releases = by_answer (command_rule m b q).answer (wakes_on few k)
    where
      by_answer : (a : Result Answer Refusal)
          → (locked m (command_fed q a l) block ≡ false → (r : ℕ)
          → waits_in block ((command_fed q a l).waits r) ≡ false)
          → OnDone a (λ done. let after =
          command_fed q (Ok (Done done)) l in
          locked m after block ≡ false → (r : ℕ) → waits_in block (after.waits r) ≡ false)
      by_answer (Ok (Done done)) h = h
      by_answer (Ok (Wait hit)) h = tt
      by_answer (Err e) h = tt

-- at the start nobody holds or waits
pub new_one_holder : (mem : Mem) → OneHolder (opened mem)
new_one_holder mem p q a c h = absurd (false≢true h)

pub new_marked : (locks : List LockEntry) (mem : Mem) → AllMarked locks (opened mem)
new_marked locks mem r block e = absurd (cc)

pub new_listed : (m : Measures) (mem : Mem) → HoldersListed m (opened mem)
new_listed m mem p a h = absurd (false≢true h)
