-- Who holds locks: the lock entries and the ledger agree.
use Rattle.std.proofs.Common.{◌≡◌, ℕ, ◌+◌, ◌-◌, ◌%◌, ◌<◌, ◌≤◌, Bool, true, false, cond, not, ◌&&◌, eqb, ltb, List, get_or, set, is_some, Some, None, Option, sym, refl, ap, ◌∙◌, inl, inr, arith}
use Rattle.std.specs.List.{count_by}
use Rattle.std.proofs.lemmas.List.Sums.{sum_by-set}
use Rattle.std.proofs.lemmas.Bool.{cond_both, eqb-true, leb-false}
use Rattle.std.proofs.lemmas.Bool.Decides.{eqb_tells, nat_tests}
use Rattle.protocol.specs.declared.answer.Answer.{Answer}
use Rattle.protocol.specs.declared.command.Command.{Command}
use Rattle.protocol.specs.declared.command.Command.TheVariants.{R, W, DW, RI, RP, RB, LR, UW, U}
use Rattle.protocol.specs.declared.command.Request.{Request}
use Rattle.protocol.specs.declared.lock.LockEntry.{LockEntry}
use Rattle.protocol.specs.declared.measures.Measures.{Measures}
use Rattle.protocol.specs.declared.line.Line.{Line}
use Rattle.protocol.specs.Finding.{unused, window_of}
use Rattle.protocol.specs.Places.{locks_start}
use Rattle.memory.specs.Meaning.{Mem}
use Rattle.cluster.specs.Board.{Board, Outcome}
use Rattle.cluster.specs.declared.cluster.Processor.{Processor}
use Rattle.cluster.specs.Locks.{in_use, locks_from, held_entry, free_entry, waited_at, waited_for}
use Rattle.cluster.specs.Making.{blank_entry}
use Rattle.cluster.specs.Refusing.{entry_used}
use Rattle.cluster.specs.Settling.{takes_lock, releases_lock, locked_at, locks_settled, ul_sent}
use Rattle.law.specs.Ledger.{Ledger, command_fed, done_by}
use Rattle.law.proofs.Entries.{EntryAt, entry_at, locked_seen, unused_seen, held_seen, waited_seen}
use Rattle.law.proofs.Shapes.{Shape, refused, waited, finished}
use Rattle.law.proofs.Windows.{count-map, first_counted, get_or-window, in_window, window_outside, window_inside, window-map, apart}

-- what a done command leaves of the locks in the ledger
abbrev pub changed : ℕ → ℕ → Bool → Ledger → ℕ → ℕ → Bool
changed processor address held l p a = cond (eqb p processor && eqb a address) held (l.holds p a)

abbrev pub held_after : Command → ℕ → ℕ → Ledger → ℕ → ℕ → Bool
held_after c processor address l p a =
    cond (takes_lock c) (changed processor address true l p a)
    (cond (releases_lock c) (changed processor address false l p a) (l.holds p a))

done_holds : (l : Ledger) (c : Command) (processor address : ℕ) (b : Bool) (p a : ℕ)
    → (done_by processor address b c l).holds p a ≡ held_after c processor address l p a
done_holds l R processor address b p a = refl
done_holds l (W word) processor address b p a = refl
done_holds l (DW word) processor address b p a =
    cond_both (eqb (address % 4) 0) _ _ (λ (k : Ledger). k.holds p a ≡ l.holds p a) (λ e. refl)
    (λ e. refl)
done_holds l RI processor address b p a = refl
done_holds l RP processor address b p a = refl
done_holds l RB processor address b p a =
    cond_both (eqb (address % 4) 3) _ _ (λ (k : Ledger). k.holds p a ≡ l.holds p a) (λ e. refl)
    (λ e. refl)
done_holds l LR processor address b p a = refl
done_holds l (UW word) processor address b p a =
    cond_both b _ _ (λ (k : Ledger). k.holds p a ≡ changed processor address false l p a) (λ e. refl)
    (λ e. refl)
done_holds l U processor address b p a =
    cond_both b _ _ (λ (k : Ledger). k.holds p a ≡ changed processor address false l p a) (λ e. refl)
    (λ e. refl)

-- a lock that the ledger has after a done command was there before, or the command took it
pub data Lock (c : Command) (p0 a0 : ℕ) (l : Ledger) (p a : ℕ) : Type 0 where
  older : l.holds p a ≡ true → Lock c p0 a0 l p a
  newer : takes_lock c ≡ true → p ≡ p0 → a ≡ a0 → Lock c p0 a0 l p a

pub lock_after : (c : Command) (p0 a0 : ℕ) (b : Bool) (l : Ledger) (p a : ℕ)
    → (done_by p0 a0 b c l).holds p a ≡ true → Lock c p0 a0 l p a
lock_after c p0 a0 b l p a h =
    by_takes (takes_lock c) (releases_lock c) refl (sym (done_holds l c p0 a0 b p a) ∙ h)
  where
    by_same : (s : Bool) → cond s false (l.holds p a) ≡ true → l.holds p a ≡ true
    by_same true x = absurd (cc)
    by_same false x = x

    by_new : takes_lock c ≡ true → (s t : Bool) → eqb p p0 ≡ s → eqb a a0 ≡ t
        → cond (s && t) true (l.holds p a) ≡ true → Lock c p0 a0 l p a
    by_new e true true es et x = newer e (eqb-true p p0 es) (eqb-true a a0 et)
    by_new e true false es et x = older x
    by_new e false t es et x = older x

    by_takes : (t r : Bool) → takes_lock c ≡ t
        → cond t (changed p0 a0 true l p a) (cond r (changed p0 a0 false l p a) (l.holds p a)) ≡ true
        → Lock c p0 a0 l p a
    by_takes true r e x = by_new e (eqb p p0) (eqb a a0) refl refl x
    by_takes false true e x = older (by_same (eqb p p0 && eqb a a0) x)
    by_takes false false e x = older x

-- how many of the processor's entries are locks at the address
abbrev pub held_by : Measures → List LockEntry → ℕ → ℕ → ℕ
held_by m locks p a = count_by (locks_from a a) (window_of (locks_start m p) m.lock_entries locks)

module _ (m : Measures) (locks : List LockEntry) where
  -- an entry of one processor's window exchanged: the others see nothing of it
  kept_apart : (p0 p a place : ℕ) (e : LockEntry) → (p ≡ p0 → ⊥) → locks_start m p0 ≤ place
      → place < locks_start m p0 + m.lock_entries
      → held_by m (set locks place e) p a ≡ held_by m locks p a
  kept_apart p0 p a place e other low high =
      ap (count_by (locks_from a a)) (window_outside locks (locks_start m p) m.lock_entries place e
      (apart m.lock_entries p0 p place (λ same. other (sym same)) low high))

  exchanged : (p0 a place : ℕ) (test : LockEntry → Bool) (e : LockEntry) → EntryAt m locks p0 test place
      → held_by m (set locks place e) p0 a + cond (locks_from a a (get_or locks place blank_entry)) 1 0
      ≡ held_by m locks p0 a + cond (locks_from a a e) 1 0
  exchanged p0 a place test e found =
      let s = locks_start m p0 in
      let n = m.lock_entries in
      let from = found.from in
      let j = place - s in
      let at : place ≡ s + j = omega (arith, from) in
      let low : j < n = (let to = found.to in omega (arith, from, to)) in
      let there = in_window locks s n j low (let inside = found.inside in omega (arith, at, inside)) in
      let same : get_or locks place blank_entry ≡ get_or (window_of s n locks) j blank_entry =
      ap (λ k. get_or locks k blank_entry) at ∙ sym (get_or-window locks s n j blank_entry low) in
      (λ i. count_by (locks_from a a) (window_inside locks s n place e j at low i) + cond
      (locks_from a a (same i)) 1 0)
      ∙ sum_by-set (λ x. cond (locks_from a a x) 1 0) (window_of s n locks) j e blank_entry there

  kept_waited : (asking block p a : ℕ)
      → held_by m (waited_for m locks asking block) p a ≡ held_by m locks p a
  kept_waited asking block p a =
      ap (count_by (locks_from a a))
      (window-map (waited_at m asking block) (locks_start m p) m.lock_entries locks)
      ∙ count-map (locks_from a a) (waited_at m asking block) (λ i e. waited_seen m asking block a i e)
      (0 + locks_start m p) (window_of (locks_start m p) m.lock_entries locks)

  -- the entries after a done command
  module _ (q : Request) (l : Ledger) (known : q.processor < m.processors)
      (agree : (p : ℕ) → p < m.processors → (a : ℕ) → held_by m locks p a ≡ cond (l.holds p a) 1 0) where
    abbrev p0 : ℕ
    p0 = q.processor

    abbrev a0 : ℕ
    a0 = q.address

    other_same : (p a : ℕ) (held : Bool) → eqb p p0 ≡ false → l.holds p a ≡ changed p0 a0 held l p a
    other_same p a held e = rw e refl

    none_held : (b : Bool) (n : ℕ) → n ≡ cond b 1 0 → n ≡ 0 → b ≡ false
    none_held true n e z = absurd (omega (arith, e, z))
    none_held false n e z = refl

    zero_by_test : (n : ℕ) → ltb 0 n ≡ false → n ≡ 0
    zero_by_test n h = grind (arith, nat_tests)

    one_held : (b : Bool) (n : ℕ) → n ≡ cond b 1 0 → 1 ≤ n → n ≡ 1
    one_held true n e z = e
    one_held false n e z = absurd (omega (arith, e, z))

    as_own : (p a : ℕ) (held : Bool) → (eqb p p0 ≡ true) × (p ≡ p0)
        → cond (eqb a a0) held (l.holds p0 a) ≡ changed p0 a0 held l p a
    as_own p a held same = rw (same.0, same.1) refl

    -- an own entry exchanged: of the others all stays
    own_exchanged : (place : ℕ) (e : LockEntry) (held : Bool) → locks_start m p0 ≤ place
        → place < locks_start m p0 + m.lock_entries
        → ((a : ℕ) → held_by m (set locks place e) p0 a ≡ cond (cond (eqb a a0) held (l.holds p0 a)) 1 0)
        → (p : ℕ) → p < m.processors → (a : ℕ)
        → held_by m (set locks place e) p a ≡ cond (changed p0 a0 held l p a) 1 0
    own_exchanged place e held from to own p listed a = elim (eqb_tells p p0) [
      | inl same ↦ ap (λ x. held_by m (set locks place e) x a) same.1 ∙ own a
          ∙ ap (λ h. cond h 1 0) (as_own p a held same)
      | inr other ↦ kept_apart p0 p a place e other.1 from to ∙ agree p listed a
          ∙ ap (λ h. cond h 1 0) (other_same p a held other.0)
    ]

    -- and of the own other addresses
    own_other : (a x : ℕ) (held : Bool) → eqb a a0 ≡ false → x ≡ held_by m locks p0 a
        → x ≡ cond (cond (eqb a a0) held (l.holds p0 a)) 1 0
    own_other a x held e same = rw e (same ∙ agree p0 known a)

    -- LR writes an empty entry
    took : (place : ℕ) → free_entry m locks p0 ≡ Some place → is_some (held_entry m locks p0 a0) ≡ false
        → (p : ℕ) → p < m.processors → (a : ℕ)
        → held_by m (set locks place (locked_at a0)) p a ≡ cond (changed p0 a0 true l p a) 1 0
    took place free none =
        own_exchanged place (locked_at a0) true found.from found.to
        (λ a. own a (held_by m (set locks place (locked_at a0)) p0 a) (seen a))
      where
        found : EntryAt m locks p0 (unused in_use) place
        found = entry_at m locks p0 (unused in_use) place free

        seen : (a : ℕ) → held_by m (set locks place (locked_at a0)) p0 a + 0
            ≡ held_by m locks p0 a + cond (eqb a a0) 1 0
        seen a =
            ap (λ b. held_by m (set locks place (locked_at a0)) p0 a + cond b 1 0)
            (sym (unused_seen a (get_or locks place blank_entry) found.passes))
            ∙ exchanged p0 a place (unused in_use) (locked_at a0) found
            ∙ ap (λ b. held_by m locks p0 a + cond b 1 0) (locked_seen a a0)

        free_of : l.holds p0 a0 ≡ false
        free_of = none_held (l.holds p0 a0) (held_by m locks p0 a0) (agree p0 known a0)
            (zero_by_test (held_by m locks p0 a0)
            (sym (first_counted (locks_from a0 a0) (locks_start m p0)
            (window_of (locks_start m p0) m.lock_entries locks)) ∙ none))

        own : (a x : ℕ) → x + 0 ≡ held_by m locks p0 a + cond (eqb a a0) 1 0
            → x ≡ cond (cond (eqb a a0) true (l.holds p0 a)) 1 0
        own a x e = elim (eqb_tells a a0) [
          | inl same ↦
              let none : held_by m locks p0 a ≡ 0 =
              agree p0 known a ∙ ap (λ k. cond (l.holds p0 k) 1 0) same.1
              ∙ ap (λ b. cond b 1 0) free_of in
              let one : ◌≡◌ {A = ℕ} (cond (eqb a a0) 1 0) 1 = ap (λ b. cond b 1 0) same.0 in
              rw same.0 (omega (arith, e, none, one))
          | inr other ↦
              let none : ◌≡◌ {A = ℕ} (cond (eqb a a0) 1 0) 0 = ap (λ b. cond b 1 0) other.0 in
              own_other a x true other.0 (omega (arith, e, none))
        ]

    -- a release empties the entry with its address
    gave : (place : ℕ) → held_entry m locks p0 a0 ≡ Some place → (p : ℕ) → p < m.processors → (a : ℕ)
        → held_by m (set locks place blank_entry) p a ≡ cond (changed p0 a0 false l p a) 1 0
    gave place held =
        own_exchanged place blank_entry false found.from found.to
        (λ a. own a (held_by m (set locks place blank_entry) p0 a) (seen a))
      where
        found : EntryAt m locks p0 (locks_from a0 a0) place
        found = entry_at m locks p0 (locks_from a0 a0) place held

        seen : (a : ℕ) → held_by m (set locks place blank_entry) p0 a + cond (eqb a a0) 1 0
            ≡ held_by m locks p0 a + 0
        seen a =
            ap (λ b. held_by m (set locks place blank_entry) p0 a + cond b 1 0)
            (sym (held_seen a a0 (get_or locks place blank_entry) found.passes))
            ∙ exchanged p0 a place (locks_from a0 a0) blank_entry found

        own : (a x : ℕ) → x + cond (eqb a a0) 1 0 ≡ held_by m locks p0 a + 0
            → x ≡ cond (cond (eqb a a0) false (l.holds p0 a)) 1 0
        own a x e = elim (eqb_tells a a0) [
          | inl same ↦
              let one : ◌≡◌ {A = ℕ} (cond (eqb a a0) 1 0) 1 = ap (λ b. cond b 1 0) same.0 in
              let all = one_held (l.holds p0 a) (held_by m locks p0 a) (agree p0 known a)
              (omega (arith, e, one)) in
              rw same.0 (omega (arith, e, one, all))
          | inr other ↦
              let none : ◌≡◌ {A = ℕ} (cond (eqb a a0) 1 0) 0 = ap (λ b. cond b 1 0) other.0 in
              own_other a x false other.0 (omega (arith, e, none))
        ]

    released : (c : Command) → takes_lock c ≡ false → (o : Option ℕ) → held_entry m locks p0 a0 ≡ o
        → not (is_some o) ≡ false
        → (p : ℕ) → p < m.processors → (a : ℕ)
        → held_by m (locks_settled c a0 locks o) p a ≡ cond (changed p0 a0 false l p a) 1 0
    released c takes None same h p listed a = absurd (cc)
    released c takes (Some place) same h p listed a =
        ap (λ b. held_by m (set locks place (cond b (locked_at a0) blank_entry)) p a) takes
        ∙ gave place same p listed a

    -- by what the command does with locks
    settled : (c : Command) → q.command ≡ c → (takes_lock c && is_some (held_entry m locks p0 a0)) ≡ false
        → (takes_lock c && not (is_some (free_entry m locks p0))) ≡ false
        → (releases_lock c && not (is_some (held_entry m locks p0 a0))) ≡ false → (p : ℕ)
        → p < m.processors → (a : ℕ)
        → held_by m (locks_settled c a0 locks (entry_used m locks q)) p a
        ≡ cond (held_after c p0 a0 l p a) 1 0
    settled R e x y z p listed a = rw e (agree p listed a)
    settled (W word) e x y z p listed a = rw e (agree p listed a)
    settled (DW word) e x y z p listed a = rw e (agree p listed a)
    settled RI e x y z p listed a = rw e (agree p listed a)
    settled RP e x y z p listed a = rw e (agree p listed a)
    settled RB e x y z p listed a = rw e (agree p listed a)
    settled LR e x y z p listed a = rw e (by_free (free_entry m locks p0) refl y)
      where
        by_free : (o : Option ℕ) → free_entry m locks p0 ≡ o → not (is_some o) ≡ false
            → held_by m (locks_settled LR a0 locks o) p a ≡ cond (changed p0 a0 true l p a) 1 0
        by_free None same h = absurd (cc)
        by_free (Some place) same h = took place same x p listed a
    settled (UW word) e x y z p listed a =
        rw e (released (UW word) refl (held_entry m locks p0 a0) refl z p listed a)
    settled U e x y z p listed a = rw e (released U refl (held_entry m locks p0 a0) refl z p listed a)

module _ (m : Measures) (board : Board) (q : Request) (l : Ledger)
    (agree : (p : ℕ) → p < m.processors → (a : ℕ) → held_by m board.locks p a ≡ cond (l.holds p a) 1 0)
  where
    pub holds_kept : (o : Outcome Answer) → Shape m board q o → (p : ℕ) → p < m.processors → (a : ℕ)
        → held_by m o.board.locks p a ≡ cond ((command_fed q o.answer l).holds p a) 1 0
    holds_kept o (refused e is) p listed a =
        ap (λ x. held_by m x.board.locks p a) is ∙ agree p listed a
        ∙ ap (λ x. cond ((command_fed q x.answer l).holds p a) 1 0) (sym is)
    holds_kept o (waited w) p listed a =
        ap (λ x. held_by m x.board.locks p a) w.is
        ∙ kept_waited m board.locks w.case.processor w.case.block p a ∙ agree p listed a
        ∙ ap (λ x. cond ((command_fed q x.answer l).holds p a) 1 0) (sym w.is)
    holds_kept o (finished f) p listed a =
        let facts = f.facts in
        ap (λ x. held_by m x.board.locks p a) f.is
        ∙ ap (λ c. held_by m (locks_settled c.command c.address board.locks c.entry) p a) facts.is
        ∙ settled m board.locks q l (leb-false m.processors q.processor facts.known) agree q.command refl
        facts.not_held facts.room facts.held p listed a
        ∙ ap (λ h. cond h 1 0)
        (sym (done_holds l q.command q.processor q.address (ul_sent f.case.command board.locks f.case.entry)
        p a))
        ∙ ap (λ x. cond ((command_fed q x.answer l).holds p a) 1 0) (sym f.is)
