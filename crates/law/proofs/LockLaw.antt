-- Locks in a block: the lock table tells what the ledger tells.
use Rattle.std.proofs.Common.{◌≡◌, ℕ, ◌+◌, ◌*◌, ◌<◌, ◌≤◌, Bool, true, false, not, ◌&&◌, ◌||◌, eqb, leb, ◌⊎◌, get_or, is_some, sym, refl, ap, subst, ◌∙◌, inl, inr, arith}
use Rattle.std.proofs.lemmas.Bool.{false≢true}
use Rattle.std.proofs.lemmas.Bool.Decides.{eqb_tells, leb_tells, nat_tests}
use Rattle.std.specs.Cmp.{both_ways}
use Rattle.protocol.specs.declared.lock.LockEntry.{LockEntry}
use Rattle.protocol.specs.declared.measures.Measures.{Measures}
use Rattle.cluster.specs.Board.{Board}
use Rattle.cluster.specs.Locks.{in_use, locks_from, locks_block, entry_of, held_entry, has_lock, other_lock, holder_of}
use Rattle.cluster.specs.Making.{blank_entry}
use Rattle.law.specs.Law.{locks_in, locked_by_other}
use Rattle.law.specs.Ledger.{Ledger, block_of}
use Rattle.law.proofs.Entries.{EntryAt, entry_at, entry_found, locks_at, at_its_address}
use Rattle.law.proofs.Lowest.{the_some, lowest_same}
use Rattle.law.proofs.Told.{Kept, accounts}

-- an address lies in its block
in_block : (block a : ℕ) → (leb (4 * block) a && leb a (4 * block + 3)) ≡ true → block_of a ≡ block
in_block block a h = elim (leb_tells (4 * block) a) [
  | inl low ↦ elim (leb_tells a (4 * block + 3)) [
    | inl high ↦ omega (arith, low.1, high.1)
    | inr above ↦ absurd (false≢true (sym above.0 ∙ (rw low.0 at h)))
  ]
  | inr below ↦ absurd (false≢true (rw below.0 at h))
]

-- one of four
one_of_four : (w x y z : Bool) → (w || x || y || z) ≡ true
    → (w ≡ true) ⊎ (x ≡ true) ⊎ (y ≡ true) ⊎ (z ≡ true)
one_of_four true x y z h = inl refl
one_of_four false true y z h = inr (inl refl)
one_of_four false false true z h = inr (inr (inl refl))
one_of_four false false false true h = inr (inr (inr refl))
one_of_four false false false false h = absurd (cc)

four_of_one : (w x y z : Bool) → (w ≡ true) ⊎ (x ≡ true) ⊎ (y ≡ true) ⊎ (z ≡ true)
    → (w || x || y || z) ≡ true
four_of_one true x y z h = refl
four_of_one false true y z h = refl
four_of_one false false true z h = refl
four_of_one false false false true h = refl
four_of_one false false false false (inl h) = h
four_of_one false false false false (inr (inl h)) = h
four_of_one false false false false (inr (inr (inl h))) = h
four_of_one false false false false (inr (inr (inr h))) = h

-- a block's addresses
pub address_in : (l : Ledger) (block p : ℕ) → locks_in l block p ≡ true
    → (a : ℕ) × (block_of a ≡ block) × (l.holds p a ≡ true)
address_in l block p h =
    elim (one_of_four (l.holds p (4 * block)) (l.holds p (4 * block + 1)) (l.holds p (4 * block + 2))
    (l.holds p (4 * block + 3)) h) [
      | inl e ↦ (4 * block, omega arith, e)
      | inr (inl e) ↦ (4 * block + 1, omega arith, e)
      | inr (inr (inl e)) ↦ (4 * block + 2, omega arith, e)
      | inr (inr (inr e)) ↦ (4 * block + 3, omega arith, e)
    ]

pub block_in : (l : Ledger) (block p a : ℕ) → block_of a ≡ block → l.holds p a ≡ true
    → locks_in l block p ≡ true
block_in l block p a e h =
    four_of_one (l.holds p (4 * block)) (l.holds p (4 * block + 1)) (l.holds p (4 * block + 2))
    (l.holds p (4 * block + 3))
    (by_place (eqb_tells a (4 * block)) (eqb_tells a (4 * block + 1)) (eqb_tells a (4 * block + 2)))
  where
    is_at : (c : ℕ) → a ≡ c → l.holds p c ≡ true
    is_at c same = subst (λ x. l.holds p x ≡ true) same h

    by_place : ((eqb a (4 * block) ≡ true) × (a ≡ 4 * block)) ⊎
        ((eqb a (4 * block) ≡ false) × (a ≡ 4 * block → ⊥))
        → ((eqb a (4 * block + 1) ≡ true) × (a ≡ 4 * block + 1)) ⊎
        ((eqb a (4 * block + 1) ≡ false) × (a ≡ 4 * block + 1 → ⊥))
        → ((eqb a (4 * block + 2) ≡ true) × (a ≡ 4 * block + 2)) ⊎
        ((eqb a (4 * block + 2) ≡ false) × (a ≡ 4 * block + 2 → ⊥))
        → (l.holds p (4 * block) ≡ true) ⊎ (l.holds p (4 * block + 1) ≡ true) ⊎
        (l.holds p (4 * block + 2) ≡ true) ⊎ (l.holds p (4 * block + 3) ≡ true)
    by_place (inl same) y z = inl (is_at (4 * block) same.1)
    by_place (inr x) (inl same) z = inr (inl (is_at (4 * block + 1) same.1))
    by_place (inr x) (inr y) (inl same) = inr (inr (inl (is_at (4 * block + 2) same.1)))
    by_place (inr x) (inr y) (inr z) =
        inr (inr (inr (is_at (4 * block + 3) (omega (arith, e, x.1, y.1, z.1)))))

-- what the test for a block tells of an entry
in_its_block : (block : ℕ) (e : LockEntry) → in_use e ≡ true → block_of e.address ≡ block
    → locks_block block e ≡ true
in_its_block block e used same = rw used (by (omega (arith, same)) (omega (arith, same)))
  where
    by : 4 * block ≤ e.address → e.address ≤ 4 * block + 3
        → (leb (4 * block) e.address && leb e.address (4 * block + 3)) ≡ true
    by low high = grind (arith, nat_tests, low, high)

pub blocked_at : (block : ℕ) (e : LockEntry) → locks_block block e ≡ true
    → (in_use e ≡ true) × (block_of e.address ≡ block)
blocked_at block e h = by_use (in_use e) refl h
  where
    by_use : (b : Bool) → in_use e ≡ b
        → (b && leb (4 * block) e.address && leb e.address (4 * block + 3)) ≡ true
        → (in_use e ≡ true) × (block_of e.address ≡ block)
    by_use true used h = (used, in_block block e.address h)
    by_use false used h = absurd (cc)

-- the locks of the table and of the ledger
module _ (m : Measures) (b : Board) (l : Ledger) (k : Kept m b l) where
  pub held_is : (p a : ℕ) → p < m.processors → is_some (held_entry m b.locks p a) ≡ l.holds p a
  held_is p a low = let told = accounts m b l k in told.locks p a low

  -- an entry in use in the processor's window is a lock of the ledger
  pub entry_holds : (p place : ℕ) → p < m.processors → EntryAt m b.locks p in_use place
      → l.holds p (get_or b.locks place blank_entry).address ≡ true
  entry_holds p place low h =
      let e = get_or b.locks place blank_entry in
      sym (held_is p e.address low)
      ∙ entry_found m b.locks p (locks_from e.address e.address) place
      (record {
        from =
            h.from;
        to = h.to;
        inside = h.inside;
        passes = at_its_address e.address e h.passes refl;
      })

  has_lock_is : (block p : ℕ) → p < m.processors → has_lock m b.locks block p ≡ locks_in l block p
  has_lock_is block p low = both_ways (has_lock m b.locks block p) (locks_in l block p) there back
    where
      there : has_lock m b.locks block p ≡ true → locks_in l block p ≡ true
      there h =
          let (place, at) = the_some (entry_of m b.locks p (locks_block block)) h in
          let found = entry_at m b.locks p (locks_block block) place at in
          let tells = blocked_at block (get_or b.locks place blank_entry) found.passes in
          block_in l block p (get_or b.locks place blank_entry).address tells.1
          (entry_holds p place low
          (record { from = found.from; to = found.to; inside = found.inside; passes = tells.0 }))

      back : locks_in l block p ≡ true → has_lock m b.locks block p ≡ true
      back h =
          let (a, same, held) = address_in l block p h in
          let (place, at) = the_some (held_entry m b.locks p a) (held_is p a low ∙ held) in
          let found = entry_at m b.locks p (locks_from a a) place at in
          let e = get_or b.locks place blank_entry in
          let tells = locks_at a e found.passes in
          entry_found m b.locks p (locks_block block) place
          (record {
            from =
                found.from;
            to =
                found.to;
            inside =
                found.inside;
            passes = in_its_block block e tells.0 (ap block_of tells.1 ∙ same);
          })

  pub holder_is : (asking block : ℕ)
      → is_some (holder_of m b.locks asking block) ≡ locked_by_other m l asking block
  holder_is asking block =
      ap is_some (lowest_same (other_lock m b.locks asking block)
      (λ p. not (eqb p asking) && locks_in l block p) m.processors 0
      (λ p low high. ap (λ x. not (eqb p asking) && x) (has_lock_is block p (omega (arith, high)))))
