-- Lock entries: what the tests see of one, and those of a processor's window.
use Rattle.std.proofs.Common.{◌≡◌, ℕ, ◌+◌, ◌*◌, Bool, true, false, cond, not, ◌&&◌, eqb, leb, List, is_some, Some, sym, refl, ap, arith}
use Rattle.std.proofs.lemmas.Bool.Decides.{nat_tests}
use Rattle.protocol.specs.declared.lock.LockEntry.{LockEntry}
use Rattle.protocol.specs.declared.lock.LockState.TheVariants.{LW}
use Rattle.protocol.specs.declared.measures.Measures.{Measures}
use Rattle.protocol.specs.Finding.{unused}
use Rattle.protocol.specs.Places.{locks_start}
use Rattle.cluster.specs.Locks.{in_use, locks_from, entry_of, own_entry, waited_at}
use Rattle.cluster.specs.Making.{blank_entry}
use Rattle.cluster.specs.Settling.{locked_at}
use Rattle.law.proofs.Windows.{Stands, stands, found_by}

-- what the test for an address sees of an entry
pub locked_seen : (a address : ℕ) → locks_from a a (locked_at address) ≡ eqb a address
locked_seen a address = grind (arith, nat_tests)

pub unused_seen : (a : ℕ) (e : LockEntry) → unused in_use e ≡ true → locks_from a a e ≡ false
unused_seen a e h = by_use (in_use e) h
  where
    by_use : (b : Bool) → not b ≡ true → (b && leb a e.address && leb e.address a) ≡ false
    by_use true h = absurd (cc)
    by_use false h = refl

pub held_seen : (a address : ℕ) (e : LockEntry) → locks_from address address e ≡ true
    → locks_from a a e ≡ eqb a address
held_seen a address e h = by_use (in_use e) h
  where
    by_use : (b : Bool) → (b && leb address e.address && leb e.address address) ≡ true
        → (b && leb a e.address && leb e.address a) ≡ eqb a address
    by_use true h = grind (arith, nat_tests)
    by_use false h = absurd (cc)

pub waited_seen : (m : Measures) (asking block a i : ℕ) (e : LockEntry)
    → locks_from a a (waited_at m asking block i e) ≡ locks_from a a e
waited_seen m asking block a i e =
    by_own (own_entry m asking i) (in_use e) (leb (4 * block) e.address) (leb e.address (4 * block + 3))
    refl
  where
    by_own : (o b j k : Bool) → in_use e ≡ b
        → locks_from a a (cond (not o && (b && j && k)) (record { state = LW; address = e.address }) e)
        ≡ locks_from a a e
    by_own true b j k h = refl
    by_own false false j k h = refl
    by_own false true false k h = refl
    by_own false true true false h = refl
    by_own false true true true h = ap (λ x. x && leb a e.address && leb e.address a) (sym h)

-- what the test for an address tells of an entry
pub locks_at : (a : ℕ) (e : LockEntry) → locks_from a a e ≡ true → (in_use e ≡ true) × (e.address ≡ a)
locks_at a e h = by_use (in_use e) refl h
  where
    by_use : (b : Bool) → in_use e ≡ b → (b && leb a e.address && leb e.address a) ≡ true
        → (in_use e ≡ true) × (e.address ≡ a)
    by_use true used h = (used, grind (arith, nat_tests, h))
    by_use false used h = absurd (cc)

pub at_its_address : (a : ℕ) (e : LockEntry) → in_use e ≡ true → e.address ≡ a → locks_from a a e ≡ true
at_its_address a e used same = rw used (grind (arith, nat_tests, same))

module _ (m : Measures) (locks : List LockEntry) (p : ℕ) (test : LockEntry → Bool) where
  -- an entry of the processor's window passes the test
  abbrev pub EntryAt : ℕ → Type 0
  EntryAt = Stands test locks (locks_start m p) m.lock_entries blank_entry

  pub entry_at : (place : ℕ) → entry_of m locks p test ≡ Some place → EntryAt place
  entry_at = stands test locks (locks_start m p) m.lock_entries blank_entry

  pub entry_found : (place : ℕ) → EntryAt place → is_some (entry_of m locks p test) ≡ true
  entry_found = found_by test locks (locks_start m p) m.lock_entries blank_entry
