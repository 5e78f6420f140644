-- The lowest number that passes a test, and the lowest but the one that asks.
use Rattle.std.proofs.Common.{◌≡◌, ℕ, zero, suc, ◌+◌, ◌<◌, ◌≤◌, Bool, true, false, cond, not, ◌&&◌, eqb, is_some, Some, None, Option, sym, refl, ap, ◌∙◌, subst, inl, inr, arith}
use Rattle.std.proofs.lemmas.Bool.{false≢true, false_from_ne_true}
use Rattle.std.proofs.lemmas.Bool.Decides.{eqb_tells}
use Rattle.protocol.specs.Finding.{lowest_from}
use Rattle.protocol.proofs.Finding.{Lowest, lowest_tells, lowest_none}

pub the_some : {X : Type 0} (o : Option X) → is_some o ≡ true → (x : X) × (o ≡ Some x)
the_some None h = absurd (cc)
the_some (Some x) h = (x, refl)

pub some_passes : (t : ℕ → Bool) (n j : ℕ) → j < n → t j ≡ true → is_some (lowest_from t 0 n) ≡ true
some_passes t n j low e = by_found (lowest_from t 0 n) (lowest_tells t n 0)
  where
    by_found : (o : Option ℕ) → Lowest t 0 n o → is_some o ≡ true
    by_found None none = absurd (false≢true (sym (none j (omega arith) (omega (arith, low))) ∙ e))
    by_found (Some i) h = refl

-- two searches with tests that agree
pub lowest_same : (t u : ℕ → Bool) (count from : ℕ) → ((j : ℕ) → from ≤ j → j < from + count → t j ≡ u j)
    → lowest_from t from count ≡ lowest_from u from count
lowest_same t u zero from same = refl
lowest_same t u (suc count) from same =
    let behind = lowest_same t u count (from + 1)
    (λ j low high. same j (omega (arith, low)) (omega (arith, high))) in
    (λ i. cond (same from (omega arith) (omega arith) i) (Some from) (behind i))

-- with a test that leaves out the one that asks
module _ (t : ℕ → Bool) (asking n : ℕ) where
  abbrev other : ℕ → Bool
  other j = not (eqb j asking) && t j

  pub other_found : (p : ℕ) → lowest_from other 0 n ≡ Some p → (p < n) × (p ≡ asking → ⊥) × (t p ≡ true)
  other_found p e =
      let found = subst (Lowest other 0 n) e (lowest_tells other n 0) in
      elim (eqb_tells p asking) [
        | inl same ↦ absurd (false≢true (rw same.0 at found.2))
        | inr far ↦ ((let low = found.1 in omega (arith, low)), far.1, (rw far.0 at found.2))
      ]

  pub none_other : is_some (lowest_from other 0 n) ≡ false → (j : ℕ) → j < n → t j ≡ true → j ≡ asking
  none_other e j low passes = elim (eqb_tells j asking) [
    | inl same ↦ same.1
    | inr far ↦ absurd (false≢true (sym e ∙ some_passes other n j low (rw (far.0, passes) refl)))
  ]

  pub no_other : ((j : ℕ) → j < n → t j ≡ true → j ≡ asking) → is_some (lowest_from other 0 n) ≡ false
  no_other all = ap is_some (lowest_none other n 0 (λ j low high. elim (eqb_tells j asking) [
    | inl same ↦ rw same.0 refl
    | inr far ↦ rw far.0 (false_from_ne_true (t j) (λ e. far.1 (all j (omega (arith, high)) e)))
  ]))
