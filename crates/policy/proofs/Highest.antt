-- The way that is named by ages has the highest age, and no lower way has.
use Rattle.std.specs.List.{position_or_len}
use Rattle.std.proofs.Common.{◌≡◌, ℕ, zero, suc, ◌<◌, ◌≤◌, cond, eqb, ◌⊎◌, List, [], ◌∷◌, length, get_or, max, Some, None, refl, sym, ap, subst, ◌∙◌, inl, inr, arith}
use Rattle.std.specs.Prelude.{fold, unwrap_or}
use Rattle.std.proofs.Math.Nat.{le-max_left, le-max_right}
use Rattle.std.proofs.lemmas.Bool.{lt-ltb, eq-eqb, eqb-true, cases_lt, true≢false}
use Rattle.std.proofs.lemmas.List.Sums.{fails_before_first, passes_at_first}
use Rattle.policy.specs.Ages.{highest_way}

-- the highest age is reached, and no age is above it
fold-from : (a : ℕ) (xs : List ℕ) → a ≤ fold max a xs
fold-from a [] = omega arith
fold-from a (x ∷ xs) = omega (arith, le-max_left a x, fold-from (max a x) xs)

pub fold-bounds : (a : ℕ) (xs : List ℕ) (k : ℕ) → k < length xs → get_or xs k 0 ≤ fold max a xs
fold-bounds a [] k h = absurd (omega (arith, h))
fold-bounds a (x ∷ xs) zero h = omega (arith, le-max_right a x, fold-from (max a x) xs)
fold-bounds a (x ∷ xs) (suc k) h = fold-bounds (max a x) xs k (omega (arith, h))

record Reached (a : ℕ) (xs : List ℕ) : Type 0 where
  place : ℕ
  within : place < length xs
  is : get_or xs place 0 ≡ fold max a xs

reached : (a : ℕ) (xs : List ℕ) → (fold max a xs ≡ a) ⊎ Reached a xs
reached a [] = inl refl
reached a (x ∷ xs) = elim (reached (max a x) xs) [
  | inl e ↦ elim (cases_lt a x) [
    | inl less ↦
        inr (record { place = 0; within = omega arith; is = omega (arith, e, less) })
    | inr more ↦ inl (omega (arith, e, more))
  ]
  | inr r ↦ inr (record { place = suc r.place; within = omega (arith, r.within); is = r.is })
]

some_reached : (xs : List ℕ) → 0 < length xs → Reached 0 xs
some_reached xs some = elim (reached 0 xs) [
  | inl e ↦
      record { place = 0; within = some; is = omega (arith, e, fold-bounds 0 xs 0 some) }
  | inr r ↦ r
]

-- the way that is named has the highest age, and no lower way has
pub record IsHighest (xs : List ℕ) (way : ℕ) : Type 0 where
  pub below : way < length xs
  pub greatest : (k : ℕ) → k < length xs → get_or xs k 0 ≤ get_or xs way 0
  pub lowest : (k : ℕ) → k < way → get_or xs k 0 < get_or xs way 0

abbrev first : List ℕ → ℕ
first xs = position_or_len (λ age. eqb age (fold max 0 xs)) xs

first-below : (xs : List ℕ) → 0 < length xs → first xs < length xs
first-below xs some = elim (cases_lt (first xs) (length xs)) [
  | inl below ↦ below
  | inr past ↦
      let r = some_reached xs some in
      absurd (true≢false (sym (eq-eqb _ _ r.is)
      ∙ fails_before_first (λ age. eqb age (fold max 0 xs)) xs r.place 0 (omega (arith, r.within, past))))
]

pub highest_way-is : (xs : List ℕ) → 0 < length xs → IsHighest xs (highest_way xs)
highest_way-is xs some =
    let below : first xs < length xs = first-below xs some in
    let at : highest_way xs ≡ first xs
    = ap (λ b. unwrap_or (cond b (Some (first xs)) None) 0) (lt-ltb _ _ below) in
    let is : get_or xs (first xs) 0 ≡ fold max 0 xs
    = eqb-true _ _ (passes_at_first (λ age. eqb age (fold max 0 xs)) xs 0 below) in
    subst (λ (way : ℕ). IsHighest xs way) (sym at)
    (record {
      below = below;
      greatest = λ k h. omega (arith, is, fold-bounds 0 xs k h);
      lowest =
          λ k h.
          elim (cases_lt (get_or xs k 0) (get_or xs (first xs) 0)) [
            | inl less ↦ less
            | inr same ↦
                let e : get_or xs k 0 ≡ fold max 0 xs
                = omega (arith, is, same, fold-bounds 0 xs k (omega (arith, h, below))) in
                absurd (true≢false (sym (eq-eqb _ _ e)
                ∙ fails_before_first (λ age. eqb age (fold max 0 xs)) xs k 0 h))
          ];
    })
