-- How many ways of a column were mentioned since a way's last mention; tellings stand latest first.
use Rattle.std.proofs.Common.{◌≡◌, ◌≢◌, ℕ, zero, suc, ◌+◌, ◌<◌, ◌≤◌, Bool, true, false, cond, not, ◌||◌, eqb, List, [], ◌∷◌, min, sym, refl, ap, ◌∙◌, inl, inr, arith}
use Rattle.std.specs.List.{list_any, take_while}
use Rattle.std.proofs.lemmas.Bool.{cases_Bool, cases_eq, cases_lt, or_cases, or_parts, or_left, or_right, or_from, true≢false, eq-eqb, ne_eqb, cond-true, cond-false}
use Rattle.std.proofs.lemmas.Bool.Decides.{nat_tests}
use Rattle.std.proofs.lemmas.List.Sums.{take_while-cons}
use Rattle.policy.specs.declared.policy.Telling.{Telling}
use Rattle.policy.specs.Ages.{aged}
use Rattle.policy.specs.Mentions.{count_below}

-- counts of numbers below n that pass a test
module _ (f g : ℕ → Bool) where
  pub count-same : (n : ℕ) → ((j : ℕ) → j < n → f j ≡ g j) → count_below n f ≡ count_below n g
  count-same zero same = refl
  count-same (suc n) same =
      ap (λ b. cond b 1 0 + count_below n f) (same n (omega arith))
      ∙ ap (λ k. cond (g n) 1 0 + k) (count-same n (λ j h. same j (omega (arith, h))))

  one-le : (j : ℕ) → (f j ≡ true → g j ≡ true) → cond (f j) 1 0 ≤ cond (g j) 1 0
  one-le j up = elim (cases_Bool (f j)) [
    | inl passes ↦ rw (passes, up passes) (omega arith)
    | inr fails ↦ rw fails (omega arith)
  ]

  pub count-le : (n : ℕ) → ((j : ℕ) → f j ≡ true → g j ≡ true) → count_below n f ≤ count_below n g
  count-le zero up = omega arith
  count-le (suc n) up = omega (arith, one-le n (up n), count-le n up)

  pub count-less : (n v : ℕ) → v < n → f v ≡ false → g v ≡ true
      → ((j : ℕ) → f j ≡ true → g j ≡ true) → count_below n f < count_below n g
  count-less zero v h fails passes up = absurd (omega (arith, h))
  count-less (suc n) v h fails passes up = elim (cases_lt v n) [
    | inl less ↦ omega (arith, one-le n (up n), count-less n v less fails passes up)
    | inr last ↦
        let same : v ≡ n = omega (arith, h, last) in
        rw (ap f (sym same) ∙ fails, ap g (sym same) ∙ passes) (omega (arith, count-le n up))
  ]

  -- one more passes
  pub count-more : (n v : ℕ) → v < n → f v ≡ false → g v ≡ true
      → ((j : ℕ) → j ≢ v → f j ≡ g j) → count_below n g ≡ suc (count_below n f)
  count-more zero v h fails passes same = absurd (omega (arith, h))
  count-more (suc n) v h fails passes same = elim (cases_lt v n) [
    | inl less ↦
        let other : n ≢ v = omega (arith, less) in
        rw (sym (same n other)) (omega (arith, count-more n v less fails passes same))
    | inr last ↦
        let at : v ≡ n = omega (arith, h, last) in
        rw (ap f (sym at) ∙ fails, ap g (sym at) ∙ passes)
        (omega (arith, count-same n (λ j below. same j (omega (arith, below, last)))))
  ]

pub count-none : (f : ℕ → Bool) (n : ℕ) → ((j : ℕ) → f j ≡ false) → count_below n f ≡ 0
count-none f zero none = refl
count-none f (suc n) none = rw (none n) (omega (arith, count-none f n none))

-- whether way j was mentioned since the last mention of way w, by a test m of ways and tellings
module _ (m : ℕ → Telling → Bool) where
  abbrev pub seen : List Telling → ℕ → ℕ → Bool
  seen h w j = list_any (m j) (take_while (λ t. not (m w t)) h)

  pub seen-at : (t : Telling) (h : List Telling) (w j : ℕ) → m w t ≡ true → seen (t ∷ h) w j ≡ false
  seen-at t h w j e =
      ap (list_any (m j)) (take_while-cons (λ t. not (m w t)) t h
      ∙ ap (λ b. cond (not b) (t ∷ take_while (λ t. not (m w t)) h) []) e)

  pub seen-past : (t : Telling) (h : List Telling) (w j : ℕ) → m w t ≡ false
      → seen (t ∷ h) w j ≡ (m j t || seen h w j)
  seen-past t h w j e =
      ap (list_any (m j)) (take_while-cons (λ t. not (m w t)) t h
      ∙ ap (λ b. cond (not b) (t ∷ take_while (λ t. not (m w t)) h) []) e)

  pub seen-self : (h : List Telling) (w : ℕ) → seen h w w ≡ false
  seen-self [] w = refl
  seen-self (t ∷ h) w = elim (cases_Bool (m w t)) [
    | inl at ↦ seen-at t h w w at
    | inr past ↦ seen-past t h w w past ∙ or_from _ _ past (seen-self h w)
  ]

  -- where v was mentioned since w, what was mentioned since v was mentioned since w
  pub seen-later : (h : List Telling) (w v j : ℕ) → seen h w v ≡ true → seen h v j ≡ true
      → seen h w j ≡ true
  seen-later [] w v j a b = b
  seen-later (t ∷ h) w v j a b = elim (cases_Bool (m w t)) [
    | inl at ↦ absurd (true≢false (sym a ∙ seen-at t h w v at))
    | inr past ↦ elim (cases_Bool (m v t)) [
      | inl at ↦ absurd (true≢false (sym b ∙ seen-at t h v j at))
      | inr past' ↦
          let since : seen h w v ≡ true
          = sym (ap (λ x. x || seen h w v) past') ∙ sym (seen-past t h w v past) ∙ a in
          seen-past t h w j past
          ∙ elim (or_cases (m j t) (seen h v j) (sym (seen-past t h v j past') ∙ b)) [
            | inl here ↦ or_left (m j t) (seen h w j) here
            | inr rest ↦ or_right (m j t) (seen h w j) (seen-later h w v j since rest)
          ]
    ]
  ]

  -- where it was not, what was mentioned since w was mentioned since v
  pub seen-earlier : (h : List Telling) (w v j : ℕ) → seen h w v ≡ false → seen h w j ≡ true
      → seen h v j ≡ true
  seen-earlier [] w v j a b = b
  seen-earlier (t ∷ h) w v j a b = elim (cases_Bool (m w t)) [
    | inl at ↦ absurd (true≢false (sym b ∙ seen-at t h w j at))
    | inr past ↦
        let parts = or_parts (m v t) (seen h w v) (sym (seen-past t h w v past) ∙ a) in
        seen-past t h v j parts.0
        ∙ elim (or_cases (m j t) (seen h w j) (sym (seen-past t h w j past) ∙ b)) [
          | inl here ↦ or_left (m j t) (seen h v j) here
          | inr rest ↦ or_right (m j t) (seen h v j) (seen-earlier h w v j parts.1 rest)
        ]
  ]

-- the age that a history leaves, by what one more telling makes of it
module _ (m : ℕ → Telling → Bool) (n : ℕ) (here : Telling → Bool)
    (same_way : (t : Telling) (j : ℕ) → here t ≡ true → m j t ≡ eqb t.way j)
    (below : (t : Telling) → here t ≡ true → t.way < n)
    (elsewhere : (t : Telling) (j : ℕ) → here t ≡ false → j < n → m j t ≡ false)
    (age : List Telling → ℕ → ℕ) (young : (w : ℕ) → w < n → age [] w ≡ 0)
    (step : (t : Telling) (h : List Telling) (w : ℕ) → w < n
    → age (t ∷ h) w
    ≡ cond (here t) (cond (eqb w t.way) 0 (aged (age h t.way) (age h w))) (age h w)) where
  abbrev others : List Telling → ℕ → ℕ
  others h w = count_below n (seen m h w)

  -- told of another column, or of no way that there is
  away : (t : Telling) (h : List Telling) (w : ℕ) → w < n → here t ≡ false
      → others (t ∷ h) w ≡ others h w
  away t h w lt e =
      count-same (seen m (t ∷ h) w) (seen m h w) n
      (λ j less. seen-past m t h w j (elsewhere t w e lt)
      ∙ ap (λ b. b || seen m h w j) (elsewhere t j e less))

  -- told of the way itself
  told_self : (t : Telling) (h : List Telling) (w : ℕ) → here t ≡ true → w ≡ t.way
      → others (t ∷ h) w ≡ 0
  told_self t h w e same =
      count-none (seen m (t ∷ h) w) n
      (λ j. seen-at m t h w j (same_way t w e ∙ eq-eqb t.way w (sym same)))

  module _ (t : Telling) (h : List Telling) (w : ℕ) (e : here t ≡ true) (apart : w ≢ t.way) where
    past : (j : ℕ) → seen m (t ∷ h) w j ≡ (eqb t.way j || seen m h w j)
    past j =
        seen-past m t h w j (same_way t w e ∙ ne_eqb t.way w (λ is. apart (sym is)))
        ∙ ap (λ b. b || seen m h w j) (same_way t j e)

    -- of one that was mentioned since
    told_again : seen m h w t.way ≡ true
        → (others (t ∷ h) w ≡ others h w) × (others h t.way < others h w)
    told_again since = (
      count-same (seen m (t ∷ h) w) (seen m h w) n
          (λ j less. past j ∙ elim (cases_eq t.way j) [
            | inl is ↦
                let at : seen m h w j ≡ true = ap (seen m h w) (sym is) ∙ since in
                or_right (eqb t.way j) (seen m h w j) at ∙ sym at
            | inr not ↦ ap (λ b. b || seen m h w j) (ne_eqb t.way j not)
          ]),
      count-less (seen m h t.way) (seen m h w) n t.way (below t e) (seen-self m h t.way) since
          (λ j. seen-later m h w t.way j since),
    )

    -- of one that was not
    told_first : seen m h w t.way ≡ false
        → (others (t ∷ h) w ≡ suc (others h w)) × (others h w ≤ others h t.way)
    told_first since = (
      count-more (seen m h w) (seen m (t ∷ h) w) n t.way (below t e) since
          (past t.way ∙ or_left (eqb t.way t.way) (seen m h w t.way) (eq-eqb t.way t.way refl))
          (λ j other. sym (past j ∙ ap (λ b. b || seen m h w j)
          (ne_eqb t.way j (λ is. other (sym is))))),
      count-le (seen m h w) (seen m h t.way) n (λ j. seen-earlier m h w t.way j since),
    )

  aged_again : (k l : ℕ) → l < k → aged (min 3 l) (min 3 k) ≡ min 3 k
  aged_again k l less = grind (arith, nat_tests)

  aged_first : (k l : ℕ) → k ≤ l → aged (min 3 l) (min 3 k) ≡ min 3 (suc k)
  aged_first k l more = grind (arith, nat_tests)

  -- the age is the number of others that were mentioned since, up to 3
  pub age-is : (h : List Telling) (w : ℕ) → w < n → age h w ≡ min 3 (others h w)
  age-is [] w lt = young w lt ∙ ap (min 3) (sym (count-none (seen m [] w) n (λ j. refl)))
  age-is (t ∷ h) w lt = step t h w lt ∙ elim (cases_Bool (here t)) [
    | inr other ↦
        cond-false (here t) _ (age h w) other ∙ age-is h w lt
        ∙ ap (min 3) (sym (away t h w lt other))
    | inl e ↦ cond-true (here t) _ (age h w) e ∙ elim (cases_eq w t.way) [
      | inl is ↦
          cond-true (eqb w t.way) 0 _ (eq-eqb w t.way is)
          ∙ ap (min 3) (sym (told_self t h w e is))
      | inr not ↦
          cond-false (eqb w t.way) 0 _ (ne_eqb w t.way not)
          ∙ ap (λ l. aged l (age h w)) (age-is h t.way (below t e))
          ∙ ap (aged (min 3 (others h t.way))) (age-is h w lt)
          ∙ elim (cases_Bool (seen m h w t.way)) [
            | inl since ↦
                let again = told_again t h w e not since in
                aged_again (others h w) (others h t.way) again.1 ∙ ap (min 3) (sym again.0)
            | inr since ↦
                let first = told_first t h w e not since in
                aged_first (others h w) (others h t.way) first.1 ∙ ap (min 3) (sym first.0)
          ]
    ]
  ]
