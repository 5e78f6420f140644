-- A new table's ages tell which way was unmentioned longest.
use Rattle.std.proofs.Common.{◌≡◌, ◌≢◌, ℕ, suc, ◌+◌, ◌*◌, ◌<◌, ◌≤◌, Bool, true, false, cond, ◌&&◌, ◌⊎◌, eqb, ltb, List, [], ◌∷◌, ◌++◌, length, map, get_or, take, drop, min, reverse, replicate, sym, refl, ap, subst, ◌∙◌, inl, inr, arith, mul-le-mul_right}
use Rattle.std.proofs.lemmas.Bool.{cases_Bool, cases_lt, cases_eq, and_parts, and_from, ltb-true, lt-ltb, eqb-true, eq-eqb, ne_eqb, true≢false, cond-true, cond-false}
use Rattle.std.proofs.lemmas.Bool.Decides.{nat_tests}
use Rattle.std.proofs.lemmas.List.{places, reverse-append, get_or-replicate, get_or-set_same, get_or-set_other, get_or-map, length-map, length-replicate}
use Rattle.std.proofs.lemmas.Nat.{same_from_place}
use Rattle.protocol.specs.declared.measures.Measures.{Measures}
use Rattle.protocol.specs.Places.{line_count}
use Rattle.policy.specs.declared.extent.Extent.{Extent}
use Rattle.policy.specs.declared.policy.Telling.{Telling}
use Rattle.policy.specs.Ages.{aged, mentioned, column_start, ages_of, ages_told, ageing, highest_way}
use Rattle.policy.specs.Extents.{extent_of, has_column, has}
use Rattle.policy.specs.Lawful.{length-mentioned, length-ages_told, length-after, length-ages_of, column-within}
use Rattle.policy.specs.Meaning.{state_after}
use Rattle.policy.specs.Mentions.{mentions, others_since, IsLowestGreatest, NamesLongest}
use Rattle.policy.proofs.Highest.{highest_way-is}
use Rattle.policy.proofs.Mentioned.{age-is}

-- the state that a history leaves, the latest telling first
module _ {S : Type 0} (step : S → Telling → S) where
  abbrev pub state_of : S → List Telling → S
  state_of s [] = s
  state_of s (t ∷ h) = step (state_of s h) t

  onto : (s : S) (h : List Telling) (t : Telling)
      → state_of (step s t) h ≡ state_of s (h ++ (t ∷ []))
  onto s [] t = refl
  onto s (u ∷ h) t = ap (λ r. step r u) (onto s h t)

  pub after-reverse : (s : S) (later : List Telling)
      → state_after step s later ≡ state_of s (reverse later)
  after-reverse s [] = refl
  after-reverse s (t ∷ later) =
      after-reverse (step s t) later ∙ onto s (reverse later) t
      ∙ ap (state_of s) (sym (reverse-append (t ∷ []) later))

-- reading a table into which a column was written
module _ (xs ys : List ℕ) (s n : ℕ) (room : s + n ≤ length xs) (long : length ys ≡ n) where
  pub read-inside : (w : ℕ) → w < n
      → get_or (take s xs ++ (ys ++ drop (s + n) xs)) (s + w) 0 ≡ get_or ys w 0
  read-inside w lt = grind (arith, places)

  pub read-outside : (k : ℕ) → (k < s) ⊎ (s + n ≤ k)
      → get_or (take s xs ++ (ys ++ drop (s + n) xs)) k 0 ≡ get_or xs k 0
  read-outside k apart = grind (arith, places)

-- and a column whose way was mentioned
pub read-mentioned : (xs : List ℕ) (v w : ℕ) → v < length xs → w < length xs
    → get_or (mentioned v xs) w 0
    ≡ cond (eqb w v) 0 (aged (get_or xs v 0) (get_or xs w 0))
read-mentioned xs v w v_in w_in =
    let raised = map (aged (get_or xs v 0)) xs in
    elim (cases_eq w v) [
      | inl is ↦
          ap (λ k. get_or (mentioned v xs) k 0) is
          ∙ get_or-set_same raised v 0 0 (omega (arith, v_in, length-map xs (aged (get_or xs v 0))))
          ∙ sym (cond-true (eqb w v) 0 _ (eq-eqb w v is))
      | inr not ↦
          get_or-set_other raised v w 0 0 not ∙ get_or-map (aged (get_or xs v 0)) xs w 0 0 w_in
          ∙ sym (cond-false (eqb w v) 0 _ (ne_eqb w v not))
    ]

-- windows of different columns are apart
rows-apart : (n r q w : ℕ) → w < n → r ≢ q → (r * n + w < q * n) ⊎ (q * n + n ≤ r * n + w)
rows-apart n r q w lt other = elim (cases_lt r q) [
  | inl less ↦
      let up : suc r * n ≤ q * n = mul-le-mul_right n less in inl (omega (arith, up, lt))
  | inr more ↦
      let up : suc q * n ≤ r * n = mul-le-mul_right n (omega (arith, more, other)) in
      inr (omega (arith, up))
]

-- the column c of processor p, and the tellings that change it
module _ (e : Extent) (p c : ℕ) (p_in : p < e.processors) (c_in : c < e.columns) where
  abbrev here : Telling → Bool
  here t = eqb t.processor p && eqb t.column c && ltb t.way e.ways

  same_way : (t : Telling) (j : ℕ) → here t ≡ true → mentions p c j t ≡ eqb t.way j
  same_way t j h =
      let parts = and_parts (eqb t.processor p && eqb t.column c) (ltb t.way e.ways) h in
      ap (λ b. b && eqb t.way j) parts.0

  below : (t : Telling) → here t ≡ true → t.way < e.ways
  below t h =
      ltb-true _ _ (and_parts (eqb t.processor p && eqb t.column c) (ltb t.way e.ways) h).1

  elsewhere : (t : Telling) (j : ℕ) → here t ≡ false → j < e.ways → mentions p c j t ≡ false
  elsewhere t j h lt = grind (arith, nat_tests)

  module _ (ages : List ℕ) (room : e.processors * e.columns * e.ways ≤ length ages) where
    -- the age of a way after a history
    abbrev age : List Telling → ℕ → ℕ
    age h w = get_or (state_of (ages_told e) ages h) (column_start e p c + w) 0

    length-state : (h : List Telling) → length (state_of (ages_told e) ages h) ≡ length ages
    length-state [] = refl
    length-state (t ∷ h) = length-ages_told e (state_of (ages_told e) ages h) t ∙ length-state h

    module _ (t : Telling) (h : List Telling) (w : ℕ) (lt : w < e.ways) where
      abbrev xs : List ℕ
      xs = state_of (ages_told e) ages h

      abbrev start : ℕ
      start = column_start e t.processor t.column

      abbrev column : List ℕ
      column = mentioned t.way (ages_of e t.processor t.column xs)

      abbrev written : List ℕ
      written = take start xs ++ (column ++ drop (start + e.ways) xs)

      room-state : e.processors * e.columns * e.ways ≤ length xs
      room-state = omega (arith, room, length-state h)

      module _ (told_p_in : t.processor < e.processors) (told_c_in : t.column < e.columns) where
        long : length (ages_of e t.processor t.column xs) ≡ e.ways
        long = length-ages_of e xs t.processor t.column room-state told_p_in told_c_in

        within : start + e.ways ≤ length xs
        within = column-within e (length xs) t.processor t.column room-state told_p_in told_c_in

        column-long : length column ≡ e.ways
        column-long = length-mentioned t.way (ages_of e t.processor t.column xs) ∙ long

        at : (i : ℕ) → i < e.ways
            → get_or (ages_of e t.processor t.column xs) i 0 ≡ get_or xs (start + i) 0
        at i less = let room : start + e.ways ≤ length xs = within in grind (arith, places)

        -- where the telling is of this column, and where it is of another
        read-own : t.way < e.ways
            → get_or written (start + w) 0
            ≡ cond (eqb w t.way) 0
            (aged (get_or xs (start + t.way) 0) (get_or xs (start + w) 0))
        read-own low =
            read-inside xs column start e.ways within column-long w lt
            ∙ read-mentioned (ages_of e t.processor t.column xs) t.way w
            (omega (arith, long, low)) (omega (arith, long, lt))
            ∙ ap (λ l. cond (eqb w t.way) 0
            (aged l (get_or (ages_of e t.processor t.column xs) w 0))) (at t.way low)
            ∙ ap (λ k. cond (eqb w t.way) 0 (aged (get_or xs (start + t.way) 0) k)) (at w lt)

        -- another column's window is apart from this one's
        other-row : here t ≡ false → t.way < e.ways
            → p * e.columns + c ≢ t.processor * e.columns + t.column
        other-row other low same =
            let parts = same_from_place p c t.processor t.column e.columns c_in told_c_in same in
            true≢false (sym (and_from _ _ (and_from _ _ (eq-eqb _ _ (sym parts.0))
            (eq-eqb _ _ (sym parts.1))) (lt-ltb _ _ low)) ∙ other)

        read-other : here t ≡ false → t.way < e.ways
            → get_or written (column_start e p c + w) 0 ≡ age h w
        read-other other low =
            read-outside xs column start e.ways within column-long (column_start e p c + w)
            (rows-apart e.ways (p * e.columns + c) (t.processor * e.columns + t.column) w lt
            (other-row other low))

      told-away : here t ≡ false → age (t ∷ h) w ≡ age h w
      told-away other = elim (cases_Bool (has e t)) [
        | inr out ↦
            ap (λ zs. get_or zs (column_start e p c + w) 0) (cond-false (has e t) written xs out)
        | inl is ↦
            let parts = and_parts (has_column e t.processor t.column) (ltb t.way e.ways) is in
            let place = and_parts (ltb t.processor e.processors) (ltb t.column e.columns) parts.0 in
            ap (λ zs. get_or zs (column_start e p c + w) 0) (cond-true (has e t) written xs is)
            ∙ read-other (ltb-true _ _ place.0) (ltb-true _ _ place.1) other (ltb-true _ _ parts.1)
      ]

      told-here : here t ≡ true
          → age (t ∷ h) w ≡ cond (eqb w t.way) 0 (aged (age h t.way) (age h w))
      told-here own =
          let parts = and_parts (eqb t.processor p && eqb t.column c) (ltb t.way e.ways) own in
          let place = and_parts (eqb t.processor p) (eqb t.column c) parts.0 in
          let ep : t.processor ≡ p = eqb-true _ _ place.0 in
          let ec : t.column ≡ c = eqb-true _ _ place.1 in
          let told_p_in : t.processor < e.processors = omega (arith, ep, p_in) in
          let told_c_in : t.column < e.columns = omega (arith, ec, c_in) in
          let is : has e t ≡ true
          = and_from _ _ (and_from _ _ (lt-ltb _ _ told_p_in) (lt-ltb _ _ told_c_in)) parts.1 in
          let same : start ≡ column_start e p c
          = ap (λ q. column_start e q t.column) ep ∙ ap (column_start e p) ec in
          ap (λ zs. get_or zs (column_start e p c + w) 0) (cond-true (has e t) written xs is)
          ∙ ap (λ s. get_or written (s + w) 0) (sym same)
          ∙ read-own told_p_in told_c_in (ltb-true _ _ parts.1)
          ∙ ap (λ s. cond (eqb w t.way) 0 (aged (get_or xs (s + t.way) 0) (get_or xs (s + w) 0)))
          same

    -- what one more telling makes of an age
    step : (t : Telling) (h : List Telling) (w : ℕ) → w < e.ways
        → age (t ∷ h) w
        ≡ cond (here t) (cond (eqb w t.way) 0 (aged (age h t.way) (age h w))) (age h w)
    step t h w lt = elim (cases_Bool (here t)) [
      | inl own ↦ told-here t h w lt own ∙ sym (cond-true (here t) _ (age h w) own)
      | inr other ↦ told-away t h w lt other ∙ sym (cond-false (here t) _ (age h w) other)
    ]

  -- after any tellings, from a table of ages 0
  module _ (n : ℕ) (room : e.processors * e.columns * e.ways ≤ n) (some : 1 ≤ e.ways)
      (later : List Telling) where
    abbrev zeros : List ℕ
    zeros = replicate n 0

    abbrev after : List ℕ
    after = state_after (ages_told e) zeros later

    room-zeros : e.processors * e.columns * e.ways ≤ length zeros
    room-zeros = omega (arith, room, length-replicate {A = ℕ} n 0)

    young : (w : ℕ) → w < e.ways → age zeros room-zeros [] w ≡ 0
    young w lt =
        let within : column_start e p c + e.ways ≤ n = column-within e n p c room p_in c_in in
        get_or-replicate n (column_start e p c + w) 0 0 (omega (arith, within, lt))

    -- the age of a way is the number of others mentioned since
    number : (w : ℕ) → w < e.ways
        → get_or after (column_start e p c + w) 0 ≡ min 3 (others_since e.ways p c later w)
    number w lt =
        ap (λ zs. get_or zs (column_start e p c + w) 0) (after-reverse (ages_told e) zeros later)
        ∙ age-is (mentions p c) e.ways here same_way below elsewhere (age zeros room-zeros) young
        (step zeros room-zeros) (reverse later) w lt

    at-way : (w : ℕ) → w < e.ways
        → get_or (ages_of e p c after) w 0 ≡ min 3 (others_since e.ways p c later w)
    at-way w lt =
        let within : column_start e p c + e.ways ≤ length after
        = column-within e (length after) p c
        (omega (arith, room-zeros, length-after e zeros later)) p_in c_in in
        let read : get_or (ages_of e p c after) w 0 ≡ get_or after (column_start e p c + w) 0
        = grind (arith, places) in
        read ∙ number w lt

    pub named-lowest : IsLowestGreatest (λ way. min 3 (others_since e.ways p c later way)) e.ways
        ((ageing e zeros).names later p c)
    named-lowest =
        let long : length (ages_of e p c after) ≡ e.ways
        = length-ages_of e after p c (omega (arith, room-zeros, length-after e zeros later)) p_in c_in in
        let named = highest_way-is (ages_of e p c after) (omega (arith, long, some)) in
        let low : highest_way (ages_of e p c after) < e.ways = omega (arith, named.below, long) in
        let top = at-way (highest_way (ages_of e p c after)) low in
        subst
        (IsLowestGreatest (λ way. min 3 (others_since e.ways p c later way)) e.ways)
        (sym (cond-true (has_column e p c) (highest_way (ages_of e p c after)) 0
        (and_from _ _ (lt-ltb _ _ p_in) (lt-ltb _ _ c_in))))
        (record {
          below = low;
          greatest =
              λ other lt.
              let is = at-way other lt in
              omega (arith, is, top, named.greatest other (omega (arith, lt, long)));
          lowest =
              λ other lt.
              let is = at-way other (omega (arith, lt, low)) in
              omega (arith, is, top, named.lowest other lt);
        })

-- a policy over a table that fits, cleared
pub cleared_longest : (m : Measures) (n : ℕ) → 1 ≤ m.ways → n ≡ line_count m
    → NamesLongest m (ageing (extent_of m) (replicate n 0))
cleared_longest m n some fit =
    record {
      named =
          λ tellings processor column p c.
          named-lowest (extent_of m) processor column p c n (omega (arith, fit)) some tellings;
    }
