-- Which record is due: the earliest index of a processor that does not wait.
use Rattle.std.proofs.Common.{◌≡◌, ℕ, ◌+◌, ◌<◌, ◌≤◌, List, get_or, Some, None, Option, sym, refl, subst, inl, inr, arith}
use Rattle.std.proofs.lemmas.Bool.Decides.{leb_tells}
use Rattle.run.specs.Kept.{Earliest}

module _ (waits : ℕ → Option ℕ) (next : List ℕ) (count : ℕ) where
  -- no processor below p that does not wait has an index below this one
  abbrev LowBelow : ℕ → ℕ → Type 0
  LowBelow p low = (q : ℕ) → q < p → waits q ≡ None → low ≤ get_or next q 0

  -- the processor found below p, and its index; the number of records where there is none
  abbrev pub FoundBelow : ℕ → ℕ → Option ℕ → Type 0
  FoundBelow p earliest None = (earliest ≡ count) × LowBelow p count
  FoundBelow p earliest (Some b) =
      (b < 8) × (waits b ≡ None) × (get_or next b 0 ≡ earliest) × (earliest < count)
      × LowBelow p earliest

  pub none_yet : FoundBelow 0 count None
  none_yet = (refl, λ q under idle. absurd (omega (arith, under)))

  lows : (p earliest : ℕ) (found : Option ℕ) → FoundBelow p earliest found
      → (earliest ≤ count) × LowBelow p earliest
  lows p earliest None h =
      (omega (arith, h.0), λ q under idle. let low = h.1 q under idle in omega (arith, h.0, low))
  lows p earliest (Some b) h = (omega (arith, h.3), h.4)

  one_more : (p low : ℕ) → LowBelow p low → (waits p ≡ None → low ≤ get_or next p 0)
      → LowBelow (p + 1) low
  one_more p low below here q under idle = elim (leb_tells p q) [
    | inl far ↦
        let same : q ≡ p = omega (arith, far.1, under) in
        subst (λ x. low ≤ get_or next x 0) (sym same)
        (here (subst (λ x. waits x ≡ None) same idle))
    | inr near ↦ below q near.1 idle
  ]

  pub sooner : (p earliest : ℕ) (found : Option ℕ) → p < 8 → get_or next p 0 < earliest
      → waits p ≡ None → FoundBelow p earliest found
      → FoundBelow (p + 1) (get_or next p 0) (Some p)
  sooner p earliest found small before idle h =
      let low = lows p earliest found h in (
        small,
        idle,
        refl,
        omega (arith, before, low.0),
        one_more p (get_or next p 0)
            (λ q under awake. let far = low.1 q under awake in omega (arith, before, far))
            (λ awake. omega arith),
      )

  pub later : (p earliest : ℕ) (found : Option ℕ) → (waits p ≡ None → earliest ≤ get_or next p 0)
      → FoundBelow p earliest found → FoundBelow (p + 1) earliest found
  later p earliest None here h =
      (h.0, one_more p count h.1 (λ idle. let low = here idle in omega (arith, h.0, low)))
  later p earliest (Some b) here h = (h.0, h.1, h.2, h.3, one_more p earliest h.4 here)

  pub is_earliest : (p earliest : ℕ) (found : Option ℕ) → 8 ≤ p → FoundBelow p earliest found
      → Earliest waits next count found
  is_earliest p earliest None all h = λ q under idle. h.1 q (omega (arith, all, under)) idle
  is_earliest p earliest (Some b) all h = (
    h.0,
    h.1,
    omega (arith, h.2, h.3),
    λ q under idle.
        let low = h.4 q (omega (arith, all, under)) idle in
        omega (arith, h.2, low),
  )
