-- What a bus command does to the line at each place.
use Rattle.std.proofs.Common.{◌≡◌, ℕ, zero, suc, ◌+◌, ◌<◌, ◌≤◌, Bool, true, false, cond, not, ◌&&◌, ◌⊎◌, eqb, leb, List, length, set, Some, None, Option, sym, refl, ap, subst, ◌∙◌, inl, inr, arith, length-set}
use Rattle.std.proofs.lemmas.Bool.{eq-eqb, eqb-true, and_parts, cond-false, false_from_ne_true}
use Rattle.std.proofs.lemmas.Bool.Decides.{eqb_tells, leb_tells}
use Rattle.std.proofs.lemmas.List.{get_or-set_same, get_or-set_other}
use Rattle.protocol.specs.declared.command.BusCommand.{BusCommand}
use Rattle.protocol.specs.declared.line.Line.{Line}
use Rattle.protocol.specs.declared.measures.Measures.{Measures}
use Rattle.protocol.specs.Lines.{no_line}
use Rattle.protocol.specs.Places.{line_count}
use Rattle.cluster.specs.Copies.{holds_block, line_of}
use Rattle.cluster.specs.Snooping.{snooped_at, cache_snooped, other_snooped, snooped_from, others_snooped}
use Rattle.law.specs.Law.{owner}
use Rattle.law.proofs.Copied.{BlockKept, homed_kept}
use Rattle.law.proofs.Hearing.{heard, heard_kept}
use Rattle.law.proofs.Invariant.{at_in, Homed}
use Rattle.law.proofs.Places.{FoundAt, copy_home, found_at, found_none, window_inside_table}

module _ (m : Measures) (some_columns : 0 < m.columns) (bus : BusCommand) (asking block : ℕ) where
  -- the line at a place after the bus command
  abbrev pub left_at : ℕ → Line → Line
  left_at i line =
      cond (holds_block block line && not (eqb (owner m i) asking)) (heard (Some bus) line) line

  left_kept : (i : ℕ) (line : Line) → BlockKept line (left_at i line)
  left_kept i line = by_test (holds_block block line && not (eqb (owner m i) asking))
    where
      by_test : (b : Bool) → BlockKept line (cond b (heard (Some bus) line) line)
      by_test true = heard_kept (Some bus) line
      by_test false = λ h. (h, refl)

  abbrev after : ℕ → List Line → List Line
  after p lines = other_snooped m bus asking block p lines

  length_snooped_at : (lines : List Line) (o : Option ℕ) → length (snooped_at bus lines o) ≡ length lines
  length_snooped_at lines None = refl
  length_snooped_at lines (Some place) = length-set lines place _

  length_after : (p : ℕ) (lines : List Line) → length (after p lines) ≡ length lines
  length_after p lines = by_asking (eqb p asking)
    where
      by_asking : (b : Bool) → length (cond b lines (cache_snooped m bus block p lines)) ≡ length lines
      by_asking true = refl
      by_asking false = length_snooped_at lines (line_of m lines p block)

  length_from : (count p : ℕ) (lines : List Line)
      → length (snooped_from m bus asking block p count lines) ≡ length lines
  length_from zero p lines = refl
  length_from (suc count) p lines = length_from count (p + 1) (after p lines) ∙ length_after p lines

  pub length_others_snooped : (lines : List Line)
      → length (others_snooped m bus asking block lines) ≡ length lines
  length_others_snooped lines = length_from m.processors 0 lines

  -- one cache
  module _ (lines : List Line) (fit : length lines ≡ line_count m) (homed : Homed m (at_in lines)) (p : ℕ)
      (listed : p < m.processors) where
    abbrev in_cache : ℕ → Bool
    in_cache i = holds_block block (at_in lines i) && eqb (owner m i) p

    one_cache : (i : ℕ) (o : Option ℕ) → line_of m lines p block ≡ o
        → at_in (snooped_at bus lines o) i
        ≡ cond (in_cache i) (heard (Some bus) (at_in lines i)) (at_in lines i)
    one_cache i None e = sym (cond-false (in_cache i) _ _ (false_from_ne_true (in_cache i) never))
      where
        never : in_cache i ≡ true → ⊥
        never h =
            let both = and_parts (holds_block block (at_in lines i)) (eqb (owner m i) p) h in
            found_none m some_columns lines fit homed p block listed e i both.0
            (eqb-true (owner m i) p both.1)
    one_cache i (Some place) e = by_place (eqb_tells i place)
      where
        found : FoundAt m lines p block place
        found = found_at m some_columns lines fit homed p block place listed e

        inside : place < length lines
        inside = window_inside_table m some_columns lines fit (owner m place) block place
            found.home.listed found.home.to

        new : Line
        new = heard (Some bus) (at_in lines place)

        here : at_in (set lines place new) place ≡ cond (in_cache place) new (at_in lines place)
        here = get_or-set_same lines place new no_line inside
            ∙ sym (rw (found.copied, eq-eqb (owner m place) p found.owned) refl)

        never : (i ≡ place → ⊥) → in_cache i ≡ true → ⊥
        never other h =
            let both = and_parts (holds_block block (at_in lines i)) (eqb (owner m i) p) h in
            other (homed.once block i place both.0 found.copied
            (eqb-true (owner m i) p both.1 ∙ sym found.owned))

        by_place : ((eqb i place ≡ true) × (i ≡ place)) ⊎ ((eqb i place ≡ false) × (i ≡ place → ⊥))
            → at_in (set lines place new) i
            ≡ cond (in_cache i) (heard (Some bus) (at_in lines i)) (at_in lines i)
        by_place (inl same) =
            subst (λ k. at_in (set lines place new) k
            ≡ cond (in_cache k) (heard (Some bus) (at_in lines k)) (at_in lines k)) (sym same.1) here
        by_place (inr other) =
            get_or-set_other lines place i new no_line other.1
            ∙ sym (cond-false (in_cache i) _ _ (false_from_ne_true (in_cache i) (never other.1)))

    after_away : (i : ℕ) → (owner m i ≡ p → ⊥) → at_in (after p lines) i ≡ at_in lines i
    after_away i other = by_asking (eqb p asking)
      where
        never : in_cache i ≡ true → ⊥
        never h = other
            (eqb-true (owner m i) p
            (let both = and_parts (holds_block block (at_in lines i)) (eqb (owner m i) p) h in both.1))

        by_asking : (b : Bool) → at_in (cond b lines (cache_snooped m bus block p lines)) i
            ≡ at_in lines i
        by_asking true = refl
        by_asking false =
            one_cache i (line_of m lines p block) refl
            ∙ cond-false (in_cache i) _ _ (false_from_ne_true (in_cache i) never)

    after_here : (i : ℕ) → owner m i ≡ p → at_in (after p lines) i ≡ left_at i (at_in lines i)
    after_here i owned = by_asking (eqb p asking) refl
      where
        by_asking : (b : Bool) → eqb p asking ≡ b
            → at_in (cond b lines (cache_snooped m bus block p lines)) i ≡ left_at i (at_in lines i)
        by_asking true e = sym (rw (owned, e) (by_copy (holds_block block (at_in lines i))))
          where
            by_copy : (h : Bool) → cond (h && false) (heard (Some bus) (at_in lines i)) (at_in lines i)
                ≡ at_in lines i
            by_copy true = refl
            by_copy false = refl
        by_asking false e =
            one_cache i (line_of m lines p block) refl
            ∙ ap (λ b. cond (holds_block block (at_in lines i) && b) (heard (Some bus) (at_in lines i))
            (at_in lines i))
            (eq-eqb (owner m i) p owned ∙ sym (ap (λ o. not (eqb o asking)) owned ∙ ap not e))

    after_at : (i : ℕ) → BlockKept (at_in lines i) (at_in (after p lines) i)
    after_at i = elim (eqb_tells (owner m i) p) [
      | inl same ↦ subst (BlockKept (at_in lines i)) (sym (after_here i same.1))
          (left_kept i (at_in lines i))
      | inr other ↦ subst (BlockKept (at_in lines i)) (sym (after_away i other.1)) (λ h. (h, refl))
    ]

    homed_after : Homed m (at_in (after p lines))
    homed_after = homed_kept m (at_in lines) (at_in (after p lines)) after_at homed

  -- cache by cache: the places of the caches to come change, each once
  from_outside : (count p : ℕ) (lines : List Line) → length lines ≡ line_count m → Homed m (at_in lines)
      → p + count ≤ m.processors
      → (i : ℕ) → (owner m i < p) ⊎ (p + count ≤ owner m i)
      → at_in (snooped_from m bus asking block p count lines) i ≡ at_in lines i
  from_outside zero p lines fit homed room i out = refl
  from_outside (suc count) p lines fit homed room i out =
      let listed : p < m.processors = omega (arith, room) in
      from_outside count (p + 1) (after p lines) (length_after p lines ∙ fit)
      (homed_after lines fit homed p listed) (omega (arith, room)) i (still out)
      ∙ after_away lines fit homed p listed i (other out)
    where
      still : (owner m i < p) ⊎ (p + suc count ≤ owner m i)
          → (owner m i < p + 1) ⊎ (p + 1 + count ≤ owner m i)
      still (inl before) = inl (omega (arith, before))
      still (inr behind) = inr (omega (arith, behind))

      other : (owner m i < p) ⊎ (p + suc count ≤ owner m i) → owner m i ≡ p → ⊥
      other (inl before) same = absurd (omega (arith, before, same))
      other (inr behind) same = absurd (omega (arith, behind, same))

  from_inside : (count p : ℕ) (lines : List Line) → length lines ≡ line_count m → Homed m (at_in lines)
      → p + count ≤ m.processors
      → (i : ℕ) → p ≤ owner m i → owner m i < p + count
      → at_in (snooped_from m bus asking block p count lines) i ≡ left_at i (at_in lines i)
  from_inside zero p lines fit homed room i low high = absurd (omega (arith, low, high))
  from_inside (suc count) p lines fit homed room i low high =
      let listed : p < m.processors = omega (arith, room) in
      by_owner listed (eqb_tells (owner m i) p)
      (λ above. from_inside count (p + 1) (after p lines) (length_after p lines ∙ fit)
      (homed_after lines fit homed p listed) (omega (arith, room))
      i above (omega (arith, high)))
    where
      by_owner : p < m.processors → ((eqb (owner m i) p ≡ true) × (owner m i ≡ p)) ⊎
          ((eqb (owner m i) p ≡ false) × (owner m i ≡ p → ⊥))
          → (p + 1 ≤ owner m i → at_in (snooped_from m bus asking block (p + 1) count (after p lines)) i
          ≡ left_at i (at_in (after p lines) i))
          → at_in (snooped_from m bus asking block (p + 1) count (after p lines)) i
          ≡ left_at i (at_in lines i)
      by_owner listed (inl same) rest =
          let here = same.1 in
          from_outside count (p + 1) (after p lines) (length_after p lines ∙ fit)
          (homed_after lines fit homed p listed) (omega (arith, room))
          i (inl (omega (arith, here)))
          ∙ after_here lines fit homed p listed i here
      by_owner listed (inr other) rest =
          rest (above (leb_tells (p + 1) (owner m i)))
          ∙ ap (left_at i) (after_away lines fit homed p listed i other.1)
        where
          above : ((leb (p + 1) (owner m i) ≡ true) × (p + 1 ≤ owner m i)) ⊎
              ((leb (p + 1) (owner m i) ≡ false) × (owner m i < p + 1)) → p + 1 ≤ owner m i
          above (inl later) = later.1
          above (inr here) = absurd (other.1 (let high = here.1 in omega (arith, low, high)))

  module _ (lines : List Line) (fit : length lines ≡ line_count m) (homed : Homed m (at_in lines)) where
    -- the line at each place after the bus command
    pub snooped_at_places : (i : ℕ) → at_in (others_snooped m bus asking block lines) i
        ≡ cond (holds_block block (at_in lines i) && not (eqb (owner m i) asking))
        (heard (Some bus) (at_in lines i)) (at_in lines i)
    snooped_at_places i = elim (leb_tells m.processors (owner m i)) [
      | inl past ↦
          let out = past.1 in
          from_outside m.processors 0 lines fit homed (omega arith) i (inr (omega (arith, out)))
          ∙ sym (cond-false _ (heard (Some bus) (at_in lines i)) (at_in lines i)
          (false_from_ne_true _ (never out)))
      | inr within ↦ let low =
          within.1 in from_inside m.processors 0 lines fit homed (omega arith) i (omega arith)
          (omega (arith, low))
    ]
      where
        never : m.processors ≤ owner m i
            → (holds_block block (at_in lines i) && not (eqb (owner m i) asking)) ≡ true → ⊥
        never out h =
            let both = and_parts (holds_block block (at_in lines i)) (not (eqb (owner m i) asking)) h in
            let listed = (copy_home m some_columns lines fit homed block i both.0).listed in
            absurd (omega (arith, out, listed))
