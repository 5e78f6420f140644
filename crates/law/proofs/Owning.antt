-- What a done command leaves coherent: it stays, its own copy is the only one, or it shares the block.
use Rattle.std.proofs.Common.{◌≡◌, ℕ, Bool, true, false, cond, List, Some, None, Option, sym, refl, ap, ◌∙◌, subst, inl, inr}
use Rattle.std.proofs.lemmas.Bool.{false≢true}
use Rattle.std.proofs.lemmas.Bool.Decides.{eqb_tells}
use Rattle.protocol.specs.declared.command.BusCommand.{BusCommand}
use Rattle.protocol.specs.declared.command.BusCommand.TheVariants.{F}
use Rattle.protocol.specs.declared.line.Line.{Line}
use Rattle.protocol.specs.declared.measures.Measures.{Measures}
use Rattle.protocol.specs.declared.state.State.TheVariants.{S}
use Rattle.protocol.specs.Entries.{valid, modified}
use Rattle.protocol.specs.StateTable.{snooped}
use Rattle.cluster.specs.Copies.{holds_block}
use Rattle.law.specs.Law.{exclusive}
use Rattle.law.proofs.Copied.{copy_valid, copy_block, copy_from}
use Rattle.law.proofs.Hearing.{heard, clears, cleared, heard_f, f_valid, f_modified, f_shares}
use Rattle.law.proofs.Invariant.{copy, Coherent}
use Rattle.law.proofs.Moving.{Moved, Other, heard_it, stayed, other, coherent_after, truth_after}

module _ {m : Measures} {at after : ℕ → Line} {block k asking : ℕ} {bus : Option BusCommand} {own : Line}
    (moved : Moved m at after block k asking bus own) where
  -- a copy of the block that stands elsewhere has heard the bus command
  heard_there : (i : ℕ) → (i ≡ k → ⊥) → copy after block i
      → copy at block i × (after i ≡ heard bus (at i))
  heard_there i far c = by_other (other moved i far)
    where
      by_other : Other moved i → copy at block i × (after i ≡ heard bus (at i))
      by_other (heard_it was is) = (was, is)
      by_other (stayed was is) = absurd (false≢true (sym was ∙ ap (holds_block block) (sym is) ∙ c))

  -- the own copy is the only one
  abbrev pub Only : Type 0
  Only = (i : ℕ) → copy after block i → i ≡ k

  only_by : ((i : ℕ) → (i ≡ k → ⊥) → copy after block i → ⊥) → Only
  only_by none i c = elim (eqb_tells i k) [
    | inl same ↦ same.1
    | inr far ↦ absurd (none i far.1 c)
  ]

  pub only_cleared : clears bus ≡ true → Only
  only_cleared h =
      only_by (λ i far c. let there =
      heard_there i far c in
      cleared bus (at i) block h (subst (λ x. holds_block block x ≡ true) there.1 c))

  pub only_copy : ((i : ℕ) → copy at block i → i ≡ k) → Only
  only_copy h = only_by (λ i far c. far (h i (heard_there i far c).0))

  module _ {mem truth : ℕ → List ℕ} (c : Coherent at mem truth) where
    pub only_exclusive : copy at block k → exclusive (at k).state ≡ true → Only
    only_exclusive ck x = only_copy (λ i ci. c.alone block k i ck ci x)

    own_state : (i : ℕ) → i ≡ k → after i ≡ own
    own_state i same = ap after same ∙ moved.place

    pub owns : Only → (words : List ℕ) → (valid own.state ≡ true → own.words ≡ words)
        → ((valid own.state ≡ true → modified own.state ≡ false) → mem block ≡ words)
        → Coherent after mem (truth_after moved words truth)
    owns only words has back =
        coherent_after moved words c
        (λ i j ci cj x. only j cj ∙ sym (only i ci))
        (λ i j ci cj x y. only j cj ∙ sym (only i ci))
        (λ i ci. let is =
        own_state i (only i ci) in
        ap (λ x. x.words) is ∙ has (ap (λ x. valid x.state) (sym is) ∙ copy_valid block (after i) ci))
        (λ all. back (λ v.
        let is = own_state k refl in
        ap (λ x. modified x.state) (sym is)
        ∙ all k (subst (λ x. holds_block block x ≡ true) (sym is)
        (copy_from block own v (moved.named v)))))

    abbrev after_f : ℕ → Line
    after_f i = record { state = snooped F (at i).state; block = (at i).block; words = (at i).words }

    -- F, and another cache supplies the block
    pub shares : bus ≡ Some F → own.state ≡ S → own.words ≡ truth block
        → ((i : ℕ) → copy at block i → i ≡ k → ⊥)
        → Coherent after mem (truth_after moved (truth block) truth)
    shares f s has miss =
        coherent_after moved (truth block) c
        (λ i j ci cj x. absurd (false≢true (sym (none_exclusive i ci) ∙ x)))
        (λ i j ci cj x y. c.single block i j (was i ci x) (was j cj y) (was_modified i ci x)
        (was_modified j cj y))
        (λ i ci. elim (eqb_tells i k) [
          | inl same ↦ ap (λ x. x.words) (own_state i same.1) ∙ has
          | inr far ↦ ap (λ x. x.words) (f_heard i far.1 ci) ∙ c.agree block i (heard_there i far.1 ci).0
        ])
        (λ all. c.clean block (λ i ci.
        let is = sharer i ci in
        sym (f_modified (at i).state) ∙ ap (λ x. modified x.state) (sym is)
        ∙ all i (subst (λ x. holds_block block x ≡ true) (sym is) (f_copy i ci))))
      where
        f_heard : (i : ℕ) → (i ≡ k → ⊥) → copy after block i → after i ≡ after_f i
        f_heard i far ci =
            let there = heard_there i far ci in
            there.1 ∙ ap (λ b. heard b (at i)) f ∙ heard_f (at i) (copy_valid block (at i) there.0)

        none_exclusive : (i : ℕ) → copy after block i → exclusive (after i).state ≡ false
        none_exclusive i ci = elim (eqb_tells i k) [
          | inl same ↦ ap (λ x. exclusive x.state) (own_state i same.1) ∙ ap exclusive s
          | inr far ↦ ap (λ x. exclusive x.state) (f_heard i far.1 ci) ∙ f_shares (at i).state
        ]

        elsewhere : (i : ℕ) → copy after block i → modified (after i).state ≡ true → i ≡ k → ⊥
        elsewhere i ci x same =
            false≢true (sym (ap (λ y. modified y.state) (own_state i same) ∙ ap modified s) ∙ x)

        was : (i : ℕ) → copy after block i → modified (after i).state ≡ true → copy at block i
        was i ci x = (heard_there i (elsewhere i ci x) ci).0

        was_modified : (i : ℕ) → (ci : copy after block i) → modified (after i).state ≡ true
            → modified (at i).state ≡ true
        was_modified i ci x =
            sym (f_modified (at i).state) ∙ ap (λ y. modified y.state)
            (sym (f_heard i (elsewhere i ci x) ci)) ∙ x

        -- each copy there was is a copy still
        sharer : (i : ℕ) → copy at block i → after i ≡ after_f i
        sharer i ci = by_other (other moved i (miss i ci))
          where
            by_other : Other moved i → after i ≡ after_f i
            by_other (heard_it w is) =
                is ∙ ap (λ b. heard b (at i)) f ∙ heard_f (at i) (copy_valid block (at i) ci)
            by_other (stayed w is) = absurd (false≢true (sym w ∙ ci))

        f_copy : (i : ℕ) → copy at block i → holds_block block (after_f i) ≡ true
        f_copy i ci =
            copy_from block (after_f i) (f_valid (at i).state ∙ copy_valid block (at i) ci)
            (copy_block block (at i) ci)

    -- nothing changes
    pub unmoved : bus ≡ None → own ≡ at k → after ≡ at
    unmoved b o i j = same j i
      where
        by_copy : (h : Bool) (x y : Line) → x ≡ cond h (heard bus y) y → x ≡ y
        by_copy true x y e = e ∙ ap (λ z. heard z y) b
        by_copy false x y e = e

        same : (j : ℕ) → after j ≡ at j
        same j = elim (eqb_tells j k) [
          | inl here ↦ own_state j here.1 ∙ o ∙ ap at (sym here.1)
          | inr far ↦ by_copy (holds_block block (at j)) (after j) (at j) (moved.others j far.1)
        ]
