-- The lines before and after a done command, by their places.
use Rattle.std.proofs.Common.{◌≡◌, ℕ, Bool, true, false, cond, eqb, List, Option, sym, refl, ap, ◌∙◌, subst, inl, inr}
use Rattle.std.proofs.lemmas.Bool.Decides.{eqb_tells}
use Rattle.protocol.specs.declared.command.BusCommand.{BusCommand}
use Rattle.protocol.specs.declared.line.Line.{Line}
use Rattle.protocol.specs.declared.measures.Measures.{Measures}
use Rattle.protocol.specs.Entries.{valid, modified}
use Rattle.cluster.specs.Copies.{holds_block}
use Rattle.law.specs.Law.{exclusive, owner}
use Rattle.law.proofs.Copied.{copy_valid, copy_block, copy_from}
use Rattle.law.proofs.Hearing.{heard, heard_copy}
use Rattle.law.proofs.Invariant.{copy, Coherent, Home, Homed}

-- one place gets the command's own copy, other copies of the block hear the bus command, all else stays
pub record Moved (m : Measures) (at after : ℕ → Line) (block k asking : ℕ) (bus : Option BusCommand)
    (own : Line) : Type 0 where
  pub place : after k ≡ own
  pub named : valid own.state ≡ true → own.block ≡ block
  pub owned : owner m k ≡ asking
  pub home : Home m block k
  pub here : (b : ℕ) → copy at b k → b ≡ block
  pub mine : (i : ℕ) → copy at block i → owner m i ≡ asking → i ≡ k
  pub others : (i : ℕ) → (i ≡ k → ⊥) → after i ≡ cond (holds_block block (at i)) (heard bus (at i)) (at i)

module _ {m : Measures} {at after : ℕ → Line} {block k asking : ℕ} {bus : Option BusCommand} {own : Line}
    (moved : Moved m at after block k asking bus own) where
  -- another line after the command
  pub data Other (i : ℕ) : Type 0 where
    heard_it : holds_block block (at i) ≡ true → after i ≡ heard bus (at i) → Other i
    stayed : holds_block block (at i) ≡ false → after i ≡ at i → Other i

  pub other : (i : ℕ) → (i ≡ k → ⊥) → Other i
  other i far = by_copy (holds_block block (at i)) refl
    where
      by_copy : (b : Bool) → holds_block block (at i) ≡ b → Other i
      by_copy true e = heard_it e (moved.others i far ∙ (rw e refl))
      by_copy false e = stayed e (moved.others i far ∙ (rw e refl))

  -- a copy that stands elsewhere stood there before
  pub before : (b i : ℕ) → (i ≡ k → ⊥) → copy after b i → copy at b i
  before b i far c = by_other (other i far)
    where
      by_other : Other i → copy at b i
      by_other (heard_it was is) = heard_copy bus (at i) b (subst (λ x. holds_block b x ≡ true) is c)
      by_other (stayed was is) = subst (λ x. holds_block b x ≡ true) is c

  -- the copy at the place is one of the block
  own_copy : (b : ℕ) → copy after b k → b ≡ block
  own_copy b c =
      let here : holds_block b own ≡ true = subst (λ x. holds_block b x ≡ true) moved.place c in
      sym (copy_block b own here) ∙ moved.named (copy_valid b own here)

  -- other blocks' lines are as they were
  same_before : (b i : ℕ) → (b ≡ block → ⊥) → copy at b i → after i ≡ at i
  same_before b i else c = elim (eqb_tells i k) [
    | inl same ↦ absurd (else (moved.here b (subst (λ x. copy at b x) same.1 c)))
    | inr far ↦ by_other (other i far.1)
  ]
    where
      by_other : Other i → after i ≡ at i
      by_other (heard_it was is) =
          absurd (else (sym (copy_block b (at i) c) ∙ copy_block block (at i) was))
      by_other (stayed was is) = is

  pub same_after : (b i : ℕ) → (b ≡ block → ⊥) → copy after b i → copy at b i × (after i ≡ at i)
  same_after b i else c = elim (eqb_tells i k) [
    | inl same ↦ absurd (else (own_copy b (subst (λ x. copy after b x) same.1 c)))
    | inr far ↦ let was = before b i far.1 c in (was, same_before b i else was)
  ]

  -- each copy still stands in its window, and a cache has one of a block
  pub homed_after : Homed m at → Homed m after
  homed_after h = record {
    home = λ i v. elim (eqb_tells i k) [
      | inl same ↦
          let is : after i ≡ own = ap after same.1 ∙ moved.place in
          let named : (after i).block ≡ block =
          ap (λ x. x.block) is ∙ moved.named (subst (λ x. valid x.state ≡ true) is v) in
          subst (λ x. Home m x i) (sym named) (subst (λ x. Home m block x) (sym same.1) moved.home)
      | inr far ↦
          let was = before (after i).block i far.1 (copy_from (after i).block (after i) v refl) in
          subst (λ x. Home m x i) (copy_block (after i).block (at i) was)
          (h.home i (copy_valid (after i).block (at i) was))
    ];
    once = λ b i j ci cj same_owner. elim (eqb_tells i k) [
      | inl si ↦ elim (eqb_tells j k) [
        | inl sj ↦ si.1 ∙ sym sj.1
        | inr fj ↦
            let of_block : b ≡ block = own_copy b (subst (λ x. copy after b x) si.1 ci) in
            let was : copy at block j = subst (λ x. copy at x j) of_block (before b j fj.1 cj) in
            absurd (fj.1 (moved.mine j was (sym same_owner ∙ ap (owner m) si.1 ∙ moved.owned)))
      ]
      | inr fi ↦ elim (eqb_tells j k) [
        | inl sj ↦
            let of_block : b ≡ block = own_copy b (subst (λ x. copy after b x) sj.1 cj) in
            let was : copy at block i = subst (λ x. copy at x i) of_block (before b i fi.1 ci) in
            absurd (fi.1 (moved.mine i was (same_owner ∙ ap (owner m) sj.1 ∙ moved.owned)))
        | inr fj ↦ h.once b i j (before b i fi.1 ci) (before b j fj.1 cj) same_owner
      ]
    ];
  }

  abbrev pub truth_after : List ℕ → (ℕ → List ℕ) → ℕ → List ℕ
  truth_after words truth b = cond (eqb b block) words (truth b)

  -- what is coherent of other blocks stays so, whatever becomes of the block itself
  pub coherent_after : {mem truth : ℕ → List ℕ} (words : List ℕ) → Coherent at mem truth
      → ((i j : ℕ) → copy after block i → copy after block j → exclusive (after i).state ≡ true → j ≡ i)
      → ((i j : ℕ) → copy after block i → copy after block j → modified (after i).state ≡ true
      → modified (after j).state ≡ true → j ≡ i)
      → ((i : ℕ) → copy after block i → (after i).words ≡ words)
      → (((i : ℕ) → copy after block i → modified (after i).state ≡ false) → mem block ≡ words)
      → Coherent after mem (truth_after words truth)
  coherent_after {mem = mem} words c alone single agree clean = record {
    alone = λ b i j ci cj x. elim (eqb_tells b block) [
      | inl same ↦ alone i j (subst (λ y. copy after y i) same.1 ci)
          (subst (λ y. copy after y j) same.1 cj) x
      | inr else ↦
          let si = same_after b i else.1 ci in
          c.alone b i j si.0 (same_after b j else.1 cj).0 (ap (λ y. exclusive y.state) (sym si.1) ∙ x)
    ];
    single = λ b i j ci cj x y. elim (eqb_tells b block) [
      | inl same ↦ single i j (subst (λ z. copy after z i) same.1 ci)
          (subst (λ z. copy after z j) same.1 cj) x y
      | inr else ↦
          let si = same_after b i else.1 ci in
          let sj = same_after b j else.1 cj in
          c.single b i j si.0 sj.0 (ap (λ z. modified z.state) (sym si.1) ∙ x)
          (ap (λ z. modified z.state) (sym sj.1) ∙ y)
    ];
    agree = λ b i ci. elim (eqb_tells b block) [
      | inl same ↦ agree i (subst (λ y. copy after y i) same.1 ci) ∙ (rw same.0 refl)
      | inr else ↦ let si =
          same_after b i else.1 ci in ap (λ z. z.words) si.1 ∙ c.agree b i si.0 ∙ (rw else.0 refl)
    ];
    clean = λ b all. elim (eqb_tells b block) [
      | inl same ↦ ap mem same.1 ∙ clean (λ i ci. all i (subst (λ y. copy after y i) (sym same.1) ci))
          ∙ (rw same.0 refl)
      | inr else ↦
          c.clean b (λ i ci.
          let is = same_before b i else.1 ci in
          ap (λ z. modified z.state) (sym is) ∙ all i (subst (λ x. holds_block b x ≡ true) (sym is) ci))
          ∙ (rw else.0 refl)
    ];
  }
