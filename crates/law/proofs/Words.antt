-- The ledger's words are among those that the blocks have.
use Rattle.std.proofs.Common.{◌≡◌, ℕ, zero, suc, ◌%◌, Bool, true, false, cond, eqb, List, [], ◌∷◌, length, get_or, set, Some, None, Option, sym, refl, ap, ◌∙◌, inl, inr, arith, length-set}
use Rattle.std.proofs.lemmas.Bool.{cond_both}
use Rattle.std.proofs.lemmas.Option.{same_Some}
use Rattle.std.proofs.lemmas.Bool.Decides.{eqb_tells, nat_tests}
use Rattle.std.proofs.lemmas.List.{get_or-set_same, get_or-set_other}
use Rattle.protocol.specs.declared.command.Command.{Command}
use Rattle.protocol.specs.declared.command.Command.TheVariants.{R, W, DW, RI, RP, RB, LR, UW, U}
use Rattle.protocol.specs.Acting.{word_answered, words_left}
use Rattle.law.specs.Law.{reads}
use Rattle.law.specs.Ledger.{Ledger, block_of, done_by}
use Rattle.law.proofs.Invariant.{Tied}

-- the command purges its block
abbrev pub purging : Command → ℕ → Bool
purging R address = false
purging (W word) address = false
purging (DW word) address = false
purging RI address = false
purging RP address = true
purging RB address = eqb (address % 4) 3
purging LR address = false
purging (UW word) address = false
purging U address = false

-- the command sets all four words
abbrev pub fresh : Command → ℕ → Bool
fresh R address = false
fresh (W word) address = false
fresh (DW word) address = eqb (address % 4) 0
fresh RI address = false
fresh RP address = false
fresh RB address = false
fresh LR address = false
fresh (UW word) address = false
fresh U address = false

pub answered_is : (c : Command) (address : ℕ) (ws : List ℕ) → reads c ≡ true
    → word_answered c address ws ≡ get_or ws (address % 4) 0
answered_is R address ws h = refl
answered_is (W word) address ws h = absurd (cc)
answered_is (DW word) address ws h = absurd (cc)
answered_is RI address ws h = refl
answered_is RP address ws h = refl
answered_is RB address ws h = refl
answered_is LR address ws h = refl
answered_is (UW word) address ws h = absurd (cc)
answered_is U address ws h = absurd (cc)

abbrev one_more : ℕ → ℕ → Ledger → ℕ → Option ℕ
one_more address word l x = cond (eqb x address) (Some word) (l.words x)

abbrev words_after : Command → ℕ → Ledger → ℕ → Option ℕ
words_after R address l x = l.words x
words_after (W word) address l x = one_more address word l x
words_after (DW word) address l x =
    cond (eqb (address % 4) 0)
    (cond (eqb (block_of x) (block_of address)) (Some (cond (eqb x address) word 0)) (l.words x))
    (one_more address word l x)
words_after RI address l x = l.words x
words_after RP address l x = cond (eqb (block_of x) (block_of address)) None (l.words x)
words_after RB address l x =
    cond (eqb (address % 4) 3) (cond (eqb (block_of x) (block_of address)) None (l.words x)) (l.words x)
words_after LR address l x = l.words x
words_after (UW word) address l x = one_more address word l x
words_after U address l x = l.words x

pub done_words : (c : Command) (processor address : ℕ) (b : Bool) (l : Ledger) (x : ℕ)
    → (done_by processor address b c l).words x ≡ words_after c address l x
done_words R processor address b l x = refl
done_words (W word) processor address b l x = refl
done_words (DW word) processor address b l x = by_start (eqb (address % 4) 0)
  where
    by_start : (s : Bool)
        → (cond {A = Ledger} s
        (record {
          words = λ a.
              cond (eqb (block_of a) (block_of address)) (Some (cond (eqb a address) word 0)) (l.words a);
          holds = l.holds;
          waits = l.waits;
        })
        (record { words = λ a. one_more address word l a; holds = l.holds; waits = l.waits })).words x
        ≡ cond s (cond (eqb (block_of x) (block_of address)) (Some (cond (eqb x address) word 0))
        (l.words x)) (one_more address word l x)
    by_start true = refl
    by_start false = refl
done_words RI processor address b l x = refl
done_words RP processor address b l x = refl
done_words RB processor address b l x = by_last (eqb (address % 4) 3)
  where
    by_last : (s : Bool)
        → (cond {A = Ledger} s
        (record {
          words =
              λ a. cond (eqb (block_of a) (block_of address)) None (l.words a);
          holds =
              l.holds;
          waits = l.waits;
        }) l).words x
        ≡ cond s (cond (eqb (block_of x) (block_of address)) None (l.words x)) (l.words x)
    by_last true = refl
    by_last false = refl
done_words LR processor address b l x = refl
done_words (UW word) processor address b l x =
    cond_both b _ _ (λ (k : Ledger). k.words x ≡ one_more address word l x) (λ e. refl) (λ e. refl)
done_words U processor address b l x =
    cond_both b _ _ (λ (k : Ledger). k.words x ≡ l.words x) (λ e. refl) (λ e. refl)

three_zeros : (word n : ℕ) → (n ≡ 0 → ⊥) → get_or (word ∷ (0 ∷ (0 ∷ (0 ∷ [])))) n 0 ≡ 0
three_zeros word zero h = absurd (h refl)
three_zeros word (suc zero) h = refl
three_zeros word (suc (suc zero)) h = refl
three_zeros word (suc (suc (suc zero))) h = refl
three_zeros word (suc (suc (suc (suc n)))) h = refl

module _ (truth : ℕ → List ℕ) (l : Ledger) (tied : Tied truth l) (address : ℕ) where
  abbrev block : ℕ
  block = block_of address

  abbrev pub with_words : List ℕ → ℕ → List ℕ
  with_words ws b = cond (eqb b block) ws (truth b)

  four_with : (ws : List ℕ) → length ws ≡ 4 → (b : ℕ) → length (with_words ws b) ≡ 4
  four_with ws long b =
      cond_both (eqb b block) ws (truth b) (λ (x : List ℕ). length x ≡ 4) (λ e. long) (λ e. tied.four b)

  -- by what the ledger has at each address of the block, and elsewhere
  tied_by : (ws : List ℕ) (after : Ledger) → length ws ≡ 4
      → ((x word : ℕ) → block_of x ≡ block → after.words x ≡ Some word → get_or ws (x % 4) 0 ≡ word)
      → ((x : ℕ) → (block_of x ≡ block → ⊥) → after.words x ≡ l.words x)
      → Tied (with_words ws) after
  tied_by ws after long here there = record {
    four = four_with ws long;
    words = λ x word e. elim (eqb_tells (block_of x) block) [
      | inl same ↦ ap (λ b. get_or (cond b ws (truth (block_of x))) (x % 4) 0) same.0
          ∙ here x word same.1 e
      | inr else ↦ ap (λ b. get_or (cond b ws (truth (block_of x))) (x % 4) 0) else.0
          ∙ tied.words x word (sym (there x else.1) ∙ e)
    ];
  }

  plain : (ws : List ℕ) → ws ≡ truth block → (after : Ledger) → ((x : ℕ) → after.words x ≡ l.words x)
      → Tied (with_words ws) after
  plain ws is after same =
      tied_by ws after (ap length is ∙ tied.four block)
      (λ x word at e. ap (λ z. get_or z (x % 4) 0) (is ∙ ap truth (sym at))
      ∙ tied.words x word (sym (same x) ∙ e))
      (λ x else. same x)

  entering : (ws : List ℕ) (new : ℕ) → ws ≡ truth block → (after : Ledger)
      → ((x : ℕ) → after.words x ≡ one_more address new l x)
      → Tied (with_words (set ws (address % 4) new)) after
  entering ws new is after same =
      tied_by (set ws (address % 4) new) after (length-set ws (address % 4) new ∙ long)
      (λ x word at e. elim (eqb_tells x address) [
        | inl here ↦
            ap (λ z. get_or (set ws (address % 4) new) (z % 4) 0) here.1
            ∙ get_or-set_same ws (address % 4) new 0 (omega (arith, long))
            ∙ same_Some new word (sym (same x ∙ (rw here.0 refl)) ∙ e)
        | inr else ↦
            get_or-set_other ws (address % 4) (x % 4) new 0 (λ low. else.1 (omega (arith, at, low)))
            ∙ ap (λ z. get_or z (x % 4) 0) (is ∙ ap truth (sym at))
            ∙ tied.words x word (sym (same x ∙ (rw else.0 refl)) ∙ e)
      ])
      (λ x else. same x ∙ elim (eqb_tells x address) [
        | inl here ↦ absurd (else (ap block_of here.1))
        | inr far ↦ (rw far.0 refl)
      ])
    where
      long : length ws ≡ 4
      long = ap length is ∙ tied.four block

  starting : (new : ℕ) → address % 4 ≡ 0 → (after : Ledger)
      → ((x : ℕ) → after.words x ≡ cond (eqb (block_of x) block) (Some (cond (eqb x address) new 0))
      (l.words x))
      → Tied (with_words (new ∷ (0 ∷ (0 ∷ (0 ∷ []))))) after
  starting new start after same =
      tied_by (new ∷ (0 ∷ (0 ∷ (0 ∷ [])))) after refl
      (λ x word at e.
      let in_block : eqb (block_of x) block ≡ true = (let t = at in grind (arith, nat_tests, t)) in
      elim (eqb_tells x address) [
        | inl here ↦
            ap (λ z. get_or (new ∷ (0 ∷ (0 ∷ (0 ∷ [])))) z 0) (ap (λ z. z % 4) here.1 ∙ start)
            ∙ same_Some new word (sym (same x ∙ (rw (in_block, here.0) refl)) ∙ e)
        | inr else ↦
            three_zeros new (x % 4) (λ low. else.1 (omega (arith, at, low, start)))
            ∙ same_Some 0 word (sym (same x ∙ (rw (in_block, else.0) refl)) ∙ e)
      ])
      (λ x else. same x ∙ elim (eqb_tells (block_of x) block) [
        | inl here ↦ absurd (else here.1)
        | inr far ↦ (rw far.0 refl)
      ])

  purged_block : (ws : List ℕ) → length ws ≡ 4 → (after : Ledger)
      → ((x : ℕ) → after.words x ≡ cond (eqb (block_of x) block) None (l.words x))
      → Tied (with_words ws) after
  purged_block ws long after same =
      tied_by ws after long
      (λ x word at e.
      let in_block : eqb (block_of x) block ≡ true = (let t = at in grind (arith, nat_tests, t)) in
      let none : ◌≡◌ {A = Option ℕ} None (Some word) = sym (same x ∙ (rw in_block refl)) ∙ e in
      absurd (cc (none)))
      (λ x else. same x ∙ elim (eqb_tells (block_of x) block) [
        | inl here ↦ absurd (else here.1)
        | inr far ↦ (rw far.0 refl)
      ])

  module _ (processor : ℕ) (b : Bool) where
    abbrev after_done : Command → Ledger
    after_done c = done_by processor address b c l

    is_words : (c : Command) (x : ℕ) → (after_done c).words x ≡ words_after c address l x
    is_words c x = done_words c processor address b l x

    pub tied_purged : (c : Command) → purging c address ≡ true → (ws : List ℕ) → length ws ≡ 4
        → Tied (with_words ws) (after_done c)
    tied_purged R h ws long = absurd (cc)
    tied_purged (W word) h ws long = absurd (cc)
    tied_purged (DW word) h ws long = absurd (cc)
    tied_purged RI h ws long = absurd (cc)
    tied_purged RP h ws long = purged_block ws long (after_done RP) (is_words RP)
    tied_purged RB h ws long = purged_block ws long (after_done RB) (λ x. is_words RB x ∙ (rw h refl))
    tied_purged LR h ws long = absurd (cc)
    tied_purged (UW word) h ws long = absurd (cc)
    tied_purged U h ws long = absurd (cc)

    pub tied_words : (c : Command) → purging c address ≡ false → (ws : List ℕ)
        → (fresh c address ≡ false → ws ≡ truth block)
        → Tied (with_words (words_left c address ws)) (after_done c)
    tied_words R h ws is = plain ws (is refl) (after_done R) (is_words R)
    tied_words (W word) h ws is = entering ws word (is refl) (after_done (W word)) (is_words (W word))
    tied_words (DW word) h ws is = by_start (eqb (address % 4) 0) refl
      where
        by_start : (s : Bool) → eqb (address % 4) 0 ≡ s
            → Tied (with_words (cond s (word ∷ (0 ∷ (0 ∷ (0 ∷ [])))) (set ws (address % 4) word)))
            (after_done (DW word))
        by_start true e =
            let start : address % 4 ≡ 0 = grind (arith, nat_tests, e) in
            starting word start (after_done (DW word)) (λ x. is_words (DW word) x ∙ (rw e refl))
        by_start false e =
            entering ws word (is e) (after_done (DW word)) (λ x. is_words (DW word) x ∙ (rw e refl))
    tied_words RI h ws is = plain ws (is refl) (after_done RI) (is_words RI)
    tied_words RP h ws is = absurd (cc)
    tied_words RB h ws is = plain ws (is refl) (after_done RB) (λ x. is_words RB x ∙ (rw h refl))
    tied_words LR h ws is = plain ws (is refl) (after_done LR) (is_words LR)
    tied_words (UW word) h ws is = entering ws word (is refl) (after_done (UW word)) (is_words (UW word))
    tied_words U h ws is = plain ws (is refl) (after_done U) (is_words U)

-- a command that is not done changes none
pub tied_same : (truth : ℕ → List ℕ) (l after : Ledger) → Tied truth l
    → ((x : ℕ) → after.words x ≡ l.words x) → Tied truth after
tied_same truth l after tied same =
    record { four = tied.four; words = λ x word e. tied.words x word (sym (same x) ∙ e) }
