-- A line becomes I, and a modified one goes to memory: what is kept of the lines by their places.
use Rattle.std.proofs.Common.{◌≡◌, ℕ, Bool, true, false, cond, ◌&&◌, eqb, List, length, Some, None, Ok, Err, Option, sym, refl, ap, subst, ◌∙◌, inl, inr}
use Rattle.std.proofs.lemmas.Bool.{false≢true, eqb-true, eq-eqb, ne_eqb, and_parts, cond-true, cond-false, cond_both}
use Rattle.std.proofs.lemmas.Bool.Decides.{eqb_tells}
use Rattle.protocol.specs.declared.line.Line.{Line}
use Rattle.protocol.specs.declared.measures.Measures.{Measures}
use Rattle.protocol.specs.declared.refusal.Direction.TheVariants.{Write}
use Rattle.protocol.specs.declared.refusal.Refusal.TheVariants.{Memory}
use Rattle.protocol.specs.Entries.{valid, modified}
use Rattle.protocol.specs.Lines.{blank_line}
use Rattle.memory.specs.Meaning.{Mem, grants, written}
use Rattle.cluster.specs.declared.ways.Taken.{Taken}
use Rattle.cluster.specs.Copies.{holds_block}
use Rattle.cluster.specs.Doing.{victim_of, swapped_out, memory_after}
use Rattle.law.specs.Law.{exclusive}
use Rattle.law.specs.Ledger.{Ledger, block_of}
use Rattle.law.proofs.Copied.{copy_valid, copy_block, copy_from, modified_valid, homed_kept}
use Rattle.law.proofs.Invariant.{at_in, copy, Coherent, Homed, HolderAlone}

-- each line that is not I is the old one at its place
abbrev pub Fewer : (ℕ → Line) → (ℕ → Line) → Type 0
Fewer old new = (i : ℕ) → valid (new i).state ≡ true → new i ≡ old i

pub copy_fewer : (old new : ℕ → Line) → Fewer old new → (block i : ℕ) → copy new block i
    → copy old block i
copy_fewer old new few block i h = ap (holds_block block) (sym (few i (copy_valid block (new i) h))) ∙ h

module _ (m : Measures) (old new : ℕ → Line) (few : Fewer old new) where
  pub homed_fewer : Homed m old → Homed m new
  homed_fewer =
      homed_kept m old new
      (λ i v. (ap (λ line. valid line.state) (sym (few i v)) ∙ v, ap (λ line. line.block) (few i v)))

  pub holder_fewer : (l : Ledger) → HolderAlone m old l → HolderAlone m new l
  holder_fewer l h p a i held c = h p a i held (copy_fewer old new few (block_of a) i c)

-- the table with the line at v blank, and memory with its words if it was modified
module _ (at : ℕ → Line) (v : ℕ) where
  abbrev pub without : ℕ → Line
  without i = cond (eqb i v) blank_line (at i)

  abbrev pub given_back : (ℕ → List ℕ) → ℕ → List ℕ
  given_back mem k = cond (modified (at v).state && eqb k (at v).block) (at v).words (mem k)

  pub without_here : without v ≡ blank_line
  without_here = cond-true (eqb v v) blank_line (at v) (eq-eqb v v refl)

  pub without_elsewhere : (i : ℕ) → (i ≡ v → ⊥) → without i ≡ at i
  without_elsewhere i far = cond-false (eqb i v) blank_line (at i) (ne_eqb i v far)

  -- memory still has four words of each block
  pub given_four : (mem : ℕ → List ℕ) → (valid (at v).state ≡ true → length (at v).words ≡ 4)
      → ((b : ℕ) → length (mem b) ≡ 4)
      → (b : ℕ) → length (given_back mem b) ≡ 4
  given_four mem has all b =
      cond_both (modified (at v).state && eqb b (at v).block) (at v).words (mem b)
      (λ (x : List ℕ). length x ≡ 4)
      (λ h. has (modified_valid (at v).state (and_parts _ _ h).0)) (λ h. all b)

  pub without_fewer : Fewer at without
  without_fewer i h = by_place (eqb i v) h
    where
      by_place : (b : Bool) → valid (cond b blank_line (at i)).state ≡ true
          → cond b blank_line (at i) ≡ at i
      by_place true h = absurd (false≢true h)
      by_place false h = refl

  pub homed_replaced : (m : Measures) → Homed m at → Homed m without
  homed_replaced m h = homed_fewer m at without without_fewer h

  pub holder_replaced : (m : Measures) (l : Ledger) → HolderAlone m at l → HolderAlone m without l
  holder_replaced m l h = holder_fewer m at without without_fewer l h

  module _ (mem truth : ℕ → List ℕ) (c : Coherent at mem truth) where
    was : (block i : ℕ) → copy without block i → copy at block i
    was block i h = copy_fewer at without without_fewer block i h

    same : (block i : ℕ) → copy without block i → without i ≡ at i
    same block i h = without_fewer i (copy_valid block (without i) h)

    -- the replaced line is not a modified copy of the block, so all copies were clean before
    all_clean : (block : ℕ) → (modified (at v).state && eqb block (at v).block) ≡ false
        → ((i : ℕ) → copy without block i → modified (without i).state ≡ false) → (i : ℕ)
        → copy at block i → modified (at i).state ≡ false
    all_clean block other all i h = elim (eqb_tells i v) [
      | inl here ↦
          let same_block = copy_block block (at v) (subst (copy at block) here.1 h) in
          ap (λ k. modified (at k).state) here.1
          ∙ by_state (modified (at v).state) (eq-eqb block (at v).block (sym same_block)) other
      | inr elsewhere ↦
          let kept = without_elsewhere i elsewhere.1 in
          ap (λ line. modified line.state) (sym kept) ∙ all i (ap (holds_block block) kept ∙ h)
    ]
      where
        by_state : (s : Bool) → eqb block (at v).block ≡ true → (s && eqb block (at v).block) ≡ false
            → s ≡ false
        by_state false e h = refl
        by_state true e h = absurd (false≢true (sym h ∙ e))

    cleaned : (block : ℕ) → ((i : ℕ) → copy without block i → modified (without i).state ≡ false)
        → given_back mem block ≡ truth block
    cleaned block all = by_line (modified (at v).state && eqb block (at v).block) refl
      where
        by_line : (b : Bool) → (modified (at v).state && eqb block (at v).block) ≡ b
            → cond b (at v).words (mem block) ≡ truth block
        by_line false e = c.clean block (all_clean block e all)
        by_line true e =
            let both = and_parts (modified (at v).state) (eqb block (at v).block) e in
            let here = eqb-true block (at v).block both.1 in
            c.agree block v (copy_from block (at v) (modified_valid (at v).state both.0) (sym here))

    pub replaced : Coherent without (given_back mem) truth
    replaced = record {
      alone = λ block i j a b e. c.alone block i j (was block i a) (was block j b)
          (ap (λ line. exclusive line.state) (sym (same block i a)) ∙ e);
      single = λ block i j a b e f. c.single block i j (was block i a) (was block j b)
          (ap (λ line. modified line.state) (sym (same block i a)) ∙ e)
          (ap (λ line. modified line.state) (sym (same block j b)) ∙ f);
      agree = λ block i a. ap (λ line. line.words) (same block i a) ∙ c.agree block i (was block i a);
      clean = cleaned;
    }

pub granted_write : (mem : Mem) (block : ℕ) (words : List ℕ) → grants mem block ≡ true
    → (written mem block words).words ≡ (λ k. cond (eqb k block) words (mem.words k))
granted_write mem block words h = λ i k. cond (h i && eqb k block) words (mem.words k)

module _ (mem : Mem) (lines : List Line) where
  -- a swap-out that is not refused gives the victim's words to memory
  pub swapped : (way : Taken) (s : Option ℕ) → swapped_out mem (victim_of lines (Some way)) ≡ Ok s
      → (memory_after mem (victim_of lines (Some way))).words
      ≡ given_back (at_in lines) way.place mem.words
  swapped way s h = by_state (modified (at_in lines way.place).state) h
    where
      by_grant : (b : Bool) → grants mem (at_in lines way.place).block ≡ b
          → cond b (Ok (Some (at_in lines way.place).block))
          (Err (Memory (at_in lines way.place).block Write)) ≡ Ok s
          → (written mem (at_in lines way.place).block (at_in lines way.place).words).words
          ≡ (λ k. cond (eqb k (at_in lines way.place).block) (at_in lines way.place).words (mem.words k))
      by_grant true e h = granted_write mem (at_in lines way.place).block (at_in lines way.place).words e
      by_grant false e h = absurd (cc)

      by_state : (b : Bool) → swapped_out mem (cond b (Some (at_in lines way.place)) None) ≡ Ok s
          → (memory_after mem (cond b (Some (at_in lines way.place)) None)).words
          ≡ (λ k. cond (b && eqb k (at_in lines way.place).block) (at_in lines way.place).words
          (mem.words k))
      by_state false h = refl
      by_state true h = by_grant (grants mem (at_in lines way.place).block) refl h
