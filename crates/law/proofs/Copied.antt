-- What a copy of a block tells of its line, and lines that are kept or become I.
use Rattle.std.proofs.Common.{◌≡◌, ℕ, true, ◌&&◌, leb, List, length, sym, refl, ap, ◌∙◌, subst, arith}
use Rattle.std.proofs.lemmas.Bool.{and_parts}
use Rattle.std.proofs.lemmas.Bool.Decides.{nat_tests}
use Rattle.protocol.specs.declared.line.Line.{Line}
use Rattle.protocol.specs.declared.state.State.{State}
use Rattle.protocol.specs.declared.state.State.TheVariants.{I, S, SM, EC, EM}
use Rattle.protocol.specs.Entries.{valid, modified}
use Rattle.protocol.specs.declared.measures.Measures.{Measures}
use Rattle.cluster.specs.Copies.{holds_block}
use Rattle.law.proofs.Invariant.{copy, Coherent, Home, Homed}

-- a copy is valid, and its number is the block
pub copy_valid : (block : ℕ) (line : Line) → holds_block block line ≡ true → valid line.state ≡ true
copy_valid block line h = (and_parts _ _ (and_parts _ _ h).0).0

pub copy_block : (block : ℕ) (line : Line) → holds_block block line ≡ true → line.block ≡ block
copy_block block line h =
    let part = and_parts (valid line.state && leb block line.block) (leb line.block block) h in
    let to : leb line.block block ≡ true = part.1 in
    let from : leb block line.block ≡ true =
    (and_parts (valid line.state) (leb block line.block) part.0).1 in
    grind (arith, nat_tests)

pub copy_from : (block : ℕ) (line : Line) → valid line.state ≡ true → line.block ≡ block
    → holds_block block line ≡ true
copy_from block line h e = rw h (grind (arith, nat_tests, e))

-- a modified line is valid
pub modified_valid : (s : State) → modified s ≡ true → valid s ≡ true
modified_valid I h = absurd (cc)
modified_valid S h = refl
modified_valid SM h = refl
modified_valid EC h = refl
modified_valid EM h = refl

-- a line left in use was in use before, for the same block
abbrev pub BlockKept : Line → Line → Type 0
BlockKept line left = valid left.state ≡ true → (valid line.state ≡ true) × (left.block ≡ line.block)

pub kept_copy : (line left : Line) → BlockKept line left → (b : ℕ) → holds_block b left ≡ true
    → holds_block b line ≡ true
kept_copy line left kept b h =
    let was = kept (copy_valid b left h) in copy_from b line was.0 (sym was.1 ∙ copy_block b left h)

-- such lines stay in their windows
module _ (m : Measures) (at left : ℕ → Line) (kept : (i : ℕ) → BlockKept (at i) (left i)) where
  copy_was : (block i : ℕ) → copy left block i → copy at block i
  copy_was block i h = kept_copy (at i) (left i) (kept i) block h

  pub homed_kept : Homed m at → Homed m left
  homed_kept homed =
      record {
        home = λ i v. let was = kept i v in subst (λ b. Home m b i) (sym was.1) (homed.home i was.0);
        once = λ block i j x y. homed.once block i j (copy_was block i x) (copy_was block j y);
      }

-- where each block has four words, each valid line has
pub words_four : (at : ℕ → Line) (mem truth : ℕ → List ℕ) → Coherent at mem truth
    → ((b : ℕ) → length (truth b) ≡ 4)
    → (i : ℕ) → valid (at i).state ≡ true → length (at i).words ≡ 4
words_four at mem truth c four i v =
    ap length (c.agree (at i).block i (copy_from (at i).block (at i) v refl)) ∙ four (at i).block
