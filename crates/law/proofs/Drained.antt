-- What a drain keeps, and that memory then has the words of each block.
use Rattle.std.proofs.Common.{◌≡◌, ℕ, zero, suc, ◌+◌, ◌-◌, ◌<◌, ◌≤◌, ◌%◌, Bool, true, false, cond, ◌&&◌, eqb, ltb, ◌⊎◌, List, [], ◌∷◌, length, get_or, IfSome, Some, None, Ok, Err, Option, Result, sym, refl, ap, subst, ◌∙◌, inl, inr, arith}
use Rattle.std.proofs.lemmas.Bool.{false≢true}
use Rattle.std.proofs.lemmas.Bool.Decides.{eqb_tells, leb_tells, nat_tests}
use Rattle.protocol.specs.declared.line.Line.{Line}
use Rattle.protocol.specs.declared.measures.Measures.{Measures}
use Rattle.protocol.specs.declared.refusal.Direction.TheVariants.{Write}
use Rattle.protocol.specs.declared.refusal.Refusal.{Refusal}
use Rattle.protocol.specs.declared.refusal.Refusal.TheVariants.{TableLength, Memory}
use Rattle.protocol.specs.Entries.{valid, modified}
use Rattle.protocol.specs.Lines.{blank_line}
use Rattle.memory.specs.Meaning.{Mem, grants, written}
use Rattle.cluster.specs.Board.{Board, Outcome, refusing}
use Rattle.upkeep.specs.declared.drain.Drained.{Drained}
use Rattle.upkeep.specs.Counting.{lines_fit}
use Rattle.upkeep.specs.Draining.{Drain, behind, written_back, memory_back, unless_stopped, drain_from, costed, drain_rule}
use Rattle.law.specs.Ledger.{Ledger, block_of, word_at}
use Rattle.law.proofs.Copied.{copy_valid, words_four}
use Rattle.law.proofs.Invariant.{at_in, Coherent, Homed, Tied, HolderAlone}
use Rattle.law.proofs.Replacing.{Fewer, homed_fewer, holder_fewer, without, without_elsewhere, given_back, given_four, replaced, granted_write}

abbrev is_finished : {X : Type 0} → Result X Refusal → Bool
is_finished (Ok x) = true
is_finished (Err e) = false

abbrev stopped_at : Refusal → Line → List Line → Mem → Drain
stopped_at e line lines mem = record { answer = Err e; lines = line ∷ lines; memory = mem }

abbrev gone_on : ℕ → Line → List Line → Mem → Drain
gone_on blocks line lines mem = behind blank_line (drain_from blocks lines (memory_back mem line))

-- a line stops the drain, or is given back and becomes I
data Step (blocks : ℕ) (line : Line) (lines : List Line) (mem : Mem) : Type 0 where
  stopped : (e : Refusal) → drain_from blocks (line ∷ lines) mem ≡ stopped_at e line lines mem
      → Step blocks line lines mem
  went : (n : ℕ) → (memory_back mem line).words ≡ given_back (λ k. line) 0 mem.words
      → drain_from blocks (line ∷ lines) mem ≡ gone_on (blocks + n) line lines mem
      → Step blocks line lines mem

step : (blocks : ℕ) (line : Line) (lines : List Line) (mem : Mem) → Step blocks line lines mem
step blocks line lines mem = by_both (modified line.state) (grants mem line.block) refl refl
  where
    on_answer : (r : Result ℕ Refusal) → written_back mem line ≡ r → drain_from blocks (line ∷ lines) mem
        ≡ unless_stopped r (record { answer = Ok blocks; lines = line ∷ lines; memory = mem })
        (λ n. gone_on (blocks + n) line lines mem)
    on_answer r e =
        ap (λ x. unless_stopped x (record { answer = Ok blocks; lines = line ∷ lines; memory = mem })
        (λ n. gone_on (blocks + n) line lines mem)) e

    words_of : (s : Bool) → modified line.state ≡ s
        → (cond s (written mem line.block line.words) mem).words
        ≡ (λ k. cond (s && eqb k line.block) line.words (mem.words k))
        → (memory_back mem line).words ≡ given_back (λ k. line) 0 mem.words
    words_of s e h =
        subst (λ s. (cond s (written mem line.block line.words) mem).words
        ≡ (λ k. cond (s && eqb k line.block) line.words (mem.words k))) (sym e) h

    by_both : (s g : Bool) → modified line.state ≡ s → grants mem line.block ≡ g
        → Step blocks line lines mem
    by_both false g e f =
        went 0 (words_of false e refl)
        (on_answer (Ok 0)
        (ap (λ s. cond s (cond (grants mem line.block) (Ok 1) (Err (Memory line.block Write))) (Ok 0)) e))
    by_both true true e f =
        went 1 (words_of true e (granted_write mem line.block line.words f))
        (on_answer (Ok 1) (λ i. cond (e i) (cond (f i) (Ok 1) (Err (Memory line.block Write))) (Ok 0)))
    by_both true false e f =
        stopped (Memory line.block Write)
        (on_answer (Err (Memory line.block Write))
        (λ i. cond (e i) (cond (f i) (Ok 1) (Err (Memory line.block Write))) (Ok 0)))

drained_length : (blocks : ℕ) (lines : List Line) (mem : Mem)
    → length (drain_from blocks lines mem).lines ≡ length lines
drained_length blocks [] mem = refl
drained_length blocks (line ∷ lines) mem =
    by_step (step blocks line lines mem) (λ n. drained_length (blocks + n) lines (memory_back mem line))
  where
    by_step : Step blocks line lines mem
        → ((n : ℕ) → length (drain_from (blocks + n) lines (memory_back mem line)).lines ≡ length lines)
        → length (drain_from blocks (line ∷ lines) mem).lines ≡ suc (length lines)
    by_step (stopped e is) rest = ap (λ d. length d.lines) is
    by_step (went n words is) rest = ap (λ d. length d.lines) is ∙ ap suc (rest n)

-- a drain leaves blank lines and lines as they were
drained_fewer : (blocks : ℕ) (lines : List Line) (mem : Mem)
    → Fewer (at_in lines) (at_in (drain_from blocks lines mem).lines)
drained_fewer blocks [] mem = λ i h. refl
drained_fewer blocks (line ∷ lines) mem =
    by_step (step blocks line lines mem) (λ n. drained_fewer (blocks + n) lines (memory_back mem line))
  where
    behind_blank : (ls : List Line) → Fewer (at_in lines) (at_in ls)
        → Fewer (at_in (line ∷ lines)) (at_in (blank_line ∷ ls))
    behind_blank ls few zero h = absurd (false≢true h)
    behind_blank ls few (suc i) h = few i h

    by_step : Step blocks line lines mem
        → ((n : ℕ) → Fewer (at_in lines)
        (at_in (drain_from (blocks + n) lines (memory_back mem line)).lines))
        → Fewer (at_in (line ∷ lines)) (at_in (drain_from blocks (line ∷ lines) mem).lines)
    by_step (stopped e is) rest =
        subst (λ d. Fewer (at_in (line ∷ lines)) (at_in d.lines)) (sym is) (λ i h. refl)
    by_step (went n words is) rest =
        subst (λ d. Fewer (at_in (line ∷ lines)) (at_in d.lines)) (sym is)
        (behind_blank (drain_from (blocks + n) lines (memory_back mem line)).lines (rest n))

-- a finished drain leaves every line I
drained_blank : (blocks : ℕ) (lines : List Line) (mem : Mem) (n : ℕ)
    → (drain_from blocks lines mem).answer ≡ Ok n
    → (i : ℕ) → valid (at_in (drain_from blocks lines mem).lines i).state ≡ false
drained_blank blocks [] mem n h = λ i. refl
drained_blank blocks (line ∷ lines) mem n h =
    by_step (step blocks line lines mem) (λ k. drained_blank (blocks + k) lines (memory_back mem line) n)
  where
    behind_blank : (ls : List Line) → ((i : ℕ) → valid (at_in ls i).state ≡ false) → (i : ℕ)
        → valid (at_in (blank_line ∷ ls) i).state ≡ false
    behind_blank ls all zero = refl
    behind_blank ls all (suc i) = all i

    by_step : Step blocks line lines mem
        → ((k : ℕ) → (drain_from (blocks + k) lines (memory_back mem line)).answer ≡ Ok n
        → (i : ℕ) → valid (at_in (drain_from (blocks + k) lines (memory_back mem line)).lines i).state
        ≡ false)
        → (i : ℕ) → valid (at_in (drain_from blocks (line ∷ lines) mem).lines i).state ≡ false
    by_step (stopped e is) rest =
        absurd (false≢true (ap (λ d. is_finished d.answer) (sym is) ∙ ap is_finished h))
    by_step (went k words is) rest =
        subst (λ d. (i : ℕ) → valid (at_in d.lines i).state ≡ false) (sym is)
        (behind_blank (drain_from (blocks + k) lines (memory_back mem line)).lines
        (rest k (ap (λ d. d.answer) (sym is) ∙ h)))

-- the lines from a place on, behind blank ones
abbrev from_place : ℕ → List Line → ℕ → Line
from_place j lines i = cond (ltb i j) blank_line (at_in lines (i - j))

at_first : (j : ℕ) (line : Line) (lines : List Line) → from_place j (line ∷ lines) j ≡ line
at_first j line lines =
    by_low (ltb j j) (let none : ltb j j ≡ false = grind (arith, nat_tests) in none) (j - j) (omega arith)
  where
    by_low : (b : Bool) → b ≡ false → (k : ℕ) → k ≡ 0 → cond b blank_line (at_in (line ∷ lines) k) ≡ line
    by_low b e k z = rw (e, z) refl

passed_blank : (j : ℕ) (line : Line) (lines : List Line)
    → without (from_place j (line ∷ lines)) j ≡ from_place (suc j) lines
passed_blank j line lines = λ i k. at_place k i
  where
    low : (k : ℕ) → k < j → (eqb k j ≡ false) × (ltb k j ≡ true) × (ltb k (suc j) ≡ true)
    low k h = (grind (arith, nat_tests), grind (arith, nat_tests), grind (arith, nat_tests))

    here : (k : ℕ) → k ≡ j → (eqb k j ≡ true) × (ltb k (suc j) ≡ true)
    here k h = (grind (arith, nat_tests), grind (arith, nat_tests))

    high : (k : ℕ) → suc j ≤ k → (eqb k j ≡ false) × (ltb k j ≡ false) × (ltb k (suc j) ≡ false)
        × (k - j ≡ suc (k - suc j))
    high k h = (
      grind (arith, nat_tests),
      grind (arith, nat_tests),
      grind (arith, nat_tests),
      omega
          (arith, h),
    )

    at_place : (k : ℕ) → without (from_place j (line ∷ lines)) j k ≡ from_place (suc j) lines k
    at_place k = elim (leb_tells j k) [
      | inr less ↦ let facts = low k less.1 in rw (facts.0, facts.1, facts.2) refl
      | inl more ↦ elim (eqb_tells k j) [
        | inl same ↦ let facts = here k same.1 in rw (facts.0, facts.1) refl
        | inr other ↦ let facts =
            high k (let a = more.1 in let b = other.1 in omega (arith, a, b)) in
            rw (facts.0, facts.1, facts.2, facts.3) refl
      ]
    ]

blank_at : (j : ℕ) (lines : List Line) → from_place (suc j) lines ≡ from_place j (blank_line ∷ lines)
blank_at j lines = sym (passed_blank j blank_line lines) ∙ (λ i k. at_place k i)
  where
    at_place : (k : ℕ) → without (from_place j (blank_line ∷ lines)) j k
        ≡ from_place j (blank_line ∷ lines) k
    at_place k = elim (eqb_tells k j) [
      | inl here ↦
          ap (λ b. cond b blank_line (from_place j (blank_line ∷ lines) k)) here.0
          ∙ sym (ap (from_place j (blank_line ∷ lines)) here.1 ∙ at_first j blank_line lines)
      | inr other ↦ without_elsewhere (from_place j (blank_line ∷ lines)) j k other.1
    ]

from_start : (lines : List Line) → from_place 0 lines ≡ at_in lines
from_start lines = λ i k. at_place k i
  where
    none_below : (k : ℕ) → (ltb k 0 ≡ false) × (k - 0 ≡ k)
    none_below k = (grind (arith, nat_tests), omega arith)

    at_place : (k : ℕ) → from_place 0 lines k ≡ at_in lines k
    at_place k = let facts = none_below k in λ i. cond (facts.0 i) blank_line (at_in lines (facts.1 i))

module _ (truth : ℕ → List ℕ) where
  abbrev CoherentFrom : ℕ → List Line → (ℕ → List ℕ) → Type 0
  CoherentFrom j lines words = Coherent (from_place j lines) words truth

  one_back : (line : Line) (lines : List Line) (mem : Mem) (j : ℕ)
      → (memory_back mem line).words ≡ given_back (λ k. line) 0 mem.words
      → CoherentFrom j (line ∷ lines) mem.words → CoherentFrom (suc j) lines (memory_back mem line).words
  one_back line lines mem j words c =
      let gave : given_back (from_place j (line ∷ lines)) j mem.words ≡ (memory_back mem line).words =
      ap (λ x. given_back (λ k. x) 0 mem.words) (at_first j line lines) ∙ sym words in
      subst (λ at. Coherent at (memory_back mem line).words truth) (passed_blank j line lines)
      (subst (λ w. Coherent (without (from_place j (line ∷ lines)) j) w truth) gave
      (replaced (from_place j (line ∷ lines)) j mem.words truth c))

  coherent_from : (blocks : ℕ) (lines : List Line) (mem : Mem) (j : ℕ) → CoherentFrom j lines mem.words
      → CoherentFrom j (drain_from blocks lines mem).lines (drain_from blocks lines mem).memory.words
  coherent_from blocks [] mem j c = c
  coherent_from blocks (line ∷ lines) mem j c =
      by_step (step blocks line lines mem)
      (λ n. coherent_from (blocks + n) lines (memory_back mem line) (suc j))
    where
      by_step : Step blocks line lines mem
          → ((n : ℕ) → CoherentFrom (suc j) lines (memory_back mem line).words
          → CoherentFrom (suc j) (drain_from (blocks + n) lines (memory_back mem line)).lines
          (drain_from (blocks + n) lines (memory_back mem line)).memory.words)
          → CoherentFrom j (drain_from blocks (line ∷ lines) mem).lines
          (drain_from blocks (line ∷ lines) mem).memory.words
      by_step (stopped e is) rest = subst (λ d. CoherentFrom j d.lines d.memory.words) (sym is) c
      by_step (went n words is) rest =
          let d = drain_from (blocks + n) lines (memory_back mem line) in
          subst (λ x. CoherentFrom j x.lines x.memory.words) (sym is)
          (subst (λ at. Coherent at d.memory.words truth) (blank_at j d.lines)
          (rest n (one_back line lines mem j words c)))

  module _ (blocks : ℕ) (lines : List Line) (mem : Mem) where
    abbrev drain : Drain
    drain = drain_from blocks lines mem

    drained_coherent : Coherent (at_in lines) mem.words truth
        → Coherent (at_in drain.lines) drain.memory.words truth
    drained_coherent c =
        subst (λ at. Coherent at drain.memory.words truth) (from_start drain.lines)
        (coherent_from blocks lines mem 0
        (subst (λ at. Coherent at mem.words truth) (sym (from_start lines)) c))

    drained_memory : Coherent (at_in lines) mem.words truth → (n : ℕ) → drain.answer ≡ Ok n → (block : ℕ)
        → drain.memory.words block ≡ truth block
    drained_memory c n h block = (drained_coherent c).clean block
        (λ i held. absurd
        (false≢true (sym (drained_blank blocks lines mem n h i)
        ∙ copy_valid block (at_in drain.lines i) held)))

-- each valid line has four words
FourEach : List Line → Type 0
FourEach lines = (i : ℕ) → valid (at_in lines i).state ≡ true → length (at_in lines i).words ≡ 4

drained_four : (blocks : ℕ) (lines : List Line) (mem : Mem) → FourEach lines
    → ((b : ℕ) → length (mem.words b) ≡ 4)
    → (b : ℕ) → length ((drain_from blocks lines mem).memory.words b) ≡ 4
unfolding FourEach
drained_four blocks [] mem each all = all
drained_four blocks (line ∷ lines) mem each all =
    by_step (step blocks line lines mem)
    (λ n. drained_four (blocks + n) lines (memory_back mem line) (λ i. each (suc i)))
  where
    by_step : Step blocks line lines mem
        → ((n : ℕ) → ((b : ℕ) → length ((memory_back mem line).words b) ≡ 4)
        → (b : ℕ) → length ((drain_from (blocks + n) lines (memory_back mem line)).memory.words b) ≡ 4)
        → (b : ℕ) → length ((drain_from blocks (line ∷ lines) mem).memory.words b) ≡ 4
    by_step (stopped e is) rest = subst (λ d. (b : ℕ) → length (d.memory.words b) ≡ 4) (sym is) all
    by_step (went n words is) rest =
        subst (λ d. (b : ℕ) → length (d.memory.words b) ≡ 4) (sym is)
        (rest n (subst (λ w. (b : ℕ) → length (w b) ≡ 4) (sym words)
        (given_four (λ k. line) 0 mem.words (each zero) all)))

module _ (m : Measures) (blocks : ℕ) (lines : List Line) (mem : Mem) where
  drained_homed : Homed m (at_in lines) → Homed m (at_in (drain_from blocks lines mem).lines)
  drained_homed h =
      homed_fewer m (at_in lines) (at_in (drain_from blocks lines mem).lines)
      (drained_fewer blocks lines mem) h

  drained_holder : (l : Ledger) → HolderAlone m (at_in lines) l
      → HolderAlone m (at_in (drain_from blocks lines mem).lines) l
  drained_holder l h =
      holder_fewer m (at_in lines) (at_in (drain_from blocks lines mem).lines)
      (drained_fewer blocks lines mem) l h

module _ (m : Measures) (board : Board) where
  abbrev drained_as : Outcome Drained
  drained_as =
      let d = drain_from 0 board.lines board.memory in
      record { answer = costed m d.answer; board = record board { lines = d.lines; memory = d.memory } }

  abbrev not_drained : Outcome Drained
  not_drained = refusing board TableLength

  drain_way : (drain_rule m board ≡ drained_as) ⊎ (drain_rule m board ≡ not_drained)
  unfolding drain_rule
  drain_way = by_fit (lines_fit m board.lines)
    where
      by_fit : (b : Bool) → (cond b drained_as not_drained ≡ drained_as) ⊎
          (cond b drained_as not_drained ≡ not_drained)
      by_fit true = inl refl
      by_fit false = inr refl

  -- what holds of a drain's lines and memory, and of those before it
  by_way : (P : List Line → Mem → Type 0)
      → P (drain_from 0 board.lines board.memory).lines (drain_from 0 board.lines board.memory).memory
      → P board.lines board.memory
      → P (drain_rule m board).board.lines (drain_rule m board).board.memory
  by_way P after before = elim drain_way [
    | inl done ↦ subst (λ o. P o.board.lines o.board.memory) (sym done) after
    | inr unfit ↦ subst (λ o. P o.board.lines o.board.memory) (sym unfit) before
  ]

  pub rule_coherent : (truth : ℕ → List ℕ) → Coherent (at_in board.lines) board.memory.words truth
      → Coherent (at_in (drain_rule m board).board.lines) (drain_rule m board).board.memory.words truth
  rule_coherent truth c =
      by_way (λ ls me. Coherent (at_in ls) me.words truth)
      (drained_coherent truth 0 board.lines board.memory c) c

  pub rule_homed : Homed m (at_in board.lines) → Homed m (at_in (drain_rule m board).board.lines)
  rule_homed h = by_way (λ ls me. Homed m (at_in ls)) (drained_homed m 0 board.lines board.memory h) h

  pub rule_holder : (l : Ledger) → HolderAlone m (at_in board.lines) l
      → HolderAlone m (at_in (drain_rule m board).board.lines) l
  rule_holder l h =
      by_way (λ ls me. HolderAlone m (at_in ls) l) (drained_holder m 0 board.lines board.memory l h) h

  pub rule_length : length (drain_rule m board).board.lines ≡ length board.lines
  rule_length =
      by_way (λ ls me. length ls ≡ length board.lines) (drained_length 0 board.lines board.memory) refl

  pub rule_four : (truth : ℕ → List ℕ) → Coherent (at_in board.lines) board.memory.words truth
      → ((b : ℕ) → length (truth b) ≡ 4)
      → ((b : ℕ) → length (board.memory.words b) ≡ 4) → (b : ℕ)
      → length ((drain_rule m board).board.memory.words b) ≡ 4
  unfolding FourEach
  rule_four truth c four all =
      by_way (λ ls me. (b : ℕ) → length (me.words b) ≡ 4)
      (drained_four 0 board.lines board.memory
      (words_four (at_in board.lines) board.memory.words truth c four) all) all

  rule_memory : (truth : ℕ → List ℕ) → Coherent (at_in board.lines) board.memory.words truth
      → (d : Drained) → (drain_rule m board).answer ≡ Ok d
      → (block : ℕ) → (drain_rule m board).board.memory.words block ≡ truth block
  rule_memory truth c d h block = elim drain_way [
    | inl done ↦ ap (λ o. o.board.memory.words block) done
        ∙ finished (drain_from 0 board.lines board.memory).answer refl (ap (λ o. o.answer) (sym done) ∙ h)
    | inr unfit ↦ absurd (false≢true (ap (λ o. is_finished o.answer) (sym unfit) ∙ ap is_finished h))
  ]
    where
      finished : (r : Result ℕ Refusal) → (drain_from 0 board.lines board.memory).answer ≡ r
          → costed m r ≡ Ok d → (drain_from 0 board.lines board.memory).memory.words block ≡ truth block
      finished (Ok n) e h = drained_memory truth 0 board.lines board.memory c n e block
      finished (Err e) same h = absurd (cc)

  -- after a finished drain memory has each word of the ledger
  pub drains_law : (truth : ℕ → List ℕ) (l : Ledger)
      → Coherent (at_in board.lines) board.memory.words truth → Tied truth l
      → (d : Drained) → (drain_rule m board).answer ≡ Ok d → (address : ℕ)
      → IfSome (l.words address) (λ word. word_at (drain_rule m board).board.memory address ≡ word)
  drains_law truth l c t d h address = by_word (l.words address) refl
    where
      by_word : (w : Option ℕ) → l.words address ≡ w
          → IfSome w (λ word. word_at (drain_rule m board).board.memory address ≡ word)
      by_word None e = tt
      by_word (Some word) e =
          ap (λ words. get_or words (address % 4) 0) (rule_memory truth c d h (block_of address))
          ∙ t.words address word e
