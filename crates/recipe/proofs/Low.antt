-- Valid lines keep to blocks below a number; a memory keeps its number of blocks and which are live.
use Rattle.std.proofs.Common.{◌≡◌, ℕ, zero, suc, ◌+◌, ◌/◌, ◌<◌, Bool, true, false, cond, eqb, ◌⊎◌, List, [], ◌∷◌, get_or, set, Some, None, Option, sym, refl, subst, inl, inr}
use Rattle.protocol.specs.declared.answer.Answer.{Answer}
use Rattle.protocol.specs.declared.command.BusCommand.{BusCommand}
use Rattle.protocol.specs.declared.command.Request.{Request}
use Rattle.protocol.specs.declared.line.Line.{Line}
use Rattle.protocol.specs.declared.measures.Measures.{Measures}
use Rattle.protocol.specs.Acting.{words_left}
use Rattle.protocol.specs.Entries.{valid}
use Rattle.protocol.specs.Lines.{no_line}
use Rattle.memory.specs.Meaning.{Mem}
use Rattle.cluster.specs.Board.{Board, Outcome}
use Rattle.cluster.specs.declared.case.Case.{Case}
use Rattle.cluster.specs.declared.supply.Supply.{Supply}
use Rattle.cluster.specs.declared.ways.Taken.{Taken}
use Rattle.cluster.specs.Cases.{own_place}
use Rattle.cluster.specs.Copies.{line_of}
use Rattle.cluster.specs.Doing.{state_left, memory_after}
use Rattle.cluster.specs.Finishing.{bus_seen, placed, copy_left, lines_after}
use Rattle.cluster.specs.Snooping.{snooped_at, cache_snooped, other_snooped, snooped_from}
use Rattle.law.proofs.Hearing.{heard_kept, block_in_state}
use Rattle.law.proofs.Invariant.{at_in}
use Rattle.law.proofs.Shapes.{Shape, refused, waited, finished}

abbrev pub Low : ℕ → List Line → Type 0
Low bound lines = (i : ℕ) → valid (at_in lines i).state ≡ true → (at_in lines i).block < bound

-- what a place of a list is after an exchange
set_seen : {X : Type 0} (xs : List X) (k : ℕ) (y : X) (i : ℕ) (d : X)
    → (get_or (set xs k y) i d ≡ y) ⊎ (get_or (set xs k y) i d ≡ get_or xs i d)
set_seen [] k y i d = inr refl
set_seen (x ∷ xs) zero y zero d = inl refl
set_seen (x ∷ xs) zero y (suc i) d = inr refl
set_seen (x ∷ xs) (suc k) y zero d = inr refl
set_seen (x ∷ xs) (suc k) y (suc i) d = set_seen xs k y i d

module _ (bound : ℕ) where
  low_set : (lines : List Line) (k : ℕ) (line : Line) → Low bound lines
      → (valid line.state ≡ true → line.block < bound) → Low bound (set lines k line)
  low_set lines k line low new i = by_place (set_seen lines k line i no_line)
    where
      by_place : (at_in (set lines k line) i ≡ line) ⊎ (at_in (set lines k line) i ≡ at_in lines i)
          → valid (at_in (set lines k line) i).state ≡ true → (at_in (set lines k line) i).block < bound
      by_place (inl is) v =
          subst (λ x. x.block < bound) (sym is) (new (subst (λ x. valid x.state ≡ true) is v))
      by_place (inr is) v =
          subst (λ x. x.block < bound) (sym is) (low i (subst (λ x. valid x.state ≡ true) is v))

  module _ (m : Measures) (bus : BusCommand) (asking block : ℕ) where
    low_snooped : (lines : List Line) (o : Option ℕ) → Low bound lines
        → Low bound (snooped_at bus lines o)
    low_snooped lines None low = low
    low_snooped lines (Some place) low =
        low_set lines place _ low (λ v. let kept = heard_kept (Some bus) (at_in lines place) v in
        subst (λ b. b < bound) (sym kept.1) (low place kept.0))

    low_other : (p : ℕ) (lines : List Line) → Low bound lines
        → Low bound (other_snooped m bus asking block p lines)
    low_other p lines low = by_asking (eqb p asking)
      where
        by_asking : (b : Bool) → Low bound (cond b lines (cache_snooped m bus block p lines))
        by_asking true = low
        by_asking false = low_snooped lines (line_of m lines p block) low

    low_from : (count p : ℕ) (lines : List Line) → Low bound lines
        → Low bound (snooped_from m bus asking block p count lines)
    low_from zero p lines low = low
    low_from (suc count) p lines low =
        low_from count (p + 1) (other_snooped m bus asking block p lines) (low_other p lines low)

  low_seen : (m : Measures) (bus : Option BusCommand) (asking block : ℕ) (lines : List Line)
      → Low bound lines → Low bound (bus_seen m bus asking block lines)
  low_seen m None asking block lines low = low
  low_seen m (Some bus) asking block lines low = low_from m bus asking block m.processors 0 lines low

  low_placed : (o : Option ℕ) (line : Line) (lines : List Line) → Low bound lines
      → (valid line.state ≡ true → line.block < bound) → Low bound (placed o line lines)
  low_placed None line lines low new = low
  low_placed (Some place) line lines low new = low_set lines place line low new

  low_after : (m : Measures) (lines : List Line) (c : Case) (s : Supply) (taken : Option Taken)
      → c.block < bound → Low bound lines → Low bound (lines_after m lines c s taken)
  low_after m lines c s taken below low =
      low_placed (own_place c.place taken) (copy_left c s)
      (bus_seen m c.effect.bus c.processor c.block lines)
      (low_seen m c.effect.bus c.processor c.block lines low)
      (λ v. subst (λ b. b < bound) (sym (block_in_state
      (record {
        state = state_left c.effect s.from;
        block = c.block;
        words = words_left c.command c.address s.words;
      }) (state_left c.effect s.from) v)) below)

  -- whatever a command of a block below it is answered
  pub low_left : (m : Measures) (b : Board) (q : Request) (o : Outcome Answer) → Shape m b q o
      → q.address / 4 < bound → Low bound b.lines → Low bound o.board.lines
  low_left m b q o (refused e is) below low = subst (λ x. Low bound x.board.lines) (sym is) low
  low_left m b q o (waited w) below low = subst (λ x. Low bound x.board.lines) (sym w.is) low
  low_left m b q o (finished f) below low =
      subst (λ x. Low bound x.board.lines) (sym f.is)
      (low_after m b.lines f.case f.supply _
      (subst (λ c. c.block < bound) (sym f.facts.is) below) low)

pub record SameBlocks (before after : Mem) : Type 0 where
  pub count : after.count ≡ before.count
  pub live : after.live ≡ before.live

memory_kept : (mem : Mem) (victim : Option Line) → SameBlocks mem (memory_after mem victim)
memory_kept mem None = record { count = refl; live = refl }
memory_kept mem (Some line) = record { count = refl; live = refl }

pub blocks_kept : (m : Measures) (b : Board) (q : Request) (o : Outcome Answer) → Shape m b q o
    → SameBlocks b.memory o.board.memory
blocks_kept m b q o (refused e is) =
    subst (λ x. SameBlocks b.memory x.board.memory) (sym is) (record { count = refl; live = refl })
blocks_kept m b q o (waited w) =
    subst (λ x. SameBlocks b.memory x.board.memory) (sym w.is) (record { count = refl; live = refl })
blocks_kept m b q o (finished f) =
    subst (λ x. SameBlocks b.memory x.board.memory) (sym f.is) (memory_kept b.memory _)
