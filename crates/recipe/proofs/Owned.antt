-- What a done LR leaves its processor: every copy of the block in its cache is EM or EC.
use Rattle.std.proofs.Common.{◌≡◌, ℕ, ◌/◌, ◌<◌, Bool, true, false, List, length, is_some, Some, None, Option, sym, refl, ap, ◌∙◌, subst, inl, inr}
use Rattle.std.proofs.lemmas.Bool.Decides.{eqb_tells}
use Rattle.protocol.specs.declared.answer.Answer.{Answer}
use Rattle.protocol.specs.declared.answer.Supplier.{Supplier}
use Rattle.protocol.specs.declared.answer.Supplier.TheVariants.{Memory, Cache}
use Rattle.protocol.specs.declared.command.Action.TheVariants.{LR, UW}
use Rattle.protocol.specs.declared.command.BusCommand.{BusCommand}
use Rattle.protocol.specs.declared.command.Request.{Request}
use Rattle.protocol.specs.declared.line.Line.{Line}
use Rattle.protocol.specs.declared.measures.Measures.{Measures}
use Rattle.protocol.specs.declared.state.State.{State}
use Rattle.protocol.specs.declared.state.State.TheVariants.{I, S, SM, EC, EM}
use Rattle.protocol.specs.declared.table.Effect.{Effect}
use Rattle.protocol.specs.Acting.{words_left}
use Rattle.protocol.specs.Lines.{in_state}
use Rattle.protocol.specs.Places.{line_count}
use Rattle.protocol.specs.StateTable.{cell_of}
use Rattle.cluster.specs.Board.{Board, Outcome}
use Rattle.cluster.specs.declared.ways.Taken.{Taken}
use Rattle.cluster.specs.Cases.{own_place}
use Rattle.cluster.specs.Copies.{line_of, line_at}
use Rattle.cluster.specs.Doing.{is_unlock, state_left}
use Rattle.cluster.specs.Finishing.{placed, bus_seen}
use Rattle.law.specs.Law.{exclusive, owner}
use Rattle.law.specs.Ledger.{Ledger}
use Rattle.law.proofs.Commands.{Settled}
use Rattle.law.proofs.Doing.{Done, taken_with, made_state, made_line}
use Rattle.law.proofs.Hits as hits
use Rattle.law.proofs.Misses as misses
use Rattle.law.proofs.Invariant.{at_in, copy, Homed}
use Rattle.law.proofs.Moving.{Moved, before}
use Rattle.law.proofs.Places.{found_at}
use Rattle.law.proofs.Shapes.{action_of, found}

-- UW of a copy in this state is no machine check
abbrev pub tame : State → Bool
tame I = true
tame S = false
tame SM = false
tame EC = true
tame EM = true

tame_in : (line : Line) (s : State) → exclusive s ≡ true → tame (in_state line s).state ≡ true
tame_in line I h = absurd (cc)
tame_in line S h = absurd (cc)
tame_in line SM h = absurd (cc)
tame_in line EC h = refl
tame_in line EM h = refl

pub tame_cell : (s : State) → tame s ≡ true → is_some (cell_of UW s) ≡ true
tame_cell I h = refl
tame_cell S h = absurd (cc)
tame_cell SM h = absurd (cc)
tame_cell EC h = refl
tame_cell EM h = refl

abbrev owns_with : Option Supplier → Option Effect → Bool
owns_with from None = true
owns_with from (Some e) = exclusive (state_left e from)

each_locks : (s : State) (from : Option Supplier) → owns_with from (cell_of LR s) ≡ true
each_locks I None = refl
each_locks I (Some Memory) = refl
each_locks I (Some (Cache p)) = refl
each_locks S None = refl
each_locks S (Some Memory) = refl
each_locks S (Some (Cache p)) = refl
each_locks SM None = refl
each_locks SM (Some Memory) = refl
each_locks SM (Some (Cache p)) = refl
each_locks EC None = refl
each_locks EC (Some Memory) = refl
each_locks EC (Some (Cache p)) = refl
each_locks EM None = refl
each_locks EM (Some Memory) = refl
each_locks EM (Some (Cache p)) = refl

-- the own copy after a command is the one that it made
moved_own : {m : Measures} {at after : ℕ → Line} {block k asking : ℕ} {bus : Option BusCommand}
    {own : Line} → Moved m at after block k asking bus own → (i : ℕ) → copy after block i
    → owner m i ≡ asking → after i ≡ own
moved_own {m} {at} {after} {block} {k} moved i c owned = elim (eqb_tells i k) [
  | inl same ↦ ap after same.1 ∙ moved.place
  | inr far ↦ absurd (far.1 (moved.mine i (before moved block i far.1 c) owned))
]

tame_made : {m : Measures} {board : Board} {q : Request} {o : Outcome Answer} (d : Done m board q o)
    → exclusive (made_state d) ≡ true → tame (made_line d).state ≡ true
tame_made {q = q} d h =
    tame_in
    (record {
      state = made_state d;
      block = q.address / 4;
      words = words_left q.command q.address d.supply.words;
    }) (made_state d) h

module _ {m : Measures} (some_columns : 0 < m.columns) (some_ways : 0 < m.ways) {board : Board}
    {q : Request} {l : Ledger} (was : Settled m board.lines board.memory.words l) {o : Outcome Answer}
    (d : Done m board q o) (taking : is_unlock (action_of m board q) ≡ false) where
  abbrev block : ℕ
  block = q.address / 4

  abbrev lines_left : Option ℕ → Option Taken → List Line
  lines_left place taken =
      placed (own_place place taken) (made_line d)
      (bus_seen m d.effect.bus q.processor block board.lines)

  abbrev OwnMade : List Line → Type 0
  OwnMade lines = (i : ℕ) → copy (at_in lines) block i → owner m i ≡ q.processor
      → at_in lines i ≡ made_line d

  own_made : OwnMade (lines_left (line_of m board.lines q.processor block) (taken_with m board q d.effect))
  own_made = by_place (line_of m board.lines q.processor block) refl
    where
      by_place : (r : Option ℕ) → line_of m board.lines q.processor block ≡ r
          → OwnMade (lines_left (line_of m board.lines q.processor block)
          (taken_with m board q d.effect))
      by_place (Some k) e =
          subst (λ r. OwnMade (lines_left r (taken_with m board q d.effect))) (sym e)
          (subst (λ t. OwnMade (lines_left (Some k) t))
          (sym (hits.hit_untaken some_columns was.fit was.homed was.truth.coherent d k e))
          (moved_own (hits.moved some_columns was.fit was.homed was.truth.coherent d k e)))
      by_place None e =
          subst (λ r. OwnMade (lines_left r (taken_with m board q d.effect))) (sym e)
          (subst (λ t. OwnMade (lines_left None t))
          (sym (misses.miss_taken some_columns some_ways was.fit was.homed was.truth.coherent d e taking))
          (moved_own (misses.moved some_columns some_ways was.fit was.homed was.truth.coherent d e taking)))

  own_left : OwnMade o.board.lines
  own_left = subst (λ x. OwnMade x.board.lines) (sym d.is) own_made

  -- what the processor's search finds after an LR
  pub tame_left : cell_of (action_of m board q) (found m board q) ≡ cell_of LR (found m board q)
      → length o.board.lines ≡ line_count m → Homed m (at_in o.board.lines)
      → tame (line_at o.board.lines (line_of m o.board.lines q.processor block)).state ≡ true
  tame_left is_lr fit homed = by_place (line_of m o.board.lines q.processor block) refl
    where
      owns : exclusive (made_state d) ≡ true
      owns = ap (owns_with d.supply.from) (sym d.cell ∙ is_lr)
          ∙ each_locks (found m board q) d.supply.from

      by_place : (r : Option ℕ) → line_of m o.board.lines q.processor block ≡ r
          → tame (line_at o.board.lines r).state ≡ true
      by_place None e = refl
      by_place (Some i) e =
          let at = found_at m some_columns o.board.lines fit homed q.processor block i d.known e in
          ap (λ (x : Line). tame x.state) (own_left i at.copied at.owned) ∙ tame_made d owns
