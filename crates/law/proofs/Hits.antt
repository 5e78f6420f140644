-- A done command whose own cache has the block.
use Rattle.std.proofs.Common.{◌≡◌, ℕ, ◌/◌, ◌<◌, Bool, true, false, cond, not, ◌&&◌, List, length, get_or, Some, None, Option, sym, refl, ap, ◌∙◌, inl, inr}
use Rattle.std.proofs.lemmas.Bool.{or_cases}
use Rattle.protocol.specs.declared.answer.Answer.{Answer}
use Rattle.protocol.specs.declared.command.Action.{Action}
use Rattle.protocol.specs.declared.command.BusCommand.{BusCommand}
use Rattle.protocol.specs.declared.command.Request.{Request}
use Rattle.protocol.specs.declared.line.Line.{Line}
use Rattle.protocol.specs.declared.lock.LockEntry.{LockEntry}
use Rattle.protocol.specs.declared.measures.Measures.{Measures}
use Rattle.protocol.specs.declared.state.State.{State}
use Rattle.protocol.specs.Acting.{words_left}
use Rattle.protocol.specs.Entries.{valid}
use Rattle.protocol.specs.Lines.{in_state}
use Rattle.protocol.specs.Places.{line_count}
use Rattle.memory.specs.Meaning.{Mem}
use Rattle.cluster.specs.Board.{Board, Outcome}
use Rattle.cluster.specs.declared.cluster.Processor.{Processor}
use Rattle.cluster.specs.Copies.{line_of, line_at}
use Rattle.cluster.specs.Doing.{is_unlock, state_left}
use Rattle.cluster.specs.Making.{resting}
use Rattle.cluster.specs.Settling.{takes_lock}
use Rattle.cluster.specs.Ways.{taken_way}
use Rattle.law.specs.Law.{exclusive}
use Rattle.law.proofs.Copied.{copy_valid, copy_block}
use Rattle.law.proofs.Hearing.{in_valid_state}
use Rattle.law.proofs.Invariant.{at_in, Coherent, Homed}
use Rattle.law.proofs.Cells.{hit, HitCell, Hit, keeps, owns, empties, sole}
use Rattle.law.proofs.Leaving.{Kind, left_em, left_i, kept}
use Rattle.law.proofs.Moving.{Moved}
use Rattle.law.proofs.Owning.{Only, only_cleared, only_exclusive}
use Rattle.law.proofs.Places.{FoundAt, found_at}
use Rattle.law.proofs.Placing.{placed_at, hit_moved}
use Rattle.law.proofs.Shapes.{found, action_of}
use Rattle.law.proofs.Doing.{taken_with, Done, made_state, made_line, made_named, unasked_supply, purging_is, same_words, stale_by, takes_locked}

module _ {m : Measures} (some_columns : 0 < m.columns) {board : Board} {q : Request}
    (fit : length board.lines ≡ line_count m) (homed : Homed m (at_in board.lines)) {truth : ℕ → List ℕ}
    (coherent : Coherent (at_in board.lines) board.memory.words truth)
    {o : Outcome Answer} (d : Done m board q o) where
  abbrev pub block : ℕ
  block = q.address / 4

  abbrev pub bus : Option BusCommand
  bus = d.effect.bus

  abbrev pub acting : Action
  acting = action_of m board q

  abbrev pub left : State
  left = made_state d

  abbrev pub own : Line
  own = made_line d

  -- in the own cache
  module _ (k : ℕ) (e : line_of m board.lines q.processor block ≡ Some k) where
    abbrev pub hit_at : ℕ → Line
    hit_at = placed_at m some_columns board.lines fit homed q.processor block d.known bus k own
        (made_named d)

    pub moved : Moved m (at_in board.lines) hit_at block k q.processor bus own
    moved = hit_moved m some_columns board.lines fit homed q.processor block d.known bus k own
        (made_named d) e

    at_place : FoundAt m board.lines q.processor block k
    at_place = found_at m some_columns board.lines fit homed q.processor block k d.known e

    found_is : found m board q ≡ (at_in board.lines k).state
    found_is = ap (λ p. (line_at board.lines p).state) e

    found_valid : valid (found m board q) ≡ true
    found_valid = ap valid found_is ∙ copy_valid block (at_in board.lines k) at_place.copied

    cell : HitCell acting d.effect (found m board q)
    cell = hit acting d.effect (found m board q) found_valid d.cell

    supply_is : d.supply ≡ record { words = (at_in board.lines k).words; from = None }
    supply_is = unasked_supply d cell.unasked
        ∙ ap (λ p. record { words = (line_at board.lines p).words; from = None }) e

    hit_left : left ≡ d.effect.from_memory
    hit_left = ap (λ s. state_left d.effect s.from) supply_is

    pub hit_words : d.supply.words ≡ truth block
    hit_words = ap (λ s. s.words) supply_is ∙ coherent.agree block k at_place.copied

    pub hit_untaken : taken_with m board q d.effect ≡ None
    hit_untaken = by_found (is_unlock acting) (valid (found m board q)) found_valid
      where
        by_found : (u v : Bool) → v ≡ true
            → cond (not u && not v)
            (Some (taken_way m board.lines q.processor block
            (get_or board.processors q.processor resting).turn)) None ≡ None
        by_found true v h = refl
        by_found false true h = refl
        by_found false false h = absurd (cc)

    sole_only : sole (found m board q) d.effect ≡ true → Only moved
    sole_only h = elim (or_cases _ _ h) [
      | inl x ↦
          only_exclusive moved coherent at_place.copied
          (ap exclusive (sym found_is) ∙ x)
      | inr c ↦ only_cleared moved c
    ]

    pub hit_lock_only : takes_lock q.command ≡ true → Only moved
    hit_lock_only h = sole_only (cell.locked_alone (takes_locked d h))

    pub hit_kind : Kind q.command q.address d.supply.words left moved coherent
    hit_kind = by_hit cell.kind
      where
        by_hit : Hit acting (found m board q) d.effect
            → Kind q.command q.address d.supply.words left moved coherent
        by_hit (keeps quiet same w dr) =
            kept quiet stays (same_words d w) (purging_is d false dr) (stale_by d w)
          where
            left_found : left ≡ (at_in board.lines k).state
            left_found = hit_left ∙ same ∙ found_is

            same_block : block ≡ (at_in board.lines k).block
            same_block = sym (copy_block block (at_in board.lines k) at_place.copied)

            kept_words : words_left q.command q.address d.supply.words ≡ (at_in board.lines k).words
            kept_words = same_words d w ∙ ap (λ s. s.words) supply_is

            stays : own ≡ at_in board.lines k
            stays =
                (λ i. in_state
                (record { state = left_found i; block = same_block i; words = kept_words i })
                (left_found i))
                ∙ in_valid_state (at_in board.lines k) (at_in board.lines k).state
                (copy_valid block (at_in board.lines k) at_place.copied)
        by_hit (owns s em dr) = left_em (sole_only s) (hit_left ∙ em) (purging_is d false dr)
        by_hit (empties s i dr) = left_i (sole_only s) (hit_left ∙ i) (purging_is d true dr)
