-- A done command whose own cache does not have the block.
use Rattle.std.proofs.Common.{◌≡◌, ℕ, ◌/◌, ◌<◌, Bool, true, false, cond, not, ◌&&◌, ◌⊎◌, List, length, get_or, is_some, Some, None, Ok, Err, Option, Result, sym, refl, ap, ◌∙◌, subst, inl, inr}
use Rattle.std.proofs.lemmas.Bool.{false≢true, or_parts}
use Rattle.protocol.specs.declared.answer.Answer.{Answer}
use Rattle.protocol.specs.declared.answer.Supplier.TheVariants.{Memory, Cache}
use Rattle.protocol.specs.declared.command.Action.{Action}
use Rattle.protocol.specs.declared.command.BusCommand.{BusCommand}
use Rattle.protocol.specs.declared.command.BusCommand.TheVariants.{F, FI}
use Rattle.protocol.specs.declared.command.Request.{Request}
use Rattle.protocol.specs.declared.line.Line.{Line}
use Rattle.protocol.specs.declared.lock.LockEntry.{LockEntry}
use Rattle.protocol.specs.declared.measures.Measures.{Measures}
use Rattle.protocol.specs.declared.refusal.Refusal.{Refusal}
use Rattle.protocol.specs.declared.refusal.Direction.TheVariants.{Read}
use Rattle.protocol.specs.declared.refusal.Refusal.TheVariants.{Memory as RefusedByMemory}
use Rattle.protocol.specs.declared.state.State.{State}
use Rattle.protocol.specs.declared.state.State.TheVariants.{I, S, EC, EM}
use Rattle.protocol.specs.Entries.{valid}
use Rattle.protocol.specs.Places.{line_count}
use Rattle.protocol.specs.StateTable.{cell_of}
use Rattle.memory.specs.Meaning.{Mem, grants}
use Rattle.cluster.specs.Board.{Board, Outcome}
use Rattle.cluster.specs.declared.cluster.Processor.{Processor}
use Rattle.cluster.specs.declared.supply.Supply.{Supply}
use Rattle.cluster.specs.declared.ways.Taken.{Taken}
use Rattle.cluster.specs.Copies.{holds_block, line_of, line_at, supplier_of}
use Rattle.cluster.specs.Doing.{asks_for_block, is_unlock, supplied_by, state_left}
use Rattle.cluster.specs.Making.{resting}
use Rattle.cluster.specs.Refusing.{is_direct_write}
use Rattle.cluster.specs.Settling.{takes_lock}
use Rattle.cluster.specs.Ways.{taken_way}
use Rattle.law.proofs.Hearing.{clears}
use Rattle.law.proofs.Invariant.{at_in, copy, Coherent, Homed}
use Rattle.law.proofs.Cells.{miss, MissCell, Miss, reads_shared, takes, purges, makes, writes, drops}
use Rattle.law.proofs.Leaving.{Kind, left_em, left_ec, left_i, left_s}
use Rattle.law.proofs.Moving.{Moved}
use Rattle.law.proofs.Owning.{Only, only_cleared, only_copy}
use Rattle.law.proofs.Places.{found_at, found_none, supplier_some, supplier_none}
use Rattle.law.proofs.Placing.{placed_at, miss_moved}
use Rattle.law.proofs.Replacing.{without, without_here, without_fewer, copy_fewer, given_back, replaced}
use Rattle.law.proofs.Shapes.{found, action_of}
use Rattle.law.proofs.Taking.{way_home}
use Rattle.law.proofs.Words.{fresh}
use Rattle.law.proofs.Doing.{taken_with, Done, ok_same, made_state, made_line, made_named, unasked_supply, asked_supply, fresh_made, purging_is, same_words, stale_by, takes_locked}

module _ {m : Measures} (some_columns : 0 < m.columns) (some_ways : 0 < m.ways) {board : Board}
    {q : Request} (fit : length board.lines ≡ line_count m) (homed : Homed m (at_in board.lines))
    {truth : ℕ → List ℕ} (coherent : Coherent (at_in board.lines) board.memory.words truth)
    {o : Outcome Answer} (d : Done m board q o)
    (e : line_of m board.lines q.processor (q.address / 4) ≡ None) where
  abbrev block : ℕ
  block = q.address / 4

  abbrev bus : Option BusCommand
  bus = d.effect.bus

  abbrev acting : Action
  acting = action_of m board q

  abbrev pub left : State
  left = made_state d

  abbrev pub own : Line
  own = made_line d

  found_is : found m board q ≡ I
  found_is = ap (λ p. (line_at board.lines p).state) e

  cell_is : cell_of acting I ≡ Some d.effect
  cell_is = ap (cell_of acting) (sym found_is) ∙ d.cell

  -- no cache has the block
  none_there : supplier_of m board.lines q.processor block ≡ None → (i : ℕ)
      → copy (at_in board.lines) block i → ⊥
  none_there s i c =
      found_none m some_columns board.lines fit homed q.processor block d.known e i c
      (supplier_none m some_columns board.lines fit homed q.processor block s i c)

  -- where the words come from
  data Supplied : Type 0 where
    by_cache : left ≡ d.effect.from_cache → d.supply.words ≡ truth block → Supplied
    by_memory : left ≡ d.effect.from_memory → d.supply.words ≡ truth block
        → ((i : ℕ) → copy (at_in board.lines) block i → ⊥) → Supplied

  supplied_so : asks_for_block bus ≡ true → Supplied
  supplied_so asks = by_copy (supplier_of m board.lines q.processor block) refl (asked_supply d asks)
    where
      by_memory_if : supplier_of m board.lines q.processor block ≡ None → (b : Bool)
          → ◌≡◌ {A = Result Supply Refusal}
          (cond b (Ok (record { words = board.memory.words block; from = Some Memory }))
          (Err (RefusedByMemory block Read))) (Ok d.supply)
          → Supplied
      by_memory_if s true h =
          let is = ok_same (record { words = board.memory.words block; from = Some Memory }) d.supply h in
          by_memory (ap (λ x. state_left d.effect x.from) (sym is))
          (ap (λ x. x.words) (sym is) ∙ coherent.clean block (λ i c. absurd (none_there s i c)))
          (none_there s)
      by_memory_if s false h = absurd (cc)

      by_copy : (r : Option ℕ) → supplier_of m board.lines q.processor block ≡ r
          → supplied_by m board.lines board.memory block r ≡ Ok d.supply → Supplied
      by_copy (Some r) s h =
          let is = ok_same
          (record {
            words =
                (line_at board.lines (line_of m board.lines r block)).words;
            from = Some (Cache r);
          }) d.supply h
          in
          let there = supplier_some m some_columns board.lines fit homed q.processor block r s in
          let at_place =
          found_at m some_columns board.lines fit homed r block there.place there.listed there.found in
          by_cache (ap (λ x. state_left d.effect x.from) (sym is))
          (ap (λ x. x.words) (sym is) ∙ ap (λ p. (line_at board.lines p).words) there.found
          ∙ coherent.agree block there.place at_place.copied)
      by_copy None s h = by_memory_if s (grants board.memory block) h

  -- a command that takes a way
  module _ (takes_one : is_unlock acting ≡ false) where
    abbrev pub way : Taken
    way = taken_way m board.lines q.processor block (get_or board.processors q.processor resting).turn

    abbrev pub k : ℕ
    k = way.place

    pub miss_taken : taken_with m board q d.effect ≡ Some way
    miss_taken = by_found (is_unlock acting) (valid (found m board q)) takes_one (ap valid found_is)
      where
        by_found : (u v : Bool) → u ≡ false → v ≡ false → cond (not u && not v) (Some way) None ≡ Some way
        by_found true v g h = absurd (cc)
        by_found false true g h = absurd (cc)
        by_found false false g h = refl

    abbrev pub base : ℕ → Line
    base = without (at_in board.lines) k

    abbrev pub miss_at : ℕ → Line
    miss_at = placed_at m some_columns board.lines fit homed q.processor block d.known bus k own
        (made_named d)

    pub moved : Moved m base miss_at block k q.processor bus own
    moved =
        miss_moved m some_columns board.lines fit homed q.processor block d.known bus k own (made_named d)
        (way_home m some_columns some_ways board.lines fit q.processor block
        (get_or board.processors q.processor resting).turn d.known) e

    cell : MissCell acting d.effect
    cell = miss acting d.effect takes_one cell_is

    abbrev pub base_words : ℕ → List ℕ
    base_words = given_back (at_in board.lines) k board.memory.words

    pub base_coherent : Coherent base base_words truth
    base_coherent = replaced (at_in board.lines) k board.memory.words truth coherent

    base_copy : (i : ℕ) → copy base block i → copy (at_in board.lines) block i
    base_copy i c = copy_fewer (at_in board.lines) base (without_fewer (at_in board.lines) k) block i c

    abbrev Alone : Type 0
    Alone = Only moved

    alone_none : ((i : ℕ) → copy (at_in board.lines) block i → ⊥) → Alone
    alone_none none = only_copy moved (λ i c. absurd (none i (base_copy i c)))

    alone_fi : bus ≡ Some FI → Alone
    alone_fi b = only_cleared moved (ap clears b)

    pub miss_lock_only : takes_lock q.command ≡ true → Alone
    miss_lock_only h = alone_fi (cell.locked_taking (takes_locked d h))

    back : ((i : ℕ) → copy (at_in board.lines) block i → ⊥) → base_words block ≡ truth block
    back none = base_coherent.clean block (λ i c. absurd (none i (base_copy i c)))

    miss_here : copy base block k → ⊥
    miss_here c = false≢true (sym (ap (holds_block block) (without_here (at_in board.lines) k)) ∙ c)

    abbrev MissKind : Type 0
    MissKind = Kind q.command q.address d.supply.words left moved base_coherent

    words_by : Supplied → d.supply.words ≡ truth block
    words_by (by_cache l w) = w
    words_by (by_memory l w none) = w

    -- what is left, and the words that it has it from
    record Left : Type 0 where
      kind : MissKind
      words : fresh q.command q.address ≡ false → d.supply.words ≡ truth block

    unasked_memory : bus ≡ None → left ≡ d.effect.from_memory
    unasked_memory b = ap (λ x. state_left d.effect x.from) (unasked_supply d (ap asks_for_block b))

    -- a DW of a block that another cache has was refused
    made_alone : is_direct_write acting ≡ true → (i : ℕ) → copy (at_in board.lines) block i → ⊥
    made_alone h =
        let nowhere =
        by_bools (is_direct_write acting) (valid (found m board q)) _ h (ap valid found_is) d.alone in
        none_there (by_some (supplier_of m board.lines q.processor block) (or_parts _ _ nowhere).0)
      where
        by_bools : (w v r : Bool) → w ≡ true → v ≡ false → (w && not v && r) ≡ false → r ≡ false
        by_bools true false r f g x = x
        by_bools true true r f g x = absurd (cc)
        by_bools false v r f g x = absurd (cc)

        by_some : (r : Option ℕ) → is_some r ≡ false → r ≡ None
        by_some None x = refl
        by_some (Some r) x = absurd (cc)

    miss_left : Left
    miss_left = by_miss cell.kind
      where
        by_reads : bus ≡ Some F → d.effect.from_cache ≡ S → d.effect.from_memory ≡ EC
            → writes acting ≡ false → drops acting ≡ false → Supplied → MissKind
        by_reads f s ec w dr (by_cache l ws) =
            left_s f (l ∙ s) (same_words d w) (purging_is d false dr) (stale_by d w)
            (λ i c same. miss_here (subst (λ x. copy base block x) same c))
        by_reads f s ec w dr (by_memory l ws none) =
            left_ec (alone_none none) (l ∙ ec) (same_words d w) (purging_is d false dr) (stale_by d w)
            (back none)

        by_takes : bus ≡ Some FI → d.effect.from_cache ≡ EM
            → (d.effect.from_memory ≡ EM) ⊎ ((d.effect.from_memory ≡ EC) × (writes acting ≡ false))
            → drops acting ≡ false → Supplied → MissKind
        by_takes f em which dr (by_cache l ws) = left_em (alone_fi f) (l ∙ em) (purging_is d false dr)
        by_takes f em (inl same) dr (by_memory l ws none) =
            left_em (alone_fi f) (l ∙ same) (purging_is d false dr)
        by_takes f em (inr ec) dr (by_memory l ws none) =
            left_ec (alone_fi f) (l ∙ ec.0) (same_words d ec.1) (purging_is d false dr) (stale_by d ec.1)
            (back none)

        by_purges : bus ≡ Some FI → d.effect.from_cache ≡ I → d.effect.from_memory ≡ I
            → drops acting ≡ true → Supplied → MissKind
        by_purges f c i dr (by_cache l ws) = left_i (alone_fi f) (l ∙ c) (purging_is d true dr)
        by_purges f c i dr (by_memory l ws none) = left_i (alone_fi f) (l ∙ i) (purging_is d true dr)

        by_miss : Miss acting d.effect → Left
        by_miss (reads_shared f s ec w dr) =
            let given = supplied_so (ap asks_for_block f) in
            record { kind = by_reads f s ec w dr given; words = λ h. words_by given }
        by_miss (takes f em which dr) =
            let given = supplied_so (ap asks_for_block f) in
            record { kind = by_takes f em which dr given; words = λ h. words_by given }
        by_miss (purges f c i dr) =
            let given = supplied_so (ap asks_for_block f) in
            record { kind = by_purges f c i dr given; words = λ h. words_by given }
        by_miss (makes n w em dr) = record {
          kind = left_em (alone_none (made_alone w)) (unasked_memory n ∙ em) (purging_is d false dr);
          words = λ h. absurd (false≢true (sym h ∙ fresh_made d ∙ w));
        }

    pub miss_kind : MissKind
    miss_kind = miss_left.kind

    pub miss_words : fresh q.command q.address ≡ false → d.supply.words ≡ truth block
    miss_words = miss_left.words
