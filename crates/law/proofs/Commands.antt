-- What every command leaves: coherent lines, the ledger's words, the holder's copies.
use Rattle.std.proofs.Common.{◌≡◌, ℕ, ◌%◌, ◌<◌, Bool, true, false, cond, not, ◌&&◌, List, length, get_or, is_some, IfSome, Some, None, Ok, Option, sym, refl, ap, ◌∙◌, subst, inl, inr, length-set}
use Rattle.std.proofs.lemmas.Bool.Decides.{eqb_tells}
use Rattle.protocol.specs.declared.answer.Answer.{Answer}
use Rattle.protocol.specs.declared.command.Action.{Action}
use Rattle.protocol.specs.declared.command.BusCommand.{BusCommand}
use Rattle.protocol.specs.declared.command.Command.{Command}
use Rattle.protocol.specs.declared.command.Command.TheVariants.{U}
use Rattle.protocol.specs.declared.command.Request.{Request}
use Rattle.protocol.specs.declared.line.Line.{Line}
use Rattle.protocol.specs.declared.lock.LockEntry.{LockEntry}
use Rattle.protocol.specs.declared.measures.Measures.{Measures}
use Rattle.protocol.specs.Acting.{word_answered}
use Rattle.protocol.specs.Entries.{valid}
use Rattle.protocol.specs.Places.{line_count}
use Rattle.protocol.specs.StateTable.{cell_of}
use Rattle.memory.specs.Meaning.{Mem}
use Rattle.cluster.specs.Board.{Board, Outcome}
use Rattle.cluster.specs.declared.cluster.Processor.{Processor}
use Rattle.cluster.specs.declared.ways.Taken.{Taken}
use Rattle.cluster.specs.Cases.{own_place}
use Rattle.cluster.specs.Copies.{line_of, line_at, supplier_of}
use Rattle.cluster.specs.Doing.{is_unlock, victim_of, swapped_out, memory_after}
use Rattle.cluster.specs.Finishing.{placed, bus_seen}
use Rattle.cluster.specs.Making.{resting}
use Rattle.cluster.specs.Refusing.{entry_used}
use Rattle.cluster.specs.Settling.{takes_lock, ul_sent}
use Rattle.cluster.specs.Ways.{taken_way}
use Rattle.law.specs.Law.{OnDone, owner, reads}
use Rattle.law.specs.Ledger.{Ledger, block_of, command_fed, done_by}
use Rattle.law.proofs.Cells.{acts_reads, acts_unlock, unlock_quiet}
use Rattle.law.proofs.Copied.{words_four}
use Rattle.law.proofs.Doing.{Done, taken_with}
use Rattle.law.proofs.Hits as hits
use Rattle.law.proofs.Holds.{Lock, older, newer, lock_after}
use Rattle.law.proofs.Invariant.{at_in, copy, Coherent, Homed, HolderAlone}
use Rattle.law.proofs.Leaving.{Truth, by_kind}
use Rattle.law.proofs.Misses as misses
use Rattle.law.proofs.Moving.{Moved, before, same_after, homed_after}
use Rattle.law.proofs.Owning.{Only}
use Rattle.law.proofs.Placing.{length_seen}
use Rattle.law.proofs.Replacing.{homed_replaced, holder_replaced, swapped, given_back, given_four}
use Rattle.law.proofs.Shapes.{found, action_of}
use Rattle.law.proofs.Words.{answered_is, done_words, fresh, tied_same}

-- what is kept of lines and words, beside locks and waits
pub record Settled (m : Measures) (lines : List Line) (mem : ℕ → List ℕ) (l : Ledger) : Type 0 where
  pub fit : length lines ≡ line_count m
  pub homed : Homed m (at_in lines)
  pub truth : Truth (at_in lines) mem l
  pub holder : HolderAlone m (at_in lines) l
  pub four : (block : ℕ) → length (mem block) ≡ 4

-- only the holder has copies, after a done command too
module _ {m : Measures} {at after : ℕ → Line} {block k asking : ℕ} {bus : Option BusCommand} {own : Line}
    (moved : Moved m at after block k asking bus own) where
  holder_after : (l : Ledger) → HolderAlone m at l
      → ((p a : ℕ) → l.holds p a ≡ true → block_of a ≡ block → p ≡ asking)
      → (c : Command) (a0 : ℕ) (b : Bool) → block_of a0 ≡ block → (takes_lock c ≡ true → Only moved)
      → HolderAlone m after (done_by asking a0 b c l)
  holder_after l alone mine c a0 b at_block only p a i h ci = by_lock (lock_after c asking a0 b l p a h)
    where
      by_lock : Lock c asking a0 l p a → owner m i ≡ p
      by_lock (newer t p_is a_is) =
          let of_block : block_of a ≡ block = ap block_of a_is ∙ at_block in
          ap (owner m) (only t i (subst (λ x. copy after x i) of_block ci)) ∙ moved.owned ∙ sym p_is
      by_lock (older was) = elim (eqb_tells (block_of a) block) [
        | inl same ↦ elim (eqb_tells i k) [
          | inl here ↦ ap (owner m) here.1 ∙ moved.owned ∙ sym (mine p a was same.1)
          | inr far ↦ alone p a i was (before moved (block_of a) i far.1 ci)
        ]
        | inr else ↦ alone p a i was (same_after moved (block_of a) i else.1 ci).0
      ]

module _ {m : Measures} (some_columns : 0 < m.columns) (some_ways : 0 < m.ways) {board : Board}
    {q : Request} {l : Ledger} (was : Settled m board.lines board.memory.words l) {o : Outcome Answer}
    (d : Done m board q o)
    (mine : (p a : ℕ) → l.holds p a ≡ true → block_of a ≡ block_of q.address → p ≡ q.processor) where
  abbrev block : ℕ
  block = block_of q.address

  abbrev truth : ℕ → List ℕ
  truth = was.truth.words

  abbrev coherent : Coherent (at_in board.lines) board.memory.words truth
  coherent = was.truth.coherent

  abbrev after_ledger : Bool → Ledger
  after_ledger ul = done_by q.processor q.address ul q.command l

  -- a victim's words are four too
  victim_four : (k b : ℕ) → length (given_back (at_in board.lines) k board.memory.words b) ≡ 4
  victim_four k =
      given_four (at_in board.lines) k board.memory.words
      (words_four (at_in board.lines) board.memory.words truth coherent was.truth.tied.four k) was.four

  abbrev ul : Bool
  ul = ul_sent q.command board.locks (entry_used m board.locks q)

  abbrev acting : Action
  acting = action_of m board q

  abbrev own : Line
  own = hits.own some_columns was.fit was.homed coherent d

  abbrev left_lines : Option ℕ → Option Taken → List Line
  left_lines place taken =
      placed (own_place place taken) own (bus_seen m d.effect.bus q.processor block board.lines)

  abbrev left_words : Option Taken → ℕ → List ℕ
  left_words taken = (memory_after board.memory (victim_of board.lines taken)).words

  abbrev SettledAfter : Option ℕ → Option Taken → Type 0
  SettledAfter place taken = Settled m (left_lines place taken) (left_words taken) (after_ledger ul)

  after_hit : (k : ℕ) → line_of m board.lines q.processor block ≡ Some k → SettledAfter (Some k) None
  after_hit k e =
      let at = hits.hit_at some_columns was.fit was.homed coherent d k e in
      let moved = hits.moved some_columns was.fit was.homed coherent d k e in
      record {
        fit = length-set _ k own ∙ length_seen m some_columns board.lines was.fit was.homed q.processor
            block d.known d.effect.bus ∙ was.fit;
        homed = homed_after moved was.homed;
        truth =
            by_kind q.command q.address d.supply.words _ moved coherent l was.truth.tied ul
            (λ h. hits.hit_words some_columns was.fit was.homed coherent d k e) (was.four block)
            (hits.hit_kind some_columns was.fit was.homed coherent d k e);
        holder =
            holder_after moved l was.holder mine q.command q.address ul refl
            (hits.hit_lock_only some_columns was.fit was.homed coherent d k e);
        four = was.four;
      }

  -- a way was taken
  after_miss : (e : line_of m board.lines q.processor block ≡ None) (u : is_unlock acting ≡ false)
      → SettledAfter None (Some (misses.way some_columns some_ways was.fit was.homed coherent d e u))
  after_miss e u =
      let k = misses.k some_columns some_ways was.fit was.homed coherent d e u in
      let base = misses.base some_columns some_ways was.fit was.homed coherent d e u in
      let at = misses.miss_at some_columns some_ways was.fit was.homed coherent d e u in
      let moved = misses.moved some_columns some_ways was.fit was.homed coherent d e u in
      let taken = misses.miss_taken some_columns some_ways was.fit was.homed coherent d e u in
      let back = misses.base_words some_columns some_ways was.fit was.homed coherent d e u in
      let base_coherent = misses.base_coherent some_columns some_ways was.fit was.homed coherent d e u in
      let granted =
      subst (λ t. swapped_out board.memory (victim_of board.lines t) ≡ Ok d.swapped) taken d.granted in
      subst (λ w. Settled m
      (left_lines None (Some (misses.way some_columns some_ways was.fit was.homed coherent d e u))) w
      (after_ledger ul))
      (sym (swapped board.memory board.lines
      (misses.way some_columns some_ways was.fit was.homed coherent d e u) d.swapped granted))
      (record {
        fit = length-set _ k own ∙ length_seen m some_columns board.lines was.fit was.homed q.processor
            block d.known d.effect.bus ∙ was.fit;
        homed = homed_after moved (homed_replaced (at_in board.lines) k m was.homed);
        truth =
            by_kind q.command q.address d.supply.words _ moved base_coherent l was.truth.tied ul
            (misses.miss_words some_columns some_ways was.fit was.homed coherent d e u)
            (victim_four k block)
            (misses.miss_kind some_columns some_ways was.fit was.homed coherent d e u);
        holder =
            holder_after moved l (holder_replaced (at_in board.lines) k m l was.holder) mine q.command
            q.address ul refl
            (misses.miss_lock_only some_columns some_ways was.fit was.homed coherent d e u);
        four = victim_four k;
      })

  -- a U that finds I takes none, and changes no line
  after_unlock : line_of m board.lines q.processor block ≡ None → is_unlock acting ≡ true
      → SettledAfter None None
  after_unlock e u =
      let quiet : d.effect.bus ≡ None =
      unlock_quiet acting d.effect u
      (ap (λ p. cell_of acting (line_at board.lines p).state) (sym e) ∙ d.cell) in
      let is_u = acts_unlock q.address (found m board q)
      (is_some (supplier_of m board.lines q.processor block)) q.command u in
      subst (λ b. Settled m (bus_seen m b q.processor block board.lines) board.memory.words
      (after_ledger ul)) (sym quiet)
      (subst (λ c. Settled m board.lines board.memory.words (done_by q.processor q.address ul c l))
      (sym is_u)
      (record {
        fit = was.fit;
        homed = was.homed;
        truth = record {
          words = truth;
          coherent = coherent;
          tied = tied_same truth l (done_by q.processor q.address ul U l) was.truth.tied
              (done_words U q.processor q.address ul l);
        };
        holder = λ p a i h ci. by_lock p a i ci (lock_after U q.processor q.address ul l p a h);
        four = was.four;
      }))
    where
      by_lock : (p a i : ℕ) → copy (at_in board.lines) (block_of a) i → Lock U q.processor q.address l p a
          → owner m i ≡ p
      by_lock p a i ci (older h) = was.holder p a i h ci
      by_lock p a i ci (newer t p_is a_is) = absurd (cc)

  untaken : is_unlock acting ≡ true → taken_with m board q d.effect ≡ None
  untaken u =
      let way = taken_way m board.lines q.processor block
      (get_or board.processors q.processor resting).turn in
      ap (λ b. cond (not b && not (valid (found m board q))) (Some way) None) u

  after_done : SettledAfter (line_of m board.lines q.processor block) (taken_with m board q d.effect)
  after_done = by_place (line_of m board.lines q.processor block) refl
    where
      by_unlock : (e : line_of m board.lines q.processor block ≡ None) (u : Bool) → is_unlock acting ≡ u
          → SettledAfter None (taken_with m board q d.effect)
      by_unlock e true u = subst (λ t. SettledAfter None t) (sym (untaken u)) (after_unlock e u)
      by_unlock e false u =
          subst (λ t. SettledAfter None t)
          (sym (misses.miss_taken some_columns some_ways was.fit was.homed coherent d e u))
          (after_miss e u)

      by_place : (r : Option ℕ) → line_of m board.lines q.processor block ≡ r
          → SettledAfter (line_of m board.lines q.processor block) (taken_with m board q d.effect)
      by_place (Some k) e =
          subst (λ r. SettledAfter r (taken_with m board q d.effect)) (sym e)
          (subst (λ t. SettledAfter (Some k) t)
          (sym (hits.hit_untaken some_columns was.fit was.homed coherent d k e)) (after_hit k e))
      by_place None e =
          subst (λ r. SettledAfter r (taken_with m board q d.effect)) (sym e)
          (by_unlock e (is_unlock acting) refl)

  pub settled_done : Settled m o.board.lines o.board.memory.words (command_fed q o.answer l)
  settled_done =
      subst (λ x. Settled m x.board.lines x.board.memory.words (command_fed q x.answer l)) (sym d.is)
      after_done

  -- what a reading command answers
  words_read : reads q.command ≡ true → d.supply.words ≡ truth block
  words_read r = by_place (line_of m board.lines q.processor block) refl
    where
      plain : (is_unlock acting ≡ false) × (fresh q.command q.address ≡ false)
      plain = acts_reads q.address (found m board q)
          (is_some (supplier_of m board.lines q.processor block)) q.command r

      by_place : (k : Option ℕ) → line_of m board.lines q.processor block ≡ k
          → d.supply.words ≡ truth block
      by_place (Some k) e = hits.hit_words some_columns was.fit was.homed coherent d k e
      by_place None e =
          misses.miss_words some_columns some_ways was.fit was.homed coherent d e plain.0 plain.1

  pub reads_done : reads q.command ≡ true
      → OnDone o.answer (λ done. IfSome (l.words q.address) (λ word. done.word ≡ word))
  reads_done r =
      subst (λ x. OnDone x.answer (λ done. IfSome (l.words q.address) (λ word. done.word ≡ word)))
      (sym d.is) (by_word (l.words q.address) refl)
    where
      by_word : (w : Option ℕ) → l.words q.address ≡ w
          → IfSome w (λ word. word_answered q.command q.address d.supply.words ≡ word)
      by_word None e = tt
      by_word (Some word) e =
          answered_is q.command q.address d.supply.words r
          ∙ ap (λ ws. get_or ws (q.address % 4) 0) (words_read r)
          ∙ was.truth.tied.words q.address word e
