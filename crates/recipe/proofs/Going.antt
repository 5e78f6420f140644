-- What is kept between the records of a recipe's run, so that each is done.
use Prim.{Unit, tt}
use Rattle.std.proofs.Common.{◌≡◌, ℕ, zero, suc, ◌+◌, ◌*◌, ◌/◌, ◌%◌, ◌<◌, ◌≤◌, Bool, true, false, cond, not, ◌&&◌, eqb, ltb, leb, List, [], ◌∷◌, ◌++◌, length, get_or, is_some, Some, None, Option, Ok, Err, Result, sym, refl, ap, ◌∙◌, subst, mul-le-mul_right, suc-mul, arith}
use Rattle.std.proofs.Math.Nat.{mod-lt}
use Rattle.std.proofs.lemmas.Bool.{false≢true, and_parts, eqb-true, eq-eqb, false_from_ne_true}
use Rattle.std.proofs.lemmas.Bool.Decides.{nat_tests}
use Rattle.protocol.specs.declared.answer.Answer.{Answer}
use Rattle.protocol.specs.declared.answer.Answer.TheVariants.{Done, Wait}
use Rattle.protocol.specs.declared.command.Action.TheVariants as action
use Rattle.protocol.specs.declared.command.Command.{Command}
use Rattle.protocol.specs.declared.command.Command.TheVariants.{R, W, DW, RI, RP, RB, LR, UW, U}
use Rattle.protocol.specs.declared.command.Request.{Request}
use Rattle.protocol.specs.declared.line.Line.{Line}
use Rattle.protocol.specs.declared.measures.Measures.{Measures}
use Rattle.protocol.specs.declared.refusal.Refusal.{Refusal}
use Rattle.protocol.specs.declared.state.State.{State}
use Rattle.protocol.specs.declared.state.State.TheVariants.{I, S, SM, EC, EM}
use Rattle.protocol.specs.Entries.{valid}
use Rattle.protocol.specs.Finding.{unused}
use Rattle.protocol.specs.Lines.{blank_line, no_line}
use Rattle.protocol.specs.Places.{line_count, lock_count, locks_start}
use Rattle.protocol.specs.StateTable.{cell_of}
use Rattle.memory.specs.Meaning.{Mem, Lawful, grants}
use Rattle.cluster.specs.Board.{Board, Outcome, new_board}
use Rattle.cluster.specs.Copies.{line_of, line_at}
use Rattle.cluster.specs.Locks.{in_use, held_entry, free_entry, holder_of}
use Rattle.cluster.specs.Making.{resting, blank_entry, tables_fit}
use Rattle.cluster.specs.Refusing.{is_direct_write}
use Rattle.cluster.specs.Rule.{command_rule}
use Rattle.cluster.specs.Settling.{takes_lock, releases_lock}
use Rattle.trace.specs.declared.record.Record.{Record}
use Rattle.upkeep.proofs.Counts.{has_columns}
use Rattle.law.specs.Calls.{command}
use Rattle.law.specs.Law.{locks_in}
use Rattle.law.specs.Ledger.{Ledger, opened, command_fed, done_by}
use Rattle.law.proofs.Doing.{done}
use Rattle.law.proofs.Entries.{entry_found}
use Rattle.law.proofs.Invariant.{at_in}
use Rattle.law.proofs.Lawful.{Whole, next, new_settled}
use Rattle.law.proofs.LockLaw.{address_in, held_is, entry_holds, holder_is}
use Rattle.law.proofs.LocksOn.{new_locks_hold}
use Rattle.law.proofs.Lowest.{the_some, no_other}
use Rattle.law.proofs.Shapes.{Shape, refused, waited, finished, shape, found, action_of}
use Rattle.law.proofs.Windows.{seen-replicate}
use Rattle.recipe.specs.Draws.{drawn, kind_of, record_for, records_for, records_drawn}
use Rattle.recipe.specs.Runs.{is_done, AllDone, RunsThrough}
use Rattle.recipe.proofs.Granted.{Granted, granted_done}
use Rattle.recipe.proofs.Low.{Low, low_left, SameBlocks, blocks_kept}
use Rattle.recipe.proofs.Owned.{tame, tame_cell, tame_left}
use Rattle.recipe.proofs.Straight.{Awake, Goes, all_done}

-- the one lock that is held
pub record Held : Type 0 where
  pub processor : ℕ
  pub address : ℕ

abbrev pub held_in : Option Held → ℕ → ℕ → Bool
held_in None p a = false
held_in (Some k) p a = eqb p k.processor && eqb a k.address

-- what may follow: a read, a write or LR where no lock is held, and else the UW of that lock
abbrev pub Then : Option Held → ℕ → ℕ → Command → (Option Held → Type 0) → Type 0
Then None p a R rest = rest None
Then None p a (W word) rest = rest None
Then None p a LR rest = rest (Some (record { processor = p; address = a }))
Then None p a c rest = ⊥
Then (Some k) p a (UW word) rest = (p ≡ k.processor) × (a ≡ k.address) × rest None
Then (Some k) p a c rest = ⊥

module _ (words processors : ℕ) where
  pub record Inside (q : Request) : Type 0 where
    pub known : q.processor < processors
    pub below : q.address < words

  abbrev pub Suits : Option Held → List Record → Type 0
  Suits o [] = Unit {0}
  Suits o (r ∷ rs) =
      Inside r.request
      × Then o r.request.processor r.request.address r.request.command (λ next. Suits next rs)

  module _ (some_words : 1 ≤ words) (some_processors : 1 ≤ processors) where
    inside : (number y : ℕ) (c : Command) → Inside (record_for words processors number y c).request
    inside number y c = record {
      known = mod-lt (y / 16777216 % 32) (omega (arith, some_processors));
      below = mod-lt (y % 16777216) (omega (arith, some_words));
    }

    suits_for : (number y : ℕ) (rest : List Record) → Suits None rest
        → Suits None (records_for words processors number y ++ rest)
    unfolding records_for
    suits_for number y rest h = by_kind (leb (kind_of y) 4) (leb (kind_of y) 6)
      where
        by_kind : (r w : Bool) → Suits None
            (cond r (record_for words processors number y R ∷ [])
            (cond w (record_for words processors number y (W number) ∷ [])
            (record_for words processors number y LR
            ∷ (record_for words processors number y (UW number) ∷ []))) ++ rest)
        by_kind true w = (inside number y R, h)
        by_kind false true = (inside number y (W number), h)
        by_kind false false = (inside number y LR, (inside number y (UW number), (refl, refl, h)))

    pub suits : (draws number x : ℕ) → Suits None (records_drawn words processors draws number x)
    unfolding records_drawn
    suits zero number x = tt
    suits (suc draws) number x =
        suits_for number (drawn x) (records_drawn words processors draws (number + 1) (drawn x))
        (suits draws (number + 1) (drawn x))

-- every state has a cell of R, W and LR
has_r : (s : State) → is_some (cell_of action.R s) ≡ true
has_r I = refl
has_r S = refl
has_r SM = refl
has_r EC = refl
has_r EM = refl

has_w : (s : State) → is_some (cell_of action.W s) ≡ true
has_w I = refl
has_w S = refl
has_w SM = refl
has_w EC = refl
has_w EM = refl

has_lr : (s : State) → is_some (cell_of action.LR s) ≡ true
has_lr I = refl
has_lr S = refl
has_lr SM = refl
has_lr EC = refl
has_lr EM = refl

-- what a done command tells the ledger
fed_done : (q : Request) (r : Result Answer Refusal) (l : Ledger) → is_done r ≡ true
    → (P : Ledger → Type 0) → ((ul : Bool) → P (done_by q.processor q.address ul q.command l))
    → P (command_fed q r l)
fed_done q (Ok (Done d)) l h P f = f d.ul
fed_done q (Ok (Wait hit)) l h P f = absurd (false≢true h)
fed_done q (Err refusal) l h P f = absurd (false≢true h)

taken_if : (b : Bool) → cond b true false ≡ b
taken_if true = refl
taken_if false = refl

none_if : (b : Bool) → cond b false b ≡ false
none_if true = refl
none_if false = refl

module _ (m : Measures) (some_columns : 0 < m.columns) (some_ways : 0 < m.ways) (few : m.processors ≤ 8)
    (some_entries : 1 ≤ m.lock_entries) (words : ℕ) (mem : Mem) (enough : words ≤ 4 * mem.count)
    (live : (block : ℕ) → block < mem.count → mem.live block ≡ true) where
  abbrev Owned : Option Held → Board → Type 0
  Owned None b = Unit {0}
  Owned (Some k) b =
      tame (line_at b.lines (line_of m b.lines k.processor (k.address / 4))).state ≡ true

  record Kept (o : Option Held) (b : Board) : Type 0 where
    ledger : Ledger
    whole : Whole m b ledger
    holds : (p a : ℕ) → ledger.holds p a ≡ held_in o p a
    waits : (p : ℕ) → ledger.waits p ≡ None
    blocks : SameBlocks mem b.memory
    low : Low mem.count b.lines
    owned : Owned o b

  start : Lawful mem → Kept None (new_board m mem)
  start lawful = record {
    ledger = opened mem;
    whole = record { settled = new_settled m mem lawful; locks = new_locks_hold m mem };
    holds = λ p a. refl;
    waits = λ p. refl;
    blocks = record { count = refl; live = refl };
    low = λ i v. absurd (false≢true
        (sym (seen-replicate (λ (line : Line). valid line.state) (line_count m) i blank_line no_line refl)
        ∙ v));
    owned = tt;
  }

  module _ (o : Option Held) (b : Board) (s : Kept o b) where
    awake : Awake m b
    awake p = s.whole.locks.kept.waits p ∙ s.waits p

    granted : (block : ℕ) → block < mem.count → grants b.memory block ≡ true
    granted block low =
        let below : ltb block mem.count ≡ true = grind (arith, nat_tests) in
        rw (s.blocks.count, s.blocks.live, below, live block low) refl

    fit : tables_fit m (length b.lines) (length b.locks) ≡ true
    fit =
        let lines : eqb (length b.lines) (line_count m) ≡ true = eq-eqb _ _ s.whole.settled.fit in
        let locks : eqb (length b.locks) (lock_count m) ≡ true = eq-eqb _ _ s.whole.locks.kept.fit in
        rw (lines, locks) refl

    module _ (p a : ℕ) (known : p < m.processors) (below : a < words) where
      abbrev by : Command → Request
      by c = record { processor = p; command = c; address = a }

      in_memory : a / 4 < mem.count
      in_memory = omega (arith, below, enough)

      idle : is_some (get_or b.processors p resting).waits_for ≡ false
      idle =
          let listed : ltb p m.processors ≡ true = grind (arith, nat_tests) in
          ap is_some
          (sym (ap (λ t. cond t (get_or b.processors p resting).waits_for None) listed) ∙ awake p)

      inside_memory : leb (4 * b.memory.count) a ≡ false
      inside_memory = rw s.blocks.count (grind (arith, nat_tests))

      no_holder : ((j c : ℕ) → held_in o j c ≡ true → j ≡ p)
          → is_some (holder_of m b.locks p (a / 4)) ≡ false
      no_holder mine =
          holder_is m b s.ledger s.whole.locks.kept p (a / 4)
          ∙ no_other (locks_in s.ledger (a / 4)) p m.processors
          (λ j low e. let (c, same, held) = address_in s.ledger (a / 4) j e in
          mine j c (sym (s.holds j c) ∙ held))

      holds_it : is_some (held_entry m b.locks p a) ≡ held_in o p a
      holds_it = held_is m b s.ledger s.whole.locks.kept p a known ∙ s.holds p a

      -- where no lock is held, the first entry is empty
      has_room : o ≡ None → is_some (free_entry m b.locks p) ≡ true
      has_room none =
          let at = locks_start m p in
          let up : suc p * m.lock_entries ≤ m.processors * m.lock_entries =
          mul-le-mul_right m.lock_entries known in
          let row = suc-mul p m.lock_entries in
          let long = s.whole.locks.kept.fit in
          let there : at < length b.locks = omega (arith, up, row, long, some_entries) in
          let empty : in_use (get_or b.locks at blank_entry) ≡ false =
          false_from_ne_true _ (λ used. false≢true
          (ap (λ x. held_in x p (get_or b.locks at blank_entry).address) (sym none)
          ∙ sym (s.holds p (get_or b.locks at blank_entry).address)
          ∙ entry_holds m b s.ledger s.whole.locks.kept p at known
          (record {
            from = omega arith;
            to = omega (arith, some_entries);
            inside = there;
            passes = used;
          }))) in
          entry_found m b.locks p (unused in_use) at
          (record {
            from = omega arith;
            to = omega (arith, some_entries);
            inside = there;
            passes = ap not empty;
          })

      module _ (c : Command) (done_so : is_done (command_rule m b (by c)).answer ≡ true) where
        abbrev after : Board
        after = (command_rule m b (by c)).board

        abbrev told : Ledger
        told = command_fed (by c) (command_rule m b (by c)).answer s.ledger

        whole_after : Whole m after told
        whole_after = next m some_columns some_ways few b s.ledger s.whole (command (by c))

        kept_after : (then : Option Held) → ((x y : ℕ) → told.holds x y ≡ held_in then x y)
            → ((x : ℕ) → told.waits x ≡ None) → Owned then after → Kept then after
        kept_after then holds waits owned =
            let way = shape m b (by c) in
            let same = blocks_kept m b (by c) (command_rule m b (by c)) way in
            record {
              ledger = told;
              whole = whole_after;
              holds = holds;
              waits = waits;
              blocks = record {
                count = same.count ∙ s.blocks.count;
                live = same.live ∙ s.blocks.live;
              };
              low = low_left mem.count m b (by c) (command_rule m b (by c)) way in_memory s.low;
              owned = owned;
            }

      -- every test is passed
      grant : (c : Command) → is_some (cell_of (action_of m b (by c)) (found m b (by c))) ≡ true
          → (takes_lock c && is_some (held_entry m b.locks p a)) ≡ false
          → (takes_lock c && not (is_some (free_entry m b.locks p))) ≡ false
          → (releases_lock c && not (is_some (held_entry m b.locks p a))) ≡ false
          → is_direct_write (action_of m b (by c)) ≡ false
          → is_some (holder_of m b.locks p (a / 4)) ≡ false → Granted m b (by c)
      grant c legal not_held room held indirect free =
          let cell = the_some (cell_of (action_of m b (by c)) (found m b (by c))) legal in
          record {
            fit = fit;
            known = grind (arith, nat_tests);
            inside = inside_memory;
            idle = idle;
            not_held = not_held;
            room = room;
            held = held;
            alone = rw indirect refl;
            effect = cell.0;
            cell = cell.1;
            free = free;
            readable = granted (a / 4) in_memory;
            returnable = λ i v. granted (at_in b.lines i).block (s.low i v);
          }

  -- a read, a write or LR where no lock is held
  module _ (b : Board) (s : Kept None b) (p a : ℕ) (known : p < m.processors) (below : a < words) where
    free : is_some (holder_of m b.locks p (a / 4)) ≡ false
    free = no_holder None b s p a known below (λ j c e. absurd (false≢true e))

    read_done : is_done (command_rule m b (by None b s p a known below R)).answer ≡ true
    read_done =
        granted_done m b (by None b s p a known below R)
        (grant None b s p a known below R (has_r _) refl refl refl refl free)

    after_read : Kept None (after None b s p a known below R read_done)
    after_read =
        let q = by None b s p a known below R in
        kept_after None b s p a known below R read_done None
        (λ x y. fed_done q _ s.ledger read_done (λ l. l.holds x y ≡ false) (λ ul. s.holds x y))
        (λ x. fed_done q _ s.ledger read_done (λ l. l.waits x ≡ None) (λ ul. s.waits x)) tt

    module _ (word : ℕ) where
      write_done : is_done (command_rule m b (by None b s p a known below (W word))).answer ≡ true
      write_done =
          granted_done m b (by None b s p a known below (W word))
          (grant None b s p a known below (W word) (has_w _) refl refl refl refl free)

      after_write : Kept None (after None b s p a known below (W word) write_done)
      after_write =
          let q = by None b s p a known below (W word) in
          kept_after None b s p a known below (W word) write_done None
          (λ x y. fed_done q _ s.ledger write_done (λ l. l.holds x y ≡ false) (λ ul. s.holds x y))
          (λ x. fed_done q _ s.ledger write_done (λ l. l.waits x ≡ None) (λ ul. s.waits x)) tt

    lock_done : is_done (command_rule m b (by None b s p a known below LR)).answer ≡ true
    lock_done =
        granted_done m b (by None b s p a known below LR)
        (grant None b s p a known below LR (has_lr _) (holds_it None b s p a known below)
        (ap not (has_room None b s p a known below refl)) refl refl free)

    abbrev taken : Held
    taken = record { processor = p; address = a }

    owned_after : Owned (Some taken) (after None b s p a known below LR lock_done)
    owned_after =
        by_shape (command_rule m b (by None b s p a known below LR))
        (shape m b (by None b s p a known below LR)) lock_done
        (whole_after None b s p a known below LR lock_done)
      where
        by_shape : {l : Ledger} (o : Outcome Answer) → Shape m b (by None b s p a known below LR) o
            → is_done o.answer ≡ true → Whole m o.board l
            → tame (line_at o.board.lines (line_of m o.board.lines p (a / 4))).state ≡ true
        by_shape o (refused e is) h w =
            absurd (false≢true (sym (ap (λ x. is_done x.answer) is) ∙ h))
        by_shape o (waited v) h w =
            absurd (false≢true (sym (ap (λ x. is_done x.answer) v.is) ∙ h))
        by_shape o (finished f) h w =
            tame_left some_columns some_ways s.whole.settled (done f) refl refl w.settled.fit
            w.settled.homed

    after_lock : Kept (Some taken) (after None b s p a known below LR lock_done)
    after_lock =
        let q = by None b s p a known below LR in
        kept_after None b s p a known below LR lock_done (Some taken)
        (λ x y. fed_done q _ s.ledger lock_done (λ l. l.holds x y ≡ (eqb x p && eqb y a))
        (λ ul. ap (λ h. cond (eqb x p && eqb y a) true h) (s.holds x y)
        ∙ taken_if (eqb x p && eqb y a)))
        (λ x. fed_done q _ s.ledger lock_done (λ l. l.waits x ≡ None) (λ ul. s.waits x)) owned_after

  -- the UW of the lock that is held
  module _ (b : Board) (p a : ℕ) (s : Kept (Some (record { processor = p; address = a })) b)
      (known : p < m.processors) (below : a < words) (word : ℕ) where
    abbrev held : Option Held
    held = Some (record { processor = p; address = a })

    holds_own : is_some (held_entry m b.locks p a) ≡ true
    holds_own =
        holds_it held b s p a known below
        ∙ (let same : (eqb p p && eqb a a) ≡ true = grind (arith, nat_tests) in same)

    release_done : is_done (command_rule m b (by held b s p a known below (UW word))).answer ≡ true
    release_done =
        granted_done m b (by held b s p a known below (UW word))
        (grant held b s p a known below (UW word) (tame_cell _ s.owned) refl refl (ap not holds_own) refl
        (no_holder held b s p a known below
        (λ j c e. eqb-true j p (and_parts (eqb j p) (eqb c a) e).0)))

    after_release : Kept None (after held b s p a known below (UW word) release_done)
    after_release =
        let q = by held b s p a known below (UW word) in
        kept_after held b s p a known below (UW word) release_done None
        (λ x y. fed_done q _ s.ledger release_done (λ l. l.holds x y ≡ false) (gone x y))
        (λ x. fed_done q _ s.ledger release_done (λ l. l.waits x ≡ None) (awake_still x)) tt
      where
        gone : (x y : ℕ) (ul : Bool) → (done_by p a ul (UW word) s.ledger).holds x y ≡ false
        gone x y true = ap (λ h. cond (eqb x p && eqb y a) false h) (s.holds x y)
            ∙ none_if (eqb x p && eqb y a)
        gone x y false = ap (λ h. cond (eqb x p && eqb y a) false h) (s.holds x y)
            ∙ none_if (eqb x p && eqb y a)

        awake_still : (x : ℕ) (ul : Bool) → (done_by p a ul (UW word) s.ledger).waits x ≡ None
        awake_still x true = rw (s.waits x) refl
        awake_still x false = s.waits x

  abbrev Good : List Record → Board → Type 0
  Good rs b = (o : Option Held) × Suits words m.processors o rs × Kept o b

  record Stepped (q : Request) (rs : List Record) (b : Board) : Type 0 where
    done : is_done (command_rule m b q).answer ≡ true
    good : Good rs (command_rule m b q).board

  step : (o : Option Held) (p a : ℕ) → p < m.processors → a < words → (c : Command) (rs : List Record)
      → Then o p a c (λ then. Suits words m.processors then rs) → (b : Board) → Kept o b
      → Stepped (record { processor = p; command = c; address = a }) rs b
  step None p a known below R rs t b s = record {
    done = read_done b s p a known below;
    good = (None, t, after_read b s p a known below);
  }
  step None p a known below (W word) rs t b s = record {
    done = write_done b s p a known below word;
    good = (None, t, after_write b s p a known below word);
  }
  step None p a known below LR rs t b s = record {
    done = lock_done b s p a known below;
    good = (Some (record { processor = p; address = a }), t, after_lock b s p a known below);
  }
  step None p a known below (DW word) rs t b s = absurd t
  step None p a known below RI rs t b s = absurd t
  step None p a known below RP rs t b s = absurd t
  step None p a known below RB rs t b s = absurd t
  step None p a known below (UW word) rs t b s = absurd t
  step None p a known below U rs t b s = absurd t
  step (Some k) p a known below (UW word) rs t b s =
      let same : record { processor = p; address = a } ≡ k =
      λ i. record { processor = t.0 i; address = t.1 i } in
      let mine = subst (λ x. Kept (Some x) b) (sym same) s in
      record {
        done = release_done b p a mine known below word;
        good = (None, t.2, after_release b p a mine known below word);
      }
  step (Some k) p a known below R rs t b s = absurd t
  step (Some k) p a known below (W word) rs t b s = absurd t
  step (Some k) p a known below (DW word) rs t b s = absurd t
  step (Some k) p a known below RI rs t b s = absurd t
  step (Some k) p a known below RP rs t b s = absurd t
  step (Some k) p a known below RB rs t b s = absurd t
  step (Some k) p a known below LR rs t b s = absurd t
  step (Some k) p a known below U rs t b s = absurd t

  stepped : (r : Record) (rs : List Record) (b : Board) → Good (r ∷ rs) b → Stepped r.request rs b
  stepped r rs b (o, fits, s) =
      step o r.request.processor r.request.address fits.0.known fits.0.below r.request.command rs fits.1 b
      s

  goes : Goes m Good
  goes = record {
    awake = λ rs b good. awake good.0 b good.2;
    done = λ r rs b good. (stepped r rs b good).done;
    next = λ r rs b good. (stepped r rs b good).good;
  }

  pub runs : Lawful mem → 1 ≤ words → 1 ≤ m.processors → (draws number x : ℕ)
      → AllDone m (new_board m mem) (records_drawn words m.processors draws number x)
  runs lawful some_words some_processors draws number x =
      all_done m Good goes (records_drawn words m.processors draws number x) (new_board m mem)
      some_processors
      (None, suits words m.processors some_words some_processors draws number x, start lawful)

-- for every geometry with these processors
pub runs_through : (words processors draws number x : ℕ) → 1 ≤ words
    → RunsThrough words processors (records_drawn words processors draws number x)
runs_through words processors draws number x some_words g same mem lawful enough live =
    let m = g.measures in
    subst (λ n. AllDone m (new_board m mem) (records_drawn words n draws number x)) same
    (runs m (has_columns g) g.some_ways g.few_processors g.some_entries words mem enough live lawful
    some_words g.some_processors draws number x)
