-- The law holds throughout every list of calls.
use Rattle.std.proofs.Common.{◌≡◌, ℕ, ◌/◌, ◌%◌, ◌<◌, ◌≤◌, Bool, true, false, cond, get_or, replicate, IfSome, Some, None, Option, sym, refl, ◌∙◌, subst}
use lib.ListN.{length-replicate}
use Rattle.std.proofs.lemmas.Bool.{false≢true}
use Rattle.protocol.specs.declared.answer.Answer.{Answer}
use Rattle.protocol.specs.declared.command.Request.{Request}
use Rattle.protocol.specs.declared.measures.Measures.{Measures}
use Rattle.protocol.specs.Entries.{valid}
use Rattle.protocol.specs.Lines.{blank_line, no_line}
use Rattle.protocol.specs.Places.{line_count}
use Rattle.memory.specs.Meaning.{Mem, Lawful}
use Rattle.cluster.specs.Board.{Board, Outcome, new_board}
use Rattle.cluster.specs.Copies.{line_of, line_at}
use Rattle.cluster.specs.Rule.{waiting, command_rule}
use Rattle.upkeep.proofs.Counts.{has_columns}
use Rattle.law.specs.Calls.{Call, command, drain, census, question, said_by, left_by}
use Rattle.law.specs.Law.{Law, LawHolds, OnDone, owner, reads}
use Rattle.law.specs.Ledger.{Ledger, opened, fed, command_fed, word_at, block_of}
use Rattle.law.proofs.Commands.{Settled, settled_done, reads_done}
use Rattle.law.proofs.Copied.{copy_valid}
use Rattle.law.proofs.Doing.{done}
use Rattle.law.proofs.Drained.{rule_length, rule_homed, rule_coherent, rule_holder, rule_four, drains_law}
use Rattle.law.proofs.Invariant.{at_in, copy, throughout}
use Rattle.law.proofs.LocksKept.{OwnFound, no_other_holder}
use Rattle.law.proofs.LocksOn.{LocksHold, locks_on, waits_on_locks, new_locks_hold}
use Rattle.law.proofs.Marked.{wakes_law}
use Rattle.law.proofs.Places.{found_at}
use Rattle.law.proofs.Shapes.{Shape, refused, waited, finished, shape}
use Rattle.law.proofs.Told.{accounts}
use Rattle.law.proofs.Windows.{seen-replicate}
use Rattle.law.proofs.Words.{tied_same}

-- all that is kept from call to call
pub record Whole (m : Measures) (b : Board) (l : Ledger) : Type 0 where
  pub settled : Settled m b.lines b.memory.words l
  pub locks : LocksHold m b l

module _ (m : Measures) (some_columns : 0 < m.columns) (some_ways : 0 < m.ways) (few : m.processors ≤ 8)
  where
    module _ (b : Board) (l : Ledger) (w : Whole m b l) where
      own_found : OwnFound m b
      own_found q known v = by_place (line_of m b.lines q.processor (q.address / 4)) refl v
        where
          by_place : (o : Option ℕ) → line_of m b.lines q.processor (q.address / 4) ≡ o
              → valid (line_at b.lines o).state ≡ true
              → (i : ℕ) × copy (at_in b.lines) (q.address / 4) i × (owner m i ≡ q.processor)
          by_place (Some i) e h =
              let found = found_at m some_columns b.lines w.settled.fit w.settled.homed q.processor
              (q.address / 4) i known e in (i, found.copied, found.owned)
          by_place None e h = absurd (false≢true h)

      kept_words : (after : Ledger) → ((x : ℕ) → after.words x ≡ l.words x)
          → ((p a : ℕ) → after.holds p a ≡ l.holds p a) → Settled m b.lines b.memory.words after
      kept_words after same held = record {
        fit = w.settled.fit;
        homed = w.settled.homed;
        truth = record {
          words = w.settled.truth.words;
          coherent = w.settled.truth.coherent;
          tied = tied_same w.settled.truth.words l after w.settled.truth.tied same;
        };
        holder = λ p a i h. w.settled.holder p a i (sym (held p a) ∙ h);
        four = w.settled.four;
      }

      settled_command : (q : Request) (o : Outcome Answer) → Shape m b q o
          → Settled m o.board.lines o.board.memory.words (command_fed q o.answer l)
      settled_command q o (refused e is) =
          subst (λ x. Settled m x.board.lines x.board.memory.words (command_fed q x.answer l)) (sym is)
          w.settled
      settled_command q o (waited v) =
          subst (λ x. Settled m x.board.lines x.board.memory.words (command_fed q x.answer l)) (sym v.is)
          (kept_words (command_fed q (waiting m b v.case v.blocker).answer l) (λ x. refl) (λ p a. refl))
      settled_command q o (finished f) =
          settled_done some_columns some_ways w.settled (done f)
          (no_other_holder m b l w.locks.kept w.locks.one w.settled.holder w.locks.listed own_found q o f)

      reads_command : (q : Request) → reads q.command ≡ true → (o : Outcome Answer) → Shape m b q o
          → OnDone o.answer (λ done. IfSome (l.words q.address) (λ word. done.word ≡ word))
      reads_command q r o (refused e is) =
          subst (λ x. OnDone x.answer (λ done. IfSome (l.words q.address) (λ word. done.word ≡ word)))
          (sym is) tt
      reads_command q r o (waited v) =
          subst (λ x. OnDone x.answer (λ done. IfSome (l.words q.address) (λ word. done.word ≡ word)))
          (sym v.is) tt
      reads_command q r o (finished f) =
          reads_done some_columns some_ways w.settled (done f)
          (no_other_holder m b l w.locks.kept w.locks.one w.settled.holder w.locks.listed own_found q o f) r

      settled_drain : Settled m (left_by m b drain).lines (left_by m b drain).memory.words l
      settled_drain =
          let t = w.settled.truth in
          record {
            fit = rule_length m b ∙ w.settled.fit;
            homed = rule_homed m b w.settled.homed;
            truth = record
                { words = t.words; coherent = rule_coherent m b t.words t.coherent; tied = t.tied };
            holder = rule_holder m b l w.settled.holder;
            four = rule_four m b t.words t.coherent t.tied.four w.settled.four;
          }

      pub next : (call : Call) → Whole m (left_by m b call) (fed call (said_by m b call) l)
      next (command q) = record {
        settled = settled_command q (command_rule m b q) (shape m b q);
        locks = locks_on m b l few w.locks w.settled.holder own_found (command q);
      }
      next drain = record
          { settled = settled_drain; locks = locks_on m b l few w.locks w.settled.holder own_found drain }
      next census = w
      next (question address) = w

      law : Law m b l
      law =
          let t = w.settled.truth in
          let told = accounts m b l w.locks.kept in
          record {
            reads_ledger = λ q r. reads_command q r (command_rule m b q) (shape m b q);
            drains_ledger = drains_law m b t.words l t.coherent t.tied;
            exclusive_alone = t.coherent.alone;
            copies_agree =
                λ block i j ci cj. t.coherent.agree block i ci ∙ sym (t.coherent.agree block j cj);
            one_modified = t.coherent.single;
            clean_as_memory =
                λ block i ci all. t.coherent.agree block i ci ∙ sym (t.coherent.clean block all);
            locks = told.locks;
            waits = told.waits;
            one_holder = w.locks.one;
            holder_has_copies = w.settled.holder;
            waits_where_locked = waits_on_locks m b l w.locks w.settled.holder own_found;
            release_wakes = λ q. wakes_law m b l w.locks.marked q few w.locks.kept;
          }

-- a new cluster
blank_at : (n i : ℕ) → valid (at_in (replicate n blank_line) i).state ≡ false
blank_at n i = seen-replicate (λ line. valid line.state) n i blank_line no_line refl

no_copy : (n block i : ℕ) → copy (at_in (replicate n blank_line)) block i → ⊥
no_copy n block i c =
    false≢true (sym (blank_at n i) ∙ copy_valid block (at_in (replicate n blank_line) i) c)

module _ (m : Measures) (mem : Mem) (lawful : Lawful mem) where
  opened_words : (address word : ℕ) → (opened mem).words address ≡ Some word
      → get_or (mem.words (block_of address)) (address % 4) 0 ≡ word
  opened_words address word e = by_low _ e
    where
      by_low : (b : Bool) → cond b (Some (word_at mem address)) None ≡ Some word
          → get_or (mem.words (block_of address)) (address % 4) 0 ≡ word
      by_low true h = (let is : word_at mem address ≡ word = cc in is)
      by_low false h = absurd (cc)

  pub new_settled : Settled m (new_board m mem).lines mem.words (opened mem)
  new_settled = record {
    fit = length-replicate (line_count m) blank_line;
    homed = record {
      home = λ i v. absurd (false≢true (sym (blank_at (line_count m) i) ∙ v));
      once = λ block i j ci cj same. absurd (no_copy (line_count m) block i ci);
    };
    truth = record {
      words = mem.words;
      coherent = record {
        alone = λ block i j ci cj x. absurd (no_copy (line_count m) block i ci);
        single = λ block i j ci cj x y. absurd (no_copy (line_count m) block i ci);
        agree = λ block i ci. absurd (no_copy (line_count m) block i ci);
        clean = λ block all. refl;
      };
      tied = record { four = lawful.four; words = opened_words };
    };
    holder = λ p a i h ci. absurd (false≢true h);
    four = lawful.four;
  }

pub law_holds : LawHolds
law_holds g mem lawful =
    let m = g.measures in
    throughout m (Law m) (Whole m) (law m (has_columns g) g.some_ways g.few_processors)
    (next m (has_columns g) g.some_ways g.few_processors)
    (new_board m mem) (opened mem)
    (record { settled = new_settled m mem lawful; locks = new_locks_hold m mem })
