-- A done U that finds EC leaves lines and memory as they were.
use Rattle.std.proofs.Common.{◌≡◌, ℕ, ◌/◌, Bool, true, false, cond, not, ◌&&◌, ◌||◌, List, [], ◌∷◌, length, get_or, set, is_some, Some, None, Ok, Err, Option, Result, sym, refl, ap, ◌∙◌, subst}
use Rattle.std.proofs.lemmas.List.{set-get_or}
use Rattle.protocol.proofs.Finding.{found_passes, found_key}
use Rattle.protocol.specs.declared.answer.Answer.{Answer}
use Rattle.protocol.specs.declared.answer.Answer.TheVariants.{Done}
use Rattle.protocol.specs.declared.command.Action.{Action}
use Rattle.protocol.specs.declared.command.Action.TheVariants.{U as as_u}
use Rattle.protocol.specs.declared.command.Command.TheVariants.{U}
use Rattle.protocol.specs.declared.command.Request.{Request}
use Rattle.protocol.specs.declared.line.Line.{Line}
use Rattle.protocol.specs.declared.measures.Measures.{Measures}
use Rattle.protocol.specs.declared.refusal.Refusal.{Refusal}
use Rattle.protocol.specs.declared.refusal.Refusal.TheVariants.{TableLength, CopyElsewhere}
use Rattle.protocol.specs.declared.state.State.{State}
use Rattle.protocol.specs.declared.state.State.TheVariants.{EC}
use Rattle.protocol.specs.declared.table.Effect.{Effect}
use Rattle.protocol.specs.Acting.{acts_as, words_left}
use Rattle.protocol.specs.Entries.{valid}
use Rattle.protocol.specs.Lines.{no_line}
use Rattle.protocol.specs.Places.{window_start}
use Rattle.protocol.specs.StateTable.{cell_of}
use Rattle.cluster.specs.declared.case.Case.{Case}
use Rattle.cluster.specs.declared.supply.Supply.{Supply}
use Rattle.cluster.specs.declared.ways.Taken.{Taken}
use Rattle.cluster.specs.Board.{Board, Outcome, refusing, unless_err}
use Rattle.cluster.specs.Copies.{holds_block, line_of, line_at, supplier_of}
use Rattle.cluster.specs.Doing.{lock_hit, is_unlock, supplied, victim_of, swapped_out, memory_after}
use Rattle.cluster.specs.Finishing.{way_taken, placed, lines_after}
use Rattle.cluster.specs.Locks.{holder_of}
use Rattle.cluster.specs.Making.{resting, tables_fit}
use Rattle.cluster.specs.Refusing.{unless_refused, is_direct_write, admission, lock_tests, unless_checked, entry_used, case_of}
use Rattle.cluster.specs.Rule.{unless_some, waiting, finishing, swapping, supplying, proceeding, meeting, command_rule}
use Rattle.cluster.specs.Unlocking.{LeavesClean}
use Rattle.cluster.specs.Ways.{taken_way}

-- what is not refused has passed each test
passed : {X : Type 0} (tests : List (Bool × Refusal)) (r : Result X Refusal) (x : X)
    → unless_refused tests r ≡ Ok x → r ≡ Ok x
passed [] r x e = e
passed (test ∷ tests) r x e = by test.0 (passed tests r x) e
  where
    by : (b : Bool) → (unless_refused tests r ≡ Ok x → r ≡ Ok x)
        → cond b (Err test.1) (unless_refused tests r) ≡ Ok x → r ≡ Ok x
    by true rest refused = absurd (cc)
    by false rest later = rest later

-- a U that finds EC sends nothing and leaves EC
abbrev quiet : Effect
quiet = record { bus = None; lk = false; from_cache = EC; from_memory = EC }

abbrev effect_in : Option Effect → Effect
effect_in (Some e) = e
effect_in None = quiet

abbrev state_in : Result Answer Refusal → State
state_in (Ok (Done done)) = done.found
state_in answer = EC

abbrev supply_in : Result Supply Refusal → Supply → Supply
supply_in (Ok s) none = s
supply_in (Err e) none = none

-- a line is what its parts are
line_is : (line : Line) (block : ℕ) → line.state ≡ EC → line.block ≡ block
    → record { state = EC; block = block; words = line.words } ≡ line
line_is line block s b i = record { state = sym s i; block = sym b i; words = line.words }

module _ (m : Measures) (b : Board) (q : Request) where
  abbrev block : ℕ
  block = q.address / 4

  abbrev place : Option ℕ
  place = line_of m b.lines q.processor block

  abbrev found : State
  found = (line_at b.lines place).state

  abbrev copy : Option ℕ
  copy = supplier_of m b.lines q.processor block

  abbrev holder : Option ℕ
  holder = holder_of m b.locks q.processor block

  abbrev action : Action
  action = acts_as q.command q.address found (is_some copy)

  abbrev met : Effect → Case
  met effect = record {
    processor = q.processor;
    command = q.command;
    address = q.address;
    block = block;
    action = action;
    place = place;
    found = found;
    effect = effect;
    copy = copy;
    holder = holder;
    entry = entry_used m b.locks q;
  }

  abbrev direct_write_tests : List (Bool × Refusal)
  direct_write_tests =
      let elsewhere = is_some copy || is_some holder in
      (is_direct_write action && not (valid found) && elsewhere, CopyElsewhere) ∷ []

  abbrev free_or_turned : Taken
  free_or_turned =
      taken_way m b.lines q.processor block (get_or b.processors q.processor resting).turn

  abbrev taken : Effect → Option Taken
  taken e = way_taken m b.processors b.lines (met e)

  abbrev Kept : Outcome Answer → Type 0
  Kept o = LeavesClean q o.answer b o.board

  abbrev in_ec : List ℕ → Line
  in_ec words = record { state = EC; block = block; words = words }

  -- the line is put where it was found, as it was
  by_place : (p : Option ℕ) → place ≡ p → found ≡ EC
      → placed p (in_ec (line_at b.lines p).words) b.lines ≡ b.lines
  by_place None e clean = refl
  by_place (Some i) e clean =
      let line = get_or b.lines i no_line in
      let here = found_passes (holds_block block) no_line b.lines
      (window_start m q.processor block) m.ways i e in
      let state : line.state ≡ EC = ap (λ p. (line_at b.lines p).state) (sym e) ∙ clean in
      let number = found_key (λ l. valid l.state) (λ l. l.block) block line here in
      ap (set b.lines i) (line_is line block state number)
      ∙ set-get_or b.lines i no_line

  module _ (e : Effect) (cell : cell_of action found ≡ Some e) (u : q.command ≡ U) (clean : found ≡ EC)
    where
      acts : action ≡ as_u
      acts = ap (λ c. acts_as c q.address found (is_some copy)) u

      is_quiet : e ≡ quiet
      is_quiet = ap effect_in (sym cell ∙ ap (λ a. cell_of a found) acts ∙ ap (cell_of as_u) clean)

      none_taken : taken e ≡ None
      none_taken = ap (λ a. cond (not (is_unlock a) && not (valid found)) (Some free_or_turned) None) acts

      abbrev own : Supply
      own = record { words = (line_at b.lines place).words; from = None }

      none_supplies : (s : Supply) → supplied m b.lines b.memory (met e) ≡ Ok s → s ≡ own
      none_supplies s given =
          ap (λ r. supply_in r own)
          (sym given ∙ ap (λ x. supplied m b.lines b.memory (met x)) is_quiet)

      same_lines : (s : Supply) → s ≡ own → lines_after m b.lines (met e) s (taken e) ≡ b.lines
      same_lines s is =
          ap (λ t. lines_after m b.lines (met e) s t) none_taken
          ∙ ap (λ x. lines_after m b.lines (met e) x None) is
          ∙ ap (λ x. lines_after m b.lines (met x) own None) is_quiet
          ∙ ap (λ c. placed place (in_ec (words_left c q.address own.words)) b.lines) u
          ∙ by_place place refl clean

      same_memory : memory_after b.memory (victim_of b.lines (taken e)) ≡ b.memory
      same_memory = ap (λ t. memory_after b.memory (victim_of b.lines t)) none_taken

  by_swap : (e : Effect) → cell_of action found ≡ Some e → (s : Supply)
      → supplied m b.lines b.memory (met e) ≡ Ok s → (r : Result (Option ℕ) Refusal)
      → Kept (unless_err b r (λ swapped. finishing m b (met e) s (taken e) swapped
      (memory_after b.memory (victim_of b.lines (taken e)))))
  by_swap e cell s given (Err r) = λ done u answer clean. absurd (cc)
  by_swap e cell s given (Ok swapped) = λ done u answer clean.
      let here : found ≡ EC = ap state_in answer ∙ clean in
      record {
        lines = same_lines e cell u here s (none_supplies e cell u here s given);
        memory = same_memory e cell u here;
      }

  by_supply : (e : Effect) → cell_of action found ≡ Some e → (r : Result Supply Refusal)
      → supplied m b.lines b.memory (met e) ≡ r → Kept (unless_err b r (swapping m b (met e)))
  by_supply e cell (Err r) given = λ done u answer clean. absurd (cc)
  by_supply e cell (Ok s) given =
      by_swap e cell s given (swapped_out b.memory (victim_of b.lines (taken e)))

  by_hit : (e : Effect) → cell_of action found ≡ Some e → (o : Option ℕ)
      → Kept (unless_some (waiting m b (met e)) o (supplying m b (met e)))
  by_hit e cell (Some holder) = λ done u answer clean. absurd (cc)
  by_hit e cell None = by_supply e cell (supplied m b.lines b.memory (met e)) refl

  by_cell : (c : Case) (cell : Option Effect) → cell_of action found ≡ cell
      → unless_checked found cell met ≡ Ok c → Kept (proceeding m b c)
  by_cell c None is h = absurd (cc)
  by_cell c (Some e) is h =
      subst (λ x. Kept (proceeding m b x)) (ap (λ r. case_in r c) h) (by_hit e is (lock_hit (met e)))
    where
      case_in : Result Case Refusal → Case → Case
      case_in (Ok x) none = x
      case_in (Err r) none = none

  by_case : (r : Result Case Refusal)
      → case_of m b.processors b.lines b.locks b.memory.count q ≡ r
      → Kept (unless_err b r (proceeding m b))
  by_case (Err r) h = λ done u answer clean. absurd (cc)
  by_case (Ok c) h =
      by_cell c (cell_of action found) refl
      (passed direct_write_tests _ c
      (passed (lock_tests m b.locks q) _ c (passed (admission m b.processors b.memory.count q) _ c h)))

  by_tables : (fit : Bool) → Kept (cond fit (meeting m b q) (refusing b TableLength))
  by_tables false = λ done u answer clean. absurd (cc)
  by_tables true = by_case (case_of m b.processors b.lines b.locks b.memory.count q) refl

  by_rule : Kept (command_rule m b q)
  by_rule = by_tables (tables_fit m (length b.lines) (length b.locks))

  pub leaves_clean : (answer : Result Answer Refusal) (after : Board)
      → answer ≡ (command_rule m b q).answer → after ≡ (command_rule m b q).board
      → LeavesClean q answer b after
  leaves_clean answer after is left =
      subst (λ r. LeavesClean q r b after) (sym is)
      (subst (λ x. LeavesClean q (command_rule m b q).answer b x) (sym left) by_rule)
