-- The ways of a command: refused, waiting, or done.
use Rattle.std.proofs.Common.{◌≡◌, ℕ, ◌*◌, ◌/◌, Bool, true, false, cond, not, ◌&&◌, ◌||◌, leb, List, length, get_or, is_some, Some, None, Ok, Err, Option, Result, sym, refl, ap}
use Rattle.protocol.specs.declared.answer.Answer.{Answer}
use Rattle.protocol.specs.declared.command.Action.{Action}
use Rattle.protocol.specs.declared.command.Request.{Request}
use Rattle.protocol.specs.declared.line.Line.{Line}
use Rattle.protocol.specs.declared.lock.LockEntry.{LockEntry}
use Rattle.protocol.specs.declared.measures.Measures.{Measures}
use Rattle.protocol.specs.declared.refusal.Refusal.{Refusal}
use Rattle.protocol.specs.declared.refusal.Refusal.TheVariants.{TableLength}
use Rattle.protocol.specs.declared.state.State.{State}
use Rattle.protocol.specs.declared.table.Effect.{Effect}
use Rattle.protocol.specs.Acting.{acts_as}
use Rattle.protocol.specs.Entries.{valid}
use Rattle.protocol.specs.StateTable.{cell_of}
use Rattle.memory.specs.Meaning.{Mem}
use Rattle.cluster.specs.Board.{Board, Outcome, refusing, unless_err}
use Rattle.cluster.specs.declared.case.Case.{Case}
use Rattle.cluster.specs.declared.cluster.Processor.{Processor}
use Rattle.cluster.specs.declared.supply.Supply.{Supply}
use Rattle.cluster.specs.Copies.{line_of, line_at, supplier_of}
use Rattle.cluster.specs.Doing.{lock_hit, supplied, victim_of, swapped_out, memory_after}
use Rattle.cluster.specs.Finishing.{way_taken}
use Rattle.cluster.specs.Locks.{held_entry, free_entry, holder_of}
use Rattle.cluster.specs.Making.{resting, tables_fit}
use Rattle.cluster.specs.Refusing.{is_direct_write, entry_used, unless_checked, case_of}
use Rattle.cluster.specs.Rule.{unless_some, waiting, finishing, swapping, supplying, proceeding, meeting, command_rule}
use Rattle.cluster.specs.Settling.{takes_lock, releases_lock}

-- a test that did not refuse
passed : {X : Type 0} (b : Bool) (e : Refusal) (rest : Result X Refusal) (x : X)
    → cond b (Err e) rest ≡ Ok x → (b ≡ false) × (rest ≡ Ok x)
passed true e rest x h = absurd (cc)
passed false e rest x h = (refl, h)

module _ (m : Measures) (board : Board) (q : Request) where
  abbrev pub place : Option ℕ
  place = line_of m board.lines q.processor (q.address / 4)

  abbrev pub found : State
  found = (line_at board.lines place).state

  abbrev pub copy : Option ℕ
  copy = supplier_of m board.lines q.processor (q.address / 4)

  abbrev pub holder : Option ℕ
  holder = holder_of m board.locks q.processor (q.address / 4)

  abbrev pub action_of : Action
  action_of = acts_as q.command q.address found (is_some copy)

  abbrev pub met : Effect → Case
  met effect = record {
    processor = q.processor;
    command = q.command;
    address = q.address;
    block = q.address / 4;
    action = action_of;
    place = place;
    found = found;
    effect = effect;
    copy = copy;
    holder = holder;
    entry = entry_used m board.locks q;
  }

  -- what a command that is not refused has passed
  pub record Admitted (c : Case) : Type 0 where
    pub known : leb m.processors q.processor ≡ false
    pub inside : leb (4 * board.memory.count) q.address ≡ false
    pub idle : is_some (get_or board.processors q.processor resting).waits_for ≡ false
    pub not_held : (takes_lock q.command && is_some (held_entry m board.locks q.processor q.address))
        ≡ false
    pub room : (takes_lock q.command && not (is_some (free_entry m board.locks q.processor))) ≡ false
    pub held : (releases_lock q.command && not (is_some (held_entry m board.locks q.processor q.address)))
        ≡ false
    pub alone : (is_direct_write action_of && not (valid found) && (is_some copy || is_some holder))
        ≡ false
    pub effect : Effect
    pub cell : cell_of action_of found ≡ Some effect
    pub is : c ≡ met effect

  by_cell : (c : Case) (cell : Option Effect) → cell_of action_of found ≡ cell
      → unless_checked found cell met ≡ Ok c
      → (e : Effect) × (cell_of action_of found ≡ Some e) × (c ≡ met e)
  by_cell c None same h = absurd (cc)
  by_cell c (Some e) same h = (e, same, ap (λ r. case_or r) (sym h))
    where
      case_or : Result Case Refusal → Case
      case_or (Ok x) = x
      case_or (Err r) = c

  admitted : (c : Case) → case_of m board.processors board.lines board.locks board.memory.count q ≡ Ok c
      → Admitted c
  admitted c h =
      let one = passed _ _ _ c h in
      let two = passed _ _ _ c one.1 in
      let three = passed _ _ _ c two.1 in
      let four = passed _ _ _ c three.1 in
      let five = passed _ _ _ c four.1 in
      let six = passed _ _ _ c five.1 in
      let seven = passed _ _ _ c six.1 in
      let legal = by_cell c (cell_of action_of found) refl seven.1 in
      record {
        known = one.0;
        inside = two.0;
        idle = three.0;
        not_held = four.0;
        room = five.0;
        held = six.0;
        alone = seven.0;
        effect = legal.0;
        cell = legal.1;
        is = legal.2;
      }

  pub record Waited (o : Outcome Answer) : Type 0 where
    pub case : Case
    pub facts : Admitted case
    pub blocker : ℕ
    pub hit : lock_hit case ≡ Some blocker
    pub is : o ≡ waiting m board case blocker

  pub record Finished (o : Outcome Answer) : Type 0 where
    pub case : Case
    pub facts : Admitted case
    pub free : lock_hit case ≡ None
    pub supply : Supply
    pub given : supplied m board.lines board.memory case ≡ Ok supply
    pub swapped : Option ℕ
    pub granted : swapped_out board.memory
        (victim_of board.lines (way_taken m board.processors board.lines case)) ≡ Ok swapped
    pub is : o ≡ finishing m board case supply (way_taken m board.processors board.lines case) swapped
        (memory_after board.memory
        (victim_of board.lines (way_taken m board.processors board.lines case)))

  pub data Shape (o : Outcome Answer) : Type 0 where
    refused : (e : Refusal) → o ≡ refusing board e → Shape o
    waited : Waited o → Shape o
    finished : Finished o → Shape o

  by_swap : (c : Case) (s : Supply) → Admitted c → lock_hit c ≡ None
      → supplied m board.lines board.memory c ≡ Ok s
      → (r : Result (Option ℕ) Refusal)
      → swapped_out board.memory (victim_of board.lines (way_taken m board.processors board.lines c)) ≡ r
      → Shape (unless_err board r
      (λ swapped. finishing m board c s (way_taken m board.processors board.lines c) swapped
      (memory_after board.memory (victim_of board.lines (way_taken m board.processors board.lines c)))))
  by_swap c s facts free given (Err e) h = refused e refl
  by_swap c s facts free given (Ok x) h =
      finished (record {
        case = c;
        facts =
            facts;
        free = free;
        supply = s;
        given = given;
        swapped = x;
        granted = h;
        is = refl;
      })

  by_supply : (c : Case) → Admitted c → lock_hit c ≡ None → (r : Result Supply Refusal)
      → supplied m board.lines board.memory c ≡ r
      → Shape (unless_err board r (swapping m board c))
  by_supply c facts free (Err e) h = refused e refl
  by_supply c facts free (Ok s) h =
      by_swap c s facts free h
      (swapped_out board.memory (victim_of board.lines (way_taken m board.processors board.lines c))) refl

  by_hit : (c : Case) → Admitted c → (o : Option ℕ) → lock_hit c ≡ o
      → Shape (unless_some (waiting m board c) o (supplying m board c))
  by_hit c facts (Some h) e = waited (record { case = c; facts = facts; blocker = h; hit = e; is = refl })
  by_hit c facts None e = by_supply c facts e (supplied m board.lines board.memory c) refl

  by_case : (r : Result Case Refusal)
      → case_of m board.processors board.lines board.locks board.memory.count q ≡ r
      → Shape (unless_err board r (proceeding m board))
  by_case (Err e) h = refused e refl
  by_case (Ok c) h = by_hit c (admitted c h) (lock_hit c) refl

  by_tables : (b : Bool) → tables_fit m (length board.lines) (length board.locks) ≡ b
      → Shape (cond b (meeting m board q) (refusing board TableLength))
  by_tables false h = refused TableLength refl
  by_tables true h =
      by_case (case_of m board.processors board.lines board.locks board.memory.count q) refl

  pub shape : Shape (command_rule m board q)
  shape = by_tables (tables_fit m (length board.lines) (length board.locks)) refl
