-- A done command, told by the cell that it met, and its own line.
use Rattle.std.proofs.Common.{◌≡◌, ℕ, ◌/◌, ◌<◌, Bool, true, false, cond, not, ◌&&◌, ◌||◌, List, is_some, Some, None, Ok, Err, Option, Result, sym, ap, ◌∙◌, subst}
use Rattle.std.proofs.lemmas.Bool.{leb-false}
use Rattle.protocol.specs.declared.answer.Answer.{Answer}
use Rattle.protocol.specs.declared.command.Action.{Action}
use Rattle.protocol.specs.declared.command.Request.{Request}
use Rattle.protocol.specs.declared.line.Line.{Line}
use Rattle.protocol.specs.declared.lock.LockEntry.{LockEntry}
use Rattle.protocol.specs.declared.measures.Measures.{Measures}
use Rattle.protocol.specs.declared.refusal.Refusal.{Refusal}
use Rattle.protocol.specs.declared.table.Effect.{Effect}
use Rattle.protocol.specs.declared.state.State.{State}
use Rattle.protocol.specs.Acting.{words_left}
use Rattle.protocol.specs.Entries.{valid}
use Rattle.protocol.specs.StateTable.{cell_of}
use Rattle.memory.specs.Meaning.{Mem}
use Rattle.cluster.specs.Board.{Board, Outcome}
use Rattle.cluster.specs.declared.case.Case.{Case}
use Rattle.cluster.specs.declared.cluster.Processor.{Processor}
use Rattle.cluster.specs.declared.supply.Supply.{Supply}
use Rattle.cluster.specs.declared.ways.Taken.{Taken}
use Rattle.cluster.specs.Copies.{line_of, line_at}
use Rattle.cluster.specs.Doing.{asks_for_block, state_left, supplied_by, supplied, victim_of, swapped_out, memory_after}
use Rattle.cluster.specs.Finishing.{way_taken}
use Rattle.cluster.specs.Refusing.{is_direct_write}
use Rattle.cluster.specs.Rule.{finishing}
use Rattle.cluster.specs.Settling.{takes_lock}
use Rattle.law.specs.Ledger.{block_of}
use Rattle.law.proofs.Cells.{acts_drops, acts_writes, acts_fresh, acts_locks, takes_lock_as, writes, drops, unwritten}
use Rattle.law.proofs.Leaving.{own_line, own_named}
use Rattle.law.proofs.Words.{purging, fresh}
use Rattle.law.proofs.Shapes.{Finished, found, copy as supplier, holder, action_of, met}

module _ (m : Measures) (board : Board) (q : Request) where
  abbrev pub case_with : Effect → Case
  case_with e = met m board q e

  abbrev pub taken_with : Effect → Option Taken
  taken_with e = way_taken m board.processors board.lines (case_with e)

  -- a done command, told by the cell that it met
  pub record Done (o : Outcome Answer) : Type 0 where
    pub effect : Effect
    pub known : q.processor < m.processors
    pub cell : cell_of (action_of m board q) (found m board q) ≡ Some effect
    pub alone : (is_direct_write (action_of m board q) && not (valid (found m board q))
        && (is_some (supplier m board q) || is_some (holder m board q))) ≡ false
    pub supply : Supply
    pub given : supplied m board.lines board.memory (case_with effect) ≡ Ok supply
    pub swapped : Option ℕ
    pub granted : swapped_out board.memory (victim_of board.lines (taken_with effect)) ≡ Ok swapped
    pub is : o ≡ finishing m board (case_with effect) supply (taken_with effect) swapped
        (memory_after board.memory (victim_of board.lines (taken_with effect)))

pub done : {m : Measures} {board : Board} {q : Request} {o : Outcome Answer}
    → Finished m board q o → Done m board q o
done {m = m} {board = board} {q = q} f =
    let facts = f.facts in
    record {
      effect = facts.effect;
      known = leb-false m.processors q.processor facts.known;
      cell = facts.cell;
      alone = facts.alone;
      supply = f.supply;
      given = subst (λ c. supplied m board.lines board.memory c ≡ Ok f.supply) facts.is f.given;
      swapped = f.swapped;
      granted = subst
          (λ c. swapped_out board.memory
          (victim_of board.lines (way_taken m board.processors board.lines c)) ≡ Ok f.swapped) facts.is
          f.granted;
      is =
          f.is
          ∙ ap (λ c. finishing m board c f.supply (way_taken m board.processors board.lines c) f.swapped
          (memory_after board.memory
          (victim_of board.lines (way_taken m board.processors board.lines c)))) facts.is;
    }

pub ok_same : {X : Type 0} (x y : X) → ◌≡◌ {A = Result X Refusal} (Ok x) (Ok y) → x ≡ y
ok_same {X} x y e = ap (λ r. or_x r) e
  where
    or_x : Result X Refusal → X
    or_x (Ok z) = z
    or_x (Err r) = x

-- what it makes of its own line
module _ {m : Measures} {board : Board} {q : Request} {o : Outcome Answer}
    (d : Done m board q o) where
  abbrev acting : Action
  acting = action_of m board q

  abbrev elsewhere : Bool
  elsewhere = is_some (supplier m board q)

  abbrev pub made_state : State
  made_state = state_left d.effect d.supply.from

  abbrev pub made_line : Line
  made_line = own_line q.command q.address d.supply.words made_state

  pub made_named : valid made_line.state ≡ true → made_line.block ≡ block_of q.address
  made_named = own_named q.command q.address d.supply.words made_state

  abbrev own_supply : Supply
  own_supply = record {
    words = (line_at board.lines (line_of m board.lines q.processor (q.address / 4))).words;
    from =
        None;
  }

  abbrev asked : Result Supply Refusal
  asked = supplied_by m board.lines board.memory (q.address / 4) (supplier m board q)

  pub unasked_supply : asks_for_block d.effect.bus ≡ false → d.supply ≡ own_supply
  unasked_supply e = ok_same d.supply own_supply (sym d.given ∙ ap (λ b. cond b asked (Ok own_supply)) e)

  pub asked_supply : asks_for_block d.effect.bus ≡ true → asked ≡ Ok d.supply
  asked_supply e = sym (ap (λ b. cond b asked (Ok own_supply)) e) ∙ d.given

  pub same_words : writes acting ≡ false → words_left q.command q.address d.supply.words ≡ d.supply.words
  same_words = acts_writes q.address (found m board q) elsewhere q.command d.supply.words

  pub purging_is : (b : Bool) → drops acting ≡ b → purging q.command q.address ≡ b
  purging_is b h = sym (acts_drops q.address (found m board q) elsewhere q.command) ∙ h

  pub stale_by : writes acting ≡ false → fresh q.command q.address ≡ false
  stale_by w = sym (acts_fresh q.address (found m board q) elsewhere q.command) ∙ unwritten acting w

  pub fresh_made : fresh q.command q.address ≡ is_direct_write acting
  fresh_made = sym (acts_fresh q.address (found m board q) elsewhere q.command)

  pub takes_locked : takes_lock q.command ≡ true → takes_lock_as acting ≡ true
  takes_locked = acts_locks q.address (found m board q) elsewhere q.command
