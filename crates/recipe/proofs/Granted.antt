-- A command that no test refuses, that meets no lock, and whose blocks memory grants, is done.
use Rattle.std.proofs.Common.{◌≡◌, ℕ, ◌*◌, ◌/◌, Bool, true, false, cond, not, ◌&&◌, ◌||◌, leb, length, get_or, is_some, is_ok, Some, None, Option, Ok, Err, Result, refl, ap, ◌∙◌}
use Rattle.protocol.specs.declared.command.Request.{Request}
use Rattle.protocol.specs.declared.measures.Measures.{Measures}
use Rattle.protocol.specs.declared.refusal.Refusal.{Refusal}
use Rattle.protocol.specs.declared.refusal.Refusal.TheVariants.{TableLength}
use Rattle.protocol.specs.declared.table.Effect.{Effect}
use Rattle.protocol.specs.Entries.{valid, modified}
use Rattle.protocol.specs.StateTable.{cell_of}
use Rattle.memory.specs.Meaning.{grants}
use Rattle.cluster.specs.Board.{Board, refusing, unless_err}
use Rattle.cluster.specs.declared.case.Case.{Case}
use Rattle.cluster.specs.Copies.{line_at}
use Rattle.cluster.specs.declared.supply.Supply.{Supply}
use Rattle.cluster.specs.declared.ways.Taken.{Taken}
use Rattle.cluster.specs.Doing.{asks_for_block, lock_hit, supplied_by, supplied, victim_of, swapped_out, memory_after}
use Rattle.cluster.specs.Finishing.{way_taken}
use Rattle.cluster.specs.Locks.{held_entry, free_entry}
use Rattle.cluster.specs.Making.{resting, tables_fit}
use Rattle.cluster.specs.Refusing.{is_direct_write, unless_checked, case_of}
use Rattle.cluster.specs.Rule.{unless_some, waiting, finishing, swapping, supplying, proceeding, meeting, command_rule}
use Rattle.cluster.specs.Settling.{takes_lock, releases_lock}
use Rattle.law.proofs.Copied.{modified_valid}
use Rattle.law.proofs.Invariant.{at_in}
use Rattle.law.proofs.Shapes.{found, copy, holder, action_of, met}
use Rattle.recipe.specs.Runs.{is_done}

-- a test that does not refuse
pass : {X : Type 0} (t : Bool) (e : Refusal) (rest : Result X Refusal) (x : X) → t ≡ false
    → rest ≡ Ok x → cond t (Err e) rest ≡ Ok x
pass true e rest x fails h = absurd (cc)
pass false e rest x fails h = h

-- memory has what each valid line's block needs, should it be swapped out
abbrev pub Returnable : Board → Type 0
Returnable b = (i : ℕ) → valid (at_in b.lines i).state ≡ true
    → grants b.memory (at_in b.lines i).block ≡ true

module _ (m : Measures) (b : Board) (q : Request) where
  pub record Granted : Type 0 where
    pub fit : tables_fit m (length b.lines) (length b.locks) ≡ true
    pub known : leb m.processors q.processor ≡ false
    pub inside : leb (4 * b.memory.count) q.address ≡ false
    pub idle : is_some (get_or b.processors q.processor resting).waits_for ≡ false
    pub not_held : (takes_lock q.command && is_some (held_entry m b.locks q.processor q.address)) ≡ false
    pub room : (takes_lock q.command && not (is_some (free_entry m b.locks q.processor))) ≡ false
    pub held : (releases_lock q.command
        && not (is_some (held_entry m b.locks q.processor q.address))) ≡ false
    pub alone : (is_direct_write (action_of m b q) && not (valid (found m b q))
        && (is_some (copy m b q) || is_some (holder m b q))) ≡ false
    pub effect : Effect
    pub cell : cell_of (action_of m b q) (found m b q) ≡ Some effect
    pub free : is_some (holder m b q) ≡ false
    pub readable : grants b.memory (q.address / 4) ≡ true
    pub returnable : Returnable b

  module _ (g : Granted) where
    abbrev c : Case
    c = met m b q g.effect

    by_cell : (cell : Option Effect) → cell ≡ Some g.effect
        → unless_checked (found m b q) cell (met m b q) ≡ Ok c
    by_cell None e = absurd (cc)
    by_cell (Some effect) e = ap (λ o. unless_checked (found m b q) o (met m b q)) e

    case_is : case_of m b.processors b.lines b.locks b.memory.count q ≡ Ok c
    case_is =
        pass _ _ _ _ g.known
        (pass _ _ _ _ g.inside
        (pass _ _ _ _ g.idle
        (pass _ _ _ _ g.not_held
        (pass _ _ _ _ g.room
        (pass _ _ _ _ g.held
        (pass _ _ _ _ g.alone (by_cell (cell_of (action_of m b q) (found m b q)) g.cell)))))))

    no_hit : lock_hit c ≡ None
    no_hit = by_holder (holder m b q) g.free (asks_for_block g.effect.bus) g.effect.lk
      where
        by_holder : (h : Option ℕ) → is_some h ≡ false → (asks lk : Bool)
            → cond asks h (cond lk h None) ≡ None
        by_holder (Some h) e asks lk = absurd (cc)
        by_holder None e true lk = refl
        by_holder None e false true = refl
        by_holder None e false false = refl

    given : is_ok (supplied m b.lines b.memory c) ≡ true
    given = by_ask (asks_for_block g.effect.bus)
      where
        by_copy : (o : Option ℕ) → is_ok (supplied_by m b.lines b.memory c.block o) ≡ true
        by_copy (Some p) = refl
        by_copy None = rw g.readable refl

        by_ask : (asks : Bool)
            → is_ok (cond asks (supplied_by m b.lines b.memory c.block c.copy)
            (Ok (record { words = (line_at b.lines c.place).words; from = None }))) ≡ true
        by_ask true = by_copy c.copy
        by_ask false = refl

    swapped : (taken : Option Taken) → is_ok (swapped_out b.memory (victim_of b.lines taken)) ≡ true
    swapped None = refl
    swapped (Some way) = by_state (modified (at_in b.lines way.place).state) refl
      where
        by_state : (s : Bool) → modified (at_in b.lines way.place).state ≡ s
            → is_ok (swapped_out b.memory (cond s (Some (at_in b.lines way.place)) None)) ≡ true
        by_state false e = refl
        by_state true e =
            rw (g.returnable way.place (modified_valid (at_in b.lines way.place).state e)) refl

    swapping_done : (s : Supply) → is_done (swapping m b c s).answer ≡ true
    swapping_done s =
        by_swap (swapped_out b.memory (victim_of b.lines (way_taken m b.processors b.lines c)))
        (swapped (way_taken m b.processors b.lines c))
      where
        by_swap : (r : Result (Option ℕ) Refusal) → is_ok r ≡ true
            → is_done (unless_err b r
            (λ x. finishing m b c s (way_taken m b.processors b.lines c) x
            (memory_after b.memory (victim_of b.lines (way_taken m b.processors b.lines c))))).answer
            ≡ true
        by_swap (Err e) h = absurd (cc)
        by_swap (Ok x) h = refl

    by_supply : (r : Result Supply Refusal) → is_ok r ≡ true
        → is_done (unless_err b r (swapping m b c)).answer ≡ true
    by_supply (Err e) h = absurd (cc)
    by_supply (Ok s) h = swapping_done s

    pub granted_done : is_done (command_rule m b q).answer ≡ true
    granted_done =
        ap (λ f. is_done (cond f (meeting m b q) (refusing b TableLength)).answer) g.fit
        ∙ ap (λ r. is_done (unless_err b r (proceeding m b)).answer) case_is
        ∙ ap (λ h. is_done (unless_some (waiting m b c) h (supplying m b c)).answer) no_hit
        ∙ by_supply (supplied m b.lines b.memory c) given
