-- What the state table's cells leave, by one test over the whole table for hits and one for misses.
use Rattle.std.proofs.Common.{◌≡◌, ℕ, ◌%◌, Bool, true, false, cond, not, ◌&&◌, ◌||◌, ◌⊎◌, eqb, List, Some, None, Option, sym, refl, ap, ◌∙◌, inl, inr, arith}
use Rattle.std.proofs.lemmas.Bool.{true≢false, false≢true, and_parts, or_cases, not-true, cond_both}
use Rattle.std.proofs.lemmas.Bool.Decides.{nat_tests}
use Rattle.protocol.specs.declared.command.Action.{Action}
use Rattle.protocol.specs.declared.command.Action.TheVariants.{R, W, DW, RI, RP, LR, UW, U}
use Rattle.protocol.specs.declared.command.BusCommand.{BusCommand}
use Rattle.protocol.specs.declared.command.BusCommand.TheVariants.{F, FI, I as bus_i}
use Rattle.protocol.specs.declared.state.State.{State}
use Rattle.protocol.specs.declared.state.State.TheVariants.{I, S, SM, EC, EM}
use Rattle.protocol.specs.declared.table.Effect.{Effect}
use Rattle.protocol.specs.declared.command.Command.{Command}
use Rattle.protocol.specs.declared.command.Command.TheVariants as command
use Rattle.protocol.specs.Acting.{acts_as, words_left}
use Rattle.protocol.specs.Entries.{valid}
use Rattle.protocol.specs.StateTable.{cell_of, column_for}
use Rattle.cluster.specs.Doing.{asks_for_block, is_unlock}
use Rattle.cluster.specs.Refusing.{is_direct_write}
use Rattle.cluster.specs.Settling.{takes_lock}
use Rattle.law.specs.Law.{exclusive, reads}
use Rattle.law.proofs.Hearing.{clears}
use Rattle.law.proofs.Words.{purging, fresh}

abbrev every_state : (State → Bool) → Bool
every_state P = P I && P S && P SM && P EC && P EM

at_state : (P : State → Bool) → every_state P ≡ true → (s : State) → P s ≡ true
at_state P h s = by_parts (and_parts _ _ h) s
  where
    by_parts : ((P I && P S && P SM && P EC) ≡ true) × (P EM ≡ true) → (s : State) → P s ≡ true
    by_parts t EM = t.1
    by_parts t EC = (and_parts (P I && P S && P SM) (P EC) t.0).1
    by_parts t SM = (and_parts (P I && P S) (P SM) (and_parts (P I && P S && P SM) (P EC) t.0).0).1
    by_parts t S =
        (and_parts (P I) (P S)
        (and_parts (P I && P S) (P SM) (and_parts (P I && P S && P SM) (P EC) t.0).0).0).1
    by_parts t I =
        (and_parts (P I) (P S)
        (and_parts (P I && P S) (P SM) (and_parts (P I && P S && P SM) (P EC) t.0).0).0).0

abbrev tested : (Effect → Bool) → Option Effect → Bool
tested P None = true
tested P (Some e) = P e

at_cell : (P : Effect → Bool) (cell : Option Effect) (e : Effect) → tested P cell ≡ true → cell ≡ Some e
    → P e ≡ true
at_cell P cell e h is = ap (tested P) (sym is) ∙ h

-- reading a test
abbrev same : State → State → Bool
same s t = eqb (column_for s) (column_for t)

of_column : ℕ → State
of_column n = cond (eqb n 0) EM (cond (eqb n 1) EC (cond (eqb n 2) SM (cond (eqb n 3) S I)))

column_back : (s : State) → of_column (column_for s) ≡ s
unfolding of_column
column_back I = refl
column_back S = refl
column_back SM = refl
column_back EC = refl
column_back EM = refl

is_same : (s t : State) → same s t ≡ true → t ≡ s
is_same s t h =
    let columns : column_for s ≡ column_for t = grind (arith, nat_tests, h) in
    sym (column_back t) ∙ ap of_column (sym columns) ∙ column_back s

abbrev quiet : Option BusCommand → Bool
quiet None = true
quiet (Some bus) = false

is_quiet : (bus : Option BusCommand) → quiet bus ≡ true → bus ≡ None
is_quiet None h = refl
is_quiet (Some bus) h = absurd (cc)

abbrev fetching : Option BusCommand → Bool
fetching None = false
fetching (Some F) = true
fetching (Some FI) = false
fetching (Some bus_i) = false

is_fetching : (bus : Option BusCommand) → fetching bus ≡ true → bus ≡ Some F
is_fetching None h = absurd (cc)
is_fetching (Some F) h = refl
is_fetching (Some FI) h = absurd (cc)
is_fetching (Some bus_i) h = absurd (cc)

abbrev taking : Option BusCommand → Bool
taking None = false
taking (Some F) = false
taking (Some FI) = true
taking (Some bus_i) = false

is_taking : (bus : Option BusCommand) → taking bus ≡ true → bus ≡ Some FI
is_taking None h = absurd (cc)
is_taking (Some F) h = absurd (cc)
is_taking (Some FI) h = refl
is_taking (Some bus_i) h = absurd (cc)

-- the action writes a word of its block
abbrev pub writes : Action → Bool
writes R = false
writes W = true
writes DW = true
writes RI = false
writes RP = false
writes LR = false
writes UW = true
writes U = false

-- the action drops its block
abbrev pub drops : Action → Bool
drops R = false
drops W = false
drops DW = false
drops RI = false
drops RP = true
drops LR = false
drops UW = false
drops U = false

abbrev pub takes_lock_as : Action → Bool
takes_lock_as R = false
takes_lock_as W = false
takes_lock_as DW = false
takes_lock_as RI = false
takes_lock_as RP = false
takes_lock_as LR = true
takes_lock_as UW = false
takes_lock_as U = false

-- a DW writes
pub unwritten : (a : Action) → writes a ≡ false → is_direct_write a ≡ false
unwritten R w = refl
unwritten W w = refl
unwritten DW w = absurd (cc)
unwritten RI w = refl
unwritten RP w = refl
unwritten LR w = refl
unwritten UW w = refl
unwritten U w = refl

-- no other copy is left: the copy found was exclusive, or the bus command clears the others
abbrev pub sole : State → Effect → Bool
sole f e = exclusive f || clears e.bus

-- the own cache has the block
pub data Hit (a : Action) (f : State) (e : Effect) : Type 0 where
  keeps : e.bus ≡ None → e.from_memory ≡ f → writes a ≡ false → drops a ≡ false → Hit a f e
  owns : sole f e ≡ true → e.from_memory ≡ EM → drops a ≡ false → Hit a f e
  empties : sole f e ≡ true → e.from_memory ≡ I → drops a ≡ true → Hit a f e

abbrev hit_keeps : Action → State → Effect → Bool
hit_keeps a f e = quiet e.bus && same f e.from_memory && not (writes a) && not (drops a)

abbrev hit_owns : Action → State → Effect → Bool
hit_owns a f e = sole f e && same EM e.from_memory && not (drops a)

abbrev hit_empties : Action → State → Effect → Bool
hit_empties a f e = sole f e && same I e.from_memory && drops a

abbrev locks_alone : Action → State → Effect → Bool
locks_alone a f e = not (takes_lock_as a) || sole f e

abbrev hit_leaves : Action → State → Effect → Bool
hit_leaves a f e =
    not (asks_for_block e.bus) && locks_alone a f e
    && (hit_keeps a f e || hit_owns a f e || hit_empties a f e)

abbrev hit_test : Action → State → Bool
hit_test a f = not (valid f) || tested (hit_leaves a f) (cell_of a f)

-- the own cache does not have it
pub data Miss (a : Action) (e : Effect) : Type 0 where
  reads_shared : e.bus ≡ Some F → e.from_cache ≡ S → e.from_memory ≡ EC → writes a ≡ false
      → drops a ≡ false → Miss a e
  takes : e.bus ≡ Some FI → e.from_cache ≡ EM
      → (e.from_memory ≡ EM) ⊎ ((e.from_memory ≡ EC) × (writes a ≡ false)) → drops a ≡ false → Miss a e
  purges : e.bus ≡ Some FI → e.from_cache ≡ I → e.from_memory ≡ I → drops a ≡ true → Miss a e
  makes : e.bus ≡ None → is_direct_write a ≡ true → e.from_memory ≡ EM → drops a ≡ false → Miss a e

abbrev miss_reads : Action → Effect → Bool
miss_reads a e =
    fetching e.bus && same S e.from_cache && same EC e.from_memory && not (writes a) && not (drops a)

abbrev miss_takes : Action → Effect → Bool
miss_takes a e =
    taking e.bus && same EM e.from_cache
    && (same EM e.from_memory || (same EC e.from_memory && not (writes a))) && not (drops a)

abbrev miss_purges : Action → Effect → Bool
miss_purges a e = taking e.bus && same I e.from_cache && same I e.from_memory && drops a

abbrev miss_makes : Action → Effect → Bool
miss_makes a e = quiet e.bus && is_direct_write a && same EM e.from_memory && not (drops a)

abbrev miss_leaves : Action → Effect → Bool
miss_leaves a e =
    (not (takes_lock_as a) || taking e.bus)
    && (miss_reads a e || miss_takes a e || miss_purges a e || miss_makes a e)

abbrev miss_test : Action → Bool
miss_test a = is_unlock a || tested (miss_leaves a) (cell_of a I)

abbrev every_action : (Action → Bool) → Bool
every_action P = P R && P W && P DW && P RI && P RP && P LR && P UW && P U

hits_pass : every_action (λ a. every_state (hit_test a)) ≡ true
hits_pass = refl

misses_pass : every_action miss_test ≡ true
misses_pass = refl

at_action : (P : Action → Bool) → every_action P ≡ true → (a : Action) → P a ≡ true
at_action P h a = by_parts a
  where
    to_uw : (P R && P W && P DW && P RI && P RP && P LR && P UW) ≡ true
    to_uw = (and_parts _ (P U) h).0

    to_lr : (P R && P W && P DW && P RI && P RP && P LR) ≡ true
    to_lr = (and_parts _ (P UW) to_uw).0

    to_rp : (P R && P W && P DW && P RI && P RP) ≡ true
    to_rp = (and_parts _ (P LR) to_lr).0

    to_ri : (P R && P W && P DW && P RI) ≡ true
    to_ri = (and_parts _ (P RP) to_rp).0

    to_dw : (P R && P W && P DW) ≡ true
    to_dw = (and_parts _ (P RI) to_ri).0

    to_w : (P R && P W) ≡ true
    to_w = (and_parts _ (P DW) to_dw).0

    by_parts : (a : Action) → P a ≡ true
    by_parts R = (and_parts (P R) (P W) to_w).0
    by_parts W = (and_parts (P R) (P W) to_w).1
    by_parts DW = (and_parts (P R && P W) (P DW) to_dw).1
    by_parts RI = (and_parts (P R && P W && P DW) (P RI) to_ri).1
    by_parts RP = (and_parts (P R && P W && P DW && P RI) (P RP) to_rp).1
    by_parts LR = (and_parts (P R && P W && P DW && P RI && P RP) (P LR) to_lr).1
    by_parts UW = (and_parts (P R && P W && P DW && P RI && P RP && P LR) (P UW) to_uw).1
    by_parts U = (and_parts (P R && P W && P DW && P RI && P RP && P LR && P UW) (P U) h).1

module _ (a : Action) (e : Effect) where
  pub record HitCell (f : State) : Type 0 where
    pub unasked : asks_for_block e.bus ≡ false
    pub locked_alone : takes_lock_as a ≡ true → sole f e ≡ true
    pub kind : Hit a f e

  or_not : (x y : Bool) → (not x || y) ≡ true → x ≡ true → y ≡ true
  or_not true y h is = h
  or_not false y h is = absurd (cc)

  pub hit : (f : State) → valid f ≡ true → cell_of a f ≡ Some e → HitCell f
  hit f v is =
      let kinds = hit_keeps a f e || hit_owns a f e || hit_empties a f e in
      let tests = at_state (hit_test a) (at_action (λ x. every_state (hit_test x)) hits_pass a) f in
      let all = at_cell (hit_leaves a f) (cell_of a f) e
      (or_not (valid f) (tested (hit_leaves a f) (cell_of a f)) tests v) is in
      let part = and_parts (not (asks_for_block e.bus) && locks_alone a f e) kinds all in
      let first = and_parts (not (asks_for_block e.bus)) (locks_alone a f e) part.0 in
      record {
        unasked = not-true (asks_for_block e.bus) first.0;
        locked_alone = or_not (takes_lock_as a) (sole f e) first.1;
        kind = elim (or_cases (hit_keeps a f e || hit_owns a f e) (hit_empties a f e) part.1) [
          | inl two ↦ elim (or_cases (hit_keeps a f e) (hit_owns a f e) two) [
            | inl t ↦
                let p = and_parts (quiet e.bus && same f e.from_memory && not (writes a)) (not (drops a))
                t in
                let r = and_parts (quiet e.bus && same f e.from_memory) (not (writes a)) p.0 in
                let s = and_parts (quiet e.bus) (same f e.from_memory) r.0 in
                keeps (is_quiet e.bus s.0) (is_same f e.from_memory s.1) (not-true (writes a) r.1)
                (not-true (drops a) p.1)
            | inr t ↦
                let p = and_parts (sole f e && same EM e.from_memory) (not (drops a)) t in
                let r = and_parts (sole f e) (same EM e.from_memory) p.0 in
                owns r.0 (is_same EM e.from_memory r.1) (not-true (drops a) p.1)
          ]
          | inr t ↦
              let p = and_parts (sole f e && same I e.from_memory) (drops a) t in
              let r = and_parts (sole f e) (same I e.from_memory) p.0 in
              empties r.0 (is_same I e.from_memory r.1) p.1
        ];
      }

  pub record MissCell : Type 0 where
    pub locked_taking : takes_lock_as a ≡ true → e.bus ≡ Some FI
    pub kind : Miss a e

  or_else : (x y : Bool) → (x || y) ≡ true → x ≡ false → y ≡ true
  or_else true y h is = absurd (cc)
  or_else false y h is = h

  pub miss : is_unlock a ≡ false → cell_of a I ≡ Some e → MissCell
  miss u is =
      let all = at_cell (miss_leaves a) (cell_of a I) e
      (or_else (is_unlock a) (tested (miss_leaves a) (cell_of a I)) (at_action miss_test misses_pass a) u)
      is in
      let part = and_parts (not (takes_lock_as a) || taking e.bus)
      (miss_reads a e || miss_takes a e || miss_purges a e || miss_makes a e) all in
      record {
        locked_taking = λ h. is_taking e.bus (or_not (takes_lock_as a) (taking e.bus) part.0 h);
        kind = elim (or_cases (miss_reads a e || miss_takes a e || miss_purges a e) (miss_makes a e)
            part.1) [
              | inl three ↦ elim (or_cases (miss_reads a e || miss_takes a e) (miss_purges a e) three) [
                | inl two ↦ elim (or_cases (miss_reads a e) (miss_takes a e) two) [
                  | inl t ↦
                      let p = and_parts
                      (fetching e.bus && same S e.from_cache && same EC e.from_memory && not (writes a))
                      (not (drops a)) t in
                      let q = and_parts (fetching e.bus && same S e.from_cache && same EC e.from_memory)
                      (not (writes a)) p.0 in
                      let r = and_parts (fetching e.bus && same S e.from_cache) (same EC e.from_memory) q.0 in
                      let s = and_parts (fetching e.bus) (same S e.from_cache) r.0 in
                      reads_shared (is_fetching e.bus s.0) (is_same S e.from_cache s.1)
                      (is_same EC e.from_memory r.1) (not-true (writes a) q.1) (not-true (drops a) p.1)
                  | inr t ↦
                      let p = and_parts
                      (taking e.bus && same EM e.from_cache
                      && (same EM e.from_memory || (same EC e.from_memory && not (writes a)))) (not (drops a))
                      t in
                      let q = and_parts (taking e.bus && same EM e.from_cache)
                      (same EM e.from_memory || (same EC e.from_memory && not (writes a))) p.0 in
                      let r = and_parts (taking e.bus) (same EM e.from_cache) q.0 in
                      takes (is_taking e.bus r.0) (is_same EM e.from_cache r.1)
                      (elim (or_cases (same EM e.from_memory) (same EC e.from_memory && not (writes a))
                      q.1) [
                        | inl em ↦ inl (is_same EM e.from_memory em)
                        | inr ec ↦ let w =
                            and_parts (same EC e.from_memory) (not (writes a)) ec in
                            inr (is_same EC e.from_memory w.0, not-true (writes a) w.1)
                      ]) (not-true (drops a) p.1)
                ]
                | inr t ↦
                    let p = and_parts (taking e.bus && same I e.from_cache && same I e.from_memory) (drops a)
                    t in
                    let q = and_parts (taking e.bus && same I e.from_cache) (same I e.from_memory) p.0 in
                    let r = and_parts (taking e.bus) (same I e.from_cache) q.0 in
                    purges (is_taking e.bus r.0) (is_same I e.from_cache r.1) (is_same I e.from_memory q.1)
                    p.1
              ]
              | inr t ↦
                  let p = and_parts (quiet e.bus && is_direct_write a && same EM e.from_memory)
                  (not (drops a)) t in
                  let q = and_parts (quiet e.bus && is_direct_write a) (same EM e.from_memory) p.0 in
                  let r = and_parts (quiet e.bus) (is_direct_write a) q.0 in
                  makes (is_quiet e.bus r.0) r.1 (is_same EM e.from_memory q.1) (not-true (drops a) p.1)
            ];
      }

-- what a command acts as, in the words of its action
module _ (address : ℕ) (found : State) (elsewhere : Bool) where
  abbrev acting : Command → Action
  acting c = acts_as c address found elsewhere

  -- DW acts as DW or W, and RB as RP, RI or R
  dw_acts : (word : ℕ) (P : Action → Type 0) → P DW → P W → P (acting (command.DW word))
  dw_acts word P dw w = cond_both (eqb (address % 4) 0) DW W P (λ e. dw) (λ e. w)

  rb_acts : (P : Action → Type 0) → P RP → P RI → P R → P (acting command.RB)
  rb_acts P rp ri r =
      cond_both (eqb (address % 4) 3) RP _ P (λ e. rp)
      (λ e. cond_both (not (valid found) && elsewhere) RI R P (λ e. ri) (λ e. r))

  pub acts_drops : (c : Command) → drops (acting c) ≡ purging c address
  acts_drops command.R = refl
  acts_drops (command.W word) = refl
  acts_drops (command.DW word) = dw_acts word (λ a. drops a ≡ false) refl refl
  acts_drops command.RI = refl
  acts_drops command.RP = refl
  acts_drops command.RB = by_last (eqb (address % 4) 3) (not (valid found) && elsewhere)
    where
      by_last : (b d : Bool) → drops (cond b RP (cond d RI R)) ≡ b
      by_last true d = refl
      by_last false true = refl
      by_last false false = refl
  acts_drops command.LR = refl
  acts_drops (command.UW word) = refl
  acts_drops command.U = refl

  pub acts_writes : (c : Command) (ws : List ℕ) → writes (acting c) ≡ false → words_left c address ws ≡ ws
  acts_writes command.R ws h = refl
  acts_writes (command.W word) ws h = absurd (cc)
  acts_writes (command.DW word) ws h =
      absurd (dw_acts word (λ a. writes a ≡ false → ⊥) true≢false true≢false h)
  acts_writes command.RI ws h = refl
  acts_writes command.RP ws h = refl
  acts_writes command.RB ws h = refl
  acts_writes command.LR ws h = refl
  acts_writes (command.UW word) ws h = absurd (cc)
  acts_writes command.U ws h = refl

  pub acts_fresh : (c : Command) → is_direct_write (acting c) ≡ fresh c address
  acts_fresh command.R = refl
  acts_fresh (command.W word) = refl
  acts_fresh (command.DW word) = by_start (eqb (address % 4) 0)
    where
      by_start : (b : Bool) → is_direct_write (cond b DW W) ≡ b
      by_start true = refl
      by_start false = refl
  acts_fresh command.RI = refl
  acts_fresh command.RP = refl
  acts_fresh command.RB = rb_acts (λ a. is_direct_write a ≡ false) refl refl refl
  acts_fresh command.LR = refl
  acts_fresh (command.UW word) = refl
  acts_fresh command.U = refl

  pub acts_locks : (c : Command) → takes_lock c ≡ true → takes_lock_as (acting c) ≡ true
  acts_locks command.LR h = refl
  acts_locks command.R h = absurd (cc)
  acts_locks (command.W word) h = absurd (cc)
  acts_locks (command.DW word) h = absurd (cc)
  acts_locks command.RI h = absurd (cc)
  acts_locks command.RP h = absurd (cc)
  acts_locks command.RB h = absurd (cc)
  acts_locks (command.UW word) h = absurd (cc)
  acts_locks command.U h = absurd (cc)

  pub acts_reads : (c : Command) → reads c ≡ true
      → (is_unlock (acting c) ≡ false) × (fresh c address ≡ false)
  acts_reads command.R h = (refl, refl)
  acts_reads (command.W word) h = absurd (cc)
  acts_reads (command.DW word) h = absurd (cc)
  acts_reads command.RI h = (refl, refl)
  acts_reads command.RP h = (refl, refl)
  acts_reads command.RB h = (rb_acts (λ a. is_unlock a ≡ false) refl refl refl, refl)
  acts_reads command.LR h = (refl, refl)
  acts_reads (command.UW word) h = absurd (cc)
  acts_reads command.U h = absurd (cc)

  pub acts_unlock : (c : Command) → is_unlock (acting c) ≡ true → c ≡ command.U
  acts_unlock command.R h = absurd (cc)
  acts_unlock (command.W word) h = absurd (cc)
  acts_unlock (command.DW word) h =
      absurd (dw_acts word (λ a. is_unlock a ≡ true → ⊥) false≢true false≢true h)
  acts_unlock command.RI h = absurd (cc)
  acts_unlock command.RP h = absurd (cc)
  acts_unlock command.RB h =
      absurd (rb_acts (λ a. is_unlock a ≡ true → ⊥) false≢true false≢true false≢true h)
  acts_unlock command.LR h = absurd (cc)
  acts_unlock (command.UW word) h = absurd (cc)
  acts_unlock command.U h = refl

-- a U that finds I sends nothing
pub unlock_quiet : (a : Action) (e : Effect) → is_unlock a ≡ true → cell_of a I ≡ Some e → e.bus ≡ None
unlock_quiet U e h is = sym (ap (λ o. bus_of o) is)
  where
    bus_of : Option Effect → Option BusCommand
    bus_of None = None
    bus_of (Some x) = x.bus
unlock_quiet R e h is = absurd (cc)
unlock_quiet W e h is = absurd (cc)
unlock_quiet DW e h is = absurd (cc)
unlock_quiet RI e h is = absurd (cc)
unlock_quiet RP e h is = absurd (cc)
unlock_quiet LR e h is = absurd (cc)
unlock_quiet UW e h is = absurd (cc)
