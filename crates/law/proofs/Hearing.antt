-- What a line becomes where a bus command is heard.
use Rattle.std.proofs.Common.{◌≡◌, ℕ, Bool, true, false, cond, Some, None, Option, sym, refl, ap, ◌∙◌}
use Rattle.std.proofs.lemmas.Bool.{false≢true}
use Rattle.protocol.specs.declared.command.BusCommand.{BusCommand}
use Rattle.protocol.specs.declared.command.BusCommand.TheVariants.{F, FI, I as bus_i}
use Rattle.protocol.specs.declared.line.Line.{Line}
use Rattle.protocol.specs.declared.state.State.{State}
use Rattle.protocol.specs.declared.state.State.TheVariants.{I, S, SM, EC, EM}
use Rattle.protocol.specs.Entries.{valid, modified}
use Rattle.protocol.specs.Lines.{blank_line, in_state}
use Rattle.protocol.specs.StateTable.{snooped}
use Rattle.cluster.specs.Copies.{holds_block}
use Rattle.law.specs.Law.{exclusive}
use Rattle.law.proofs.Copied.{copy_valid, BlockKept, kept_copy}

abbrev pub heard : Option BusCommand → Line → Line
heard None line = line
heard (Some bus) line = in_state line (snooped bus line.state)

-- a line put into a state: all of it is kept if the state is valid, and nothing otherwise
pub valid_in_state : (line : Line) (s : State) → valid (in_state line s).state ≡ true → valid s ≡ true
valid_in_state line s h = by_valid (valid s) refl h
  where
    by_valid : (b : Bool) → valid s ≡ b
        → valid (cond b (record { state = s; block = line.block; words = line.words }) blank_line).state
        ≡ true → valid s ≡ true
    by_valid true e h = e
    by_valid false e h = absurd (cc)

pub in_valid_state : (line : Line) (s : State) → valid s ≡ true
    → in_state line s ≡ record { state = s; block = line.block; words = line.words }
in_valid_state line s h = rw h refl

pub block_in_state : (line : Line) (s : State) → valid (in_state line s).state ≡ true
    → (in_state line s).block ≡ line.block
block_in_state line s h = ap (λ x. x.block) (in_valid_state line s (valid_in_state line s h))

snooped_valid : (bus : BusCommand) (s : State) → valid (snooped bus s) ≡ true → valid s ≡ true
snooped_valid F I h = h
snooped_valid FI I h = h
snooped_valid bus_i I h = h
snooped_valid bus S h = refl
snooped_valid bus SM h = refl
snooped_valid bus EC h = refl
snooped_valid bus EM h = refl

pub heard_kept : (bus : Option BusCommand) (line : Line) → BlockKept line (heard bus line)
heard_kept None line h = (h, refl)
heard_kept (Some bus) line h = (
  snooped_valid bus line.state (valid_in_state line (snooped bus line.state) h),
  block_in_state line
      (snooped bus line.state) h,
)

pub heard_copy : (bus : Option BusCommand) (line : Line) (b : ℕ) → holds_block b (heard bus line) ≡ true
    → holds_block b line ≡ true
heard_copy bus line b h = kept_copy line (heard bus line) (heard_kept bus line) b h

-- F keeps what is valid and modified, and leaves nothing exclusive
pub f_valid : (s : State) → valid (snooped F s) ≡ valid s
f_valid I = refl
f_valid S = refl
f_valid SM = refl
f_valid EC = refl
f_valid EM = refl

pub f_modified : (s : State) → modified (snooped F s) ≡ modified s
f_modified I = refl
f_modified S = refl
f_modified SM = refl
f_modified EC = refl
f_modified EM = refl

pub f_shares : (s : State) → exclusive (snooped F s) ≡ false
f_shares I = refl
f_shares S = refl
f_shares SM = refl
f_shares EC = refl
f_shares EM = refl

pub heard_f : (line : Line) → valid line.state ≡ true
    → heard (Some F) line ≡ record
    { state = snooped F line.state; block = line.block; words = line.words }
heard_f line h = in_valid_state line (snooped F line.state) (f_valid line.state ∙ h)

-- FI and I leave no copy
abbrev pub clears : Option BusCommand → Bool
clears None = false
clears (Some F) = false
clears (Some FI) = true
clears (Some bus_i) = true

none_left : (bus : BusCommand) (s : State) → clears (Some bus) ≡ true → valid (snooped bus s) ≡ false
none_left F s h = absurd (cc)
none_left FI I h = refl
none_left FI S h = refl
none_left FI SM h = refl
none_left FI EC h = refl
none_left FI EM h = refl
none_left bus_i I h = refl
none_left bus_i S h = refl
none_left bus_i SM h = refl
none_left bus_i EC h = refl
none_left bus_i EM h = refl

pub cleared : (bus : Option BusCommand) (line : Line) (b : ℕ) → clears bus ≡ true
    → holds_block b (heard bus line) ≡ true → ⊥
cleared None line b h c = cc
cleared (Some bus) line b h c =
    false≢true (sym (none_left bus line.state h)
    ∙ valid_in_state line (snooped bus line.state) (copy_valid b (heard (Some bus) line) c))
