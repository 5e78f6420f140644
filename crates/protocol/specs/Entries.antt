-- When an entry of a table is in use.
use Rattle.std.specs.Prelude.{Bool, true, false}
use Rattle.protocol.specs.declared.state.State.{State}
use Rattle.protocol.specs.declared.state.State.TheVariants.{I, S, SM, EC, EM}
use Rattle.protocol.specs.declared.lock.LockState.{LockState}
use Rattle.protocol.specs.declared.lock.LockState.TheVariants.{E, L, LW}

abbrev pub valid : State → Bool
valid I = false
valid S = true
valid SM = true
valid EC = true
valid EM = true

-- memory need not have the block's words
abbrev pub modified : State → Bool
modified I = false
modified S = false
modified SM = true
modified EC = false
modified EM = true

abbrev pub locked : LockState → Bool
locked E = false
locked L = true
locked LW = true
