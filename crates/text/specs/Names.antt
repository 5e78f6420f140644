-- The names of commands and states, filled to two places.
use Rattle.std.specs.Prelude.{ℕ, List, codes}
use Rattle.protocol.specs.declared.command.Command.{Command}
use Rattle.protocol.specs.declared.command.Command.TheVariants.{R, W, DW, RI, RP, RB, LR, UW, U}
use Rattle.protocol.specs.declared.state.State.{State}
use Rattle.protocol.specs.declared.state.State.TheVariants.{I, S, SM, EC, EM}

abbrev pub command_named : Command → List ℕ
command_named R = codes "R "
command_named (W word) = codes "W "
command_named (DW word) = codes "DW"
command_named RI = codes "RI"
command_named RP = codes "RP"
command_named RB = codes "RB"
command_named LR = codes "LR"
command_named (UW word) = codes "UW"
command_named U = codes "U "

abbrev pub state_named : State → List ℕ
state_named EM = codes "EM"
state_named EC = codes "EC"
state_named SM = codes "SM"
state_named S = codes "S "
state_named I = codes "I "
