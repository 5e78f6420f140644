-- Cache lines. A line that becomes I has its numbers and words set to 0.
use Rattle.std.specs.Prelude.{if◌then◌else◌, [], replicate}
use Rattle.protocol.specs.declared.state.State.{State}
use Rattle.protocol.specs.declared.state.State.TheVariants.{I}
use Rattle.protocol.specs.declared.line.Line.{Line}
use Rattle.protocol.specs.Entries.{valid}

abbrev pub blank_line : Line
blank_line = record { state = I; block = 0; words = replicate 4 0 }

-- what a list of lines has past its end
abbrev pub no_line : Line
no_line = record { state = I; block = 0; words = [] }

abbrev pub in_state : Line → State → Line
in_state line state =
    if valid state then record { state = state; block = line.block; words = line.words }
    else blank_line
