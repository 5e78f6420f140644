-- What a U leaves of a clean block.
use Rattle.std.specs.Prelude.{◌≡◌, Ok, Result}
use Rattle.protocol.specs.declared.answer.Answer.{Answer}
use Rattle.protocol.specs.declared.answer.Answer.TheVariants.{Done}
use Rattle.protocol.specs.declared.answer.Completion.{Completion}
use Rattle.protocol.specs.declared.command.Command.TheVariants.{U}
use Rattle.protocol.specs.declared.command.Request.{Request}
use Rattle.protocol.specs.declared.refusal.Refusal.{Refusal}
use Rattle.protocol.specs.declared.state.State.TheVariants.{EC}
use Rattle.cluster.specs.Board.{Board}

-- every line and all of memory are as they were
pub record SameCopies (before after : Board) : Type 0 where
  pub lines : after.lines ≡ before.lines
  pub memory : after.memory ≡ before.memory

-- so they are after a done U that finds EC
abbrev pub LeavesClean : Request → Result Answer Refusal → Board → Board → Type 0
LeavesClean q answer before after =
    (done : Completion) → q.command ≡ U → answer ≡ Ok (Done done) → done.found ≡ EC
    → SameCopies before after
