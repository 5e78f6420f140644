-- What the answer of a command makes of a hold.
use Rattle.std.specs.Prelude.{ℕ, Bool, true, false, if◌then◌else◌, List, [], ◌∷◌, Ok, Err, Result, ◌==◌}
use Rattle.protocol.specs.declared.answer.Answer.{Answer}
use Rattle.protocol.specs.declared.answer.Answer.TheVariants.{Done, Wait}
use Rattle.protocol.specs.declared.command.Command.{Command}
use Rattle.protocol.specs.declared.command.Command.TheVariants.{LR}
use Rattle.protocol.specs.declared.command.Request.{Request}
use Rattle.protocol.specs.declared.measures.Measures.{Measures}
use Rattle.protocol.specs.declared.refusal.Refusal.{Refusal}
use Rattle.protocol.specs.Numbers.{number_of}
use Rattle.cluster.specs.Board.{Board, Outcome}
use Rattle.cluster.specs.Rule.{command_rule}
use Rattle.law.specs.Calls.{Call, command}
use Rattle.holds.specs.declared.hold.Hold.{Hold}
use Rattle.holds.specs.declared.hold.Taken.{Taken}
use Rattle.holds.specs.declared.hold.Taken.TheVariants.{Held, NotHeld}
use Rattle.holds.specs.declared.hold.Released.{Released}
use Rattle.holds.specs.declared.hold.Released.TheVariants.{Ended, Back}
use Rattle.holds.specs.Issued.{by}

abbrev pub hold_at : ℕ → ℕ → Hold
hold_at processor address = record { processor = processor; address = address }

-- a done answer gives the hold with it, any other is given alone
abbrev pub taken : Hold → Result Answer Refusal → Taken
taken hold (Ok (Done done)) = Held hold done
taken hold (Ok (Wait hit)) = NotHeld (Ok (Wait hit))
taken hold (Err refusal) = NotHeld (Err refusal)

-- done, or refused with 8, ends a hold
abbrev pub ends : Result Answer Refusal → Bool
ends (Ok (Done done)) = true
ends (Ok (Wait hit)) = false
ends (Err refusal) = number_of refusal == 8

-- every other answer gives it back
abbrev pub released : Hold → Result Answer Refusal → Released
released hold answer = if ends answer then Ended answer else Back hold answer

abbrev pub answer_of : Released → Result Answer Refusal
answer_of (Ended answer) = answer
answer_of (Back hold answer) = answer

-- the command that takes a lock, and one that releases it
abbrev pub lr_at : ℕ → ℕ → Request
lr_at processor address = by processor LR address

abbrev pub sent : Hold → Command → Request
sent hold released_by = by hold.processor released_by hold.address

abbrev pub take_rule : Measures → ℕ → ℕ → Board → Outcome Answer
take_rule m processor address b = command_rule m b (lr_at processor address)

abbrev pub send_rule : Measures → Hold → Command → Board → Outcome Answer
send_rule m hold released_by b = command_rule m b (sent hold released_by)

-- the commands issued
abbrev pub taking : ℕ → ℕ → List Call
taking processor address = command (lr_at processor address) ∷ []

abbrev pub releasing : Hold → Command → List Call
releasing hold released_by = command (sent hold released_by) ∷ []
