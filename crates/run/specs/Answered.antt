-- What a step's answer costs, and whether it finishes its record.
use Rattle.std.specs.Prelude.{ℕ, Bool, true, false, Ok, Err, Result}
use Rattle.protocol.specs.declared.answer.Answer.{Answer}
use Rattle.protocol.specs.declared.answer.Answer.TheVariants.{Done, Wait}
use Rattle.protocol.specs.declared.refusal.Refusal.{Refusal}
use Rattle.protocol.specs.Answers.{cycles_in}

abbrev pub cost_of : Result Answer Refusal → ℕ
cost_of (Ok answer) = cycles_in answer
cost_of (Err refusal) = 0

-- WAIT leaves its record unfinished; every other answer, a refusal too, finishes it
abbrev pub finishes_record : Result Answer Refusal → Bool
finishes_record (Ok (Done done)) = true
finishes_record (Ok (Wait hit)) = false
finishes_record (Err refusal) = true
