-- Calls on a board, one after another.
use Rattle.std.specs.Prelude.{ℕ, List, Option, Result}
use Rattle.protocol.specs.declared.answer.Answer.{Answer}
use Rattle.protocol.specs.declared.command.Request.{Request}
use Rattle.protocol.specs.declared.measures.Measures.{Measures}
use Rattle.protocol.specs.declared.refusal.Refusal.{Refusal}
use Rattle.cluster.specs.Board.{Board}
use Rattle.cluster.specs.Rule.{command_rule}
use Rattle.upkeep.specs.declared.drain.Drained.{Drained}
use Rattle.upkeep.specs.Counting.{census_rule}
use Rattle.upkeep.specs.Draining.{drain_rule}
use Rattle.upkeep.specs.Holding.{question_rule}

pub data Call : Type 0 where
  command : Request → Call
  drain : Call
  census : Call
  question : ℕ → Call

pub data Said : Type 0 where
  answered : Result Answer Refusal → Said
  drained : Result Drained Refusal → Said
  counted : Result (List (List ℕ)) Refusal → Said
  told : Result (Option ℕ) Refusal → Said

module _ (m : Measures) where
  abbrev pub said_by : Board → Call → Said
  said_by b (command q) = answered (command_rule m b q).answer
  said_by b drain = drained (drain_rule m b).answer
  said_by b census = counted (census_rule m b)
  said_by b (question address) = told (question_rule m b address)

  abbrev pub left_by : Board → Call → Board
  left_by b (command q) = (command_rule m b q).board
  left_by b drain = (drain_rule m b).board
  left_by b census = b
  left_by b (question address) = b
