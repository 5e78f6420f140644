-- The lines of a listing, byte for byte.
use Rattle.std.specs.Prelude.{ℕ, if◌then◌else◌, List, [], ◌∷◌, ◌++◌, Ok, Err, codes, Result, nat_lt}
use Rattle.protocol.specs.declared.answer.Answer.{Answer}
use Rattle.protocol.specs.declared.answer.Answer.TheVariants.{Done, Wait}
use Rattle.protocol.specs.declared.refusal.Refusal.{Refusal}
use Rattle.protocol.specs.declared.refusal.Refusal.TheVariants as refusal
use Rattle.protocol.specs.Answers.{word_in, found_in, left_in, cycles_in}
use Rattle.protocol.specs.Numbers.{number_of}
use Rattle.text.specs.declared.lines.ShownAnswer.{ShownAnswer}
use Rattle.text.specs.declared.step.Step.{Step}
use Rattle.text.specs.declared.step.Summary.{Summary}
use Rattle.text.specs.Digits.{fixed}
use Rattle.text.specs.Names.{command_named, state_named}

-- one space stands between fields, byte 10 behind the last
abbrev pub field : List ℕ → List ℕ
field text = text ++ (32 ∷ [])

abbrev pub last_field : List ℕ → List ℕ
last_field text = text ++ (10 ∷ [])

abbrev pub answer_named : Answer → List ℕ
answer_named (Done done) = codes "OK"
answer_named (Wait hit) = codes "WT"

-- a refusal shows its number, word 0, no states and no cycles
abbrev pub shown_of : Result Answer Refusal → ShownAnswer
shown_of (Ok answer) =
    record {
      name = answer_named answer;
      word = word_in answer;
      found = state_named (found_in answer);
      left = state_named (left_in answer);
      cycles = cycles_in answer;
    }
shown_of (Err refusal) =
    record {
      name = fixed 10 2 (number_of refusal);
      word = 0;
      found = codes "--";
      left = codes "--";
      cycles = 0;
    }

abbrev pub shown_line : ShownAnswer → List ℕ
shown_line s =
    field s.name ++ (field (fixed 16 8 s.word)
    ++ (field s.found ++ (field s.left ++ last_field (fixed 10 4 s.cycles))))

-- step, processor, command, address, answer, word, state found, state left, cycles
unfoldable pub line_of : Step → List ℕ
line_of step =
    field (fixed 10 7 step.number) ++ (field (fixed 10 1 step.request.processor)
    ++ (field (command_named step.request.command)
    ++ (field (fixed 16 8 step.request.address) ++ shown_line (shown_of step.answer))))

-- STUCK only where records are left
abbrev pub stuck_line : ℕ → List ℕ
stuck_line left =
    if nat_lt 0 left then field (codes "STUCK") ++ last_field (fixed 10 7 left) else []

unfoldable pub summary_lines : Summary → List ℕ
summary_lines s =
    field (codes "TOTAL") ++ (last_field (fixed 10 12 s.cycles) ++ stuck_line s.left)

-- a trace that cannot be read prints only this
abbrev number_line : Refusal → List ℕ
number_line e = field (codes "TRACE") ++ last_field (fixed 10 2 (number_of e))

abbrev pub refusal_line : Refusal → List ℕ
refusal_line (refusal.Record index) =
    field (codes "TRACE") ++ (field (codes "13") ++ last_field (fixed 10 7 index))
refusal_line e = number_line e
