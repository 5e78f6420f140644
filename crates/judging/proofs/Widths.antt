-- How many bytes the lines of a listing have.
use Rattle.std.proofs.Common.{◌≡◌, ℕ, zero, suc, ◌+◌, ◌*◌, ◌/◌, ◌%◌, ◌≤◌, Bool, true, false, List, [], ◌∷◌, ◌++◌, length, Ok, Err, Result, ltb, refl, arith, length-append}
use Rattle.std.specs.Prelude.{if◌then◌else◌, codes}
use Rattle.protocol.specs.declared.answer.Answer.{Answer}
use Rattle.protocol.specs.declared.answer.Answer.TheVariants.{Done, Wait}
use Rattle.protocol.specs.declared.command.Command.{Command}
use Rattle.protocol.specs.declared.command.Command.TheVariants.{R, W, DW, RI, RP, RB, LR, UW, U}
use Rattle.protocol.specs.declared.measures.Measures.{Measures}
use Rattle.protocol.specs.declared.refusal.Refusal.{Refusal}
use Rattle.protocol.specs.declared.state.State.{State}
use Rattle.protocol.specs.declared.state.State.TheVariants.{I, S, SM, EC, EM}
use Rattle.protocol.specs.Answers.{found_in, left_in}
use Rattle.protocol.specs.Numbers.{number_of}
use Rattle.memory.specs.Meaning.{Mem}
use Rattle.cluster.specs.Board.{new_board}
use Rattle.text.specs.declared.step.Step.{Step}
use Rattle.text.specs.declared.step.Summary.{Summary}
use Rattle.text.specs.Digits.{digit_of, fixed}
use Rattle.text.specs.Names.{command_named, state_named}
use Rattle.text.specs.Lines.{field, last_field, shown_of, shown_line, line_of, stuck_line, summary_lines}
use Rattle.trace.specs.declared.record.Record.{Record}
use Rattle.run.specs.Listing.{lines_of, all_lines, listing_on}
use Rattle.run.specs.Running.{started, steps_of, summary_of, ran}
use Rattle.judging.specs.Judged.{steps_on, steps_listed}

pub digits_long : (base width n : ℕ) → length (fixed base width n) ≡ width
unfolding fixed
digits_long base zero n = refl
digits_long base (suc width) n =
    let front = digits_long base width (n / base) in
    let all = length-append (fixed base width (n / base)) (digit_of (n % base) ∷ []) in
    omega arith

pub command_long : (c : Command) → length (command_named c) ≡ 2
command_long R = refl
command_long (W word) = refl
command_long (DW word) = refl
command_long RI = refl
command_long RP = refl
command_long RB = refl
command_long LR = refl
command_long (UW word) = refl
command_long U = refl

pub state_long : (s : State) → length (state_named s) ≡ 2
state_long EM = refl
state_long EC = refl
state_long SM = refl
state_long S = refl
state_long I = refl

-- the names that a line shows of an answer
pub record Named (r : Result Answer Refusal) : Type 0 where
  pub name : length (shown_of r).name ≡ 2
  pub found : length (shown_of r).found ≡ 2
  pub left : length (shown_of r).left ≡ 2

pub names_long : (r : Result Answer Refusal) → Named r
names_long (Ok (Done done)) =
    record {
      name =
          refl;
      found = state_long (found_in (Done done));
      left = state_long (left_in (Done done));
    }
names_long (Ok (Wait hit)) =
    record {
      name =
          refl;
      found = state_long (found_in (Wait hit));
      left = state_long (left_in (Wait hit));
    }
names_long (Err e) = record { name = digits_long 10 2 (number_of e); found = refl; left = refl }

field_long : (text rest : List ℕ) (n : ℕ) → length text ≡ n
    → length (field text ++ rest) ≡ n + 1 + length rest
field_long text rest n e =
    let whole = length-append (field text) rest in
    let part = length-append text (32 ∷ []) in
    omega arith

last_long : (text : List ℕ) (n : ℕ) → length text ≡ n → length (last_field text) ≡ n + 1
last_long text n e = let part = length-append text (10 ∷ []) in omega arith

shown_long : (r : Result Answer Refusal) → length (shown_line (shown_of r)) ≡ 23
shown_long r =
    let s = shown_of r in
    let named = names_long r in
    let word = fixed 16 8 s.word in
    let end = last_field (fixed 10 4 s.cycles) in
    let e0 = last_long (fixed 10 4 s.cycles) 4 (digits_long 10 4 s.cycles) in
    let e1 = field_long s.left end 2 named.left in
    let e2 = field_long s.found (field s.left ++ end) 2 named.found in
    let e3 = field_long word (field s.found ++ (field s.left ++ end)) 8 (digits_long 16 8 s.word) in
    let e4 = field_long s.name (field word ++ (field s.found ++ (field s.left ++ end))) 2 named.name in
    omega arith

pub line_long : (step : Step) → length (line_of step) ≡ 45
unfolding line_of
line_long step =
    let number = fixed 10 7 step.number in
    let processor = fixed 10 1 step.request.processor in
    let command = command_named step.request.command in
    let address = fixed 16 8 step.request.address in
    let shown = shown_line (shown_of step.answer) in
    let e0 = shown_long step.answer in
    let from_command = field command ++ (field address ++ shown) in
    let n1 = digits_long 16 8 step.request.address in
    let n2 = command_long step.request.command in
    let n3 = digits_long 10 1 step.request.processor in
    let n4 = digits_long 10 7 step.number in
    let e1 = field_long address shown 8 n1 in
    let e2 = field_long command (field address ++ shown) 2 n2 in
    let e3 = field_long processor from_command 1 n3 in
    let e4 = field_long number (field processor ++ from_command) 7 n4 in
    omega arith

pub lines_long : (steps : List Step) → length (lines_of steps) ≡ 45 * length steps
lines_long [] = refl
lines_long (step ∷ steps) =
    let all = length-append (line_of step) (lines_of steps) in
    let first = line_long step in
    let rest = lines_long steps in
    omega arith

stuck_short : (left : ℕ) → length (stuck_line left) ≤ 14
stuck_short left =
    let stuck = field (codes "STUCK") ++ last_field (fixed 10 7 left) in
    let e0 = last_long (fixed 10 7 left) 7 (digits_long 10 7 left) in
    let e1 = field_long (codes "STUCK") (last_field (fixed 10 7 left)) 5 refl in
    let both : (v : Bool) → length (if v then stuck else []) ≤ 14
    = λ v. elim v as (λ v. length (if v then stuck else []) ≤ 14)
    [ true ↦ omega arith | false ↦ omega arith ] in
    both (ltb 0 left)

summary_long : (s : Summary) → (19 ≤ length (summary_lines s)) × (length (summary_lines s) ≤ 33)
unfolding summary_lines
summary_long s =
    let total = last_field (fixed 10 12 s.cycles) in
    let e0 = last_long (fixed 10 12 s.cycles) 12 (digits_long 10 12 s.cycles) in
    let e1 = length-append total (stuck_line s.left) in
    let e2 = field_long (codes "TOTAL") (total ++ stuck_line s.left) 5 refl in
    let e3 = stuck_short s.left in
    (omega arith, omega arith)

pub steps_told : (m : Measures) (mem : Mem) (records : List Record)
    → steps_listed (listing_on m mem records) ≡ length (steps_on m mem records)
unfolding all_lines
steps_told m mem records =
    let first = started records (new_board m mem) in
    let steps = steps_of m records first in
    let summary = summary_of m records (ran m records first) in
    let all = length-append (lines_of steps) (summary_lines summary) in
    let lines = lines_long steps in
    let end = summary_long summary in
    omega arith
