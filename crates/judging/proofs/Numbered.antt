-- The lines of a listing are its steps' in order.
use Rattle.std.proofs.Common.{◌≡◌, ℕ, zero, suc, ◌-◌, ◌/◌, ◌%◌, ◌<◌, ◌==◌, Bool, true, false, List, [], ◌∷◌, ◌++◌, length, Ok, Err, Result, sym, refl, ap, ◌∙◌, arith, append_assoc}
use Rattle.std.specs.Prelude.{if◌then◌else◌, not, ◌&&◌, map, slice_get}
use Rattle.std.specs.Option.{option_map}
use Rattle.std.specs.List.{list_all}
use Rattle.std.proofs.lemmas.Bool.Decides.{nat_tests}
use Rattle.protocol.specs.declared.answer.Answer.{Answer}
use Rattle.protocol.specs.declared.answer.Answer.TheVariants.{Done, Wait}
use Rattle.protocol.specs.declared.command.Command.{Command}
use Rattle.protocol.specs.declared.command.Command.TheVariants.{R, W, DW, RI, RP, RB, LR, UW, U}
use Rattle.protocol.specs.declared.measures.Measures.{Measures}
use Rattle.protocol.specs.declared.refusal.Refusal.{Refusal}
use Rattle.protocol.specs.declared.state.State.{State}
use Rattle.protocol.specs.declared.state.State.TheVariants.{I, S, SM, EC, EM}
use Rattle.protocol.specs.Answers.{found_in, left_in}
use Rattle.protocol.specs.Numbers.{number_of}
use Rattle.memory.specs.Meaning.{Mem}
use Rattle.cluster.specs.Board.{new_board}
use Rattle.text.specs.declared.step.Step.{Step}
use Rattle.text.specs.Digits.{digit_of, fixed}
use Rattle.text.specs.Names.{command_named, state_named}
use Rattle.text.specs.Lines.{field, shown_of, line_of, summary_lines}
use Rattle.trace.specs.declared.record.Record.{Record}
use Rattle.run.specs.Listing.{lines_of, all_lines, listing_on}
use Rattle.run.specs.Running.{started, steps_of, summary_of, ran}
use Rattle.judging.specs.declared.comparing.Difference.{Difference}
use Rattle.judging.specs.Lines.{in_front, lines_in}
use Rattle.judging.specs.Judged.{steps_on, ShowsStep}
use Rattle.judging.specs.Verdicts.{IsFirst}
use Rattle.judging.proofs.Places.{line_split, whole_text, from_cycles, from_left, from_found, from_word, from_answer, from_address, from_command, from_processor}

-- no byte ends a line
abbrev inner : List ℕ → Bool
inner xs = list_all (λ b. not (b == 10)) xs

and_true : (a b : Bool) → a ≡ true → b ≡ true → (a && b) ≡ true
and_true a b e f = rw e f

inner_both : (xs ys : List ℕ) → inner xs ≡ true → inner ys ≡ true → inner (xs ++ ys) ≡ true
inner_both [] ys e f = f
inner_both (x ∷ xs) ys e f =
    let rest = inner_both xs ys (grind (arith, nat_tests)) f in
    grind (arith, nat_tests)

inner_field : (xs ys : List ℕ) → inner xs ≡ true → inner ys ≡ true → inner (field xs ++ ys) ≡ true
inner_field xs ys e f = inner_both (field xs) ys (inner_both xs (32 ∷ []) e refl) f

inner_digit : (d : ℕ) → (digit_of d == 10) ≡ false
inner_digit d = grind (arith, nat_tests)

inner_digits : (base width n : ℕ) → inner (fixed base width n) ≡ true
unfolding fixed
inner_digits base zero n = refl
inner_digits base (suc width) n =
    inner_both (fixed base width (n / base)) (digit_of (n % base) ∷ [])
    (inner_digits base width (n / base)) (rw (inner_digit (n % base)) refl)

inner_command : (c : Command) → inner (command_named c) ≡ true
inner_command R = refl
inner_command (W word) = refl
inner_command (DW word) = refl
inner_command RI = refl
inner_command RP = refl
inner_command RB = refl
inner_command LR = refl
inner_command (UW word) = refl
inner_command U = refl

inner_state : (s : State) → inner (state_named s) ≡ true
inner_state EM = refl
inner_state EC = refl
inner_state SM = refl
inner_state S = refl
inner_state I = refl

record InnerNames (r : Result Answer Refusal) : Type 0 where
  name : inner (shown_of r).name ≡ true
  found : inner (shown_of r).found ≡ true
  left : inner (shown_of r).left ≡ true

inner_names : (r : Result Answer Refusal) → InnerNames r
inner_names (Ok (Done done)) =
    record {
      name = refl;
      found = inner_state (found_in (Done done));
      left = inner_state (left_in (Done done));
    }
inner_names (Ok (Wait hit)) =
    record {
      name = refl;
      found = inner_state (found_in (Wait hit));
      left = inner_state (left_in (Wait hit));
    }
inner_names (Err e) = record { name = inner_digits 10 2 (number_of e); found = refl; left = refl }

inner_text : (s : Step) → inner (whole_text s) ≡ true
inner_text s =
    let names = inner_names s.answer in
    inner_field (fixed 10 7 s.number) (from_processor s) (inner_digits 10 7 s.number)
    (inner_field (fixed 10 1 s.request.processor) (from_command s) (inner_digits 10 1 s.request.processor)
    (inner_field (command_named s.request.command) (from_address s) (inner_command s.request.command)
    (inner_field (fixed 16 8 s.request.address) (from_answer s) (inner_digits 16 8 s.request.address)
    (inner_field (shown_of s.answer).name (from_word s) names.name
    (inner_field (fixed 16 8 (shown_of s.answer).word) (from_found s)
    (inner_digits 16 8 (shown_of s.answer).word)
    (inner_field (shown_of s.answer).found (from_left s) names.found
    (inner_field (shown_of s.answer).left (from_cycles s) names.left
    (inner_digits 10 4 (shown_of s.answer).cycles))))))))

-- a text that byte 10 ends is the first line
first_of : (xs rest : List ℕ) → inner xs ≡ true
    → lines_in ((xs ++ (10 ∷ [])) ++ rest) ≡ (xs ++ (10 ∷ [])) ∷ lines_in rest
first_of [] rest e = refl
first_of (x ∷ xs) rest e =
    let here : (x == 10) ≡ false = grind (arith, nat_tests) in
    let others = first_of xs rest (grind (arith, nat_tests)) in
    ap (λ v. if v then (x ∷ []) ∷ lines_in ((xs ++ (10 ∷ [])) ++ rest)
    else in_front x (lines_in ((xs ++ (10 ∷ [])) ++ rest))) here
    ∙ ap (in_front x) others

step_lines : (steps : List Step) (rest : List ℕ)
    → lines_in (lines_of steps ++ rest) ≡ map line_of steps ++ lines_in rest
step_lines [] rest = refl
step_lines (step ∷ steps) rest =
    let line = line_split step in
    let more = lines_of steps ++ rest in
    ap lines_in (append_assoc (line_of step) (lines_of steps) rest)
    ∙ ap (λ l. lines_in (l ++ more)) line
    ∙ first_of (whole_text step) more (inner_text step)
    ∙ (λ i. sym line i ∷ step_lines steps rest i)

nth_step : (steps : List Step) (ls : List (List ℕ)) (k : ℕ) → k < length steps
    → slice_get (map line_of steps ++ ls) k ≡ option_map line_of (slice_get steps k)
nth_step [] ls k h = absurd (omega (arith, h))
nth_step (step ∷ steps) ls zero h = refl
nth_step (step ∷ steps) ls (suc k) h = nth_step steps ls k (omega (arith, h))

pub step_shown : (m : Measures) (mem : Mem) (records : List Record) (theirs : List ℕ) (d : Difference)
    → IsFirst (listing_on m mem records) theirs d
    → ShowsStep (steps_on m mem records) (listing_on m mem records) d
unfolding all_lines
step_shown m mem records theirs d first few =
    let start = started records (new_board m mem) in
    let steps = steps_of m records start in
    let summary = summary_lines (summary_of m records (ran m records start)) in
    let number = first.number in
    sym first.our_line
    ∙ ap (λ ls. slice_get ls (d.line - 1)) (step_lines steps summary)
    ∙ nth_step steps (lines_in summary) (d.line - 1) (omega arith)
