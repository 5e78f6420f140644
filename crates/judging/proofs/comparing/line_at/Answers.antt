use Rattle.std.proofs.Common.{◌≡◌, ℕ, ◌-◌, List, length, drop, ap, ◌∙◌, arith, rules, length-drop}
use Rattle.std.specs.Prelude.{slice_get, slice_range}
use Rattle.std.proofs.lemmas.List.{take_all}
use Rattle.judging.specs.Lines.{lines_in}
use Rattle.judging.proofs.Splits.{line_ended, line_open}
use Rattle.judging.proofs.comparing.line_at.Goals as goal

all_behind : (start : ℕ) (bs : List ℕ) → slice_range bs start (length bs) ≡ drop start bs
all_behind start bs = take_all (length bs - start) (drop start bs) (omega (arith, length-drop start bs))

pub returns-in-Some : goal.returns-in-Some
returns-in-Some c =
    let look = c.in_ok-rest.ensures.lookup in
    line_ended _ _ c.in-Some.ensures
    ∙ ap (λ bs. slice_get (lines_in bs) 0) (look.0.2 ∙ all_behind c.args.start c.args.listing.now)

pub returns-in-None-2 : goal.returns-in-None-2
returns-in-None-2 c =
    let look = c.in_ok-rest.ensures.lookup in
    line_open _ c.in-None.ensures (search rules)
    ∙ ap (λ bs. slice_get (lines_in bs) 0) (look.0.2 ∙ all_behind c.args.start c.args.listing.now)
