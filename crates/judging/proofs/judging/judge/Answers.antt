use Rattle.std.proofs.Common.{ap, subst, ◌∙◌}
use Rattle.trace.specs.Traces.{records_of}
use Rattle.judging.specs.Judged.{steps_listed}
use Rattle.judging.specs.Verdicts.{OnDiffer, IsFirst}
use Rattle.judging.proofs.Compared.{on_differ}
use Rattle.judging.proofs.Numbered.{step_shown}
use Rattle.judging.proofs.Widths.{steps_told}
use Rattle.judging.proofs.judging.judge.Goals as goal

pub returns-clause-steps : goal.returns-clause-steps
returns-clause-steps g c =
    c.steps_listed-steps.ensures
    ∙ ap steps_listed (c.deref-listing.ensures.value ∙ c.in_ok-ours.ensures.listing)
    ∙ steps_told c.args.geometry.measures (g.M.Memory.model c.args.memory.now)
    (records_of c.args.trace.records.now)

pub returns-clause-numbered : goal.returns-clause-numbered
returns-clause-numbered g c =
    let theirs = c.args.theirs.now in
    on_differ c.compare-verdict.result
    (step_shown c.args.geometry.measures (g.M.Memory.model c.args.memory.now)
    (records_of c.args.trace.records.now) theirs)
    (subst (λ ours. OnDiffer c.compare-verdict.result (IsFirst ours theirs))
    (c.deref-listing.ensures.value ∙ c.in_ok-ours.ensures.listing) c.compare-verdict.ensures.first)
