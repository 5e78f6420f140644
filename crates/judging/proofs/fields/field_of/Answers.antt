use Rattle.std.proofs.Common.{◌∙◌}
use Rattle.judging.specs.Fields.{field_in}
use Rattle.judging.proofs.Places.{steps_named}
use Rattle.judging.proofs.fields.field_of.Goals as goal

pub returns-clause-value : goal.returns-clause-value
returns-clause-value c =
    c.field_in.ensures ∙ (λ i. field_in (c.text_of.ensures i) (c.text_of-2.ensures i))

pub returns-clause-steps : goal.returns-clause-steps
returns-clause-steps c =
    steps_named c.args.ours.now c.args.theirs.now c.field_in.result (returns-clause-value c)
