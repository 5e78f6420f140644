use Rattle.std.proofs.Common.{[], ap, ◌∙◌}
use Rattle.policy.specs.Meaning.{Choice}
use Rattle.test_policies.proofs.Told.{names_told}
use Rattle.test_policies.proofs.lending.named_after.Goals as goal

pub returns : goal.returns
returns g c =
    c.victim_way.ensures
    ∙ ap (λ (m : Choice). m.names [] c.args.processor c.args.column) c.tell_all.ensures.after
    ∙ names_told (g.P.Policy.model c.args.policy) c.args.tellings.now c.args.processor c.args.column
