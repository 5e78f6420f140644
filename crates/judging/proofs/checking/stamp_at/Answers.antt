use Rattle.std.proofs.Common.{◌≡◌, option_map, ap, ◌∙◌, rules}
use Rattle.trace.specs.declared.record.Record.{Record}
use Rattle.judging.proofs.Stamps.{record_at}
use Rattle.judging.proofs.checking.stamp_at.Goals as goal

pub returns : goal.returns
returns c =
    let mapped : c.map.result ≡ option_map (λ (r : Record). r.stamp) c.record.result = search rules in
    mapped
    ∙ ap (option_map (λ r. r.stamp))
    (c.record.ensures.value ∙ record_at c.args.trace.now c.args.index)
