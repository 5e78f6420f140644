use Rattle.std.proofs.Common.{◌≡◌, ◌<◌, IfSome, length, subst, ap, ◌∙◌, rules}
use Rattle.trace.specs.Records.{encoded, decoded}
use Rattle.trace.proofs.Reading.{record_at}
use Rattle.trace.proofs.trace.Trace.record.Goals as goal

pub returns : goal.returns
returns c =
    let chunks = c.as_chunks.ensures in
    let found = c.in_ok-get.ensures.lookup in
    let below : c.args.index < length c.as_chunks.result.0.now = search rules in
    let same =
    found.1
    ∙ record_at c.args.self.now.records.now c.as_chunks.result.0.now c.args.index _ chunks.front
    chunks.front_len below in
    record {
      value = c.decode.ensures.value ∙ ap decoded same;
      back =
          subst (λ bytes. IfSome c.decode.result (λ got. encoded got ≡ bytes)) same
          c.decode.ensures.back;
    }
