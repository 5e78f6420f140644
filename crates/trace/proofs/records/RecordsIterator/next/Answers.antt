use Rattle.std.proofs.Common.{◌++◌, drop, take-append-drop, sym, ap, ◌∙◌}
use Rattle.trace.specs.Records.{encoded, decoded}
use Rattle.trace.proofs.records.RecordsIterator.next.Goals as goal

pub returns-clause-steps : goal.returns-clause-steps
returns-clause-steps c =
    let bytes = c.args.self.now.bytes.now in
    let cut = c.in_ok-bytes.ensures.cases in
    let told = c.in_ok-record.ensures in (
      sym (told.value ∙ ap decoded cut.0),
      sym (take-append-drop 16 bytes)
          ∙ ap (λ front. front ++ drop 16 bytes) (sym (told.back ∙ cut.0))
          ∙ ap (λ rest. encoded c.in_ok-record.record ++ rest) (sym cut.1),
    )
