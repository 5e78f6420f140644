use Rattle.std.proofs.Common.{◌≡◌, ◌+◌, ◌-◌, ◌*◌, length, ap, sym, ◌∙◌}
use Rattle.trace.specs.Traces.{records_of}
use Rattle.judging.specs.Checks.{stamp_of}
use Rattle.judging.proofs.Stamps.{many}
use Rattle.judging.proofs.checking.overview_of.Goals as goal

pub returns : goal.returns
returns c =
    let recs = records_of c.args.trace.now.records.now in
    let count : c.count-records.result ≡ length recs
    = c.count-records.ensures ∙ sym (many c.args.trace.now) in
    let last = c.stamp_at-2.ensures ∙ ap (stamp_of recs) c.saturating_sub.ensures in
    λ k. record {
      processors = c.processors.ensures k;
      records = count k;
      note = c.args.size - (count k * 16 + 8);
      first = c.stamp_at.ensures k;
      last = (last ∙ ap (λ n. stamp_of recs (n - 1)) count) k;
    }
