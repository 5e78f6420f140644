use Rattle.std.proofs.Common.{◌+◌, ◌*◌, take, refl, ap, ◌∙◌}
use Rattle.trace.specs.Traces.{trace_of}
use Rattle.trace.specs.Writing.{written}
use Rattle.trace.proofs.Puts.{closed_reads}
use Rattle.trace.proofs.writer.Writer.close.Goals as goal

pub returns-clause-reads_back : goal.returns-clause-reads_back
returns-clause-reads_back c rs h =
    let w = c.args.self in
    let out = c.args.output.now in (
      refl,
      ap (λ bytes. trace_of (take (w.count * 16 + 8) bytes))
          (c.put_bytes.ensures ∙ ap (written out (w.count * 16)) c.encode.ensures)
          ∙ closed_reads w.processors w.count w.stamp out rs w.few w.served.0 w.served.1 h,
    )
