use Rattle.std.proofs.Common.{◌*◌, sym, refl, ap, ◌∙◌}
use Rattle.trace.specs.Records.{encoded, decoded}
use Rattle.trace.specs.Writing.{written}
use Rattle.trace.proofs.Puts.{put_done, put_follows, put_holds}
use Rattle.trace.proofs.writer.Writer.put.Goals as goal

pub returns-clause-output : goal.returns-clause-output
returns-clause-output c =
    let w = c.args.self.now in
    let out = c.args.output.now in
    c.put_bytes.ensures ∙ ap (written out (w.count * 16)) c.encode.ensures.value
    ∙ ap (λ p. p.output)
    (put_done w.processors w.count w.stamp out c.args.next c.in_ok-admit.ensures.answer)

pub returns-clause-holds_more : goal.returns-clause-holds_more
returns-clause-holds_more c ok rs h =
    let w = c.args.self.now in
    let out = c.args.output.now in
    let r = c.args.next in
    let kept = c.in_ok-admit.ensures in
    rw (c.put_bytes.ensures ∙ ap (written out (w.count * 16)) c.encode.ensures.value)
    (rw kept.processors (rw kept.count (rw kept.stamp
    (put_holds w.processors w.count w.stamp out r rs (encoded r) refl
    (ap decoded (sym c.encode.ensures.value) ∙ c.encode.ensures.back)
    (put_follows w.processors w.count w.stamp out r kept.answer) (kept.room refl) h))))
