use Rattle.std.proofs.Common.{◌≡◌, ◌+◌, ◌-◌, ◌*◌, ◌≤◌, ◌++◌, length, take, drop, Some, None, sym, refl, ap, ◌∙◌, arith}
use Rattle.std.proofs.lemmas.List.{drop_at, drop-drop, take_all, take_at}
use Rattle.std.specs.Result.{result_err}
use Rattle.trace.specs.Sizes.{records_in}
use Rattle.trace.specs.Records.{encoded, Takes}
use Rattle.trace.specs.Traces.{wrong_from}
use Rattle.trace.specs.Writing.{written, trailer_bytes, close_rule}
use Rattle.trace.proofs.Reading.{records_more}
use Rattle.trace.proofs.Puts.{length-written, not_some}
use Rattle.trace.proofs.Copies.{behind, none_left, put_taken, copy_short, copy_fits, close_fits, written_behind, written_more}
use Rattle.trace.proofs.copying.copy_trace.Goals as goal

pub returns-then-output-count : goal.returns-then-output-count
returns-then-output-count c =
    let t = c.in_ok-trace.trace in
    let out = c.args.output.now in
    let rule =
    copy_short c.args.input.now out t.records.now t.processors c.in_ok-trace.ensures.value t.sound
    (omega (arith, c.count.ensures, c.if-output-count.true)) in
    record { answer = sym (ap (λ x. x.answer) rule); output = sym (ap (λ x. x.output) rule) }

pub loop-record-init : goal.loop-record-init
loop-record-init c =
    let t = c.in_ok-trace.trace in
    let bytes = c.into_iter-record-iterator.result.bytes.now in
    let out = c.args.output.now in
    let start = c.in_ok-writer.ensures.start in
    let same : bytes ≡ t.records.now
    = ap (λ x. x.bytes.now) c.into_iter-record-iterator.ensures.into_iter_gives
    ∙ c.records-record-items.ensures in
    let served = start.0 ∙ c.processors.ensures in (
      refl,
      omega (arith, start.1),
      ap (λ k. drop (k * 16) bytes) (sym start.1),
      ap (λ k. written out 0 (take (k * 16) bytes)) (sym start.1),
      (λ j. wrong_from (served j) (start.2 j) (start.1 j) (records_in (same j)) (same j)) ∙ t.sound,
    )

pub loop-record-preserved : goal.loop-record-preserved
loop-record-preserved c =
    let w = c.loop-record.writer in
    let i = w.count in
    let t = c.in_ok-trace.trace in
    let bytes = c.into_iter-record-iterator.result.bytes.now in
    let same : bytes ≡ t.records.now
    = ap (λ x. x.bytes.now) c.into_iter-record-iterator.ensures.into_iter_gives
    ∙ c.records-record-items.ensures in
    let rest = c.loop-record.record-iterator.bytes.now in
    let left = c.next.new.self.bytes.now in
    let inv = c.loop-record.invariant in
    let r = c.in-Some.record in
    let out = c.args.output.now in
    let taken : Takes rest (Some r) left = c.in-Some.ensures.steps in
    let more = records_more rest (encoded r) left taken.1 refl in
    let all = inv.1 ∙ ap records_in same in
    let wide : length bytes ≡ length t.records.now = ap length same in
    let done =
    put_taken w.processors w.stamp i (records_in t.records.now) rest left c.loop-record.output r
    inv.4 taken all t.few
    (omega (arith, c.count.ensures, c.if-output-count.false, c.loop-record.auto.output)) in
    let put = c.in_ok-put.ensures in
    let count = put.count ∙ sym (ap (λ p. p.count) done) in
    let stamp = put.stamp ∙ sym (ap (λ p. p.stamp) done) in
    let next : i * 16 + 16 ≡ c.put.new.self.count * 16 = omega (arith, count) in (
      put.processors ∙ inv.0,
      omega (arith, count, more, inv.1),
      sym (ap (drop 16) taken.1 ∙ drop_at (encoded r) left 16 refl) ∙ ap (drop 16) inv.2
          ∙ drop-drop 16 (i * 16) bytes ∙ ap (λ k. drop k bytes) next,
      put.output ∙ sym (ap (λ p. p.output) done) ∙ ap (λ ys. written ys (i * 16) (encoded r)) inv.3
          ∙ ap (written (written out 0 (take (i * 16) bytes)) (i * 16))
          (sym (ap (take 16) taken.1 ∙ take_at (encoded r) left 16 refl) ∙ ap (take 16) inv.2)
          ∙ written_more out bytes (i * 16) 16 (omega (arith, wide, t.whole, all))
          ∙ ap (λ k. written out 0 (take k bytes)) next,
      (λ j. wrong_from (put.processors j) (stamp j) (count j) (records_in left) left)
          ∙ behind w.processors w.stamp i rest inv.4 left r taken,
    )

-- a put is not refused
pub returns-in_err-put : goal.returns-in_err-put
returns-in_err-put c =
    let w = c.loop-record.writer in
    let t = c.in_ok-trace.trace in
    let same =
    ap (λ x. x.bytes.now) c.into_iter-record-iterator.ensures.into_iter_gives
    ∙ c.records-record-items.ensures in
    let inv = c.loop-record.invariant in
    let done =
    put_taken w.processors w.stamp w.count (records_in t.records.now)
    c.loop-record.record-iterator.bytes.now c.next.new.self.bytes.now c.loop-record.output
    c.in-Some.record inv.4 c.in-Some.ensures.steps (inv.1 ∙ ap records_in same) t.few
    (omega (arith, c.count.ensures, c.if-output-count.false, c.loop-record.auto.output)) in
    absurd (not_some (ap result_err (c.in_err-put.ensures.answer ∙ sym (ap (λ p. p.answer) done))))

pub returns : goal.returns
returns c =
    let t = c.in_ok-trace.trace in
    let recs = t.records.now in
    let n = records_in recs in
    let p = t.processors in
    let input = c.args.input.now in
    let out = c.args.output.now in
    let told = c.in_ok-trace.ensures in
    let w = c.loop-record.writer in
    let bytes = c.into_iter-record-iterator.result.bytes.now in
    let same : bytes ≡ recs
    = ap (λ x. x.bytes.now) c.into_iter-record-iterator.ensures.into_iter_gives
    ∙ c.records-record-items.ensures in
    let rest = c.loop-record.record-iterator.bytes.now in
    let inv = c.loop-record.invariant in
    let none : Takes rest None c.next.new.self.bytes.now = c.in-None.ensures.steps in
    let over = none_left w.processors w.stamp w.count rest inv.4 none.0 in
    let all : records_in bytes ≡ n = ap records_in same in
    let count : w.count ≡ n = omega (arith, over, all, inv.1) in
    let wide : length bytes ≡ length recs = ap length same in
    let processors = inv.0 ∙ c.in_ok-writer.ensures.start.0 ∙ c.processors.ensures in
    let out2 = c.loop-record.output in
    let put : out2 ≡ written out 0 recs
    = inv.3
    ∙ ap (written out 0)
    (take_all (w.count * 16) bytes (omega (arith, count, wide, t.whole)) ∙ same) in
    let room : n * 16 + 8 ≤ length out = omega (arith, c.count.ensures, c.if-output-count.false) in
    let long : length out2 ≡ length out
    = ap length put ∙ length-written out 0 recs (omega (arith, room, t.whole)) in
    let rule = copy_fits input out recs p told.value t.sound room in
    let closed =
    (λ j. close_rule (processors j) (count j) out2)
    ∙ close_fits p n out2 (omega (arith, room, long)) in
    let last : recs ++ trailer_bytes (n * 16) p ≡ drop (length input - (n * 16 + 8)) input
    = ap (λ k. recs ++ trailer_bytes k p) (sym t.whole) ∙ told.last_bytes
    ∙ ap (λ k. drop (length input - (k + 8)) input) t.whole in
    record {
      answer = c.close.ensures.answer ∙ ap (λ x. x.answer) closed ∙ sym (ap (λ x. x.answer) rule);
      output = c.close.ensures.output ∙ ap (λ x. x.output) closed
          ∙ ap (λ ys. written ys (n * 16) (trailer_bytes (n * 16) p)) put
          ∙ written_behind out recs (trailer_bytes (n * 16) p) (n * 16) t.whole
          ∙ ap (written out 0) last
          ∙ sym (ap (λ x. x.output) rule);
    }
