use Rattle.std.proofs.Common.{◌≡◌, ◌+◌, ◌*◌, ◌<◌, [], ◌∷◌, ◌++◌, length, take, drop, get_or, flat_map, sym, refl, ap, subst, ◌∙◌, arith, rules}
use Rattle.std.proofs.lemmas.List.{drop_more, take_more, take_all}
use Rattle.trace.specs.Records.{encoded}
use Rattle.trace.specs.Written.{HasPut}
use Rattle.trace.specs.Writing.{written, close_rule, first_refusal}
use Rattle.trace.proofs.Puts.{put_done}
use Rattle.trace.proofs.Writes.{blank, none_refused, written_next, closed_behind}
use Rattle.trace.proofs.writing.write_trace.Goals as goal

pub loop-record-preserved : goal.loop-record-preserved
loop-record-preserved c =
    let w = c.loop-record.writer in
    let i = c.loop-record.record-index in
    let rs = c.args.records.now in
    let out = c.loop-record.output in
    let inv = c.loop-record.invariant in
    let put = c.put.ensures in
    let r = get_or rs i blank in
    let here : i < length rs = search rules in
    let left : drop i rs ≡ r ∷ drop (i + 1) rs = drop_more rs i blank here in
    let so_far : take (i + 1) rs ≡ take i rs ++ (r ∷ []) = take_more rs i blank here in
    let goes = none_refused w.processors w.count w.stamp (length out) r (drop (i + 1) rs)
    (ap (first_refusal w.processors w.count w.stamp (length out)) (sym left) ∙ inv.2) in
    let done = put_done w.processors w.count w.stamp out r goes.0 in
    let count = put.count ∙ sym (ap (λ p. p.count) done) in
    let stamp = put.stamp ∙ sym (ap (λ p. p.stamp) done) in
    let long : length c.put.new.output ≡ length out = search rules in (
      put.processors ∙ inv.0,
      count ∙ ap (λ n. n + 1) inv.1,
      (λ j. first_refusal (put.processors j) (count j) (stamp j) (long j) (drop (i + 1) rs))
          ∙ goes.1,
      put.output ∙ sym (ap (λ p. p.output) done)
          ∙ (λ j. written (inv.3 j) (inv.1 j * 16) (encoded r))
          ∙ written_next c.args.output.now rs r i (omega (arith, here)) so_far,
      subst (HasPut c.put.new.self c.put.new.output) (sym so_far)
          (c.in_ok-put.ensures.holds_more refl (take i rs) inv.4),
    )

pub returns-clause-output : goal.returns-clause-output
returns-clause-output c =
    let w = c.loop-record.writer in
    let rs = c.args.records.now in
    let out = c.loop-record.output in
    let inv = c.loop-record.invariant in
    let all : c.loop-record.record-index ≡ length rs = search rules in
    let count : w.count ≡ length rs = inv.1 ∙ all in
    let served = inv.0 ∙ c.in_ok-writer.ensures.start.0 in
    c.close.ensures.output
    ∙ (λ j. (close_rule (served j) (count j) out).output)
    ∙ closed_behind c.args.processors c.args.output.now rs c.in_ok-writer.ensures.answer
    out
    (inv.3
    ∙ ap (λ qs. written c.args.output.now 0 (flat_map encoded qs))
    (take_all c.loop-record.record-index rs (search rules)))
    (let room = inv.4.room in omega (arith, room, count))
