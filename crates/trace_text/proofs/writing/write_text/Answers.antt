use Prim.{tt}
use Rattle.std.proofs.Common.{◌≡◌, ◌++◌, [], None, flat_map, subst, sym, ap, ◌∙◌, append_assoc}
use Rattle.std.proofs.lemmas.List.{append-nil}
use Rattle.trace.specs.Records.{Takes}
use Rattle.trace.specs.Traces.{Content, records_of, content_of}
use Rattle.trace_text.specs.Lines.{line_of}
use Rattle.trace_text.specs.Texts.{header_fields, record_line, text_of, parsed}
use Rattle.trace_text.proofs.Law.{AllInRange, takes_more, takes_none, trace_back}
use Rattle.trace_text.proofs.writing.write_text.Goals as goal

pub loop-record-preserved : goal.loop-record-preserved
loop-record-preserved c =
    let rest = c.loop-record.record-iterator.bytes.now in
    let left = c.next.new.self.bytes.now in
    let r = c.in-Some.record in
    let old = c.loop-record.text.items in
    let inv = c.loop-record.invariant in
    let more = takes_more rest left r c.in-Some.ensures.steps in (
      ap (λ text. text ++ flat_map record_line (records_of left)) c.in_ok-put_record.ensures.line
          ∙ append_assoc old (record_line r) (flat_map record_line (records_of left))
          ∙ ap (λ rs. old ++ flat_map record_line rs) (sym more)
          ∙ inv.0,
      λ small. inv.1 (subst AllInRange (sym more) (c.in_ok-put_record.ensures.in_range, small)),
    )

same : (c : goal.In-None) → c.into_iter-record-iterator.result.bytes.now ≡ c.args.trace.now.records.now
same c =
    let told = c.into_iter-record-iterator.ensures.into_iter_gives in
    ap (λ x. x.bytes.now) told ∙ c.records-record-items.ensures

over : (c : goal.In-None) → records_of c.loop-record.record-iterator.bytes.now ≡ []
over c =
    let rest = c.loop-record.record-iterator.bytes.now in
    let none : Takes rest None c.next.new.self.bytes.now = c.in-None.ensures.steps in
    takes_none rest none.0

abbrev content : goal.In-None → Content
content c = content_of c.args.trace.now.processors c.args.trace.now.records.now

whole : (c : goal.In-None) → c.loop-record.text.items ≡ text_of (content c)
whole c =
    let text = c.loop-record.text.items in
    let header : c.put_header.new.out.items ≡ line_of (header_fields c.args.trace.now.processors)
    = c.in_ok-put_header.ensures
    ∙ ap (λ front. front ++ line_of (header_fields c.processors.result)) c.new-text.ensures.items
    ∙ ap (λ p. line_of (header_fields p)) c.processors.ensures in
    sym (append-nil text)
    ∙ ap (λ rs. text ++ flat_map record_line rs) (sym (over c))
    ∙ c.loop-record.invariant.0
    ∙ (λ i. header i ++ flat_map record_line (records_of (same c i)))

pub returns-clause-text : goal.returns-clause-text
returns-clause-text c = whole c

pub returns-clause-reads_back : goal.returns-clause-reads_back
returns-clause-reads_back c =
    let t = c.args.trace.now in
    let all = c.loop-record.invariant.1 (subst AllInRange (sym (over c)) tt) in
    let small : AllInRange (records_of t.records.now)
    = subst (λ bytes. AllInRange (records_of bytes)) (same c) all in
    ap parsed (whole c) ∙ trace_back t.processors t.records.now t.served.0 t.served.1 t.sound t.few small
