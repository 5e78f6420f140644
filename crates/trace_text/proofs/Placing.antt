-- The records that a text is read as may be written as a trace.
use Prim.{tt}
use Rattle.std.proofs.Common.{◌≡◌, ℕ, ◌+◌, ◌*◌, ◌<◌, ◌≤◌, Bool, true, false, cond, ◌&&◌, ltb, leb, List, [], ◌∷◌, length, Some, None, Ok, Err, Option, Result, subst, refl, ap, ◌∙◌, arith}
use Rattle.std.proofs.lemmas.Bool.Decides.{nat_tests}
use Rattle.std.proofs.lemmas.Option.{none-some}
use Rattle.std.specs.Result.{result_map_both, IfOk}
use Rattle.protocol.specs.declared.command.Request.{Request}
use Rattle.trace.specs.declared.record.Record.{Record}
use Rattle.trace.specs.Traces.{Content, follows, when_some}
use Rattle.trace.specs.Writing.{put_refusal, first_refusal, open_answer, admitted, all_written, write_rule}
use Rattle.trace_text.specs.declared.reading.TraceRecords.{TraceRecords}
use Rattle.trace_text.specs.Commands.{command_of}
use Rattle.trace_text.specs.Lines.{Numbered, lines_of, fields_of, written}
use Rattle.trace_text.specs.Numbers.{hexadecimal_of, decimal_of}
use Rattle.trace_text.specs.Reading.{content_in, MayBeWritten}
use Rattle.trace_text.specs.Texts.{stamp_from, processor_below, record_in, processors_in, is_header, header_in, next_record, records_in, trace_in, parsed}

-- each record may follow the one before, and there are few enough
abbrev pub Placed : ℕ → ℕ → ℕ → List Record → Type 0
Placed processors last count [] = Unit {0}
Placed processors last count (r ∷ rs) =
    (follows processors last r ≡ true) × (count < 1048576) × Placed processors r.stamp (count + 1) rs

-- what a step that may fail gave
given : {A B : Type 0} (o : Option A) (f : A → Option B) (y : B) → when_some o f None ≡ Some y
    → (x : A) × (o ≡ Some x) × (f x ≡ Some y)
given None f y h = absurd (none-some y h)
given (Some x) f y h = (x, refl, h)

tested : {A : Type 0} (b : Bool) (x y : A) → cond b (Some x) None ≡ Some y → (b ≡ true) × (x ≡ y)
tested true x y h = (refl, cc)
tested false x y h = absurd (none-some y h)

module _ (processors last : ℕ) where
  later_stamp : (field : List ℕ) (s : ℕ) → stamp_from last field ≡ Some s → leb last s ≡ true
  later_stamp field s h =
      let (n, e, t) = given (decimal_of field) (λ n. cond (leb last n) (Some n) None) s h in
      let (may, same) = tested (leb last n) n s t in
      subst (λ m. leb last m ≡ true) same may

  low_processor : (field : List ℕ) (p : ℕ) → processor_below processors field ≡ Some p
      → ltb p processors ≡ true
  low_processor field p h =
      let (n, e, t) = given (decimal_of field) (λ n. cond (ltb n processors) (Some n) None) p h in
      let (may, same) = tested (ltb n processors) n p t in
      subst (λ m. ltb m processors ≡ true) same may

  record_follows : (fields : List (List ℕ)) (r : Record) → record_in processors last fields ≡ Some r
      → follows processors last r ≡ true
  record_follows [] r h = absurd (none-some r h)
  record_follows (a ∷ []) r h = absurd (none-some r h)
  record_follows (a ∷ (b ∷ [])) r h = absurd (none-some r h)
  record_follows (a ∷ (b ∷ (d ∷ []))) r h = absurd (none-some r h)
  record_follows (stamp ∷ (processor ∷ (name ∷ (address ∷ behind)))) r h =
      let (s, es, h1) = given (stamp_from last stamp) _ r h in
      let (p, ep, h2) = given (processor_below processors processor) _ r h1 in
      let (a, ea, h3) = given (hexadecimal_of address) _ r h2 in
      let (c, ec, h4) = given (command_of name behind) _ r h3 in
      let low = low_processor processor p ep in
      let later = later_stamp stamp s es in
      let request : Request = record { processor = p; command = c; address = a } in
      let read : Record = record { stamp = s; request = request } in
      let same : read ≡ r = cc in
      subst (λ q. follows processors last q ≡ true) same (rw low later)

  next_placed : (count : ℕ) (fields : List (List ℕ)) (r : Record)
      → next_record processors last count fields ≡ Some r
      → (follows processors last r ≡ true) × (count < 1048576)
  next_placed count fields r h = by_room (ltb count 1048576) refl h
    where
      by_room : (b : Bool) → ltb count 1048576 ≡ b → cond b (record_in processors last fields) None ≡ Some r
          → (follows processors last r ≡ true) × (count < 1048576)
      by_room true few h = (record_follows fields r h, grind (arith, nat_tests))
      by_room false few h = absurd (none-some r h)

-- the records of some lines, the first of which was read
module _ (processors last count : ℕ) (later : List Numbered) where
  abbrev left_of : Record → Result (List Record) ℕ
  left_of r = records_in processors r.stamp (count + 1) later

  abbrev BehindPlaced : Record → Type 0
  BehindPlaced r = (qs : List Record) → left_of r ≡ Ok qs → Placed processors r.stamp (count + 1) qs

  placed_first : (r : Record) (rs : List Record) → (follows processors last r ≡ true) × (count < 1048576)
      → BehindPlaced r → (left : Result (List Record) ℕ) → left_of r ≡ left
      → result_map_both (λ qs. r ∷ qs) (λ n. n) left ≡ Ok rs → Placed processors last count rs
  placed_first r rs may behind (Ok qs) e h =
      let same : r ∷ qs ≡ rs = cc in
      subst (Placed processors last count) same (may.0, may.1, behind qs e)
  placed_first r rs may behind (Err n) e h = absurd (cc)

  placed_by : (fields : List (List ℕ)) (number : ℕ) (rs : List Record) (o : Option Record)
      → next_record processors last count fields ≡ o → ((r : Record) → BehindPlaced r)
      → when_some o (λ r. result_map_both (λ qs. r ∷ qs) (λ n. n) (left_of r)) (Err number) ≡ Ok rs
      → Placed processors last count rs
  placed_by fields number rs None e behind h = absurd (cc)
  placed_by fields number rs (Some r) e behind h =
      placed_first r rs (next_placed processors last count fields r e) (behind r) (left_of r) refl h

records_placed : (processors last count : ℕ) (lines : List Numbered) (rs : List Record)
    → records_in processors last count lines ≡ Ok rs → Placed processors last count rs
records_placed processors last count [] rs h =
    let same : [] ≡ rs = cc in subst (Placed processors last count) same tt
records_placed processors last count (line ∷ later) rs h =
    let fields = fields_of line.text in
    let o = next_record processors last count fields in
    placed_by processors last count later fields line.number rs o refl
    (λ r qs e. records_placed processors r.stamp (count + 1) later qs e) h

first_none : (processors last count long : ℕ) (rs : List Record) → Placed processors last count rs
    → (count + length rs) * 16 + 8 ≤ long → first_refusal processors count last long rs ≡ None
first_none processors last count long [] h room = refl
first_none processors last count long (r ∷ rs) h room =
    let may = h.0 in
    let below = h.1 in
    let few : ltb count 1048576 ≡ true = grind (arith, nat_tests) in
    let fits : leb (count * 16 + 24) long ≡ true = grind (arith, nat_tests) in
    let rest = first_none processors r.stamp (count + 1) long rs h.2 (omega arith) in
    let goes : put_refusal processors count last long r ≡ None = rw may (rw few (rw fits refl)) in
    ap (λ o. when_some o (λ e. Some e) (first_refusal processors (count + 1) r.stamp long rs)) goes ∙ rest

written_whole : (processors : ℕ) (rs : List Record) (output : List ℕ)
    → 1 ≤ processors → processors ≤ 8 → Placed processors 0 0 rs
    → length rs * 16 + 8 ≤ length output → (write_rule output processors rs).answer ≡ Ok (length rs * 16 + 8)
written_whole processors rs output some few h room =
    let one : leb 1 processors ≡ true = grind (arith, nat_tests) in
    let eight : leb processors 8 ≡ true = grind (arith, nat_tests) in
    let trailer : leb 8 (length output) ≡ true = grind (arith, nat_tests) in
    let opened : open_answer output processors ≡ Ok tt = rw one (rw eight (rw trailer refl)) in
    let none = first_none processors 0 0 (length output) rs h (omega arith) in
    ap (λ o. (all_written output processors rs (admitted processors (length output) rs o)).answer) opened
    ∙ ap (λ o. (all_written output processors rs (when_some o (λ e. Err e) (Ok tt))).answer) none

-- the processors of a header
processors_served : (field : List ℕ) (p : ℕ) → processors_in field ≡ Some p → (1 ≤ p) × (p ≤ 8)
processors_served field p h =
    let (n, e, t) = given (decimal_of field) (λ n. cond (leb 1 n && leb n 8) (Some n) None) p h in
    let (may, same) = tested (leb 1 n && leb n 8) n p t in
    let both : (leb 1 p && leb p 8) ≡ true = subst (λ m. (leb 1 m && leb m 8) ≡ true) same may in
    (grind (arith, nat_tests), grind (arith, nat_tests))

header_served : (fields : List (List ℕ)) (p : ℕ) → header_in fields ≡ Some p → (1 ≤ p) × (p ≤ 8)
header_served [] p h = absurd (none-some p h)
header_served (a ∷ []) p h = absurd (none-some p h)
header_served (a ∷ (b ∷ [])) p h = absurd (none-some p h)
header_served (a ∷ (b ∷ (c ∷ []))) p h = absurd (none-some p h)
header_served (a ∷ (b ∷ (c ∷ (d ∷ [])))) p h = absurd (none-some p h)
header_served (a ∷ (b ∷ (c ∷ (d ∷ (e ∷ []))))) p h = by_words (is_header a b c d) h
  where
    by_words : (v : Bool) → cond v (processors_in e) None ≡ Some p → (1 ≤ p) × (p ≤ 8)
    by_words true h = processors_served e p h
    by_words false h = absurd (none-some p h)
header_served (a ∷ (b ∷ (c ∷ (d ∷ (e ∷ (f ∷ later)))))) p h = absurd (none-some p h)

-- what a text is read as
abbrev Lawful : Content → Type 0
Lawful trace = (1 ≤ trace.processors) × (trace.processors ≤ 8) × Placed trace.processors 0 0 trace.records

module _ (trace : Content) (line : Numbered) (later : List Numbered) where
  abbrev of_processors : ℕ → Result (List Record) ℕ → Result Content ℕ
  of_processors p o = result_map_both (λ rs. record { processors = p; records = rs }) (λ n. n) o

  by_records : (p : ℕ) (o : Result (List Record) ℕ) → (1 ≤ p) × (p ≤ 8) → records_in p 0 0 later ≡ o
      → Ok trace ≡ of_processors p o → Lawful trace
  by_records p (Ok rs) served e h =
      let same : record { processors = p; records = rs } ≡ trace = cc in
      subst Lawful same (served.0, served.1, records_placed p 0 0 later rs e)
  by_records p (Err n) served e h = absurd (cc)

  by_header : (o : Option ℕ) → header_in (fields_of line.text) ≡ o
      → Ok trace ≡ when_some o (λ p. of_processors p (records_in p 0 0 later)) (Err line.number)
      → Lawful trace
  by_header None e h = absurd (cc)
  by_header (Some p) e h =
      by_records p (records_in p 0 0 later) (header_served (fields_of line.text) p e) refl h

trace_lawful : (trace : Content) (behind : ℕ) (lines : List Numbered)
    → Ok trace ≡ trace_in behind lines → Lawful trace
trace_lawful trace behind [] h = absurd (cc)
trace_lawful trace behind (line ∷ later) h =
    by_header trace line later (header_in (fields_of line.text)) refl h

pub may_be_written : (text : List ℕ) (read : Result TraceRecords ℕ)
    → result_map_both content_in (λ n. n) read ≡ parsed text → IfOk read MayBeWritten
may_be_written text (Err n) h = tt
may_be_written text (Ok read) h =
    let lines = lines_of text in
    let lawful = trace_lawful (content_in read) (1 + length lines) (written 1 lines) h in
    λ output room. written_whole read.processors read.records.items output lawful.0 lawful.1 lawful.2 room
