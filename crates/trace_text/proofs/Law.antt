-- A text that was written is read as the trace that it was written for.
use Prim.{tt}
use Rattle.std.proofs.Common.{◌≡◌, ℕ, zero, suc, ◌+◌, ◌<◌, ◌≤◌, true, cond, ◌&&◌, ltb, leb, List, [], ◌∷◌, length, take, drop, flat_map, codes, Some, None, Ok, Err, Option, Result, refl, ap, ◌∙◌, arith, rules}
use Rattle.std.proofs.lemmas.List.{drop_at}
use Rattle.std.proofs.lemmas.Bool.Decides.{nat_tests}
use Rattle.std.specs.Result.{result_map_both}
use Rattle.protocol.specs.declared.command.Command.{Command}
use Rattle.protocol.specs.declared.command.Command.TheVariants.{R, W, DW, RI, RP, RB, LR, UW, U}
use Rattle.protocol.specs.Acting.{written_by}
use Rattle.text.specs.Digits.{fixed}
use Rattle.trace.specs.declared.record.Record.{Record}
use Rattle.trace.specs.Records.{data_of, decoded, encoded, Takes}
use Rattle.trace.specs.Sizes.{records_in as bytes_records}
use Rattle.trace.specs.Traces.{Content, content_of, records_from, records_of, wrong_from, follows, when_some}
use Rattle.trace.proofs.Reading.{records_more}
use Rattle.trace.proofs.Puts.{first_known}
use Rattle.trace_text.specs.Commands.{name_of, writing_named, command_of}
use Rattle.trace_text.specs.Lines.{lines_of, fields_of, written}
use Rattle.trace_text.specs.Numbers.{decimal_text}
use Rattle.trace_text.specs.Ranges.{InRange}
use Rattle.trace_text.specs.Texts.{word_fields, record_fields, header_fields, record_line, text_of, stamp_from, processor_below, record_in, header_in, records_in, trace_in, parsed}
use Rattle.trace_text.proofs.Words.{Word, AllWords, spaced, fields_read, next_written}
use Rattle.trace_text.proofs.Digits.{word_fixed, word_decimal, hexadecimal_back, decimal_back}

word_hexadecimal : (n : ℕ) → Word (fixed 16 8 n)
word_hexadecimal n = word_fixed 16 (omega arith) (omega arith) 7 n

-- names
word_name : (c : Command) → Word (name_of c)
word_name R = record { filled = refl; high = search rules }
word_name (W word) = record { filled = refl; high = search rules }
word_name (DW word) = record { filled = refl; high = search rules }
word_name RI = record { filled = refl; high = search rules }
word_name RP = record { filled = refl; high = search rules }
word_name RB = record { filled = refl; high = search rules }
word_name LR = record { filled = refl; high = search rules }
word_name (UW word) = record { filled = refl; high = search rules }
word_name U = record { filled = refl; high = search rules }

-- a name with the word behind it
writing_back : (name : List ℕ) (word : ℕ) → word < 4294967296
    → command_of name (word_fields (Some word)) ≡ writing_named name word
writing_back name word h = ap (λ o. when_some o (λ w. writing_named name w) None) (hexadecimal_back word h)

command_back : (c : Command) → data_of c < 4294967296
    → command_of (name_of c) (word_fields (written_by c)) ≡ Some c
command_back R h = refl
command_back (W word) h = writing_back (codes "W") word h
command_back (DW word) h = writing_back (codes "DW") word h
command_back RI h = refl
command_back RP h = refl
command_back RB h = refl
command_back LR h = refl
command_back (UW word) h = writing_back (codes "UW") word h
command_back U h = refl

-- a record's line
words_behind : (o : Option ℕ) → AllWords (word_fields o)
words_behind None = tt
words_behind (Some word) = (word_hexadecimal word, tt)

abbrev later_fields : Record → List (List ℕ)
later_fields r =
    let q = r.request in
    decimal_text q.processor
    ∷ (name_of q.command ∷ (fixed 16 8 q.address ∷ word_fields (written_by q.command)))

words_record : (r : Record) → AllWords (record_fields r)
words_record r = (
  word_decimal r.stamp,
  (
    word_decimal r.request.processor,
    (
      word_name r.request.command,
      (word_hexadecimal r.request.address, words_behind (written_by r.request.command)),
    ),
  ),
)

module _ (processors last : ℕ) (r : Record) (small : InRange r) (may : follows processors last r ≡ true) where
  under : r.request.processor < processors
  under = grind (arith, nat_tests)

  behind : last ≤ r.stamp
  behind = grind (arith, nat_tests)

  stamp_back : stamp_from last (decimal_text r.stamp) ≡ Some r.stamp
  stamp_back =
      let later : leb last r.stamp ≡ true = let h = behind in grind (arith, nat_tests) in
      ap (λ o. when_some o (λ n. cond (leb last n) (Some n) None) None) (decimal_back r.stamp small.stamp)
      ∙ rw later refl

  processor_back : processor_below processors (decimal_text r.request.processor) ≡ Some r.request.processor
  processor_back =
      let p = r.request.processor in
      let byte = small.processor in
      let low : ltb p processors ≡ true = let h = under in grind (arith, nat_tests) in
      ap (λ o. when_some o (λ n. cond (ltb n processors) (Some n) None) None) (decimal_back p (omega arith))
      ∙ rw low refl

  pub record_back : record_in processors last (record_fields r) ≡ Some r
  record_back =
      let address = hexadecimal_back r.request.address small.address in
      let command = command_back r.request.command small.word in
      rw stamp_back (rw processor_back (rw address (rw command refl)))

-- records that may follow one another
abbrev pub Follow : ℕ → ℕ → ℕ → List Record → Type 0
Follow processors last count [] = Unit {0}
Follow processors last count (r ∷ rs) =
    InRange r × (follows processors last r ≡ true) × (count < 1048576)
    × Follow processors r.stamp (count + 1) rs

records_back : (processors last count number : ℕ) (rs : List Record) → Follow processors last count rs
    → records_in processors last count (written number (lines_of (flat_map record_line rs))) ≡ Ok rs
records_back processors last count number [] h = refl
records_back processors last count number (r ∷ rs) h =
    let text = flat_map record_line rs in
    let left = written (number + 1) (lines_of text) in
    let room = h.2 in
    let few : ltb count 1048576 ≡ true = grind (arith, nat_tests) in
    let words = words_record r in
    let later = records_back processors r.stamp (count + 1) (number + 1) rs h.3 in
    let line = fields_of (spaced (record_fields r)) in
    let go : Option Record → Result (List Record) ℕ
    = λ o. when_some o (λ q.
    result_map_both (λ qs. q ∷ qs) (λ n. n) (records_in processors q.stamp (count + 1) left)) (Err number) in
    let begun = next_written (decimal_text r.stamp) (later_fields r) words number text in
    ap (records_in processors last count) begun
    ∙ ap (λ v. go (cond v (record_in processors last line) None)) few
    ∙ ap (λ fs. go (record_in processors last fs)) (fields_read (record_fields r) words)
    ∙ ap go (record_back processors last r h.0 h.1)
    ∙ ap (result_map_both (λ qs. r ∷ qs) (λ n. n)) later

-- the header's line
words_header : (processors : ℕ) → AllWords (header_fields processors)
words_header processors = (
  record { filled = refl; high = search rules },
  (
    record { filled = refl; high = search rules },
    (
      record { filled = refl; high = search rules },
      (
        record { filled = refl; high = search rules },
        (word_decimal processors, tt),
      ),
    ),
  ),
)

header_back : (processors : ℕ) → 1 ≤ processors → processors ≤ 8
    → header_in (header_fields processors) ≡ Some processors
header_back processors some few =
    let one : leb 1 processors ≡ true = grind (arith, nat_tests) in
    let eight : leb processors 8 ≡ true = grind (arith, nat_tests) in
    ap (λ o. when_some o (λ n. cond (leb 1 n && leb n 8) (Some n) None) None)
    (decimal_back processors (omega arith))
    ∙ rw one (rw eight refl)

module _ (processors : ℕ) (rs : List Record) where
  abbrev content : Content
  content = record { processors = processors; records = rs }

  pub text_back : 1 ≤ processors → processors ≤ 8 → Follow processors 0 0 rs
      → parsed (text_of content) ≡ Ok content
  text_back some few h =
      let lines = flat_map record_line rs in
      let left = written 2 (lines_of lines) in
      let words = words_header processors in
      let later = codes "version" ∷ (codes "1" ∷ (codes "processors" ∷ (decimal_text processors ∷ []))) in
      let read : ℕ → Result Content ℕ
      = λ p.
      result_map_both (λ qs. record { processors = p; records = qs }) (λ n. n) (records_in p 0 0 left) in
      let go : Option ℕ → Result Content ℕ = λ o. when_some o read (Err 1) in
      let behind = 1 + length (lines_of (text_of content)) in
      ap (trace_in behind) (next_written (codes "trace") later words 1 lines)
      ∙ ap (λ fs. go (header_in fs)) (fields_read (header_fields processors) words)
      ∙ ap go (header_back processors some few)
      ∙ ap (result_map_both (λ qs. record { processors = processors; records = qs }) (λ n. n))
      (records_back processors 0 0 2 rs h)

-- the records of a trace
abbrev pub AllInRange : List Record → Type 0
AllInRange [] = Unit {0}
AllInRange (r ∷ rs) = InRange r × AllInRange rs

follow_from : (processors n stamp i : ℕ) (bytes : List ℕ) → wrong_from processors stamp i n bytes ≡ None
    → i + n ≤ 1048576 → AllInRange (records_from n bytes) → Follow processors stamp i (records_from n bytes)
follow_from processors zero stamp i bytes h few = λ _. tt
follow_from processors (suc n) stamp i bytes h few =
    let first = first_known processors stamp i n bytes h in
    let r = first.head in
    let behind = records_from n (drop 16 bytes) in
    let rest : AllInRange behind → Follow processors r.stamp (i + 1) behind
    = follow_from processors n r.stamp (i + 1) (drop 16 bytes) first.rest (omega (arith, few)) in
    rw first.given (λ small. (small.0, first.may, omega (arith, few), rest small.1))

module _ (processors : ℕ) (bytes : List ℕ) where
  pub trace_back : 1 ≤ processors → processors ≤ 8
      → wrong_from processors 0 0 (bytes_records bytes) bytes ≡ None
      → bytes_records bytes ≤ 1048576 → AllInRange (records_of bytes)
      → parsed (text_of (content_of processors bytes)) ≡ Ok (content_of processors bytes)
  trace_back some few sound most small =
      let follow = follow_from processors (bytes_records bytes) 0 0 bytes sound (omega (arith, most)) small in
      text_back processors (records_of bytes) some few follow

-- one record taken off, and none left
pub takes_more : (bytes rest : List ℕ) (r : Record) → Takes bytes (Some r) rest
    → records_of bytes ≡ r ∷ records_of rest
takes_more bytes rest r taken =
    let n = bytes_records rest in
    ap (λ m. records_from m bytes) (records_more bytes (encoded r) rest taken.1 refl)
    ∙ ap (λ o. when_some o (λ q. q ∷ records_from n (drop 16 bytes)) []) taken.0
    ∙ ap (λ ys. r ∷ records_from n ys) (ap (drop 16) taken.1 ∙ drop_at (encoded r) rest 16 refl)

pub takes_none : (bytes : List ℕ) → decoded (take 16 bytes) ≡ None → records_of bytes ≡ []
takes_none bytes none = by_count (bytes_records bytes)
  where
    by_count : (n : ℕ) → records_from n bytes ≡ []
    by_count zero = refl
    by_count (suc n) = ap (λ o. when_some o (λ q. q ∷ records_from n (drop 16 bytes)) []) none
