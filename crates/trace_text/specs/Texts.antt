-- The text that a trace is, and the trace that a text is.
use Rattle.std.specs.Prelude.{ℕ, ◌+◌, Bool, false, ◌&&◌, if◌then◌else◌, List, [], ◌∷◌, ◌++◌, length, flat_map, codes, Some, None, Ok, Err, Option, Result, ◌==◌, nat_le, nat_lt, bytes_eq}
use Rattle.std.specs.Result.{result_map_both}
use Rattle.protocol.specs.Acting.{written_by}
use Rattle.text.specs.Digits.{fixed}
use Rattle.trace.specs.declared.record.Record.{Record}
use Rattle.trace.specs.Traces.{Content, when_some}
use Rattle.trace_text.specs.Commands.{name_of, command_of}
use Rattle.trace_text.specs.Lines.{Numbered, lines_of, fields_of, written, line_of}
use Rattle.trace_text.specs.Numbers.{hexadecimal_of, decimal_of, decimal_text}

-- a word is written where the command writes one
abbrev pub word_fields : Option ℕ → List (List ℕ)
word_fields None = []
word_fields (Some word) = fixed 16 8 word ∷ []

-- stamp, processor, command, address, word
abbrev pub record_fields : Record → List (List ℕ)
record_fields r =
    decimal_text r.stamp ∷ (decimal_text r.request.processor ∷ (name_of r.request.command
    ∷ (fixed 16 8 r.request.address ∷ word_fields (written_by r.request.command))))

abbrev pub header_fields : ℕ → List (List ℕ)
header_fields processors =
    codes "trace" ∷ (codes "version" ∷ (codes "1" ∷ (codes "processors" ∷ (decimal_text processors ∷ []))))

abbrev pub record_line : Record → List ℕ
record_line r = line_of (record_fields r)

-- the line of the version and the processors, then a line a record
abbrev pub text_of : Content → List ℕ
text_of trace = line_of (header_fields trace.processors) ++ flat_map record_line trace.records

-- a stamp that is not below the one before
abbrev pub stamp_from : ℕ → List ℕ → Option ℕ
stamp_from last field = when_some (decimal_of field) (λ n. if nat_le last n then Some n else None) None

abbrev pub processor_below : ℕ → List ℕ → Option ℕ
processor_below processors field =
    when_some (decimal_of field) (λ n. if nat_lt n processors then Some n else None) None

-- the record that some fields are, of one of the processors and not stamped before the last
abbrev pub record_in : ℕ → ℕ → List (List ℕ) → Option Record
record_in processors last (stamp ∷ (processor ∷ (name ∷ (address ∷ behind)))) =
    when_some (stamp_from last stamp) (λ s.
    when_some (processor_below processors processor) (λ p.
    when_some (hexadecimal_of address) (λ a.
    when_some (command_of name behind) (λ c.
    Some (record { stamp = s; request = record { processor = p; command = c; address = a } }))
    None) None) None) None
record_in processors last fewer = None

-- 1 to 8
abbrev pub processors_in : List ℕ → Option ℕ
processors_in field =
    when_some (decimal_of field) (λ n. if nat_le 1 n && nat_le n 8 then Some n else None) None

abbrev pub is_one : Option ℕ → Bool
is_one None = false
is_one (Some n) = n == 1

-- whether these are the words of a header, and its version is 1
abbrev pub is_header : List ℕ → List ℕ → List ℕ → List ℕ → Bool
is_header trace version number label =
    bytes_eq trace (codes "trace") && bytes_eq version (codes "version") && is_one (decimal_of number)
    && bytes_eq label (codes "processors")

-- the processors of the header that some fields are
abbrev pub header_in : List (List ℕ) → Option ℕ
header_in (trace ∷ (version ∷ (number ∷ (label ∷ (processors ∷ []))))) =
    if is_header trace version number label then processors_in processors else None
header_in other = None

-- the record that some fields are behind so many records, of which the last has this stamp
abbrev pub next_record : ℕ → ℕ → ℕ → List (List ℕ) → Option Record
next_record processors last count fields =
    if nat_lt count 1048576 then record_in processors last fields else None

-- the records that some lines are behind so many records, or the number of the first line that is none
abbrev pub records_in : ℕ → ℕ → ℕ → List Numbered → Result (List Record) ℕ
records_in processors last count [] = Ok []
records_in processors last count (line ∷ later) =
    when_some (next_record processors last count (fields_of line.text))
    (λ r. result_map_both (λ rs. r ∷ rs) (λ n. n) (records_in processors r.stamp (count + 1) later))
    (Err line.number)

-- the trace that some lines are, of which the header is the first; where there is none, this line is wrong
abbrev pub trace_in : ℕ → List Numbered → Result Content ℕ
trace_in behind [] = Err behind
trace_in behind (line ∷ later) =
    when_some (header_in (fields_of line.text))
    (λ p. result_map_both (λ rs. record { processors = p; records = rs }) (λ n. n) (records_in p 0 0 later))
    (Err line.number)

-- the trace that a text is, or the number of its first wrong line, counted from 1
abbrev pub parsed : List ℕ → Result Content ℕ
parsed text = let lines = lines_of text in trace_in (1 + length lines) (written 1 lines)
