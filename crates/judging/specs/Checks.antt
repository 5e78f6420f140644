-- What bytes are: a trace, or the first rule of the format that they break.
use Rattle.std.specs.Prelude.{◌≡◌, ℕ, ◌+◌, ◌-◌, ◌*◌, if◌then◌else◌, false, List, length, take, drop, Ok, Err, Option, Result, ◌==◌, slice_get}
use Rattle.std.specs.Option.{option_map}
use Rattle.protocol.specs.declared.refusal.Refusal.{Refusal}
use Rattle.protocol.specs.declared.refusal.Refusal.TheVariants as refusal
use Rattle.trace.specs.declared.record.Record.{Record}
use Rattle.trace.specs.Records.{number_at}
use Rattle.trace.specs.Traces.{Content, trace_of}
use Rattle.judging.specs.declared.checking.Overview.{Overview}
use Rattle.judging.specs.declared.checking.Checked.{Checked}
use Rattle.judging.specs.declared.checking.Checked.TheVariants.{Trace, Trailer, Record as WrongRecord}
use Rattle.judging.specs.declared.faults.RecordFault.{RecordFault}
use Rattle.judging.specs.Rules.{trailer_byte, size_said, trailer_fault, record_fault, keeps_trailer, keeps_record}

-- the stamp of a record, by its number from 0
abbrev pub stamp_of : List Record → ℕ → Option ℕ
stamp_of records index = option_map (λ r. r.stamp) (slice_get records index)

abbrev pub overview_of : ℕ → Content → Overview
overview_of size content =
    let count = length content.records in
    record {
      processors = content.processors;
      records = count;
      note = size - (count * 16 + 8);
      first = stamp_of content.records 0;
      last = stamp_of content.records (count - 1);
    }

-- where the record with an index from 0 begins, by what the trailer says
abbrev pub record_place : List ℕ → ℕ → ℕ
record_place bytes index = length bytes - 8 - size_said bytes + index * 16

abbrev pub record_there : List ℕ → ℕ → List ℕ
record_there bytes index = take 16 (drop (record_place bytes index) bytes)

-- the stamp of the record before; 0 before the first
abbrev pub stamp_before : List ℕ → ℕ → ℕ
stamp_before bytes index =
    if index == 0 then 0 else number_at bytes (record_place bytes (index - 1))

abbrev pub fault_at : List ℕ → ℕ → RecordFault
fault_at bytes index =
    record_fault (trailer_byte bytes 5) (stamp_before bytes index) (record_there bytes index)

abbrev pub checked_as : List ℕ → Result Content Refusal → Checked
checked_as bytes (Ok content) = Trace (overview_of (length bytes) content)
checked_as bytes (Err (refusal.Record index)) = WrongRecord index (fault_at bytes index)
checked_as bytes (Err e) = Trailer (trailer_fault bytes)

unfoldable pub checked_of : List ℕ → Checked
checked_of bytes = checked_as bytes (trace_of bytes)

-- a check finds what reading does: a trace exactly where reading gives one, and else what it refuses
abbrev pub AgreesWith : Result Content Refusal → Checked → Type 0
AgreesWith (Ok content) (Trace o) =
    (o.processors ≡ content.processors) × (o.records ≡ length content.records)
AgreesWith (Err refusal.Trailer) (Trailer fault) = Unit {0}
AgreesWith (Err (refusal.Record i)) (WrongRecord index fault) = index ≡ i
AgreesWith read checked = ⊥

-- the rule that is named is broken
abbrev pub BreaksRule : List ℕ → Checked → Type 0
BreaksRule bytes (Trace o) = Unit {0}
BreaksRule bytes (Trailer fault) = keeps_trailer fault bytes ≡ false
BreaksRule bytes (WrongRecord index fault) =
    keeps_record fault (trailer_byte bytes 5) (stamp_before bytes index) (record_there bytes index)
    ≡ false
