-- The trace that bytes are: a note, records, and a trailer of eight bytes.
use Rattle.std.specs.Prelude.{ℕ, zero, suc, ◌+◌, ◌-◌, ◌*◌, ◌%◌, Bool, if◌then◌else◌, ◌&&◌, List, [], ◌∷◌, length, take, drop, Some, None, Ok, Err, Option, Result, ◌==◌, nat_le, nat_lt, slice_index}
use Rattle.std.specs.Option.{unwrap_or}
use Rattle.protocol.specs.declared.refusal.Refusal.{Refusal}
use Rattle.protocol.specs.declared.refusal.Refusal.TheVariants as refusal
use Rattle.protocol.specs.Finding.{lowest_from}
use Rattle.trace.specs.declared.record.Record.{Record}
use Rattle.trace.specs.declared.trailer.Trailer.{Trailer}
use Rattle.trace.specs.Records.{number_at, decoded}
use Rattle.trace.specs.Sizes.{records_in}

-- whole records that the bytes before the trailer hold, at most 1,048,576, for 1 to 8 processors
abbrev pub lawful : ℕ → Trailer → Bool
lawful room t =
    (t.size % 16 == 0) && nat_le t.size 16777216 && nat_le t.size room
    && nat_le 1 t.processors && nat_le t.processors 8

-- size of the records, version 1, processors, two zero bytes
abbrev pub trailer_at : List ℕ → ℕ → Option Trailer
trailer_at bytes end =
    let given : Trailer =
    record { size = number_at bytes end; processors = slice_index bytes (end + 5) } in
    if slice_index bytes (end + 4) == 1 && slice_index bytes (end + 6) == 0
    && slice_index bytes (end + 7) == 0 && lawful end given
    then Some given
    else None

abbrev pub trailer_of : List ℕ → Option Trailer
trailer_of bytes = if nat_lt (length bytes) 8 then None else trailer_at bytes (length bytes - 8)

-- a record of one of the processors, not stamped before the one in front of it
abbrev pub follows : ℕ → ℕ → Record → Bool
follows processors stamp r = nat_lt r.request.processor processors && nat_le stamp r.stamp

-- what f makes of a value, or the other where there is none
abbrev pub when_some : {T U : Type 0} → Option T → (T → U) → U → U
when_some None f other = other
when_some (Some x) f other = f x

abbrev pub lawful_record : ℕ → ℕ → List ℕ → Option Record
lawful_record processors stamp bytes =
    when_some (decoded bytes) (λ r. if follows processors stamp r then Some r else None) None

-- the index of the first of n records that breaks a rule, if one does
abbrev pub wrong_from : ℕ → ℕ → ℕ → ℕ → List ℕ → Option ℕ
wrong_from processors stamp index zero bytes = None
wrong_from processors stamp index (suc n) bytes =
    when_some (lawful_record processors stamp (take 16 bytes))
    (λ r. wrong_from processors r.stamp (index + 1) n (drop 16 bytes))
    (Some index)

-- n records, one after another
abbrev pub records_from : ℕ → List ℕ → List Record
records_from zero bytes = []
records_from (suc n) bytes =
    when_some (decoded (take 16 bytes)) (λ r. r ∷ records_from n (drop 16 bytes)) []

abbrev pub is_of : ℕ → List ℕ → ℕ → Bool
is_of processor bytes index = slice_index bytes (index * 16 + 4) == processor

-- the first record of a processor from an index on, or the number of records where there is none
abbrev pub next_of : ℕ → ℕ → List ℕ → ℕ
next_of processor from bytes =
    unwrap_or (lowest_from (is_of processor bytes) from (records_in bytes - from))
    (records_in bytes)

-- all the records that the bytes hold
abbrev pub records_of : List ℕ → List Record
records_of bytes = records_from (records_in bytes) bytes

pub record Content : Type 0 where
  pub processors : ℕ
  pub records : List Record

-- the records that sixteen bytes each are, for so many processors
abbrev pub content_of : ℕ → List ℕ → Content
content_of processors bytes = record { processors = processors; records = records_of bytes }

-- the bytes of the records, in front of the trailer
abbrev pub record_bytes : List ℕ → ℕ → List ℕ
record_bytes bytes size = let end = length bytes - 8 in take size (drop (end - size) bytes)

abbrev checked : ℕ → List ℕ → Result Content Refusal
checked processors bytes =
    when_some (wrong_from processors 0 0 (records_in bytes) bytes)
    (λ index. Err (refusal.Record index))
    (Ok (content_of processors bytes))

abbrev pub trace_of : List ℕ → Result Content Refusal
trace_of bytes =
    when_some (trailer_of bytes)
    (λ t. checked t.processors (record_bytes bytes t.size))
    (Err refusal.Trailer)
