-- The rules of a trace's trailer and of a record, and the first that some bytes break.
use Rattle.std.specs.Prelude.{ℕ, ◌+◌, ◌-◌, ◌%◌, Bool, if◌then◌else◌, not, ◌&&◌, ◌||◌, List, length, codes, ◌==◌, nat_lt, nat_le, slice_index}
use Rattle.judging.specs.declared.faults.TrailerFault.{TrailerFault}
use Rattle.judging.specs.declared.faults.TrailerFault.TheVariants as trailer
use Rattle.judging.specs.declared.faults.RecordFault.{RecordFault}
use Rattle.judging.specs.declared.faults.RecordFault.TheVariants as rec
use Rattle.trace.specs.Records.{number_at}

-- a byte of the trailer, which is the last eight bytes
abbrev pub trailer_byte : List ℕ → ℕ → ℕ
trailer_byte bytes at = slice_index bytes (length bytes - 8 + at)

-- how many bytes of records the trailer says
abbrev pub size_said : List ℕ → ℕ
size_said bytes = number_at bytes (length bytes - 8)

-- whether the bytes keep the rule of a fault
abbrev pub keeps_trailer : TrailerFault → List ℕ → Bool
keeps_trailer trailer.Short bytes = nat_le 8 (length bytes)
keeps_trailer trailer.Version bytes = trailer_byte bytes 4 == 1
keeps_trailer trailer.PartRecord bytes = size_said bytes % 16 == 0
keeps_trailer trailer.TooMany bytes = nat_le (size_said bytes) 16777216
keeps_trailer trailer.Missing bytes = nat_le (size_said bytes) (length bytes - 8)
keeps_trailer trailer.Processors bytes =
    nat_le 1 (trailer_byte bytes 5) && nat_le (trailer_byte bytes 5) 8
keeps_trailer trailer.ZeroBytes bytes = trailer_byte bytes 6 == 0 && trailer_byte bytes 7 == 0

-- the first rule that is broken, in this order, where one is
abbrev pub trailer_fault : List ℕ → TrailerFault
trailer_fault bytes =
    if not (keeps_trailer trailer.Short bytes) then trailer.Short
    else if not (keeps_trailer trailer.Version bytes) then trailer.Version
    else if not (keeps_trailer trailer.PartRecord bytes) then trailer.PartRecord
    else if not (keeps_trailer trailer.TooMany bytes) then trailer.TooMany
    else if not (keeps_trailer trailer.Missing bytes) then trailer.Missing
    else if not (keeps_trailer trailer.Processors bytes) then trailer.Processors
    else trailer.ZeroBytes

-- W, DW and UW write a word
abbrev pub writes_word : ℕ → Bool
writes_word code = code == 1 || code == 2 || code == 7

-- whether the sixteen bytes of a record keep the rule of a fault, in a trace for so many processors
-- and behind a record with this stamp
abbrev pub keeps_record : RecordFault → ℕ → ℕ → List ℕ → Bool
keeps_record rec.ZeroBytes processors stamp bytes =
    slice_index bytes 6 == 0 && slice_index bytes 7 == 0
keeps_record rec.Command processors stamp bytes = nat_le (slice_index bytes 5) 8
keeps_record rec.Data processors stamp bytes =
    writes_word (slice_index bytes 5) || number_at bytes 12 == 0
keeps_record rec.Processor processors stamp bytes = nat_lt (slice_index bytes 4) processors
keeps_record rec.Stamp processors stamp bytes = nat_le stamp (number_at bytes 0)

-- the first rule that is broken, in this order, where one is
abbrev pub record_fault : ℕ → ℕ → List ℕ → RecordFault
record_fault processors stamp bytes =
    if not (keeps_record rec.ZeroBytes processors stamp bytes) then rec.ZeroBytes
    else if not (keeps_record rec.Command processors stamp bytes) then rec.Command
    else if not (keeps_record rec.Data processors stamp bytes) then rec.Data
    else if not (keeps_record rec.Processor processors stamp bytes) then rec.Processor
    else rec.Stamp

-- what a fault says for people
abbrev pub trailer_told : TrailerFault → List ℕ
trailer_told trailer.Short = codes "fewer than 8 bytes"
trailer_told trailer.Version = codes "version not 1"
trailer_told trailer.PartRecord = codes "byte count of the records not a multiple of 16"
trailer_told trailer.TooMany = codes "more than 1048576 records"
trailer_told trailer.Missing = codes "more bytes of records than the input holds"
trailer_told trailer.Processors = codes "processors not 1 to 8"
trailer_told trailer.ZeroBytes = codes "last two bytes not 0"

abbrev pub record_told : RecordFault → List ℕ
record_told rec.ZeroBytes = codes "zero bytes not 0"
record_told rec.Command = codes "no such command code"
record_told rec.Data = codes "data of a command that writes no word"
record_told rec.Processor = codes "processor not below those of the trace"
record_told rec.Stamp = codes "stamp lower than the one before"
