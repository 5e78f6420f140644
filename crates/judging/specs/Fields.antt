-- The field in which two lines of a listing differ first.
use Rattle.std.specs.Prelude.{ℕ, Bool, if◌then◌else◌, not, ◌&&◌, List, length, codes, nat_eq, ◌==◌, slice_index, slice_range}
use Rattle.std.specs.List.{starts_with}
use Rattle.std.specs.Str.{bytes_eq}
use Rattle.judging.specs.declared.fields.Field.{Field}
use Rattle.judging.specs.declared.fields.Field.TheVariants.{Step, Processor, Command, Address, Answer, Word, Found, Left, Cycles, Total, Stuck, Trace, End, Line}
use Rattle.judging.specs.Lines.{text_of}

abbrev pub has_space : List ℕ → ℕ → Bool
has_space text at = slice_index text at == 32

-- nine fields in 44 places, a space between each two
abbrev pub is_step : List ℕ → Bool
is_step text =
    length text == 44 && has_space text 7 && has_space text 9 && has_space text 12
    && has_space text 21 && has_space text 24 && has_space text 33 && has_space text 36
    && has_space text 39

-- whether two lines differ in the places from one on and before another
abbrev pub differ_in : List ℕ → List ℕ → ℕ → ℕ → Bool
differ_in ours theirs from end =
    not (bytes_eq (slice_range ours from end) (slice_range theirs from end))

-- the first field of two lines of steps that is not the same
abbrev pub step_field : List ℕ → List ℕ → Field
step_field ours theirs =
    if differ_in ours theirs 0 7 then Step
    else if differ_in ours theirs 8 9 then Processor
    else if differ_in ours theirs 10 12 then Command
    else if differ_in ours theirs 13 21 then Address
    else if differ_in ours theirs 22 24 then Answer
    else if differ_in ours theirs 25 33 then Word
    else if differ_in ours theirs 34 36 then Found
    else if differ_in ours theirs 37 39 then Left
    else Cycles

abbrev pub both_begin : List ℕ → List ℕ → List ℕ → Bool
both_begin name ours theirs = starts_with nat_eq ours name && starts_with nat_eq theirs name

-- the first field in which two texts differ
abbrev pub field_in : List ℕ → List ℕ → Field
field_in ours theirs =
    if bytes_eq ours theirs then End
    else if is_step ours && is_step theirs then step_field ours theirs
    else if both_begin (codes "TOTAL ") ours theirs then Total
    else if both_begin (codes "STUCK ") ours theirs then Stuck
    else if both_begin (codes "TRACE ") ours theirs then Trace
    else Line

-- the first field in which two lines differ
abbrev pub field_of : List ℕ → List ℕ → Field
field_of ours theirs = field_in (text_of ours) (text_of theirs)

-- the name of a field for people
abbrev pub name_of : Field → List ℕ
name_of Step = codes "step"
name_of Processor = codes "processor"
name_of Command = codes "command"
name_of Address = codes "address"
name_of Answer = codes "answer"
name_of Word = codes "word"
name_of Found = codes "state found"
name_of Left = codes "state left"
name_of Cycles = codes "cycles"
name_of Total = codes "total"
name_of Stuck = codes "stuck"
name_of Trace = codes "trace"
name_of End = codes "end"
name_of Line = codes "line"
