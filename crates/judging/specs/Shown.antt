-- The field in which the lines of two steps differ first, by what the steps show.
use Rattle.std.specs.Prelude.{◌≡◌, ◌≢◌, ℕ, Bool, if◌then◌else◌, not, List}
use Rattle.std.specs.Str.{bytes_eq}
use Rattle.text.specs.declared.step.Step.{Step}
use Rattle.text.specs.Digits.{fixed}
use Rattle.text.specs.Lines.{shown_of, line_of}
use Rattle.text.specs.Names.{command_named}
use Rattle.judging.specs.declared.fields.Field.{Field}
use Rattle.judging.specs.declared.fields.Field.TheVariants as field

abbrev pub apart : List ℕ → List ℕ → Bool
apart ours theirs = not (bytes_eq ours theirs)

-- the first field that two steps show differently
abbrev pub step_difference : Step → Step → Field
step_difference a b =
    let ours = shown_of a.answer in
    let theirs = shown_of b.answer in
    if apart (fixed 10 7 a.number) (fixed 10 7 b.number) then field.Step
    else if apart (fixed 10 1 a.request.processor) (fixed 10 1 b.request.processor) then field.Processor
    else if apart (command_named a.request.command) (command_named b.request.command) then field.Command
    else if apart (fixed 16 8 a.request.address) (fixed 16 8 b.request.address) then field.Address
    else if apart ours.name theirs.name then field.Answer
    else if apart (fixed 16 8 ours.word) (fixed 16 8 theirs.word) then field.Word
    else if apart ours.found theirs.found then field.Found
    else if apart ours.left theirs.left then field.Left
    else field.Cycles

-- lines of two steps that are not the same differ in that field
abbrev pub NamesField : List ℕ → List ℕ → Field → Type 0
NamesField ours theirs named =
    (a b : Step) → ours ≡ line_of a → theirs ≡ line_of b → ours ≢ theirs → named ≡ step_difference a b
