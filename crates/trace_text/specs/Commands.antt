-- The names of commands, without the space that fills them to two places.
use Rattle.std.specs.Prelude.{ℕ, Bool, if◌then◌else◌, List, [], ◌∷◌, take, None, Option, ◌==◌, slice_index, find, bytes_eq}
use Rattle.protocol.specs.declared.command.Command.{Command}
use Rattle.protocol.specs.declared.command.Command.TheVariants.{R, W, DW, RI, RP, RB, LR, UW, U}
use Rattle.text.specs.Names.{command_named}
use Rattle.trace.specs.Traces.{when_some}
use Rattle.trace_text.specs.Numbers.{hexadecimal_of}

abbrev pub unfilled : List ℕ → List ℕ
unfilled name = if slice_index name 1 == 32 then take 1 name else name

abbrev pub name_of : Command → List ℕ
name_of command = unfilled (command_named command)

abbrev pub is_named : List ℕ → Command → Bool
is_named name command = bytes_eq name (name_of command)

abbrev pub wordless_named : List ℕ → Option Command
wordless_named name = find (is_named name) (R ∷ (RI ∷ (RP ∷ (RB ∷ (LR ∷ (U ∷ []))))))

abbrev pub writing_named : List ℕ → ℕ → Option Command
writing_named name word = find (is_named name) (W word ∷ (DW word ∷ (UW word ∷ [])))

-- the command with a name and the fields behind the address: none, or the word that it writes
abbrev pub command_of : List ℕ → List (List ℕ) → Option Command
command_of name [] = wordless_named name
command_of name (word ∷ []) = when_some (hexadecimal_of word) (λ w. writing_named name w) None
command_of name (word ∷ (next ∷ later)) = None
