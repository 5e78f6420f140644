-- A record and its sixteen bytes.
use Rattle.std.specs.Prelude.{◌≡◌, ℕ, ◌+◌, ◌*◌, ◌/◌, ◌%◌, Bool, if◌then◌else◌, ◌&&◌, List, [], ◌∷◌, ◌++◌, length, take, Some, None, Option, ◌==◌, slice_index}
use Rattle.std.specs.Option.{option_map, unwrap_or}
use Rattle.protocol.specs.declared.command.Command.{Command}
use Rattle.protocol.specs.declared.command.Command.TheVariants.{R, W, DW, RI, RP, RB, LR, UW, U}
use Rattle.protocol.specs.Acting.{written_by}
use Rattle.trace.specs.declared.record.Record.{Record}

-- four bytes, the lowest first
abbrev pub number_at : List ℕ → ℕ → ℕ
number_at bytes at =
    slice_index bytes at + slice_index bytes (at + 1) * 256 + slice_index bytes (at + 2) * 65536
    + slice_index bytes (at + 3) * 16777216

abbrev pub number_bytes : ℕ → List ℕ
number_bytes n = n % 256 ∷ (n / 256 % 256 ∷ (n / 65536 % 256 ∷ (n / 16777216 % 256 ∷ [])))

abbrev pub code_of : Command → ℕ
code_of R = 0
code_of (W word) = 1
code_of (DW word) = 2
code_of RI = 3
code_of RP = 4
code_of RB = 5
code_of LR = 6
code_of (UW word) = 7
code_of U = 8

-- the word that a command writes; 0 for the others
abbrev pub data_of : Command → ℕ
data_of command = unwrap_or (written_by command) 0

-- the command with a code that writes no word, if there is one
abbrev pub wordless_for : ℕ → Option Command
wordless_for code =
    if code == 0 then Some R
    else if code == 3 then Some RI
    else if code == 4 then Some RP
    else if code == 5 then Some RB
    else if code == 6 then Some LR
    else if code == 8 then Some U
    else None

-- the command with a code and data, if there is one
abbrev pub command_for : ℕ → ℕ → Option Command
command_for code word =
    if code == 1 then Some (W word)
    else if code == 2 then Some (DW word)
    else if code == 7 then Some (UW word)
    else if word == 0 then wordless_for code
    else None

-- stamp, processor, code, two zero bytes, address, data
abbrev pub encoded : Record → List ℕ
encoded r =
    number_bytes r.stamp ++ (r.request.processor ∷ (code_of r.request.command ∷ (0 ∷ (0 ∷
    (number_bytes r.request.address ++ number_bytes (data_of r.request.command))))))

abbrev pub well_formed : List ℕ → Bool
well_formed bytes = length bytes == 16 && slice_index bytes 6 == 0 && slice_index bytes 7 == 0

abbrev pub decoded : List ℕ → Option Record
decoded bytes =
    if well_formed bytes
    then option_map
    (λ command. record {
      stamp = number_at bytes 0;
      request =
          record {
            processor = slice_index bytes 4;
            command = command;
            address = number_at bytes 8;
          };
    })
    (command_for (slice_index bytes 5) (number_at bytes 12))
    else None

-- the first record of some bytes, and the bytes behind it
abbrev pub Takes : List ℕ → Option Record → List ℕ → Type 0
Takes bytes None rest = (decoded (take 16 bytes) ≡ None) × (rest ≡ bytes)
Takes bytes (Some r) rest = (decoded (take 16 bytes) ≡ Some r) × (bytes ≡ encoded r ++ rest)
