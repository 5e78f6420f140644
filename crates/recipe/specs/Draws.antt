-- The numbers that a recipe draws, and the records that each is read as.
use Rattle.std.specs.Prelude.{ℕ, zero, suc, ◌+◌, ◌*◌, ◌/◌, ◌%◌, if◌then◌else◌, List, [], ◌∷◌, ◌++◌, nat_le}
use Rattle.protocol.specs.declared.command.Command.{Command}
use Rattle.protocol.specs.declared.command.Command.TheVariants.{R, W, LR, UW}
use Rattle.trace.specs.declared.record.Record.{Record}

-- a number below 2^32 from the one before it
abbrev pub drawn : ℕ → ℕ
drawn x = (1664525 * x + 1013904223) % 4294967296

-- 0 to 7: the highest three bits
abbrev pub kind_of : ℕ → ℕ
kind_of x = x / 536870912

-- from the next five bits
abbrev pub processor_of : ℕ → ℕ → ℕ
processor_of processors x = x / 16777216 % 32 % processors

-- from the low 24 bits
abbrev pub address_of : ℕ → ℕ → ℕ
address_of words x = x % 16777216 % words

module _ (words processors : ℕ) where
  -- stamped with the draw's number
  abbrev pub record_for : ℕ → ℕ → Command → Record
  record_for number x command =
      record {
        stamp = number;
        request = record {
          processor = processor_of processors x;
          command = command;
          address = address_of words x;
        };
      }

  -- a read, a write of the draw's number, or LR and UW one behind the other
  unfoldable pub records_for : ℕ → ℕ → List Record
  records_for number x =
      if nat_le (kind_of x) 4 then record_for number x R ∷ []
      else if nat_le (kind_of x) 6 then record_for number x (W number) ∷ []
      else record_for number x LR ∷ (record_for number x (UW number) ∷ [])

  -- the records of so many draws, the first of them with this number, behind the number x
  unfoldable pub records_drawn : ℕ → ℕ → ℕ → List Record
  records_drawn zero number x = []
  records_drawn (suc draws) number x =
      let y = drawn x in records_for number y ++ records_drawn draws (number + 1) y

-- draws are numbered from 1
abbrev pub records_of_recipe : ℕ → ℕ → ℕ → ℕ → List Record
records_of_recipe start draws words processors = records_drawn words processors draws 1 start
