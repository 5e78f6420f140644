-- How many records some bytes hold.
use Rattle.std.specs.Prelude.{ℕ, ◌/◌, List, length}

abbrev pub records_in : List ℕ → ℕ
records_in bytes = length bytes / 16
