-- The way that a command takes in its window.
use Rattle.std.specs.Prelude.{ℕ, ◌+◌, ◌%◌, true, false, List, Some, None, Option}
use Rattle.protocol.specs.declared.measures.Measures.{Measures}
use Rattle.protocol.specs.declared.line.Line.{Line}
use Rattle.protocol.specs.Entries.{valid}
use Rattle.protocol.specs.Places.{window_start}
use Rattle.protocol.specs.Finding.{unused, first_in, window_of}
use Rattle.cluster.specs.declared.ways.Taken.{Taken}

-- the lowest way of the window that is I
abbrev pub free_way : Measures → List Line → ℕ → ℕ → Option ℕ
free_way m lines processor block =
    let start = window_start m processor block in
    first_in (unused (λ l. valid l.state)) start (window_of start m.ways lines)

-- a free way, else the one that the turn numbers
abbrev pub chosen_way : Option ℕ → ℕ → Taken
chosen_way (Some free) turned = record { place = free; by_turn = false }
chosen_way None turned = record { place = turned; by_turn = true }

abbrev pub taken_way : Measures → List Line → ℕ → ℕ → ℕ → Taken
taken_way m lines processor block turn =
    chosen_way (free_way m lines processor block) (window_start m processor block + turn % m.ways)
