-- What a bus command does to the other caches.
use Rattle.std.specs.Prelude.{ℕ, zero, suc, ◌+◌, if◌then◌else◌, List, Some, None, Option, ◌==◌, slice_index_or, slice_set}
use Rattle.protocol.specs.declared.command.BusCommand.{BusCommand}
use Rattle.protocol.specs.declared.measures.Measures.{Measures}
use Rattle.protocol.specs.declared.line.Line.{Line}
use Rattle.protocol.specs.Lines.{no_line, in_state}
use Rattle.protocol.specs.StateTable.{snooped}
use Rattle.cluster.specs.Copies.{line_of}

abbrev pub snooped_at : BusCommand → List Line → Option ℕ → List Line
snooped_at bus lines None = lines
snooped_at bus lines (Some place) =
    let line = slice_index_or lines place no_line in
    slice_set lines place (in_state line (snooped bus line.state))

-- in a cache the first line found for the block changes
abbrev pub cache_snooped : Measures → BusCommand → ℕ → ℕ → List Line → List Line
cache_snooped m bus block processor lines = snooped_at bus lines (line_of m lines processor block)

abbrev pub other_snooped : Measures → BusCommand → ℕ → ℕ → ℕ → List Line → List Line
other_snooped m bus asking block processor lines =
    if processor == asking then lines else cache_snooped m bus block processor lines

-- cache by cache, all but the asking one's
abbrev pub snooped_from : Measures → BusCommand → ℕ → ℕ → ℕ → ℕ → List Line → List Line
snooped_from m bus asking block processor zero lines = lines
snooped_from m bus asking block processor (suc count) lines =
    snooped_from m bus asking block (processor + 1) count
    (other_snooped m bus asking block processor lines)

abbrev pub others_snooped : Measures → BusCommand → ℕ → ℕ → List Line → List Line
others_snooped m bus asking block lines = snooped_from m bus asking block 0 m.processors lines
