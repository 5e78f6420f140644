-- Where the caches have a block.
use Rattle.std.specs.Prelude.{ℕ, Bool, not, ◌&&◌, List, is_some, Some, None, Option, ◌==◌, slice_index_or}
use Rattle.protocol.specs.declared.measures.Measures.{Measures}
use Rattle.protocol.specs.declared.line.Line.{Line}
use Rattle.protocol.specs.Entries.{valid}
use Rattle.protocol.specs.Lines.{blank_line, no_line}
use Rattle.protocol.specs.Places.{window_start}
use Rattle.protocol.specs.Finding.{lies_in, first_in, window_of, lowest_from}

abbrev pub holds_block : ℕ → Line → Bool
holds_block block = lies_in (λ l. valid l.state) (λ l. l.block) block block

-- the first line of the processor's window that has the block
abbrev pub line_of : Measures → List Line → ℕ → ℕ → Option ℕ
line_of m lines processor block =
    let start = window_start m processor block in
    first_in (holds_block block) start (window_of start m.ways lines)

-- the line at a place, or a blank one
abbrev pub line_at : List Line → Option ℕ → Line
line_at lines None = blank_line
line_at lines (Some place) = slice_index_or lines place no_line

abbrev pub has_copy : Measures → List Line → ℕ → ℕ → Bool
has_copy m lines block processor = is_some (line_of m lines processor block)

abbrev pub other_copy : Measures → List Line → ℕ → ℕ → ℕ → Bool
other_copy m lines asking block processor =
    not (processor == asking) && has_copy m lines block processor

-- the lowest processor but the asking one that has the block
abbrev pub supplier_of : Measures → List Line → ℕ → ℕ → Option ℕ
supplier_of m lines asking block = lowest_from (other_copy m lines asking block) 0 m.processors
