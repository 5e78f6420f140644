-- The lines that are left to read.
use Rattle.std.specs.Prelude.{ℕ, ◌+◌, List, length}
use Rattle.trace_text.specs.declared.lines.Line.{Line}
use Rattle.trace_text.specs.declared.lines.Lines.{Lines}
use Rattle.trace_text.specs.Lines.{Numbered, lines_of, written}

abbrev pub numbered : Line → Numbered
numbered line = record { number = line.number; text = line.text.now }

abbrev pub lines_left : Lines → List Numbered
lines_left lines = written lines.number (lines_of lines.rest.now)

-- the number of the line behind the last
abbrev pub number_behind : Lines → ℕ
number_behind lines = lines.number + length (lines_of lines.rest.now)
