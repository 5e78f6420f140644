-- Where lines and lock entries stand in their tables.
use Rattle.std.specs.Prelude.{ℕ, ◌+◌, ◌*◌, ◌%◌}
use Rattle.protocol.specs.declared.measures.Measures.{Measures}

abbrev pub line_count : Measures → ℕ
line_count m = m.processors * m.columns * m.ways

abbrev pub lock_count : Measures → ℕ
lock_count m = m.processors * m.lock_entries

abbrev pub column_of : Measures → ℕ → ℕ
column_of m block = block % m.columns

-- lines are ordered by processor, then column, then way
abbrev pub window_start : Measures → ℕ → ℕ → ℕ
window_start m processor block = (processor * m.columns + column_of m block) * m.ways

abbrev pub locks_start : Measures → ℕ → ℕ
locks_start m processor = processor * m.lock_entries
