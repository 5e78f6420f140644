-- What a writer has put into an output.
use Rattle.std.specs.Prelude.{ℕ, List}
use Rattle.trace.specs.declared.record.Record.{Record}
use Rattle.trace.specs.declared.writer.Writer.{Writer}
use Rattle.trace.specs.Writing.{Holds}

-- the output holds these records, by the writer's own numbers
abbrev pub HasPut : Writer → List ℕ → List Record → Type 0
HasPut w output rs = Holds w.processors w.count w.stamp output rs
