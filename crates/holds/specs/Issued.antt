-- The commands that holds issue.
use Rattle.std.specs.Prelude.{ℕ}
use Rattle.protocol.specs.declared.command.Command.{Command}
use Rattle.protocol.specs.declared.command.Request.{Request}

abbrev pub by : ℕ → Command → ℕ → Request
by processor command address =
    record { processor = processor; command = command; address = address }
