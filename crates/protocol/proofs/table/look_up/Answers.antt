use Rattle.std.proofs.Common.{rules}
use Rattle.protocol.proofs.table.look_up.Goals as goal

pub returns : goal.returns
returns c = rw (c.row.ensures.value, c.column.ensures.value) search rules
