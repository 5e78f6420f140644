use Rattle.std.proofs.Common.{rules}
use Rattle.trace_text.proofs.Placing.{may_be_written}
use Rattle.trace_text.proofs.reading.read_text.Goals as goal

pub returns-clause-may_be_written : goal.returns-clause-may_be_written
returns-clause-may_be_written c = may_be_written c.args.text.now c.map.result (search rules)
