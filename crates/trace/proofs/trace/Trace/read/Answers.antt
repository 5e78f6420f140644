use Rattle.std.proofs.Common.{rules}
use Rattle.trace.proofs.Reading.{last_part}
use Rattle.trace.proofs.trace.Trace.read.Goals as goal

pub returns-in-None-clause-last_bytes : goal.returns-in-None-clause-last_bytes
returns-in-None-clause-last_bytes c =
    let t = c.in_ok-trailer.trailer in
    last_part c.args.bytes.now t.size (search rules) t.processors (search rules)
