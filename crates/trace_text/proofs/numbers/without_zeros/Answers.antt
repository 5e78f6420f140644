use Rattle.std.proofs.Common.{sym, ◌∙◌}
use Rattle.trace_text.proofs.Values.{one_digit}
use Rattle.trace_text.proofs.numbers.without_zeros.Goals as goal

pub returns-after-loop-rest : goal.returns-after-loop-rest
returns-after-loop-rest c =
    sym (one_digit c.loop-rest.rest.now c.loop-rest-test.false) ∙ c.loop-rest.invariant
