use Rattle.std.proofs.Common.{◌≡◌, ◌*◌, ◌+◌, ◌≤◌, get_or, Some, sym, ◌∙◌, arith, rules}
use Rattle.trace_text.specs.Numbers.{digit_in}
use Rattle.trace_text.proofs.Values.{digit_read, overflowed, whole_number}
use Rattle.trace_text.proofs.numbers.number_in.Goals as goal

pub returns-in_err-checked_mul : goal.returns-in_err-checked_mul
returns-in_err-checked_mul c =
    let base = c.args.base in
    let digits = c.args.digits.now in
    let at = c.loop-byte in
    let i = at.byte-index in
    let d = c.in_ok-digit.digit in
    let byte = get_or digits i 0 in
    let read : digit_in base byte ≡ Some d
    = digit_read base byte c.from.result d c.from.ensures c.in_ok-digit.ensures.value in
    let large : 4294967296 ≤ at.number * base + d = omega (arith, c.in_err-checked_mul.ensures) in
    c.from_residual-in_err-checked_mul.ensures
    ∙ sym (overflowed base c.args.most at.number i digits c.if-digits-most.false at.invariant.0
    d (omega arith) c.loop-byte-test.true read large)

pub returns-in_err-number : goal.returns-in_err-number
returns-in_err-number c =
    let base = c.args.base in
    let digits = c.args.digits.now in
    let at = c.loop-byte in
    let i = at.byte-index in
    let d = c.in_ok-digit.digit in
    let product = c.in_ok-checked_mul.ensures in
    let byte = get_or digits i 0 in
    let read : digit_in base byte ≡ Some d
    = digit_read base byte c.from.result d c.from.ensures c.in_ok-digit.ensures.value in
    let past = c.in_err-number.ensures in
    let large : 4294967296 ≤ at.number * base + d = omega (arith, product, past) in
    c.from_residual-in_err-number.ensures
    ∙ sym (overflowed base c.args.most at.number i digits c.if-digits-most.false at.invariant.0
    d (omega arith) c.loop-byte-test.true read large)

pub returns : goal.returns
returns c =
    let at = c.loop-byte in
    sym (whole_number c.args.base c.args.most at.number at.byte-index c.args.digits.now c.if-digits-most.false
    at.invariant.0 (search rules) c.loop-byte-test.false at.invariant.1)
