use Rattle.std.proofs.Common.{◌≡◌, ◌/◌, length, arith, rules}
use Rattle.trace.proofs.Codec.{encode_met}
use Rattle.trace.proofs.record.decode.Goals as goal

pub returns-clause-back : goal.returns-clause-back
returns-clause-back c =
    let bs = c.args.bytes.now in
    let four : length bs / 4 ≡ 4 = search rules in
    encode_met bs (λ i. let fits = c.type_inv.bytes i in omega (arith, fits))
    c.from_le_bytes-2.result _ c.from_le_bytes-address.result c.in_ok-command.command (
      four,
      search rules,
      search rules,
      search rules,
      search rules,
      search rules,
      search rules,
      search rules,
    )
