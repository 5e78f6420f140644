use Rattle.std.proofs.Common.{refl, rules}
use Rattle.protocol.proofs.Finding.{lowest_found}
use Rattle.upkeep.specs.Holding.{holds}
use Rattle.upkeep.proofs.holder.lowest_holder.Goals as goal

pub returns : goal.returns
returns c =
    let m = c.args.cluster.now.geometry.measures in
    let test = holds m c.args.locks.now c.args.address in
    lowest_found test test 0 c.processors.result m.processors (search rules) (λ i low. refl) _ _
    c.find.result c.find.ensures.ran
    (λ x q k. search rules) (λ x q k. search rules)
