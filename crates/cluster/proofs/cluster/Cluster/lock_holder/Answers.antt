use Rattle.std.proofs.Common.{◌/◌, refl, arith, rules}
use Rattle.protocol.proofs.Finding.{lowest_found}
use Rattle.cluster.specs.Locks.{other_lock}
use Rattle.cluster.proofs.cluster.Cluster.lock_holder.Goals as goal

pub returns : goal.returns
returns c =
    let m = c.args.self.now.geometry.measures in
    let test = other_lock m c.args.locks.now c.args.asking (c.args.address / 4) in
    lowest_found test test 0 c.processors.result m.processors (omega arith) (λ i low. refl) _ _
    c.find.result c.find.ensures.ran
    (λ x q k. search rules) (λ x q k. search rules)
