use Rattle.std.proofs.Common.{◌≡◌, suc, ◌+◌, ◌-◌, sym, ap, ◌∙◌, arith}
use Rattle.cluster.specs.Snooping.{snooped_from}
use Rattle.cluster.proofs.cluster.Cluster.snoop_others.Goals as goal

pub loop-p-preserved : goal.loop-p-preserved
loop-p-preserved c =
    let m = c.args.self.now.geometry.measures in
    let p = c.loop-p.p in
    let one : m.processors - p ≡ suc (m.processors - (p + 1)) = omega arith in
    ap (snooped_from m c.args.bus c.args.asking c.args.block (p + 1) (m.processors - (p + 1)))
    c.snoop_other.ensures
    ∙ sym (ap (λ n. snooped_from m c.args.bus c.args.asking c.args.block p n c.loop-p.lines) one)
    ∙ c.loop-p.invariant
