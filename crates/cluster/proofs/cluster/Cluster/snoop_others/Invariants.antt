use Rattle.std.proofs.Common.{◌≡◌, ◌-◌}
use Rattle.cluster.specs.Snooping.{snooped_from, others_snooped}
use Rattle.cluster.proofs.cluster.Cluster.snoop_others.Given as goal

-- what is left of the processors gives the lines
abbrev pub invariant-loop-p : goal.invariant-loop-p
invariant-loop-p l =
    let m = l.self.geometry.measures in
    snooped_from m l.bus l.asking l.block l.p (m.processors - l.p) l.lines
    ≡ others_snooped m l.bus l.asking l.block l.initial.lines
