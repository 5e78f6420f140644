use Rattle.std.proofs.Common.{◌≡◌, ◌/◌, ◌++◌, take, drop}
use Rattle.cluster.specs.Locks.{waited_at, waited_for}
use Rattle.cluster.specs.Tables.{map_from}
use Rattle.cluster.proofs.cluster.Cluster.mark_waited.Given as goal

-- the entries marked so far, and the rest once marked
abbrev pub invariant-loop-i : goal.invariant-loop-i
invariant-loop-i l =
    let m = l.self.geometry.measures in
    take l.i l.locks ++ map_from (waited_at m l.asking (l.address / 4)) l.i (drop l.i l.locks)
    ≡ waited_for m l.initial.locks l.asking (l.address / 4)
