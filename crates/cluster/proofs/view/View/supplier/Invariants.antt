use Rattle.std.proofs.Common.{◌≡◌, ◌-◌, take, drop, None}
use Rattle.protocol.specs.Finding.{first_in, lowest_from}
use Rattle.cluster.specs.Copies.{holds_block, line_of, other_copy, supplier_of}
use Rattle.cluster.proofs.view.View.supplier.Given as goal

-- what is left of the processors gives the answer
abbrev pub invariant-caches : goal.invariant-caches
invariant-caches l =
    let m = l.self.cluster.now.geometry.measures in
    (l.holder ≡ None)
    × (lowest_from (other_copy m l.self.lines.now l.asking l.block) l.p (m.processors - l.p)
    ≡ supplier_of m l.self.lines.now l.asking l.block)

-- what is left of the window gives the processor's line
abbrev pub invariant-loop-i : goal.invariant-loop-i
invariant-loop-i l =
    (l.holder ≡ None)
    × (first_in (holds_block l.block) l.i (take (l.i-end - l.i) (drop l.i l.self.lines.now))
    ≡ line_of l.self.cluster.now.geometry.measures l.self.lines.now l.p l.block)
