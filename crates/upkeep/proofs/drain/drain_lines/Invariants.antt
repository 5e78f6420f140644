use Rattle.std.proofs.Common.{◌≡◌, ◌≤◌, take, drop}
use Rattle.upkeep.specs.Draining.{drain_from}
use Rattle.upkeep.proofs.Drains.{onto}
use Rattle.upkeep.proofs.drain.drain_lines.Given as goal

-- the lines drained so far, and what the drain makes of the rest
abbrev pub invariant-loop-line : goal.invariant-loop-line
invariant-loop-line g l =
    (onto (take l.line-index l.lines)
    (drain_from l.blocks (drop l.line-index l.lines) (g.M.Memory.model l.memory))
    ≡ drain_from 0 l.initial.lines (g.M.Memory.model l.initial.memory))
    × (g.M.Memory.standing l.memory ≡ g.M.Memory.standing l.initial.memory)
    × (l.blocks ≤ l.line-index)
