use Rattle.std.proofs.Common.{◌≡◌, ℕ}
use Rattle.cluster.specs.Board.{board_of}
use Rattle.run.specs.Kept.{records_for, state_of, to_go_on, Going}
use Rattle.run.proofs.run.Run.finish.Given as goal

abbrev pub invariant-loop : goal.invariant-loop
invariant-loop g l =
    let recs = records_for l.initial.self in
    let first = state_of l.initial.self
    (board_of l.initial.cluster l.initial.lines l.initial.locks (g.M.Memory.model l.initial.memory)) in
    let here = state_of l.self (board_of l.cluster l.lines l.locks (g.M.Memory.model l.memory)) in
    ((fuel : ℕ) × Going l.initial.cluster.geometry.measures recs first here fuel)
    × (l.self.trace ≡ l.initial.self.trace)
    × (l.cluster.geometry ≡ l.initial.cluster.geometry)
    × (g.M.Memory.standing l.memory ≡ g.M.Memory.standing l.initial.memory)

abbrev pub decreases-loop : goal.decreases-loop
decreases-loop g l =
    to_go_on l.cluster.geometry.measures l.self
    (board_of l.cluster l.lines l.locks (g.M.Memory.model l.memory))
