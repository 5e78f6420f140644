use Rattle.std.proofs.Common.{◌≡◌, ℕ}
use Rattle.cluster.specs.Board.{board_of}
use Rattle.trace.specs.Traces.{records_of}
use Rattle.run.specs.Kept.{state_of, to_go_on, Going}
use Rattle.run.specs.Running.{started, steps_from, steps_of}
use Rattle.run.specs.Watching.{SeesAll}
use Rattle.run.proofs.watching.run_watched.Given as goal

-- who sees the steps to come from here on has seen all steps from the start on
abbrev pub invariant-loop-step : goal.invariant-loop-step
invariant-loop-step g l =
    let recs = records_of l.fn.trace.records.now in
    let m = l.initial.cluster.geometry.measures in
    let before = board_of l.initial.cluster l.initial.lines l.initial.locks
    (g.M.Memory.model l.initial.memory) in
    let first = started recs before in
    let here = state_of l.run (board_of l.cluster l.lines l.locks (g.M.Memory.model l.memory)) in
    ((fuel : ℕ) × Going m recs first here fuel
    × ((w : _) → SeesAll g.W.Watch.sees l.watcher (steps_from m recs fuel here) w
    → SeesAll g.W.Watch.sees l.initial.watcher (steps_of m recs first) w))
    × (l.run.trace ≡ l.fn.trace)
    × (l.cluster.geometry ≡ l.initial.cluster.geometry)
    × (g.M.Memory.standing l.memory ≡ g.M.Memory.standing l.initial.memory)

abbrev pub decreases-loop-step : goal.decreases-loop-step
decreases-loop-step g l =
    to_go_on l.cluster.geometry.measures l.run
    (board_of l.cluster l.lines l.locks (g.M.Memory.model l.memory))
