use Rattle.std.proofs.Common.{rules, tests}
use Rattle.cluster.specs.Board.{board_of}
use Rattle.cluster.proofs.Unlocking.{leaves_clean}
use Rattle.cluster.proofs.cluster.Cluster.issue.Goals as goal

-- src/command.rt:64:5
pub returns-clause-clean : goal.returns-clause-clean
returns-clause-clean g c =
    leaves_clean c.args.self.now.geometry.measures
    (board_of c.args.self.now c.args.lines.now c.args.locks.now (g.M.Memory.model c.args.memory.now))
    c.args.request _ _ (search (rules, tests)) (search (rules, tests))
