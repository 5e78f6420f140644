use Rattle.law.proofs.Along.{law_along}
use Rattle.cluster.specs.Board.{board_of}
use Rattle.holds.specs.Holding.{taking}
use Rattle.holds.proofs.hold.Hold.take.Goals as goal

pub returns-in-Ok-Done-clause-law : goal.returns-in-Ok-Done-clause-law
returns-in-Ok-Done-clause-law g c =
    let cluster = c.args.cluster.now in
    law_along cluster.geometry
    (board_of cluster c.args.lines.now c.args.locks.now (g.M.Memory.model c.args.memory.now))
    (taking c.args.processor c.args.address)

pub returns-in_default-clause-law : goal.returns-in_default-clause-law
returns-in_default-clause-law g c =
    let cluster = c.args.cluster.now in
    law_along cluster.geometry
    (board_of cluster c.args.lines.now c.args.locks.now (g.M.Memory.model c.args.memory.now))
    (taking c.args.processor c.args.address)

pub returns-in_default-2-clause-law : goal.returns-in_default-2-clause-law
returns-in_default-2-clause-law g c =
    let cluster = c.args.cluster.now in
    law_along cluster.geometry
    (board_of cluster c.args.lines.now c.args.locks.now (g.M.Memory.model c.args.memory.now))
    (taking c.args.processor c.args.address)
