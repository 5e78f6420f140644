use Rattle.protocol.specs.declared.command.Command.TheVariants.{U}
use Rattle.law.proofs.Along.{law_along}
use Rattle.cluster.specs.Board.{board_of}
use Rattle.holds.specs.Holding.{releasing}
use Rattle.holds.proofs.hold.Hold.release.Goals as goal

pub returns-clause-law : goal.returns-clause-law
returns-clause-law g c =
    let cluster = c.args.cluster.now in
    law_along cluster.geometry
    (board_of cluster c.args.lines.now c.args.locks.now (g.M.Memory.model c.args.memory.now))
    (releasing c.args.self U)
