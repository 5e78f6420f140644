use Rattle.std.proofs.Common.{rules}
use Rattle.run.proofs.Laws.{law_from}
use Rattle.run.proofs.board.Board.new.Goals as goal

pub returns-clause-law : goal.returns-clause-law
returns-clause-law c =
    law_from c.args.geometry c.at_rest.result c.in_ok-vec.field-0.items c.in_ok-vec-2.field-0.items
    (record { geometry = c.at_rest.ensures.geometry; board = λ mem. search rules })
