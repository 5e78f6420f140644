use Rattle.std.proofs.Common.{Some, ap, ◌∙◌, replicate, arith}
use Rattle.stats.specs.Copies.{all_counted}
use Rattle.stats.proofs.Blocks.{of_blocks}
use Rattle.stats.proofs.copies.blocks_by_copies.Goals as goal

pub returns : goal.returns
returns c =
    c.count_numbers.ensures
    ∙ ap (all_counted Some (replicate 9 0)) (c.deref.ensures.value ∙ c.in_ok-copies.ensures)
    ∙ of_blocks c.args.lines.now c.args.blocks (omega arith) (omega arith)
