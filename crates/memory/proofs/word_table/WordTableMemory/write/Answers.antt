use Rattle.std.proofs.Common.{◌+◌, ◌-◌, ◌*◌, ◌<◌, length, arith, rules}
use Rattle.std.proofs.lemmas.Bool.Decides.{nat_tests}
use Rattle.memory.specs.Words.{blocks_in}
use Rattle.memory.proofs.Tables.{table_written}
use Rattle.memory.proofs.word_table.WordTableMemory.write.Goals as goal

pub returns-clause-after : goal.returns-clause-after
returns-clause-after c =
    let ws = c.args.self.now.words.now in
    let below : c.args.block < blocks_in (length ws) = grind (arith, nat_tests) in
    rw c.copy_from_slice.ensures.after
    (table_written ws c.args.block (c.args.block * 4 + 4 - c.args.block * 4) c.args.words below
    (omega arith) (search rules))
