use Rattle.std.proofs.Common.{arith}
use Rattle.std.proofs.lemmas.Bool.Decides.{nat_tests}
use Rattle.memory.proofs.Tables.{block_taken}
use Rattle.memory.proofs.word_table.WordTableMemory.read.Goals as goal

pub returns : goal.returns
returns c = grind (arith, nat_tests, block_taken, c.as_chunks.ensures.front)
