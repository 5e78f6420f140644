-- What an answer carries, done or waiting: a waiting one has word 0 and leaves the state found.
use Rattle.std.specs.Prelude.{ℕ}
use Rattle.protocol.specs.declared.state.State.{State}
use Rattle.protocol.specs.declared.answer.Answer.{Answer}
use Rattle.protocol.specs.declared.answer.Answer.TheVariants.{Done, Wait}

abbrev pub word_in : Answer → ℕ
word_in (Done done) = done.word
word_in (Wait hit) = 0

abbrev pub found_in : Answer → State
found_in (Done done) = done.found
found_in (Wait hit) = hit.found

abbrev pub left_in : Answer → State
left_in (Done done) = done.left
left_in (Wait hit) = hit.found

abbrev pub cycles_in : Answer → ℕ
cycles_in (Done done) = done.cycles
cycles_in (Wait hit) = hit.cycles
