-- The drain: each modified line is written back, and every line becomes I.
use Rattle.std.specs.Prelude.{ℕ, ◌+◌, ◌*◌, if◌then◌else◌, List, [], ◌∷◌, Ok, Err, Result}
use Rattle.protocol.specs.declared.line.Line.{Line}
use Rattle.protocol.specs.declared.measures.Measures.{Measures}
use Rattle.protocol.specs.declared.refusal.Direction.TheVariants.{Write}
use Rattle.protocol.specs.declared.refusal.Refusal.{Refusal}
use Rattle.protocol.specs.declared.refusal.Refusal.TheVariants.{TableLength, Memory}
use Rattle.protocol.specs.Entries.{modified}
use Rattle.protocol.specs.Lines.{blank_line}
use Rattle.memory.specs.Meaning.{Mem, grants, written}
use Rattle.cluster.specs.Board.{Board, Outcome, refusing}
use Rattle.upkeep.specs.declared.drain.Drained.{Drained}
use Rattle.upkeep.specs.Counting.{lines_fit}

-- how many blocks a line gives to memory, or that memory refuses it
abbrev pub written_back : Mem → Line → Result ℕ Refusal
written_back mem line =
    if modified line.state
    then (if grants mem line.block then Ok 1 else Err (Memory line.block Write))
    else Ok 0

abbrev pub memory_back : Mem → Line → Mem
memory_back mem line = if modified line.state then written mem line.block line.words else mem

-- the blocks written, or why it stopped; and the lines and the memory then
pub record Drain : Type 0 where
  pub answer : Result ℕ Refusal
  pub lines : List Line
  pub memory : Mem

abbrev pub behind : Line → Drain → Drain
behind line d = record { answer = d.answer; lines = line ∷ d.lines; memory = d.memory }

abbrev pub unless_stopped : Result ℕ Refusal → Drain → (ℕ → Drain) → Drain
unless_stopped (Ok n) stopped on = on n
unless_stopped (Err refusal) stopped on =
    record { answer = Err refusal; lines = stopped.lines; memory = stopped.memory }

-- through the lines in order; a refused write stops it there, and that line and all later ones stay
abbrev pub drain_from : ℕ → List Line → Mem → Drain
drain_from blocks [] mem = record { answer = Ok blocks; lines = []; memory = mem }
drain_from blocks (line ∷ lines) mem =
    unless_stopped (written_back mem line)
    (record { answer = Ok blocks; lines = line ∷ lines; memory = mem })
    (λ n. behind blank_line (drain_from (blocks + n) lines (memory_back mem line)))

-- each block costs a swap-out
abbrev pub costed : Measures → Result ℕ Refusal → Result Drained Refusal
costed m (Ok blocks) = Ok (record { blocks = blocks; cycles = blocks * m.costs.swap_out })
costed m (Err refusal) = Err refusal

unfoldable pub drain_rule : Measures → Board → Outcome Drained
drain_rule m b =
    let d = drain_from 0 b.lines b.memory in
    if lines_fit m b.lines
    then record {
      answer = costed m d.answer;
      board = record b { lines = d.lines; memory = d.memory };
    }
    else refusing b TableLength
