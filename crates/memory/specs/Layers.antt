-- Memories over other memories, by the meanings below.
use Rattle.std.specs.Prelude.{ℕ, ◌*◌, ◌/◌, ◌%◌, min, Bool, if◌then◌else◌, not, ◌&&◌, List, Option, ◌==◌}
use Rattle.memory.specs.Dead.{listed}
use Rattle.memory.specs.Meaning.{Mem}

abbrev pub even : ℕ → Bool
even block = block % 2 == 0

-- even blocks are the first memory's, odd ones the second's
abbrev pub interleaved : Mem → Mem → Mem
interleaved first second =
    record {
      count = min (2 * min first.count second.count) 1048576;
      live = λ block. if even block then first.live (block / 2) else second.live (block / 2);
      words = λ block. if even block then first.words (block / 2) else second.words (block / 2);
    }

-- a listed block is dead
abbrev pub screened : List (Option ℕ) → Mem → Mem
screened dead m =
    record {
      count = m.count;
      live = λ block. not (listed dead block) && m.live block;
      words = m.words;
    }
