-- The U of a clean block changes nothing that may be said of lines and memory.
use Rattle.std.specs.Prelude.{◌≡◌, ℕ, Bool, true, false, List, Ok, slice_index_or}
use Rattle.protocol.specs.declared.answer.Answer.TheVariants.{Done}
use Rattle.protocol.specs.declared.answer.Completion.{Completion}
use Rattle.protocol.specs.declared.command.Command.TheVariants.{U}
use Rattle.protocol.specs.declared.command.Request.{Request}
use Rattle.protocol.specs.declared.line.Line.{Line}
use Rattle.protocol.specs.declared.measures.Measures.{Measures}
use Rattle.protocol.specs.declared.state.State.TheVariants.{EC}
use Rattle.protocol.specs.Entries.{modified}
use Rattle.protocol.specs.Lines.{no_line}
use Rattle.memory.specs.Meaning.{Mem}
use Rattle.cluster.specs.Board.{Board}
use Rattle.cluster.specs.Copies.{holds_block}
use Rattle.cluster.specs.Rule.{command_rule}

-- what holds after a done U that finds EC if it held before, whatever the cluster, its tables and
-- its memory hold
abbrev pub Outlasts : (List Line → Mem → Type 0) → Type 0
Outlasts Said =
    (m : Measures) (b : Board) (q : Request) (done : Completion)
    → q.command ≡ U → (command_rule m b q).answer ≡ Ok (Done done) → done.found ≡ EC
    → Said b.lines b.memory
    → let after = (command_rule m b q).board in Said after.lines after.memory

-- copies that are not modified have memory's words
abbrev pub CleanAsMemory : List Line → Mem → Type 0
CleanAsMemory lines mem =
    (block place : ℕ) → let line = slice_index_or lines place no_line in
    holds_block block line ≡ true → modified line.state ≡ false → line.words ≡ mem.words block

pub record CleanUnlocksChangeNoCopy : Type 0 where
  -- whatever a test says of them
  pub tested : (test : List Line → Mem → Bool) → Outlasts (λ lines mem. test lines mem ≡ true)
  pub clean_as_memory : Outlasts CleanAsMemory
