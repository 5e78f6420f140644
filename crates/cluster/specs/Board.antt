-- What a call may change, and what it answers.
use Rattle.std.specs.Prelude.{if◌then◌else◌, List, length, replicate, Ok, Err, Result}
use Rattle.protocol.specs.declared.line.Line.{Line}
use Rattle.protocol.specs.declared.lock.LockEntry.{LockEntry}
use Rattle.protocol.specs.declared.measures.Measures.{Measures}
use Rattle.protocol.specs.declared.refusal.Refusal.{Refusal}
use Rattle.protocol.specs.declared.refusal.Refusal.TheVariants.{TableLength}
use Rattle.protocol.specs.Lines.{blank_line}
use Rattle.protocol.specs.Places.{line_count, lock_count}
use Rattle.memory.specs.Meaning.{Mem}
use Rattle.cluster.specs.declared.cluster.Processor.{Processor}
use Rattle.cluster.specs.declared.cluster.Cluster.{Cluster}
use Rattle.cluster.specs.Making.{all_resting, blank_entry, tables_fit}

-- the processors' records, the lines, the lock entries, and what memory means
pub record Board : Type 0 where
  pub processors : List Processor
  pub lines : List Line
  pub locks : List LockEntry
  pub memory : Mem

-- what a cluster, the tables lent with it and a memory have
abbrev pub board_of : Cluster → List Line → List LockEntry → Mem → Board
board_of cluster lines locks mem =
    record { processors = cluster.processors; lines = lines; locks = locks; memory = mem }

-- a newly made cluster with its tables
abbrev pub new_board : Measures → Mem → Board
new_board m mem =
    record {
      processors = all_resting;
      lines = replicate (line_count m) blank_line;
      locks = replicate (lock_count m) blank_entry;
      memory = mem;
    }

-- the answer of a call, and what it leaves
pub record Outcome (A : Type 0) : Type 0 where
  pub answer : Result A Refusal
  pub board : Board

-- a refusal changes nothing
abbrev pub refusing : {A : Type 0} → Board → Refusal → Outcome A
refusing b r = record { answer = Err r; board = b }

abbrev pub unless_err : {X A : Type 0} → Board → Result X Refusal → (X → Outcome A) → Outcome A
unless_err b (Ok x) go = go x
unless_err b (Err r) go = refusing b r

-- a cluster and its tables made new, in the caller's place
abbrev pub making_rule : Measures → Board → Outcome (Unit {0})
making_rule m b =
    if tables_fit m (length b.lines) (length b.locks)
    then record { answer = Ok tt; board = new_board m b.memory }
    else refusing b TableLength
