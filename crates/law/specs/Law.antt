-- What always holds, whatever is called: of the board, and of what the next call answers.
use Rattle.std.specs.Prelude.{◌≡◌, ℕ, ◌+◌, ◌*◌, ◌/◌, ◌<◌, Bool, true, false, not, ◌&&◌, ◌||◌, List, is_some, IfSome, Ok, Err, Result, ◌==◌, slice_index_or}
use Rattle.protocol.specs.declared.answer.Answer.{Answer}
use Rattle.protocol.specs.declared.answer.Answer.TheVariants.{Done, Wait}
use Rattle.protocol.specs.declared.answer.Completion.{Completion}
use Rattle.protocol.specs.declared.command.Command.{Command}
use Rattle.protocol.specs.declared.command.Command.TheVariants.{R, RI, RP, RB, LR}
use Rattle.protocol.specs.declared.command.Request.{Request}
use Rattle.protocol.specs.declared.geometry.Geometry.{Geometry}
use Rattle.protocol.specs.declared.line.Line.{Line}
use Rattle.protocol.specs.declared.measures.Measures.{Measures}
use Rattle.protocol.specs.declared.refusal.Refusal.{Refusal}
use Rattle.protocol.specs.declared.state.State.{State}
use Rattle.protocol.specs.declared.state.State.TheVariants.{EC, EM}
use Rattle.protocol.specs.Entries.{modified}
use Rattle.protocol.specs.Finding.{lowest_from}
use Rattle.protocol.specs.Lines.{no_line}
use Rattle.memory.specs.Meaning.{Mem, Lawful}
use Rattle.cluster.specs.Board.{Board, new_board}
use Rattle.cluster.specs.Rule.{command_rule}
use Rattle.upkeep.specs.Draining.{drain_rule}
use Rattle.cluster.specs.Copies.{holds_block}
use Rattle.cluster.specs.Settling.{releases_lock}
use Rattle.cluster.specs.Waiting.{awaited_in}
use Rattle.upkeep.specs.declared.drain.Drained.{Drained}
use Rattle.upkeep.specs.Holding.{holds}
use Rattle.law.specs.Accounts.{Throughout}
use Rattle.law.specs.Calls.{Call}
use Rattle.law.specs.Ledger.{Ledger, block_of, word_at, opened, waits_in, command_fed}

abbrev pub reads : Command → Bool
reads R = true
reads RI = true
reads RP = true
reads RB = true
reads LR = true
reads c = false

abbrev pub exclusive : State → Bool
exclusive EM = true
exclusive EC = true
exclusive s = false

abbrev pub OnDone : Result Answer Refusal → (Completion → Type 0) → Type 0
OnDone (Ok (Done done)) P = P done
OnDone answer P = Unit {0}

-- WAIT exactly where `locked` says so, unless it is refused
abbrev pub WaitsIf : Bool → Result Answer Refusal → Type 0
WaitsIf locked (Ok (Done done)) = locked ≡ false
WaitsIf locked (Ok (Wait hit)) = locked ≡ true
WaitsIf locked (Err refusal) = Unit {0}

-- a copy of a block is any line of the whole table with its number and not in I
abbrev pub line_on : Board → ℕ → Line
line_on b place = slice_index_or b.lines place no_line

abbrev pub copy_on : Board → ℕ → ℕ → Bool
copy_on b block place = holds_block block (line_on b place)

-- the processor whose cache has the place: lines are ordered by processor, then column, then way
abbrev pub owner : Measures → ℕ → ℕ
owner m place = place / (m.columns * m.ways)

abbrev pub locks_in : Ledger → ℕ → ℕ → Bool
locks_in l block p =
    l.holds p (4 * block) || l.holds p (4 * block + 1)
    || l.holds p (4 * block + 2) || l.holds p (4 * block + 3)

abbrev pub locked : Measures → Ledger → ℕ → Bool
locked m l block = is_some (lowest_from (locks_in l block) 0 m.processors)

abbrev pub locked_by_other : Measures → Ledger → ℕ → ℕ → Bool
locked_by_other m l asking block =
    is_some (lowest_from (λ p. not (p == asking) && locks_in l block p) 0 m.processors)

pub record Law (m : Measures) (b : Board) (l : Ledger) : Type 0 where
  -- a done command reads the ledger's word for its address, if there is one
  pub reads_ledger : (q : Request) → reads q.command ≡ true
      → OnDone (command_rule m b q).answer
      (λ done. IfSome (l.words q.address) (λ word. done.word ≡ word))
  -- after a finished drain memory has each word of the ledger
  pub drains_ledger : (d : Drained) → (drain_rule m b).answer ≡ Ok d → (address : ℕ)
      → IfSome (l.words address) (λ word. word_at (drain_rule m b).board.memory address ≡ word)
  -- an exclusive copy is the only one
  pub exclusive_alone : (block i j : ℕ) → copy_on b block i ≡ true → copy_on b block j ≡ true
      → exclusive (line_on b i).state ≡ true → j ≡ i
  pub copies_agree : (block i j : ℕ) → copy_on b block i ≡ true → copy_on b block j ≡ true
      → (line_on b i).words ≡ (line_on b j).words
  pub one_modified : (block i j : ℕ) → copy_on b block i ≡ true → copy_on b block j ≡ true
      → modified (line_on b i).state ≡ true → modified (line_on b j).state ≡ true → j ≡ i
  -- without a modified copy all agree with memory
  pub clean_as_memory : (block i : ℕ) → copy_on b block i ≡ true
      → ((j : ℕ) → copy_on b block j ≡ true → modified (line_on b j).state ≡ false)
      → (line_on b i).words ≡ b.memory.words block
  -- locks and awaited blocks are the ledger's
  pub locks : (processor address : ℕ) → processor < m.processors
      → holds m b.locks address processor ≡ l.holds processor address
  pub waits : (processor : ℕ) → awaited_in m b.processors processor ≡ l.waits processor
  -- no two processors hold locks in one block, and only the holder has copies of it
  pub one_holder : (p q a c : ℕ) → l.holds p a ≡ true → l.holds q c ≡ true
      → block_of a ≡ block_of c → q ≡ p
  pub holder_has_copies : (p a place : ℕ) → l.holds p a ≡ true
      → copy_on b (block_of a) place ≡ true → owner m place ≡ p
  -- a command not refused is answered WAIT exactly when another processor holds a lock in its block
  pub waits_where_locked : (q : Request)
      → WaitsIf (locked_by_other m l q.processor (block_of q.address)) (command_rule m b q).answer
  -- a release that leaves no lock in its block wakes all who wait for it
  pub release_wakes : (q : Request) → releases_lock q.command ≡ true
      → OnDone (command_rule m b q).answer (λ done. let after = command_fed q (Ok (Done done)) l in
      locked m after (block_of q.address) ≡ false
      → (r : ℕ) → waits_in (block_of q.address) (after.waits r) ≡ false)

-- for every lawful geometry, every memory that keeps a memory's laws and every list of calls from a
-- new cluster, at the start and after each call
abbrev pub LawHolds : Type 0
LawHolds =
    (g : Geometry) (mem : Mem) → Lawful mem → (calls : List Call)
    → Throughout (Law g.measures) g.measures (new_board g.measures mem) (opened mem) calls
