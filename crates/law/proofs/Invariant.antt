-- What is kept from call to call: of the lines by their places, of locks, of words.
use Rattle.std.proofs.Common.{◌≡◌, ℕ, ◌+◌, ◌%◌, ◌<◌, ◌≤◌, true, false, List, [], ◌∷◌, length, get_or, Some}
use Rattle.protocol.specs.declared.line.Line.{Line}
use Rattle.protocol.specs.declared.lock.LockEntry.{LockEntry}
use Rattle.protocol.specs.declared.measures.Measures.{Measures}
use Rattle.protocol.specs.Entries.{valid, modified}
use Rattle.protocol.specs.Lines.{no_line}
use Rattle.protocol.specs.Places.{window_start}
use Rattle.cluster.specs.Board.{Board}
use Rattle.cluster.specs.Copies.{holds_block}
use Rattle.cluster.specs.Locks.{somebody_waits}
use Rattle.cluster.specs.Making.{blank_entry}
use Rattle.law.specs.Accounts.{Throughout}
use Rattle.law.specs.Calls.{Call, said_by, left_by}
use Rattle.law.specs.Law.{exclusive, owner}
use Rattle.law.specs.Ledger.{Ledger, block_of, fed}

-- the line at each place, one that is I past the end
abbrev pub at_in : List Line → ℕ → Line
at_in lines i = get_or lines i no_line

-- a copy of the block stands at the place
abbrev pub copy : (ℕ → Line) → ℕ → ℕ → Type 0
copy at block i = holds_block block (at i) ≡ true

-- the lines at their places, memory's words, and the words that each block has
pub record Coherent (at : ℕ → Line) (mem truth : ℕ → List ℕ) : Type 0 where
  pub alone : (block i j : ℕ) → copy at block i → copy at block j → exclusive (at i).state ≡ true → j ≡ i
  pub single : (block i j : ℕ) → copy at block i → copy at block j → modified (at i).state ≡ true
      → modified (at j).state ≡ true → j ≡ i
  pub agree : (block i : ℕ) → copy at block i → (at i).words ≡ truth block
  pub clean : (block : ℕ) → ((i : ℕ) → copy at block i → modified (at i).state ≡ false)
      → mem block ≡ truth block

-- the place lies in its owner's window for the block
pub record Home (m : Measures) (block i : ℕ) : Type 0 where
  pub listed : owner m i < m.processors
  pub from : window_start m (owner m i) block ≤ i
  pub to : i < window_start m (owner m i) block + m.ways

-- each copy stands in its block's window, and a cache has one of a block at most
pub record Homed (m : Measures) (at : ℕ → Line) : Type 0 where
  pub home : (i : ℕ) → valid (at i).state ≡ true → Home m (at i).block i
  pub once : (block i j : ℕ) → copy at block i → copy at block j → owner m i ≡ owner m j → i ≡ j

-- each block has four words, and the ledger's words are among them
pub record Tied (truth : ℕ → List ℕ) (l : Ledger) : Type 0 where
  pub four : (block : ℕ) → length (truth block) ≡ 4
  pub words : (address word : ℕ) → l.words address ≡ Some word
      → get_or (truth (block_of address)) (address % 4) 0 ≡ word

-- only the holder has copies of a locked block
abbrev pub HolderAlone : Measures → (ℕ → Line) → Ledger → Type 0
HolderAlone m at l = (p a i : ℕ) → l.holds p a ≡ true → copy at (block_of a) i → owner m i ≡ p

abbrev pub OneHolder : Ledger → Type 0
OneHolder l = (p q a c : ℕ) → l.holds p a ≡ true → l.holds q c ≡ true → block_of a ≡ block_of c → q ≡ p

-- an entry of the lock table that somebody waits for, for an address of the block
pub record Marked (locks : List LockEntry) (block : ℕ) : Type 0 where
  pub place : ℕ
  pub inside : place < length locks
  pub waited : somebody_waits (get_or locks place blank_entry) ≡ true
  pub here : block_of (get_or locks place blank_entry).address ≡ block

abbrev pub AllMarked : List LockEntry → Ledger → Type 0
AllMarked locks l = (r block : ℕ) → l.waits r ≡ Some block → Marked locks block

-- what is kept from call to call holds throughout, and what follows from it
module _ (m : Measures) (P Keep : Board → Ledger → Type 0)
    (then : (b : Board) (l : Ledger) → Keep b l → P b l)
    (next : (b : Board) (l : Ledger) → Keep b l → (call : Call)
    → Keep (left_by m b call) (fed call (said_by m b call) l)) where
  pub throughout : (b : Board) (l : Ledger) → Keep b l → (calls : List Call) → Throughout P m b l calls
  throughout b l h [] = then b l h
  throughout b l h (call ∷ calls) =
      (then b l h, throughout (left_by m b call) (fed call (said_by m b call) l) (next b l h call) calls)
