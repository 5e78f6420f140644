-- A bump: LR as a hold, then UW with the word plus 1.
use Rattle.std.specs.Prelude.{◌≡◌, ℕ, ◌+◌, ◌^◌, ◌%◌, false, List, [], ◌∷◌, IfSome, Some, Ok, Err, Result}
use Rattle.protocol.specs.declared.answer.Answer.{Answer}
use Rattle.protocol.specs.declared.answer.Answer.TheVariants.{Done, Wait}
use Rattle.protocol.specs.declared.command.Command.TheVariants.{UW}
use Rattle.protocol.specs.declared.command.Request.{Request}
use Rattle.protocol.specs.declared.measures.Measures.{Measures}
use Rattle.protocol.specs.declared.refusal.Refusal.{Refusal}
use Rattle.protocol.specs.declared.geometry.Geometry.{Geometry}
use Rattle.memory.specs.Meaning.{Mem, Lawful}
use Rattle.cluster.specs.Board.{Board, Outcome, new_board}
use Rattle.cluster.specs.Rule.{command_rule}
use Rattle.law.specs.Calls.{Call, command}
use Rattle.law.specs.Law.{OnDone}
use Rattle.law.specs.Ledger.{Ledger, opened}
use Rattle.law.specs.Accounts.{left_along, ledger_along}
use Rattle.holds.specs.Holding.{lr_at}
use Rattle.holds.specs.Issued.{by}

abbrev pub one_more : ℕ → ℕ
one_more word = (word + 1) % 2 ^ 32

module _ (m : Measures) (processor address : ℕ) where
  abbrev pub word_back : ℕ → Request
  word_back word = by processor (UW (one_more word)) address

  -- a done LR is followed by UW; any other answer is the bump's
  abbrev pub bumped_from : Outcome Answer → Result Answer Refusal → Outcome Answer
  bumped_from o (Ok (Done done)) = command_rule m o.board (word_back done.word)
  bumped_from o (Ok (Wait hit)) = o
  bumped_from o (Err refusal) = o

  abbrev pub bump_rule : Board → Outcome Answer
  bump_rule b = let o = command_rule m b (lr_at processor address) in bumped_from o o.answer

  -- the commands issued
  abbrev pub bumping_after : Result Answer Refusal → List Call
  bumping_after (Ok (Done done)) = command (word_back done.word) ∷ []
  bumping_after (Ok (Wait hit)) = []
  bumping_after (Err refusal) = []

  abbrev pub bumping : Board → List Call
  bumping b =
      let o = command_rule m b (lr_at processor address) in
      command (lr_at processor address) ∷ bumping_after o.answer

-- the address has the word one higher, and the lock is free
pub record OneHigher (processor address read : ℕ) (l : Ledger) : Type 0 where
  pub word : l.words address ≡ Some (one_more read)
  pub free : l.holds processor address ≡ false

-- what a done bump makes of any ledger; the word is the one that LR answered
abbrev pub Bumped : Measures → ℕ → ℕ → Board → Result Answer Refusal → Type 0
Bumped m processor address b answer =
    OnDone answer (λ done. OnDone (command_rule m b (lr_at processor address)).answer
    (λ read. (l : Ledger)
    → OneHigher processor address read.word (ledger_along m b l (bumping m processor address b))))

-- in the words of the ledger before and after: its word is one higher, and the lock is free
pub record RaisedByOne (processor address : ℕ) (before after : Ledger) : Type 0 where
  pub word : IfSome (before.words address) (λ word. after.words address ≡ Some (one_more word))
  pub free : after.holds processor address ≡ false

-- so it is after a done bump, where calls from a new cluster led to it
abbrev pub Raised : Geometry → ℕ → ℕ → Board → Result Answer Refusal → Type 0
Raised g processor address b answer =
    (mem : Mem) → Lawful mem → (calls : List Call)
    → b ≡ left_along g.measures (new_board g.measures mem) calls
    → let before = ledger_along g.measures (new_board g.measures mem) (opened mem) calls in
    let after = ledger_along g.measures b before (bumping g.measures processor address b) in
    OnDone answer (λ done. RaisedByOne processor address before after)
