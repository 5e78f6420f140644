-- A bump is its two commands, and what a done one makes of a ledger.
use Rattle.std.proofs.Common.{◌≡◌, ℕ, Bool, true, false, cond, eqb, [], IfSome, Some, None, Option, Ok, Err, Result, sym, refl, ap, ◌∙◌, subst, arith}
use Rattle.std.proofs.lemmas.Bool.Decides.{nat_tests}
use Rattle.protocol.specs.declared.answer.Answer.{Answer}
use Rattle.protocol.specs.declared.answer.Answer.TheVariants.{Done, Wait}
use Rattle.protocol.specs.declared.answer.Completion.{Completion}
use Rattle.protocol.specs.declared.command.Command.TheVariants.{UW}
use Rattle.protocol.specs.declared.geometry.Geometry.{Geometry}
use Rattle.protocol.specs.declared.measures.Measures.{Measures}
use Rattle.protocol.specs.declared.refusal.Refusal.{Refusal}
use Rattle.cluster.specs.Board.{Board, Outcome, new_board}
use Rattle.cluster.specs.Rule.{command_rule}
use Rattle.law.specs.Calls.{command, left_by}
use Rattle.law.specs.Ledger.{Ledger, opened, entered, released as lock_released, command_fed}
use Rattle.holds.specs.declared.hold.Hold.{Hold}
use Rattle.holds.specs.declared.hold.Taken.TheVariants.{Held, NotHeld}
use Rattle.holds.specs.declared.hold.Released.TheVariants.{Ended, Back}
use Rattle.law.specs.Accounts.{left_along, ledger_along}
use Rattle.law.specs.Law.{OnDone}
use Rattle.law.proofs.Along.{law_along}
use Rattle.holds.specs.Holding.{hold_at, lr_at, taken, ends, released, answer_of, sent, releasing}
use Rattle.holds.specs.Bumping.{one_more, word_back, bumped_from, bump_rule, bumping_after, bumping, OneHigher, Bumped, RaisedByOne, Raised}

pub held : (mine hold : Hold) (done : Completion) (r : Result Answer Refusal)
    → Held hold done ≡ taken mine r → (hold ≡ mine) × (r ≡ Ok (Done done))
held mine hold done (Ok (Done d)) h = (cc, cc)
held mine hold done (Ok (Wait hit)) h = absurd (cc)
held mine hold done (Err e) h = absurd (cc)

-- whatever becomes of the hold, the answer is the command's
pub answered_by : (hold : Hold) (r : Result Answer Refusal) → answer_of (released hold r) ≡ r
answered_by hold r = by_end (ends r)
  where
    by_end : (b : Bool) → answer_of (cond b (Ended r) (Back hold r)) ≡ r
    by_end true = refl
    by_end false = refl

itself : (n : ℕ) → eqb n n ≡ true
itself n = grind (arith, nat_tests)

module _ (m : Measures) (processor address : ℕ) where
  one_higher : (word : ℕ) (ul : Bool) (l : Ledger)
      → OneHigher processor address word
      (lock_released processor address ul (entered address (one_more word) l))
  one_higher word true l =
      record { word = rw (itself address) refl; free = rw (itself processor, itself address) refl }
  one_higher word false l =
      record { word = rw (itself address) refl; free = rw (itself processor, itself address) refl }

  module _ (b : Board) where
    abbrev first : Outcome Answer
    first = command_rule m b (lr_at processor address)

    abbrev pub locked : Board
    locked = left_by m b (command (lr_at processor address))

    abbrev fed_first : Result Answer Refusal → Ledger → Ledger
    fed_first r l =
        ledger_along m locked (command_fed (lr_at processor address) r l)
        (bumping_after m processor address r)

    -- a bump whose LR is not done is that LR
    pub record Stops (r answer : Result Answer Refusal) : Type 0 where
      pub answered : answer ≡ r
      pub rule : first ≡ bumped_from m processor address first r
      pub calls : [] ≡ bumping_after m processor address r
      pub bumped : Bumped m processor address b answer

    pub stops : (hold : Hold) (answer r : Result Answer Refusal) → NotHeld answer ≡ taken hold r
        → Stops r answer
    stops hold answer (Ok (Done d)) h = absurd (cc)
    stops hold (Ok (Done d)) (Ok (Wait hit)) h = absurd (cc)
    stops hold (Ok (Wait hit')) (Ok (Wait hit)) h =
        record { answered = cc; rule = refl; calls = refl; bumped = tt }
    stops hold (Err e) (Ok (Wait hit)) h = absurd (cc)
    stops hold (Ok (Done d)) (Err e) h = absurd (cc)
    stops hold (Ok (Wait hit)) (Err e) h = absurd (cc)
    stops hold (Err e') (Err e) h = record { answered = cc; rule = refl; calls = refl; bumped = tt }

    fed_twice : (done : Completion) → first.answer ≡ Ok (Done done) → (r : Result Answer Refusal)
        → (command_rule m locked (word_back m processor address done.word)).answer ≡ r
        → Bumped m processor address b r
    fed_twice done h (Ok (Wait hit)) h' = tt
    fed_twice done h (Err e) h' = tt
    fed_twice done h (Ok (Done d)) h' =
        let q = word_back m processor address done.word in
        let P : Result Answer Refusal → Type 0 =
        λ r. OnDone r (λ read. (l : Ledger) → OneHigher processor address read.word (fed_first r l)) in
        subst P (sym h) (λ l.
        let held = command_fed (lr_at processor address) (Ok (Done done)) l in
        let Q : Result Answer Refusal → Type 0 =
        λ r. OneHigher processor address done.word (command_fed q r held) in
        subst Q (sym h') (one_higher done.word d.ul held))

    -- a bump whose LR is done is UW too, from what LR left
    pub record Goes (m' : Measures) (b' : Board) (hold : Hold) (word : ℕ) : Type 0 where
      pub rule : command_rule m' b' (sent hold (UW (one_more word))) ≡ bump_rule m processor address b
      pub calls : left_along m' b' (releasing hold (UW (one_more word)))
          ≡ left_along m b (bumping m processor address b)
      pub bumped : (answer : Result Answer Refusal)
          → answer ≡ (command_rule m' b' (sent hold (UW (one_more word)))).answer
          → Bumped m processor address b answer

    pub goes : (m' : Measures) (b' : Board) (hold : Hold) (done : Completion)
        → m' ≡ m → b' ≡ locked → hold ≡ hold_at processor address → first.answer ≡ Ok (Done done)
        → Goes m' b' hold done.word
    goes m' b' hold done em eb eh e =
        let uw = UW (one_more done.word) in
        let moved : command_rule m' b' (sent hold uw)
        ≡ command_rule m locked (word_back m processor address done.word)
        = λ i. command_rule (em i) (eb i) (sent (eh i) uw) in
        record {
          rule = moved ∙ sym (ap (bumped_from m processor address first) e);
          calls = (λ i. left_by (em i) (eb i) (command (sent (eh i) uw)))
              ∙ sym (ap (λ r. left_along m locked (bumping_after m processor address r)) e);
          bumped = λ answer is. fed_twice done e answer
              (sym (ap (λ (o : Outcome Answer). o.answer) moved) ∙ sym is);
        }

-- the ledger's word is the one that LR reads
pub raised : (g : Geometry) (processor address : ℕ) (b : Board) (r : Result Answer Refusal)
    → r ≡ (bump_rule g.measures processor address b).answer
    → Bumped g.measures processor address b r → Raised g processor address b r
raised g processor address b r is made mem lawful calls from = by_first first.answer refl r is made
  where
    first : Outcome Answer
    first = command_rule g.measures b (lr_at processor address)

    before : Ledger
    before = ledger_along g.measures (new_board g.measures mem) (opened mem) calls

    after : Ledger
    after = ledger_along g.measures b before (bumping g.measures processor address b)

    read : OnDone first.answer (λ done. IfSome (before.words address) (λ word. done.word ≡ word))
    read = (law_along g b [] mem lawful calls from).reads_ledger (lr_at processor address) refl

    by_first : (x : Result Answer Refusal) → first.answer ≡ x → (r : Result Answer Refusal)
        → r ≡ (bump_rule g.measures processor address b).answer
        → Bumped g.measures processor address b r
        → OnDone r (λ done. RaisedByOne processor address before after)
    by_first x e (Ok (Wait hit)) is made = tt
    by_first x e (Err refusal) is made = tt
    by_first (Ok (Wait hit)) e (Ok (Done d)) is made =
        absurd (cc (is ∙ ap (λ y. (bumped_from g.measures processor address first y).answer) e ∙ e))
    by_first (Err refusal) e (Ok (Done d)) is made =
        absurd (cc (is ∙ ap (λ y. (bumped_from g.measures processor address first y).answer) e ∙ e))
    by_first (Ok (Done done)) e (Ok (Done d)) is made =
        record { word = by_word (before.words address) refl; free = higher.free }
      where
        higher : OneHigher processor address done.word after
        higher =
            subst (λ x. OnDone x
            (λ read. (l : Ledger) → OneHigher processor address read.word
            (ledger_along g.measures b l (bumping g.measures processor address b)))) e made before

        by_word : (w : Option ℕ) → before.words address ≡ w
            → IfSome w (λ word. after.words address ≡ Some (one_more word))
        by_word None same = tt
        by_word (Some word) same =
            let told : done.word ≡ word =
            subst (λ o. IfSome o (λ word. done.word ≡ word)) same
            (subst (λ a. OnDone a (λ done. IfSome (before.words address) (λ word. done.word ≡ word))) e
            read) in
            higher.word ∙ ap (λ n. Some (one_more n)) told
