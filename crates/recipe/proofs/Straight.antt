-- A run in which nobody ever waits issues the records in their order.
use Rattle.std.proofs.Common.{◌≡◌, ℕ, zero, suc, ◌+◌, ◌*◌, ◌<◌, ◌≤◌, Bool, true, false, ltb, leb, List, ◌∷◌, length, get_or, drop, Some, None, Ok, Err, Result, refl, ◌∙◌, subst, inl, inr, mul-le-mul_right, arith}
use Rattle.std.specs.List.{list_all}
use Rattle.std.proofs.lemmas.List.{drop_more}
use Rattle.std.proofs.lemmas.Bool.Decides.{leb_tells, nat_tests}
use Rattle.protocol.specs.declared.answer.Answer.{Answer}
use Rattle.protocol.specs.declared.answer.Answer.TheVariants.{Done, Wait}
use Rattle.protocol.specs.declared.measures.Measures.{Measures}
use Rattle.protocol.specs.declared.refusal.Refusal.{Refusal}
use Rattle.protocol.proofs.Finding.{lowest_is, lowest_none}
use Rattle.cluster.specs.Board.{Board}
use Rattle.cluster.specs.Rule.{command_rule}
use Rattle.cluster.specs.Waiting.{awaited_in}
use Rattle.trace.specs.declared.record.Record.{Record}
use Rattle.run.specs.Answered.{finishes_record}
use Rattle.run.specs.Running.{Running, how_many, no_record, request_at, may_step, due, stepped, shown, run_from, steps_from, started, left, to_go}
use Rattle.recipe.specs.Runs.{is_done, step_done, AllDone}

-- nobody waits
abbrev pub Awake : Measures → Board → Type 0
Awake m b = (p : ℕ) → awaited_in m b.processors p ≡ None

finishes : (r : Result Answer Refusal) → is_done r ≡ true → finishes_record r ≡ true
finishes (Ok (Done done)) h = refl
finishes (Ok (Wait hit)) h = absurd (cc)
finishes (Err refusal) h = absurd (cc)

all_many : (test : ℕ → Bool) (n from : ℕ) → ((j : ℕ) → from ≤ j → j < from + n → test j ≡ true)
    → how_many test from n ≡ n
all_many test zero from h = refl
all_many test (suc n) from h =
    let rest = all_many test n (from + 1) (λ j a b. h j (omega (arith, a)) (omega (arith, b))) in
    rw (h from (omega arith) (omega arith), rest) (omega arith)

none_many : (test : ℕ → Bool) (n from : ℕ) → ((j : ℕ) → from ≤ j → j < from + n → test j ≡ false)
    → how_many test from n ≡ 0
none_many test zero from h = refl
none_many test (suc n) from h =
    let rest = none_many test n (from + 1) (λ j a b. h j (omega (arith, a)) (omega (arith, b))) in
    rw (h from (omega arith) (omega arith), rest) refl

-- what a board keeps where some records are to come, so that each of them is done
pub record Goes (m : Measures) (Good : List Record → Board → Type 0) : Type 0 where
  pub awake : (rs : List Record) (b : Board) → Good rs b → Awake m b
  pub done : (r : Record) (rs : List Record) (b : Board) → Good (r ∷ rs) b
      → is_done (command_rule m b r.request).answer ≡ true
  pub next : (r : Record) (rs : List Record) (b : Board) → Good (r ∷ rs) b
      → Good rs (command_rule m b r.request).board

module _ (m : Measures) (Good : List Record → Board → Type 0) (goes : Goes m Good)
    (records : List Record) where
  abbrev n : ℕ
  n = length records

  -- the first k records are finished
  record At (k : ℕ) (s : Running) : Type 0 where
    unfinished : (j : ℕ) → j < n → s.unfinished j ≡ leb k j
    good : Good (drop k records) s.board

  module _ (k : ℕ) (s : Running) (at : At k s) where
    tries : (j : ℕ) → j < n → may_step m records s j ≡ leb k j
    tries j low =
        let none = goes.awake (drop k records) s.board at.good (request_at records j).processor in
        rw (at.unfinished j low, none) (grind (arith, nat_tests))

    due_next : k < n → due m records s ≡ Some k
    unfolding due
    due_next low =
        lowest_is (may_step m records s) n 0 k (omega arith) (omega (arith, low))
        (tries k low ∙ grind (arith, nat_tests))
        (λ j a b. tries j (omega (arith, b, low)) ∙ grind (arith, nat_tests, b))

    due_none : n ≤ k → due m records s ≡ None
    unfolding due
    due_none high =
        lowest_none (may_step m records s) n 0
        (λ j a b. tries j (omega (arith, b)) ∙ grind (arith, nat_tests, b, high))

    module _ (low : k < n) where
      here : Good (get_or records k no_record ∷ drop (k + 1) records) s.board
      here = subst (λ rs. Good rs s.board) (drop_more records k no_record low) at.good

      is : is_done (command_rule m s.board (request_at records k)).answer ≡ true
      is = goes.done (get_or records k no_record) (drop (k + 1) records) s.board here

      further : At (k + 1) (stepped m records s k)
      unfolding stepped
      further =
          record {
            unfinished = λ j h. rw (at.unfinished j h, finishes _ is) (grind (arith, nat_tests));
            good = goes.next (get_or records k no_record) (drop (k + 1) records) s.board here;
          }

  record Rest (fuel k : ℕ) (s : Running) : Type 0 where
    done : list_all step_done (steps_from m records fuel s) ≡ true
    many : length (steps_from m records fuel s) + k ≡ n
    end : At n (run_from m records fuel s)

  rest : (fuel k : ℕ) (s : Running) → At k s → k ≤ n → n ≤ k + fuel → Rest fuel k s
  unfolding steps_from run_from shown
  rest zero k s at low high =
      let all : k ≡ n = omega (arith, low, high) in
      record { done = refl; many = omega (arith, all); end = subst (λ x. At x s) all at }
  rest (suc fuel) k s at low high = elim (leb_tells n k) [
    | inl over ↦
        let all : k ≡ n = let last = over.1 in omega (arith, low, last) in
        let none = due_none k s at over.1 in
        record {
          done = rw none refl;
          many = rw none (omega (arith, all));
          end = rw none (subst (λ x. At x s) all at);
        }
    | inr more ↦
        let less = more.1 in
        let next = due_next k s at more.1 in
        let after = rest fuel (k + 1) (stepped m records s k) (further k s at more.1) (omega (arith, less))
        (omega (arith, high)) in
        let many = after.many in
        record {
          done = rw next (rw (is k s at more.1) after.done);
          many = rw next (omega (arith, many));
          end = rw next after.end;
        }
  ]

  pub all_done : (b : Board) → 1 ≤ m.processors → Good records b → AllDone m b records
  all_done b some good =
      let s = started records b in
      let start : At 0 s = record { unfinished = λ j h. grind (arith, nat_tests); good = good } in
      let many : left m records s ≡ n = all_many (λ i. ltb i n) n 0 (λ j a h. grind (arith, nat_tests)) in
      let up : 1 * left m records s ≤ m.processors * left m records s =
      mul-le-mul_right (left m records s) some in
      let went = rest (to_go m records s) 0 s start (omega arith) (omega (arith, many, up)) in
      let steps = went.many in
      record {
        none_left = none_many _ n 0 (λ j a h. went.end.unfinished j (omega (arith, h))
            ∙ grind (arith, nat_tests, h));
        all_done = went.done;
        as_many = omega (arith, steps);
      }
