-- Each step leaves less to go.
use Rattle.std.proofs.Common.{◌≡◌, ℕ, zero, suc, ◌+◌, ◌-◌, ◌*◌, ◌<◌, ◌≤◌, Bool, true, false, cond, not, ◌&&◌, eqb, ltb, leb, List, [], ◌∷◌, length, get_or, is_some, Some, None, Ok, Err, Option, Result, sym, refl, ap, ◌∙◌, inl, inr, mul-suc, arith}
use Rattle.std.proofs.lemmas.Bool.Decides.{leb_tells, nat_tests}
use Rattle.std.specs.List.{count_by, range_with_len}
use Rattle.std.specs.Option.{option_map}
use Rattle.std.proofs.lemmas.List.Sums.{sum_by-cons}
use Rattle.protocol.specs.declared.answer.Answer.{Answer}
use Rattle.protocol.specs.declared.answer.Answer.TheVariants.{Done, Wait}
use Rattle.protocol.specs.declared.refusal.Refusal.{Refusal}
use Rattle.protocol.specs.declared.measures.Measures.{Measures}
use Rattle.protocol.specs.declared.command.Request.{Request}
use Rattle.protocol.specs.Finding.{lowest_from}
use Rattle.protocol.proofs.Finding.{Lowest, lowest_tells}
use Rattle.cluster.specs.declared.cluster.Processor.{Processor}
use Rattle.cluster.specs.Making.{resting, tables_fit}
use Rattle.cluster.specs.Board.{Board}
use Rattle.cluster.specs.Rule.{command_rule}
use Rattle.cluster.specs.Waiting.{awaited_in, idle, FewerIdle}
use Rattle.run.specs.Answered.{cost_of, finishes_record}
use Rattle.trace.specs.declared.record.Record.{Record}
use Rattle.trace.specs.Traces.{when_some}
use Rattle.text.specs.declared.step.Step.{Step}
use Rattle.run.specs.Running.{Running, how_many, request_at, may_step, due, outcome_at, stepped, shown, left, to_go}

pub idle_most : (n : ℕ) (ps : List Processor) → idle n ps ≤ n
idle_most zero ps = omega arith
idle_most (suc n) [] = omega arith
idle_most (suc n) (p ∷ ps) = let rest = idle_most n ps in grind arith

idle_some : (n : ℕ) (ps : List Processor) (p : ℕ) → p < n → p < length ps
    → (get_or ps p resting).waits_for ≡ None → 1 ≤ idle n ps
idle_some zero ps p h k e = omega arith
idle_some (suc n) [] p h k e = omega arith
idle_some (suc n) (x ∷ ps) zero h k e = rw e (omega arith)
idle_some (suc n) (x ∷ ps) (suc p) h k e =
    let rest = idle_some n ps p (omega (arith, h)) (omega (arith, k)) e in omega (arith, rest)

-- a test that fails from some number on in the same places counts the same
same_many : (f g : ℕ → Bool) (n from : ℕ) → ((j : ℕ) → from ≤ j → f j ≡ g j)
    → how_many f from n ≡ how_many g from n
same_many f g zero from same = refl
same_many f g (suc n) from same =
    let rest = same_many f g n (from + 1) (λ j h. same j (omega (arith, h))) in
    let here = same from (omega arith) in
    λ k. cond (here k) 1 0 + rest k

-- the numbers that pass, counted one by one
pub counted : (test : ℕ → Bool) (n from : ℕ)
    → count_by test (range_with_len from n) ≡ how_many test from n
counted test zero from = refl
counted test (suc n) from =
    sum_by-cons (λ y. cond (test y) 1 0) from (range_with_len (from + 1) n)
    ∙ ap (λ k. cond (test from) 1 0 + k) (counted test n (from + 1))

module _ (u : ℕ → Bool) (i : ℕ) (is : u i ≡ true) where
  abbrev without : ℕ → Bool
  without j = u j && not (true && eqb j i)

  one_less : (n from : ℕ) → from ≤ i → i < from + n → how_many without from n + 1 ≡ how_many u from n
  one_less zero from low high = absurd (omega (arith, low, high))
  one_less (suc n) from low high = elim (leb_tells (from + 1) i) [
    | inl later ↦
        let apart : eqb from i ≡ false = let more = later.1 in grind (arith, nat_tests) in
        let here : without from ≡ u from = rw apart (grind (arith, nat_tests)) in
        let rest = one_less n (from + 1) later.1 (omega (arith, high)) in
        ap (λ b. cond b 1 0 + how_many without (from + 1) n + 1) here
        ∙ (let one : ℕ = cond (u from) 1 0 in omega (arith, rest))
    | inr here ↦
        let same : from ≡ i = omega (arith, here.1, low) in
        let gone : without from ≡ false =
        let eq : eqb from i ≡ true = grind (arith, nat_tests) in rw eq (grind (arith, nat_tests)) in
        let was : u from ≡ true = ap u same ∙ is in
        let rest = same_many without u n (from + 1)
        (λ j h. let apart : eqb j i ≡ false =
        grind (arith, nat_tests) in rw apart (grind (arith, nat_tests))) in
        rw (gone, was) (omega (arith, rest))
  ]

  left_falls : (n : ℕ) → i < n → how_many without 0 n + 1 ≡ how_many u 0 n
  left_falls n h = one_less n 0 (omega arith) (omega (arith, h))

module _ (m : Measures) (b : Board) (q : Request) where
  -- a processor that the geometry does not have is refused, and nothing changes
  pub no_such_processor : m.processors ≤ q.processor
      → (command_rule m b q).board.processors ≡ b.processors
  no_such_processor h =
      let beyond : leb m.processors q.processor ≡ true = grind (arith, nat_tests) in
      by_tables (tables_fit m (length b.lines) (length b.locks)) refl beyond
    where
      by_tables : (fit : Bool) → tables_fit m (length b.lines) (length b.locks) ≡ fit
          → leb m.processors q.processor ≡ true
          → (command_rule m b q).board.processors ≡ b.processors
      by_tables false e beyond = rw e refl
      by_tables true e beyond = rw (e, beyond) refl

less_left : (n many fewer before after : ℕ) → fewer + 1 ≡ many → after ≤ before + (n - 1) → 1 ≤ n
    → n * fewer + after < n * many + before
less_left n many fewer before after one few some =
    let grown : n * many ≡ n * fewer + n = ap (λ x. n * x) (sym one) ∙ omega (arith, mul-suc n fewer) in
    omega (arith, grown)

idle_rise : (n : ℕ) (ps qs : List Processor) (p : ℕ) → p < n → p < length ps
    → (get_or ps p resting).waits_for ≡ None → idle n qs ≤ idle n ps + (n - 1)
idle_rise n ps qs p h k e =
    let some = idle_some n ps p h k e in
    let most = idle_most n qs in
    omega (arith, some, most)

wait_falls : (n : ℕ) (r : Result Answer Refusal) (ps qs : List Processor) → finishes_record r ≡ false
    → FewerIdle n r ps qs → idle n qs < idle n ps
wait_falls n (Ok (Done done)) ps qs e h = absurd (cc)
wait_falls n (Ok (Wait hit)) ps qs e h = h
wait_falls n (Err refusal) ps qs e h = absurd (cc)

-- what is due, and what a step leaves of it
module _ (m : Measures) (records : List Record) (s : Running) where
  due_tells : (i : ℕ) → due m records s ≡ Some i → (i < length records) × (may_step m records s i ≡ true)
  unfolding due
  due_tells i e =
      by_found (lowest_from (may_step m records s) 0 (length records))
      (lowest_tells (may_step m records s) (length records) 0) e
    where
      by_found : (o : Option ℕ) → Lowest (may_step m records s) 0 (length records) o → o ≡ Some i
          → (i < length records) × (may_step m records s i ≡ true)
      by_found None h none = absurd (cc)
      by_found (Some k) h some =
          let same : k ≡ i = ap (λ o. when_some o (λ x. x) 0) some in
          (let below = h.1 in omega (arith, below, same), ap (may_step m records s) (sym same) ∙ h.2)

  unfinished_due : (i : ℕ) (a b : Bool) → (a && b) ≡ true → (a ≡ true) × (b ≡ true)
  unfinished_due i true b e = (refl, e)
  unfinished_due i false b e = absurd (cc)

  awake : (w : Option ℕ) → not (is_some w) ≡ true → w ≡ None
  awake None e = refl
  awake (Some x) e = absurd (cc)

  module _ (s' : Running) (i : ℕ) (answer : Result Answer Refusal) (is-due : due m records s ≡ Some i)
      (after : s'.unfinished ≡ (λ j. s.unfinished j && not (finishes_record answer && eqb j i))) where
    abbrev p : ℕ
    p = (request_at records i).processor

    told : (s.unfinished i ≡ true) × (not (is_some (awaited_in m s.board.processors p)) ≡ true)
    told = unfinished_due i (s.unfinished i) (not (is_some (awaited_in m s.board.processors p)))
        (due_tells i is-due).1

    rises : length s.board.processors ≡ 8 → m.processors ≤ 8
        → (m.processors ≤ p → s'.board.processors ≡ s.board.processors)
        → idle m.processors s'.board.processors ≤ idle m.processors
        s.board.processors + (m.processors - 1)
    rises eight most same = elim (leb_tells m.processors p) [
      | inl beyond ↦ let kept : idle m.processors s'.board.processors
          ≡ idle m.processors s.board.processors =
          ap (idle m.processors) (same beyond.1) in omega (arith, kept)
      | inr here ↦
          let low : ltb p m.processors ≡ true = let less = here.1 in grind (arith, nat_tests) in
          let none : awaited_in m s.board.processors p ≡ None =
          awake (awaited_in m s.board.processors p) told.1 in
          let idle-here : (get_or s.board.processors p resting).waits_for ≡ None =
          ap (λ b. cond b (get_or s.board.processors p resting).waits_for None) (sym low) ∙ none in
          idle_rise m.processors s.board.processors s'.board.processors p here.1
          (let less = here.1 in omega (arith, less, eight, most)) idle-here
    ]

    pub step_falls : 1 ≤ m.processors → m.processors ≤ 8 → length s.board.processors ≡ 8
        → FewerIdle m.processors answer s.board.processors s'.board.processors
        → (m.processors ≤ p → s'.board.processors ≡ s.board.processors)
        → to_go m records s' < to_go m records s
    step_falls some most eight waits same = by_answer (finishes_record answer) refl
      where
        by_answer : (b : Bool) → finishes_record answer ≡ b → to_go m records s' < to_go m records s
        by_answer true e =
            let fewer : how_many s'.unfinished 0 (length records) + 1
            ≡ how_many s.unfinished 0 (length records)
            = ap (λ u. how_many u 0 (length records) + 1)
            (after ∙ ap (λ b j. s.unfinished j && not (b && eqb j i)) e)
            ∙ left_falls s.unfinished i told.0 (length records) (due_tells i is-due).0 in
            less_left m.processors (left m records s) (left m records s')
            (idle m.processors s.board.processors) (idle m.processors s'.board.processors) fewer
            (rises eight most same) some
        by_answer false e =
            let as_many : how_many s'.unfinished 0 (length records)
            ≡ how_many s.unfinished 0 (length records)
            = ap (λ u. how_many u 0 (length records))
            (after ∙ ap (λ b j. s.unfinished j && not (b && eqb j i)) e)
            ∙ same_many (λ j. s.unfinished j && not (false && eqb j i)) s.unfinished (length records) 0
            (λ j h. grind (arith, nat_tests)) in
            let less = wait_falls m.processors answer s.board.processors s'.board.processors e waits in
            let same-product : m.processors * left m records s' ≡ m.processors * left m records s =
            ap (λ x. m.processors * x) as_many in
            omega (arith, less, same-product)

  -- the state that a step leaves, part by part
  pub step_after : (s' : Running) (i : ℕ) → due m records s ≡ Some i
      → s'.board ≡ (outcome_at m records s i).board
      → s'.unfinished
      ≡ (λ j. s.unfinished j && not (finishes_record (outcome_at m records s i).answer && eqb j i))
      → s'.steps ≡ s.steps + 1
      → s'.cycles ≡ s.cycles + cost_of (outcome_at m records s i).answer
      → s' ≡ when_some (due m records s) (stepped m records s) s
  unfolding stepped
  step_after s' i is-due left unfinished steps cycles =
      rw is-due (λ k. record {
        board = left k;
        unfinished = unfinished k;
        steps = steps k;
        cycles = cycles k;
      })

  pub shown_due : (step : Step) (i : ℕ) → due m records s ≡ Some i
      → step ≡ record
      { number = s.steps + 1; request = request_at records i; answer = (outcome_at m records s i).answer }
      → Some step ≡ option_map (shown m records s) (due m records s)
  unfolding shown
  shown_due step i is-due e = rw is-due (ap Some e)
