-- The numbers along a run.
use Prim.{tt}
use Rattle.std.proofs.Common.{◌≡◌, ℕ, zero, suc, ◌+◌, ◌<◌, ◌≤◌, List, [], ◌∷◌, length, Some, None, Option, sym, ap, subst, ◌∙◌, inl, inr, arith}
use Rattle.std.specs.List.{sum_by}
use Rattle.std.proofs.lemmas.List.{get_or_past}
use Rattle.std.proofs.lemmas.List.Sums.{sum_by-cons}
use Rattle.std.proofs.lemmas.Bool.Decides.{leb_tells}
use Rattle.protocol.specs.declared.measures.Measures.{Measures}
use Rattle.text.specs.declared.step.Step.{Step}
use Rattle.trace.specs.declared.record.Record.{Record}
use Rattle.trace.specs.declared.trace.Trace.{Trace}
use Rattle.trace.specs.Traces.{records_of, when_some}
use Rattle.run.specs.Running.{Running, no_record, request_at, due, stepped, shown, run_from, steps_from}
use Rattle.run.specs.Watching.{SeesAll}
use Rattle.run.proofs.Turns.{many, low}
use Rattle.stats.specs.declared.statistics.Counting.{Counting}
use Rattle.stats.specs.Statistics.{Counts}
use Rattle.stats.proofs.Costs.{step_causes, command_causes}
use Rattle.stats.proofs.Tallies.{all_added}
use Rattle.stats.proofs.Totals.{AllServed}

-- a watcher has added all steps that it saw
pub saw_all : (steps : List Step) (a b : Counting) → SeesAll Counts a steps b
    → b.tally ≡ all_added a.costs a.tally steps
saw_all [] a b e = ap (λ w. w.tally) e
saw_all (s ∷ ss) a b seen =
    let next = seen.0 in
    let told = seen.1.0 in
    saw_all ss next b seen.1.1 ∙ (λ i. all_added (told.costs i) (told.tally i) ss)

module _ (m : Measures) (records : List Record) where
  few_more : (n : ℕ) (s : Running) (o : Option ℕ)
      → ((i : ℕ) → length (steps_from m records n (stepped m records s i)) ≤ n)
      → length (when_some o (λ i. shown m records s i ∷ steps_from m records n (stepped m records s i)) [])
      ≤ suc n
  few_more n s None rest = omega arith
  few_more n s (Some i) rest = let few = rest i in omega (arith, few)

  pub few_steps : (n : ℕ) (s : Running) → length (steps_from m records n s) ≤ n
  unfolding steps_from
  few_steps zero s = omega arith
  few_steps (suc n) s = few_more n s (due m records s) (λ i. few_steps n (stepped m records s i))

  -- what a run comes to is the sum of its steps
  pub record SumsTo (s end : Running) (taken : List Step) : Type 0 where
    pub steps : end.steps ≡ s.steps + length taken
    pub cycles : end.cycles ≡ s.cycles + sum_by (step_causes m.costs) taken

  sums_more : (n : ℕ) (s : Running) (o : Option ℕ)
      → ((i : ℕ) → SumsTo (stepped m records s i) (run_from m records n (stepped m records s i))
      (steps_from m records n (stepped m records s i)))
      → SumsTo s (when_some o (λ i. run_from m records n (stepped m records s i)) s)
      (when_some o (λ i. shown m records s i ∷ steps_from m records n (stepped m records s i)) [])
  unfolding stepped shown
  sums_more n s None rest = record { steps = omega arith; cycles = omega arith }
  sums_more n s (Some i) rest =
      let more = rest i in
      let cost = command_causes m s.board (request_at records i) in
      let steps = more.steps in
      let cycles = more.cycles in
      record {
        steps = omega (arith, steps);
        cycles = omega (
          arith,
          cycles,
          cost,
          sum_by-cons (step_causes m.costs) (shown m records s i)
              (steps_from m records n (stepped m records s i)),
        );
      }

  pub sums_from : (n : ℕ) (s : Running)
      → SumsTo s (run_from m records n s) (steps_from m records n s)
  unfolding run_from steps_from
  sums_from zero s = record { steps = omega arith; cycles = omega arith }
  sums_from (suc n) s = sums_more n s (due m records s) (λ i. sums_from n (stepped m records s i))

  module _ (served : (i : ℕ) → (request_at records i).processor < 8) where
    served_more : (n : ℕ) (s : Running) (o : Option ℕ)
        → ((i : ℕ) → AllServed (steps_from m records n (stepped m records s i)))
        → AllServed
        (when_some o (λ i. shown m records s i ∷ steps_from m records n (stepped m records s i)) [])
    unfolding shown
    served_more n s None rest = tt
    served_more n s (Some i) rest = (served i, rest i)

    pub all_served : (n : ℕ) (s : Running) → AllServed (steps_from m records n s)
    unfolding steps_from
    all_served zero s = tt
    all_served (suc n) s = served_more n s (due m records s) (λ i. all_served n (stepped m records s i))

-- a record of a trace is of one of eight processors; where there is none, of the first
pub each_served : (t : Trace) (i : ℕ) → (request_at (records_of t.records.now) i).processor < 8
each_served t i = elim (leb_tells (length (records_of t.records.now)) i) [
  | inl past ↦
      let none : request_at (records_of t.records.now) i ≡ no_record.request =
      ap (λ r. r.request) (get_or_past (records_of t.records.now) i no_record past.1) in
      subst (λ q. q.processor < 8) (sym none) (omega arith)
  | inr inside ↦
      let here = inside.1 in
      let sizes = many t.processors t.records.now t.sound t.served.1 in
      low t.processors t.records.now t.sound t.served.1 i (omega (arith, here, sizes))
]
