-- The numbers of all steps.
use Rattle.std.proofs.Common.{◌≡◌, ℕ, ◌+◌, ◌*◌, ◌/◌, ◌%◌, ◌^◌, ◌<◌, ◌≤◌, Bool, true, false, cond, List, [], ◌∷◌, length, map, replicate, Option, refl, ap, ◌∙◌, arith, mod-eq_of_lt}
use Rattle.std.specs.List.{fold, sum_by, count_by, range_with_len}
use Rattle.std.proofs.lemmas.List.Sums.{sum_by-cons}
use Rattle.std.proofs.lemmas.List.FromFn.{fill_by_all, length-map-range_with_len, get_or-map-range_with_len}
use Rattle.protocol.specs.declared.measures.Costs.{Costs}
use Rattle.protocol.specs.Limits.{LowCosts}
use Rattle.text.specs.declared.step.Step.{Step}
use Rattle.stats.specs.declared.tally.Causes.{Causes}
use Rattle.stats.specs.declared.tally.Tally.{Tally}
use Rattle.stats.specs.Copies.{all_counted}
use Rattle.stats.specs.Events.{cell_of, is_done, is_waiting, is_refused, refusal_in, is_hit, is_miss, is_from_cache, is_from_memory, swaps_out, sends_f, sends_fi, sends_i, sends_lk, sends_ul, is_lr_hit, is_exclusive_lr_hit, is_release, is_unwaited_release}
use Rattle.stats.specs.Tallying.{sends_lock_signal, cost_if, no_cycles, one_more_at, by_command, steps_with, causes_of, tally_of, no_steps, added}
use Rattle.stats.proofs.Tables.{as_one, in_cell, is_placed, all_counted_by}

sum_low : (amount : Step → ℕ) (most : ℕ) → ((s : Step) → amount s ≤ most) → (steps : List Step)
    → sum_by amount steps ≤ length steps * most
sum_low amount most low [] = omega arith
sum_low amount most low (s ∷ ss) =
    let rest = sum_low amount most low ss in
    let one = low s in
    omega (arith, rest, one, sum_by-cons amount s ss)

count_low : (test : Step → Bool) (s : Step) → cond (test s) 1 0 ≤ 1000
count_low test s = by_test (test s)
  where
    by_test : (b : Bool) → cond b 1 0 ≤ 1000
    by_test true = omega arith
    by_test false = omega arith

-- the steps counted in a table's cells are those of a processor and a command
pub cells_of : (kind : Step → Bool) (steps : List Step)
    → map (λ k. count_by (is_placed (λ (s : Step). cell_of (kind s) s.request) k) steps) (range_with_len 0 72)
    ≡ by_command (λ p c. count_by (steps_with kind p c) steps)
cells_of kind steps =
    let f : ℕ → ℕ = λ k. count_by (is_placed (λ (s : Step). cell_of (kind s) s.request) k) steps in
    fill_by_all (λ k. count_by (steps_with kind (k / 9) (k % 9)) steps) (map f (range_with_len 0 72)) 72 0
    (length-map-range_with_len f 0 72)
    (λ k h. get_or-map-range_with_len f 0 72 k k 0 h (omega arith)
    ∙ (λ i. count_by (λ s. in_cell (kind s) s.request k h i) steps))

module _ (costs : Costs) where
  abbrev pub all_added : Tally → List Step → Tally
  all_added t steps = fold (λ x step. added costs step x) t steps

  -- a number that each step raises by an amount has risen by their sum
  adds_up : (out : Tally → ℕ) (amount : Step → ℕ)
      → ((t : Tally) (s : Step) → out t + amount s < 2 ^ 64 → out (added costs s t) ≡ out t + amount s)
      → (steps : List Step) (t : Tally) → out t + sum_by amount steps < 2 ^ 64
      → out (all_added t steps) ≡ out t + sum_by amount steps
  adds_up out amount one [] t fits = omega arith
  adds_up out amount one (s ∷ ss) t fits =
      let more = sum_by-cons amount s ss in
      let here = one t s (omega (arith, more, fits)) in
      let rest = adds_up out amount one ss (added costs s t) (omega (arith, here, more, fits)) in
      omega (arith, more, here, rest)

  -- a table of which each step is counted at a place
  abbrev Counts : (Tally → List ℕ) → (Step → Option ℕ) → Type 0
  Counts table place =
      (t : Tally) (s : Step) → table (added costs s t) ≡ one_more_at (table t) (place s)

  counts_all : (table : Tally → List ℕ) (place : Step → Option ℕ) → Counts table place
      → (steps : List Step) (t : Tally) → table (all_added t steps) ≡ all_counted place (table t) steps
  counts_all table place one [] t = refl
  counts_all table place one (s ∷ ss) t =
      counts_all table place one ss (added costs s t) ∙ ap (λ l. all_counted place l ss) (one t s)

  module _ (low : LowCosts costs) (steps : List Step) (few : length steps ≤ 999999999) where
    abbrev pub all : Tally
    all = all_added no_steps steps

    fits : (amount : Step → ℕ) → ((s : Step) → amount s ≤ 1000) → sum_by amount steps < 2 ^ 64
    fits amount most = let sum = sum_low amount 1000 most steps in omega (arith, sum, few)

    summed : (out : Tally → ℕ) (amount : Step → ℕ) → ((s : Step) → amount s ≤ 1000) → out no_steps ≡ 0
        → ((t : Tally) (s : Step) → out t + amount s < 2 ^ 64 → out (added costs s t) ≡ out t + amount s)
        → out all ≡ sum_by amount steps
    summed out amount most none one =
        let short = fits amount most in
        let sum = adds_up out amount one steps no_steps (omega (arith, none, short)) in
        omega (arith, sum, none)

    counted : (out : Tally → ℕ) (test : Step → Bool) → out no_steps ≡ 0
        → ((t : Tally) (s : Step) → out t + as_one (test s) < 2 ^ 64
        → out (added costs s t) ≡ out t + as_one (test s))
        → out all ≡ count_by test steps
    counted out test none one = summed out (λ s. as_one (test s)) (count_low test) none one

    cost_low : (test : Step → Bool) (cost : ℕ) → cost ≤ 1000 → (s : Step) → cost_if test cost s ≤ 1000
    cost_low test cost most s = by_test (test s)
      where
        by_test : (b : Bool) → cond b cost 0 ≤ 1000
        by_test true = most
        by_test false = omega arith

    placed : (n : ℕ) (table : Tally → List ℕ) (place : Step → Option ℕ)
        → table no_steps ≡ replicate n 0 → Counts table place
        → table all ≡ map (λ k. count_by (is_placed place k) steps) (range_with_len 0 n)
    placed n table place start one =
        counts_all table place one steps no_steps ∙ ap (λ l. all_counted place l steps) start
        ∙ all_counted_by place n steps (omega (arith, few))

    by_kind : (table : Tally → List ℕ) (kind : Step → Bool) → table no_steps ≡ replicate 72 0
        → Counts table (λ s. cell_of (kind s) s.request)
        → table all ≡ by_command (λ p c. count_by (steps_with kind p c) steps)
    by_kind table kind start one =
        placed 72 table (λ s. cell_of (kind s) s.request) start one ∙ cells_of kind steps

    causes : all.cycles ≡ causes_of costs steps
    causes =
        let caused = λ (out : Causes → ℕ) (test : Step → Bool) (cost : ℕ) (most : cost ≤ 1000)
        (none : out no_cycles ≡ 0)
        (one : (t : Tally) (s : Step) → out t.cycles + cost_if test cost s < 2 ^ 64
        → out (added costs s t).cycles ≡ out t.cycles + cost_if test cost s).
        summed (λ t. out t.cycles) (cost_if test cost) (cost_low test cost most) none one in
        λ i. record {
          swap_in = caused (λ c. c.swap_in) is_from_memory costs.swap_in low.in_low refl
              (λ t s h. mod-eq_of_lt h) i;
          transfer = caused (λ c. c.transfer) is_from_cache costs.transfer low.transfer_low refl
              (λ t s h. mod-eq_of_lt h) i;
          swap_out = caused (λ c. c.swap_out) swaps_out costs.swap_out low.out_low refl
              (λ t s h. mod-eq_of_lt h) i;
          invalidation = caused (λ c. c.invalidation) sends_i costs.invalidation low.invalidation_low refl
              (λ t s h. mod-eq_of_lt h) i;
          lock_signal = caused (λ c. c.lock_signal) sends_lock_signal costs.lock_signal low.signal_low refl
              (λ t s h. mod-eq_of_lt h) i;
        }

    -- the numbers of a run are those of its steps
    pub tallied : all ≡ tally_of costs steps
    tallied = λ i. record {
      done = by_kind (λ t. t.done) is_done refl (λ t s. refl) i;
      waiting = by_kind (λ t. t.waiting) is_waiting refl (λ t s. refl) i;
      refused = by_kind (λ t. t.refused) is_refused refl (λ t s. refl) i;
      refusals = placed 16 (λ t. t.refusals) (λ s. refusal_in s.answer) refl (λ t s. refl) i;
      hits = counted (λ t. t.hits) is_hit refl (λ t s h. mod-eq_of_lt h) i;
      misses = counted (λ t. t.misses) is_miss refl (λ t s h. mod-eq_of_lt h) i;
      from_cache = counted (λ t. t.from_cache) is_from_cache refl (λ t s h. mod-eq_of_lt h) i;
      from_memory = counted (λ t. t.from_memory) is_from_memory refl (λ t s h. mod-eq_of_lt h) i;
      swap_outs = counted (λ t. t.swap_outs) swaps_out refl (λ t s h. mod-eq_of_lt h) i;
      sent_f = counted (λ t. t.sent_f) sends_f refl (λ t s h. mod-eq_of_lt h) i;
      sent_fi = counted (λ t. t.sent_fi) sends_fi refl (λ t s h. mod-eq_of_lt h) i;
      sent_i = counted (λ t. t.sent_i) sends_i refl (λ t s h. mod-eq_of_lt h) i;
      sent_lk = counted (λ t. t.sent_lk) sends_lk refl (λ t s h. mod-eq_of_lt h) i;
      sent_ul = counted (λ t. t.sent_ul) sends_ul refl (λ t s h. mod-eq_of_lt h) i;
      lr_hits = counted (λ t. t.lr_hits) is_lr_hit refl (λ t s h. mod-eq_of_lt h) i;
      exclusive_lr_hits = counted (λ t. t.exclusive_lr_hits) is_exclusive_lr_hit refl
          (λ t s h. mod-eq_of_lt h) i;
      releases = counted (λ t. t.releases) is_release refl (λ t s h. mod-eq_of_lt h) i;
      unwaited_releases = counted (λ t. t.unwaited_releases) is_unwaited_release refl
          (λ t s h. mod-eq_of_lt h) i;
      cycles = causes i;
    }
