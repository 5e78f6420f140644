-- Each step is answered done, WAIT, or refused.
use Rattle.std.proofs.Common.{◌≡◌, ℕ, zero, suc, ◌+◌, ◌*◌, ◌<◌, ◌≤◌, Bool, true, false, cond, eqb, ltb, List, [], ◌∷◌, length, Some, None, Ok, Err, Option, Result, sym, refl, ap, ◌∙◌, inl, inr, arith}
use Rattle.std.specs.List.{sum, sum_by, count_by, range_with_len}
use Rattle.std.proofs.lemmas.List.Sums.{sum_by-cons, sum-map}
use Rattle.std.proofs.lemmas.Bool.Decides.{eqb_tells, nat_tests}
use Rattle.protocol.specs.declared.answer.Answer.{Answer}
use Rattle.protocol.specs.declared.answer.Answer.TheVariants.{Done, Wait}
use Rattle.protocol.specs.declared.measures.Costs.{Costs}
use Rattle.protocol.specs.declared.refusal.Refusal.{Refusal}
use Rattle.text.specs.declared.step.Step.{Step}
use Rattle.stats.specs.Events.{is_number, cell_of, completion_of, passes, waits, refuses, is_done, is_waiting, is_refused, place_of}
use Rattle.stats.specs.Statistics.{all_steps}
use Rattle.stats.specs.Tallying.{by_command, steps_with, tally_of}
use Rattle.stats.proofs.Tables.{as_one, is_placed, place_low}
use Rattle.stats.proofs.Tallies.{cells_of}

-- a number stands among neighbouring ones once, or not at all
never : (p n a : ℕ) → p < a → sum_by (λ k. as_one (eqb p k)) (range_with_len a n) ≡ 0
never p zero a low = refl
never p (suc n) a low =
    let rest = never p n (a + 1) (omega (arith, low)) in
    let other : eqb p a ≡ false = grind (arith, nat_tests) in
    let none : as_one (eqb p a) ≡ 0 = ap as_one other in
    omega (arith, rest, none, sum_by-cons (λ k. as_one (eqb p k)) a (range_with_len (a + 1) n))

once : (p n a : ℕ) → a ≤ p → p < a + n → sum_by (λ k. as_one (eqb p k)) (range_with_len a n) ≡ 1
once p zero a low high = absurd (omega (arith, low, high))
once p (suc n) a low high =
    let more = sum_by-cons (λ k. as_one (eqb p k)) a (range_with_len (a + 1) n) in
    elim (eqb_tells p a) [
      | inl same ↦
          let is = same.1 in
          let one : as_one (eqb p a) ≡ 1 = ap as_one same.0 in
          let rest = never p n (a + 1) (omega (arith, is)) in
          omega (arith, more, one, rest)
      | inr apart ↦
          let is = apart.1 in
          let none : as_one (eqb p a) ≡ 0 = ap as_one apart.0 in
          let above : a + 1 ≤ p = grind (arith, low, is) in
          let rest = once p n (a + 1) above (omega (arith, high)) in
          omega (arith, more, none, rest)
    ]

no_sum : (ks : List ℕ) → sum_by (λ k. 0) ks ≡ 0
no_sum [] = refl
no_sum (k ∷ ks) = let rest = no_sum ks in omega (arith, rest, sum_by-cons (λ j. 0) k ks)

both_sums : (f g : ℕ → ℕ) (ks : List ℕ) → sum_by (λ k. f k + g k) ks ≡ sum_by f ks + sum_by g ks
both_sums f g [] = refl
both_sums f g (k ∷ ks) =
    let rest = both_sums f g ks in
    omega (
      arith,
      rest,
      sum_by-cons (λ j. f j + g j) k ks,
      sum_by-cons f k ks,
      sum_by-cons g k ks,
    )

-- all steps are those of the eight processors
abbrev pub AllServed : List Step → Type 0
AllServed [] = Unit {0}
AllServed (s ∷ ss) = (s.request.processor < 8) × AllServed ss

module _ (kind : Step → Bool) where
  abbrev place : Step → Option ℕ
  place s = cell_of (kind s) s.request

  abbrev cells : List ℕ
  cells = range_with_len 0 72

  in_one_cell : (s : Step) → s.request.processor < 8
      → sum_by (λ k. as_one (is_number k (place s))) cells ≡ as_one (kind s)
  in_one_cell s served = by_kind (kind s)
    where
      p : ℕ
      p = s.request.processor

      low : ltb p 8 ≡ true
      low = grind (arith, nat_tests, served)

      cell : ℕ
      cell = p * 9 + place_of s.request.command

      there : cell < 72
      there = omega (arith, served, place_low s.request.command)

      by_kind : (b : Bool) → sum_by (λ k. as_one (is_number k (cell_of b s.request))) cells ≡ as_one b
      by_kind false = no_sum cells
      by_kind true =
          ap (λ t. sum_by (λ k. as_one (is_number k (cond t (Some cell) None))) cells) low
          ∙ once cell 72 0 (omega arith) there

  sum_of_cells : (steps : List Step) → AllServed steps
      → sum_by (λ k. count_by (is_placed place k) steps) cells ≡ count_by kind steps
  sum_of_cells [] served = no_sum cells
  sum_of_cells (s ∷ ss) served =
      let rest = sum_of_cells ss served.1 in
      let one = in_one_cell s served.0 in
      let each : sum_by (λ k. count_by (is_placed place k) (s ∷ ss)) cells
      ≡ sum_by (λ k. as_one (is_placed place k s) + count_by (is_placed place k) ss) cells
      = (λ i. sum_by (λ k. sum_by-cons (λ x. as_one (is_placed place k x)) s ss i) cells) in
      each ∙ both_sums (λ k. as_one (is_placed place k s)) (λ k. count_by (is_placed place k) ss) cells
      ∙ (λ i. one i + rest i) ∙ sym (sum_by-cons (λ x. as_one (kind x)) s ss)

  sum_of_table : (steps : List Step) → AllServed steps
      → sum (by_command (λ p c. count_by (steps_with kind p c) steps)) ≡ count_by kind steps
  sum_of_table steps served =
      ap sum (sym (cells_of kind steps))
      ∙ sum-map (λ k. count_by (is_placed place k) steps) cells
      ∙ sum_of_cells steps served

one_kind : (r : Result Answer Refusal)
    → as_one (passes (λ d. true) (completion_of r)) + as_one (waits r) + as_one (refuses r) ≡ 1
one_kind (Ok (Done done)) = refl
one_kind (Ok (Wait hit)) = refl
one_kind (Err refusal) = refl

kinds : (steps : List Step)
    → count_by is_done steps + count_by is_waiting steps + count_by is_refused steps ≡ length steps
kinds [] = refl
kinds (s ∷ ss) =
    let rest = kinds ss in
    let one = one_kind s.answer in
    omega (
      arith,
      rest,
      one,
      sum_by-cons (λ x. as_one (is_done x)) s ss,
      sum_by-cons (λ x. as_one (is_waiting x)) s ss,
      sum_by-cons (λ x. as_one (is_refused x)) s ss,
    )

pub kinds_add_up : (costs : Costs) (steps : List Step) → AllServed steps
    → all_steps (tally_of costs steps) ≡ length steps
kinds_add_up costs steps served =
    (λ i. sum_of_table is_done steps served i + sum_of_table is_waiting steps served i
    + sum_of_table is_refused steps served i) ∙ kinds steps
