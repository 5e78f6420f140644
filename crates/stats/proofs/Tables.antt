-- Tables of counts.
use Rattle.std.proofs.Common.{◌≡◌, ℕ, suc, ◌+◌, ◌*◌, ◌/◌, ◌%◌, ◌^◌, ◌<◌, Bool, true, false, cond, ◌&&◌, eqb, ltb, ◌⊎◌, ◌≢◌, List, [], ◌∷◌, length, get_or, map, replicate, set, Some, None, Option, sym, refl, ap, ◌∙◌, inl, inr, arith, mod-eq_of_lt, length-set}
use Rattle.std.proofs.lemmas.List.{get_or-set_other}
use Rattle.std.proofs.lemmas.Grind.{get_or-set_at}
use Rattle.std.proofs.lemmas.Bool.Decides.{eqb_tells, leb_tells, nat_tests}
use Rattle.protocol.specs.declared.command.Command.{Command}
use Rattle.protocol.specs.declared.command.Command.TheVariants.{R, W, DW, RI, RP, RB, LR, UW, U}
use Rattle.protocol.specs.declared.command.Request.{Request}
use Rattle.std.specs.List.{count_by, range_with_len}
use Rattle.std.proofs.lemmas.List.{get_or-replicate, length-replicate}
use Rattle.std.proofs.lemmas.List.FromFn.{fill_by_all}
use Rattle.std.proofs.lemmas.List.Sums.{sum_by-cons, count_by-le-length}
use Rattle.stats.specs.Copies.{all_counted}
use Rattle.stats.specs.Events.{is_number, cell_of, asks, place_of}
use Rattle.stats.specs.Tallying.{wrapped, one_more_at}

abbrev pub as_one : Bool → ℕ
as_one b = cond b 1 0

pub place_low : (c : Command) → place_of c < 9
place_low R = omega arith
place_low (W word) = omega arith
place_low (DW word) = omega arith
place_low RI = omega arith
place_low RP = omega arith
place_low RB = omega arith
place_low LR = omega arith
place_low (UW word) = omega arith
place_low U = omega arith

-- a cell's number tells its processor and its command
same_cell : (p c k : ℕ) → c < 9 → eqb (p * 9 + c) k ≡ (eqb p (k / 9) && eqb c (k % 9))
same_cell p c k low = elim (eqb_tells (p * 9 + c) k) [
  | inl same ↦
      let is : p * 9 + c ≡ k = same.1 in
      let row : p ≡ k / 9 = omega (arith, is, low) in
      let column : c ≡ k % 9 = omega (arith, is, low) in
      grind (arith, nat_tests)
  | inr other ↦ elim (eqb_tells p (k / 9)) [
    | inl row ↦ elim (eqb_tells c (k % 9)) [
      | inl column ↦
          let r = row.1 in let d = column.1 in
          let is : p * 9 + c ≡ k = omega (arith, r, d) in absurd (other.1 is)
      | inr apart ↦ other.0 ∙ sym (λ i. row.0 i && apart.0 i)
    ]
    | inr apart ↦ other.0 ∙ sym (λ i. apart.0 i && eqb c (k % 9))
  ]
]

pub in_cell : (b : Bool) (q : Request) (k : ℕ) → k < 72
    → is_number k (cell_of b q) ≡ (b && asks (k / 9) (k % 9) q)
in_cell false q k h = refl
in_cell true q k h = elim (leb_tells (suc q.processor) 8) [
  | inl low ↦
      ap (λ b. is_number k (cond b (Some (q.processor * 9 + place_of q.command)) None)) low.0
      ∙ same_cell q.processor (place_of q.command) k (place_low q.command)
  | inr high ↦
      let past = high.1 in
      let row : eqb q.processor (k / 9) ≡ false = grind (arith, nat_tests) in
      ap (λ b. is_number k (cond b (Some (q.processor * 9 + place_of q.command)) None)) high.0
      ∙ sym (ap (λ b. b && eqb (place_of q.command) (k % 9)) row)
]

pub length-one_more_at : (counts : List ℕ) (o : Option ℕ) → length (one_more_at counts o) ≡ length counts
length-one_more_at counts None = refl
length-one_more_at counts (Some place) = by_test (ltb place (length counts))
  where
    by_test : (b : Bool)
        → length (cond b (set counts place (wrapped (get_or counts place 0 + 1))) counts) ≡ length counts
    by_test true = length-set counts place (wrapped (get_or counts place 0 + 1))
    by_test false = refl

pub one_more : (counts : List ℕ) (o : Option ℕ) (k : ℕ) → k < length counts
    → get_or counts k 0 + cond (is_number k o) 1 0 < 2 ^ 64
    → get_or (one_more_at counts o) k 0 ≡ get_or counts k 0 + cond (is_number k o) 1 0
one_more counts None k inside fits = omega arith
one_more counts (Some place) k inside fits = elim (leb_tells (suc place) (length counts)) [
  | inl low ↦
      ap (λ b. get_or (cond b (set counts place more) counts) k 0) low.0 ∙ at (eqb_tells place k) low.1
  | inr high ↦
      let past = high.1 in
      let other : eqb place k ≡ false = grind (arith, nat_tests) in
      ap (λ b. get_or (cond b (set counts place more) counts) k 0) high.0
      ∙ (let none : as_one (eqb place k) ≡ 0 = ap as_one other in omega (arith, none))
]
  where
    more : ℕ
    more = wrapped (get_or counts place 0 + 1)

    at : ((eqb place k ≡ true) × (place ≡ k)) ⊎ ((eqb place k ≡ false) × (place ≢ k)) → place < length counts
        → get_or (set counts place more) k 0 ≡ get_or counts k 0 + cond (eqb place k) 1 0
    at (inl same) low =
        let one : as_one (eqb place k) ≡ 1 = ap as_one same.0 in
        let here : get_or counts place 0 ≡ get_or counts k 0 = ap (λ j. get_or counts j 0) same.1 in
        get_or-set_at counts place k more 0 (sym same.1) low
        ∙ mod-eq_of_lt {m = 2 ^ 64} (omega (arith, fits, one, here))
        ∙ omega (arith, one, here)
    at (inr apart) low =
        let none : as_one (eqb place k) ≡ 0 = ap as_one apart.0 in
        get_or-set_other counts place k more 0 (λ e. apart.1 (sym e)) ∙ omega (arith, none)

-- elements counted one after another
module _ {X : Type 0} (place : X → Option ℕ) where
  abbrev pub is_placed : ℕ → X → Bool
  is_placed k x = is_number k (place x)

  pub length-all_counted : (xs : List X) (counts : List ℕ)
      → length (all_counted place counts xs) ≡ length counts
  length-all_counted [] counts = refl
  length-all_counted (x ∷ xs) counts =
      length-all_counted xs (one_more_at counts (place x)) ∙ length-one_more_at counts (place x)

  pub cell-all_counted : (k : ℕ) (xs : List X) (counts : List ℕ) → k < length counts
      → get_or counts k 0 + count_by (is_placed k) xs < 2 ^ 64
      → get_or (all_counted place counts xs) k 0 ≡ get_or counts k 0 + count_by (is_placed k) xs
  cell-all_counted k [] counts inside fits = omega arith
  cell-all_counted k (x ∷ xs) counts inside fits =
      let more = sum_by-cons (λ y. as_one (is_placed k y)) x xs in
      let here = one_more counts (place x) k inside (omega (arith, more, fits)) in
      let long = length-one_more_at counts (place x) in
      let rest = cell-all_counted k xs (one_more_at counts (place x)) (omega (arith, long, inside))
      (omega (arith, here, more, fits)) in
      omega (arith, more, here, rest)

  -- from no counts on, each number of a table is how many elements have its place
  abbrev zeros : ℕ → List ℕ
  zeros n = replicate n 0

  pub all_counted_by : (n : ℕ) (xs : List X) → length xs < 2 ^ 64
      → all_counted place (replicate n 0) xs ≡ map (λ k. count_by (is_placed k) xs) (range_with_len 0 n)
  all_counted_by n xs short =
      let long : length (zeros n) ≡ n = length-replicate n 0 in
      fill_by_all (λ k. count_by (is_placed k) xs) (all_counted place (zeros n) xs) n 0
      (length-all_counted xs (zeros n) ∙ long)
      (λ k h. let none : get_or (zeros n) k 0 ≡ 0 = get_or-replicate n k 0 0 h in
      let most = count_by-le-length (is_placed k) xs in
      let cell = cell-all_counted k xs (zeros n) (omega (arith, long, h))
      (omega (arith, none, most, short)) in
      omega (arith, none, cell))
