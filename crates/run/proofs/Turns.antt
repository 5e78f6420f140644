-- What the indices that a run keeps say of the records that are due and unfinished.
use Rattle.std.proofs.Common.{◌≡◌, ℕ, ◌+◌, ◌-◌, ◌*◌, ◌<◌, ◌≤◌, Bool, true, false, cond, not, ◌&&◌, eqb, ltb, leb, List, length, get_or, take, drop, set, is_some, Some, None, Option, unwrap_or, sym, refl, ap, ◌∙◌, inl, inr, arith}
use Rattle.std.proofs.lemmas.List.{get_or-set_same, get_or-set_other}
use Rattle.std.proofs.lemmas.Bool.Decides.{eqb_tells, leb_tells, nat_tests}
use Rattle.protocol.specs.declared.measures.Measures.{Measures}
use Rattle.protocol.specs.Finding.{lowest_from}
use Rattle.protocol.proofs.Finding.{Lowest, lowest_tells, lowest_is, lowest_none}
use Rattle.cluster.specs.Board.{Board}
use Rattle.cluster.specs.Waiting.{awaited_in}
use Rattle.trace.specs.declared.record.Record.{Record}
use Rattle.trace.specs.declared.trace.Trace.{Trace}
use Rattle.trace.specs.Sizes.{records_in}
use Rattle.trace.specs.Records.{decoded}
use Rattle.trace.specs.Traces.{wrong_from, records_of, is_of, next_of, when_some}
use Rattle.std.proofs.lemmas.Option.{none-some}
use Rattle.trace.proofs.Reading.{too_short, past_records}
use Rattle.trace.proofs.Copies.{records_many}
use Rattle.trace.proofs.Known.{known, known_processor}
use Rattle.run.specs.declared.run.Run.{Run}
use Rattle.run.specs.Kept.{records_for, unfinished_by, summary_by, state_of, Earliest}
use Rattle.run.specs.Settled.{Settled}
use Rattle.run.specs.Running.{Running, how_many, no_record, request_at, due, summary_of}

-- the next record of a processor
pub record NextAt (bytes : List ℕ) (p from x : ℕ) : Type 0 where
  pub later : from ≤ x
  pub most : x ≤ records_in bytes
  own : x < records_in bytes → is_of p bytes x ≡ true
  pub least : (j : ℕ) → from ≤ j → j < records_in bytes → is_of p bytes j ≡ true → x ≤ j

by_lowest : (bytes : List ℕ) (p from : ℕ) (o : Option ℕ) → from ≤ records_in bytes
    → Lowest (is_of p bytes) from (records_in bytes - from) o
    → NextAt bytes p from (unwrap_or o (records_in bytes))
by_lowest bytes p from None low h = record {
  later = low;
  most = omega arith;
  own = λ less. absurd (omega (arith, less));
  least = λ j a b is. let none = h j a (omega (arith, a, b, low)) in absurd (cc);
}
by_lowest bytes p from (Some x) low h = record {
  later = h.0;
  most = omega (arith, h.1, low);
  own = λ less. h.2;
  least = λ j a b is. elim (leb_tells x j) [
    | inl fine ↦ fine.1
    | inr less ↦ let none = h.3 j a less.1 in absurd (cc)
  ];
}

pub next_at : (bytes : List ℕ) (p from : ℕ) → from ≤ records_in bytes
    → NextAt bytes p from (next_of p from bytes)
next_at bytes p from low =
    by_lowest bytes p from (lowest_from (is_of p bytes) from (records_in bytes - from)) low
    (lowest_tells (is_of p bytes) (records_in bytes - from) from)

-- a record that sixteen bytes give is one of the trace
present : (bytes : List ℕ) (i : ℕ) (r : Record) → Some r ≡ decoded (take 16 (drop (i * 16) bytes))
    → i < records_in bytes
present bytes i r e = elim (leb_tells (records_in bytes) i) [
  | inl beyond ↦ absurd (none-some r (sym (e ∙ too_short _ (past_records bytes i beyond.1))))
  | inr here ↦ here.1
]

module _ (processors : ℕ) (bytes : List ℕ)
    (sound : wrong_from processors 0 0 (records_in bytes) bytes ≡ None) (few : processors ≤ 8) where
  abbrev recs : List Record
  recs = records_of bytes

  abbrev who : ℕ → ℕ
  who i = (request_at recs i).processor

  pub many : length recs ≡ records_in bytes
  many = records_many (records_in bytes) processors 0 0 bytes sound

  pub low : (i : ℕ) → i < records_in bytes → who i < 8
  low i h = let served = (known processors no_record bytes sound i h).served in omega (arith, served)

  of : (p i : ℕ) → i < records_in bytes → is_of p bytes i ≡ eqb (who i) p
  of p i h = ap (λ x. eqb x p) (known_processor processors no_record bytes sound i h)

  own : (p i : ℕ) → i < records_in bytes → is_of p bytes i ≡ true → who i ≡ p
  own p i h is = let same : eqb (who i) p ≡ true = sym (of p i h) ∙ is in grind (arith, nat_tests)

  is_own : (i : ℕ) → i < records_in bytes → is_of (who i) bytes i ≡ true
  is_own i h = of (who i) i h ∙ grind (arith, nat_tests)

  -- every record is unfinished at first
  pub all_unfinished : (next : List ℕ) → ((p : ℕ) → p < 8 → get_or next p 0 ≡ next_of p 0 bytes)
      → unfinished_by recs next ≡ (λ i. ltb i (length recs))
  all_unfinished next starts = λ k i. at i (ltb i (length recs)) refl k
    where
      at : (i : ℕ) (b : Bool) → ltb i (length recs) ≡ b → unfinished_by recs next i ≡ ltb i (length recs)
      at i false e = rw e refl
      at i true e =
          let below : i < length recs = grind (arith, nat_tests) in
          let inside : i < records_in bytes = omega (arith, below, many) in
          let first = (next_at bytes (who i) 0 (omega arith)).least i (omega arith) inside
          (is_own i inside) in
          let start = starts (who i) (low i inside) in
          let passed : leb (get_or next (who i) 0) i ≡ true = grind (arith, nat_tests) in
          rw (e, passed) refl

  pub settled_start : (next : List ℕ) → ((p : ℕ) → p < 8 → get_or next p 0 ≡ next_of p 0 bytes)
      → Settled bytes next
  settled_start next starts p h less =
      let start = starts p h in
      ap (is_of p bytes) start ∙ (next_at bytes p 0 (omega arith)).own (omega (arith, start, less))

  module _ (next : List ℕ) (eight : length next ≡ 8) (settled : Settled bytes next) where
    -- a record of the processor whose index this is
    holder : (p : ℕ) → p < 8 → get_or next p 0 < records_in bytes → who (get_or next p 0) ≡ p
    holder p h less = own p (get_or next p 0) less (settled p h less)

    module _ (m : Measures) (s : Running) (same : s.unfinished ≡ unfinished_by recs next) where
      abbrev waits : ℕ → Option ℕ
      waits = awaited_in m s.board.processors

      abbrev tries : ℕ → Bool
      tries j = unfinished_by recs next j && not (is_some (waits (who j)))

      -- before the earliest index of a processor that does not wait no record may step
      too_early : (i j : ℕ) → i ≤ records_in bytes → j < i
          → ((q : ℕ) → q < 8 → waits q ≡ None → i ≤ get_or next q 0) → tries j ≡ false
      too_early i j most h least = at (waits (who j)) refl
        where
          at : (w : Option ℕ) → waits (who j) ≡ w → tries j ≡ false
          at None idle =
              let inside : j < records_in bytes = omega (arith, h, most) in
              let after = least (who j) (low j inside) idle in
              let not_yet : leb (get_or next (who j) 0) j ≡ false = grind (arith, nat_tests) in
              rw not_yet (grind (arith, nat_tests))
          at (Some x) waiting = rw waiting (grind (arith, nat_tests))

      pub due_none : Earliest waits next (records_in bytes) None → due m recs s ≡ None
      unfolding due
      due_none h =
          rw same (lowest_none tries (length recs) 0
          (λ j a b. too_early (records_in bytes) j (omega arith) (omega (arith, b, many)) h))

      pub due_some : (p : ℕ) → Earliest waits next (records_in bytes) (Some p)
          → due m recs s ≡ Some (get_or next p 0)
      unfolding due
      due_some p h =
          let i = get_or next p 0 in
          let mine : who i ≡ p = holder p h.0 h.2 in
          let inside : ltb i (length recs) ≡ true = let less = h.2 in grind (arith, nat_tests, many) in
          let here : leb (get_or next (who i) 0) i ≡ true = rw mine (grind (arith, nat_tests)) in
          let idle : waits (who i) ≡ None = ap waits mine ∙ h.1 in
          rw same (lowest_is tries (length recs) 0 i (omega arith)
          (let less = h.2 in omega (arith, less, many)) (rw (inside, here, idle) refl)
          (λ j a b. too_early i j (let less = h.2 in omega (arith, less)) b h.3))

    -- the record at a processor's index is finished
    module _ (p : ℕ) (listed : p < 8) (before : get_or next p 0 < records_in bytes) where
      abbrev i : ℕ
      i = get_or next p 0

      abbrev after : List ℕ
      after = set next p (next_of p (i + 1) bytes)

      further : NextAt bytes p (i + 1) (next_of p (i + 1) bytes)
      further = next_at bytes p (i + 1) (omega (arith, before))

      at_own : get_or after p 0 ≡ next_of p (i + 1) bytes
      at_own = get_or-set_same next p (next_of p (i + 1) bytes) 0 (omega (arith, eight, listed))

      at_other : (q : ℕ) → (q ≡ p → ⊥) → get_or after q 0 ≡ get_or next q 0
      at_other q other = get_or-set_other next p q (next_of p (i + 1) bytes) 0 other

      past : (j : ℕ) → j < records_in bytes
          → leb (get_or after (who j) 0) j ≡ (leb (get_or next (who j) 0) j && not (eqb j i))
      past j inside = elim (eqb_tells (who j) p) [
        | inl mine ↦
            let here : get_or next (who j) 0 ≡ i = ap (λ q. get_or next q 0) mine.1 in
            let there : get_or after (who j) 0 ≡ next_of p (i + 1) bytes =
            ap (λ q. get_or after q 0) mine.1 ∙ at_own in
            let is : is_of p bytes j ≡ true = of p j inside ∙ mine.0 in
            let later = further.later in
            let least : i + 1 ≤ j → next_of p (i + 1) bytes ≤ j = λ a. further.least j a inside is in
            rw (here, there) (by_place j least)
        | inr other ↦
            let not_same : eqb j i ≡ false = elim (eqb_tells j i) [
              | inl same ↦ absurd (other.1 (ap who same.1 ∙ holder p listed before))
              | inr apart ↦ apart.0
            ] in
            rw (at_other (who j) other.1, not_same) (grind (arith, nat_tests))
      ]
        where
          by_place : (j : ℕ) → (i + 1 ≤ j → next_of p (i + 1) bytes ≤ j)
              → leb (next_of p (i + 1) bytes) j ≡ (leb i j && not (eqb j i))
          by_place j least = elim (leb_tells (i + 1) j) [
            | inl more ↦ let low = least more.1 in grind (arith, nat_tests)
            | inr less ↦ let later = further.later in grind (arith, nat_tests)
          ]

      pub finished : unfinished_by recs after ≡ (λ j. unfinished_by recs next j && not (true && eqb j i))
      finished = λ k j. at j (ltb j (length recs)) refl k
        where
          at : (j : ℕ) (b : Bool) → ltb j (length recs) ≡ b
              → unfinished_by recs after j ≡ (unfinished_by recs next j && not (true && eqb j i))
          at j false e = rw e refl
          at j true e =
              let below : j < length recs = grind (arith, nat_tests) in
              rw e (past j (omega (arith, below, many)))

      settled_after : Settled bytes after
      settled_after q h less = elim (eqb_tells q p) [
        | inl mine ↦
            let there : get_or after q 0 ≡ next_of p (i + 1) bytes =
            ap (λ x. get_or after x 0) mine.1 ∙ at_own in
            rw (there, mine.1) (further.own (omega (arith, less, there)))
        | inr other ↦
            let there = at_other q other.1 in
            ap (is_of q bytes) there ∙ settled q h (omega (arith, less, there))
      ]

      pub unfinished_after : (b : Bool)
          → unfinished_by recs (cond b after next)
          ≡ (λ j. unfinished_by recs next j && not (b && eqb j i))
      unfinished_after true = finished
      unfinished_after false = λ k j. unchanged (unfinished_by recs next j) k
        where
          unchanged : (b : Bool) → b ≡ (b && not false)
          unchanged true = refl
          unchanged false = refl

      pub settled_next : (b : Bool) → Settled bytes (cond b after next)
      settled_next true = settled_after
      settled_next false = settled

  -- the record that sixteen bytes give
  pub request_same : (i : ℕ) (r : Record) → i < records_in bytes
      → Some r ≡ decoded (take 16 (drop (i * 16) bytes)) → r.request ≡ request_at recs i
  request_same i r h e =
      ap (λ o. when_some o (λ x. x.request) r.request)
      (e ∙ (known processors no_record bytes sound i h).given)

  pub record_there : (i : ℕ) (r : Record) → Some r ≡ decoded (take 16 (drop (i * 16) bytes))
      → (i < records_in bytes) × (r.request ≡ request_at recs i)
  record_there i r e = let inside = present bytes i r e in (inside, request_same i r inside e)

  pub request_there : (i : ℕ) → i < records_in bytes → None ≡ decoded (take 16 (drop (i * 16) bytes)) → ⊥
  request_there i h e = none-some _ (e ∙ (known processors no_record bytes sound i h).given)

pub few_records : (t : Trace) → length (records_of t.records.now) ≤ 1048576
few_records t = omega (arith, t.few, many t.processors t.records.now t.sound t.served.1)

-- what a run has come to is what its rule says of its records
pub summed : (m : Measures) (run : Run) (rs : List Record) (b : Board)
    → records_for run ≡ rs → summary_by run ≡ summary_of m rs (state_of run b)
summed m run rs b alike =
    λ k. record {
      steps =
          run.steps;
      cycles =
          run.cycles;
      left = how_many (unfinished_by (records_for run) run.next) 0 (length (alike k));
    }
