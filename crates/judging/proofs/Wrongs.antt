-- Where a record or a trailer is wrong, and which rule it breaks.
use Rattle.std.proofs.Common.{◌≡◌, ℕ, zero, suc, ◌+◌, ◌-◌, ◌*◌, ◌%◌, ◌<◌, ◌≤◌, ◌==◌, false, List, length, take, drop, get_or, Some, None, Ok, Err, Option, sym, refl, ap, subst, ◌∙◌, arith, length-drop}
use Rattle.std.specs.Prelude.{if◌then◌else◌}
use Rattle.std.proofs.lemmas.Bool.Decides.{nat_tests}
use Rattle.std.proofs.lemmas.List.{drop-drop, drop-take, take-take, get_or-drop, get_or-take, length-take-le}
use Rattle.protocol.specs.declared.refusal.Refusal.{Refusal}
use Rattle.protocol.specs.declared.refusal.Refusal.TheVariants as refusal
use Rattle.trace.specs.declared.record.Record.{Record}
use Rattle.trace.specs.declared.trailer.Trailer.{Trailer}
use Rattle.trace.specs.Records.{number_at}
use Rattle.trace.specs.Sizes.{records_in}
use Rattle.trace.specs.Traces.{trailer_of, lawful_record, wrong_from, record_bytes, content_of, trace_of, when_some}
use Rattle.judging.specs.Rules.{keeps_trailer, trailer_fault, keeps_record, record_fault, trailer_byte, size_said}
use Rattle.judging.specs.Checks.{record_place, record_there, stamp_before}

pub trailer_broken : (bs : List ℕ) → trailer_of bs ≡ None → keeps_trailer (trailer_fault bs) bs ≡ false
trailer_broken bs none = grind (arith, nat_tests)

pub record_broken : (processors stamp : ℕ) (bs : List ℕ) → length bs ≡ 16
    → lawful_record processors stamp bs ≡ None
    → keeps_record (record_fault processors stamp bs) processors stamp bs ≡ false
record_broken processors stamp bs long none = grind (arith, nat_tests)

-- what a lawful trailer says
pub record Said (bs : List ℕ) (t : Trailer) : Type 0 where
  pub size : t.size ≡ size_said bs
  pub processors : t.processors ≡ trailer_byte bs 5
  pub held : size_said bs + 8 ≤ length bs
  pub whole : size_said bs % 16 ≡ 0

pub said : (bs : List ℕ) (t : Trailer) → trailer_of bs ≡ Some t → Said bs t
said bs t e =
    record {
      size = grind (arith, nat_tests);
      processors = grind (arith, nat_tests);
      held = grind (arith, nat_tests);
      whole = grind (arith, nat_tests);
    }

-- numbers in a part of some bytes
number_take : (n at : ℕ) (bs : List ℕ) → at + 4 ≤ n → number_at (take n bs) at ≡ number_at bs at
number_take n at bs h =
    let each : (i : ℕ) → i < n → get_or (take n bs) i 0 ≡ get_or bs i 0
    = λ i below. get_or-take n bs i 0 below in
    let e0 = each at (omega arith) in
    let e1 = each (at + 1) (omega arith) in
    let e2 = each (at + 2) (omega arith) in
    let e3 = each (at + 3) (omega arith) in
    λ k. e0 k + e1 k * 256 + e2 k * 65536 + e3 k * 16777216

number_drop : (from : ℕ) (bs : List ℕ) → number_at (drop from bs) 0 ≡ number_at bs from
number_drop from bs =
    let each : (i : ℕ) → get_or (drop from bs) i 0 ≡ get_or bs (from + i) 0
    = λ i. get_or-drop from bs i 0 in
    let first : get_or (drop from bs) 0 0 ≡ get_or bs from 0
    = each 0 ∙ ap (λ n. get_or bs n 0) (omega arith) in
    λ k. first k + each 1 k * 256 + each 2 k * 65536 + each 3 k * 16777216

stamp_same : (processors stamp : ℕ) (bs : List ℕ) (r : Record)
    → lawful_record processors stamp bs ≡ Some r → r.stamp ≡ number_at bs 0
stamp_same processors stamp bs r e = grind (arith, nat_tests)

-- the stamp that a record may not be below
abbrev floor : ℕ → ℕ → List ℕ → ℕ
floor stamp zero bs = stamp
floor stamp (suc k) bs = number_at (drop (k * 16) bs) 0

-- the record that is wrong, among n records
record WrongAt (processors stamp index n : ℕ) (bs : List ℕ) (i : ℕ) : Type 0 where
  count : ℕ
  place : i ≡ index + count
  inside : count < n
  broken : lawful_record processors (floor stamp count bs) (take 16 (drop (count * 16) bs)) ≡ None

floor_next : (processors stamp count : ℕ) (bs : List ℕ) (r : Record)
    → lawful_record processors stamp (take 16 bs) ≡ Some r
    → floor r.stamp count (drop 16 bs) ≡ number_at (drop (count * 16) bs) 0
floor_next processors stamp zero bs r given =
    stamp_same processors stamp (take 16 bs) r given ∙ number_take 16 0 bs (omega arith)
floor_next processors stamp (suc k) bs r given =
    let on : 16 + k * 16 ≡ suc k * 16 = omega arith in
    ap (λ ys. number_at ys 0) (drop-drop (k * 16) 16 bs ∙ ap (λ m. drop m bs) on)

one_behind : (processors stamp index n : ℕ) (bs : List ℕ) (i : ℕ) (r : Record)
    → lawful_record processors stamp (take 16 bs) ≡ Some r
    → WrongAt processors r.stamp (index + 1) n (drop 16 bs) i
    → WrongAt processors stamp index (suc n) bs i
one_behind processors stamp index n bs i r given w =
    let on : 16 + w.count * 16 ≡ suc w.count * 16 = omega arith in
    let there = drop-drop (w.count * 16) 16 bs ∙ ap (λ m. drop m bs) on in
    let at = w.place in
    let below = w.inside in
    record {
      count = suc w.count;
      place = omega arith;
      inside = omega arith;
      broken =
          sym (λ k. lawful_record processors (floor_next processors stamp w.count bs r given k)
          (take 16 (there k)))
          ∙ w.broken;
    }

wrong_next : (processors stamp index n : ℕ) (bs : List ℕ) (i : ℕ) (o : Option Record)
    → ((r : Record) → wrong_from processors r.stamp (index + 1) n (drop 16 bs) ≡ Some i
    → WrongAt processors r.stamp (index + 1) n (drop 16 bs) i)
    → lawful_record processors stamp (take 16 bs) ≡ o
    → when_some o (λ r. wrong_from processors r.stamp (index + 1) n (drop 16 bs)) (Some index) ≡ Some i
    → WrongAt processors stamp index (suc n) bs i
wrong_next processors stamp index n bs i None rest none e =
    let here : index ≡ i = cc in
    record { count = 0; place = omega arith; inside = omega arith; broken = none }
wrong_next processors stamp index n bs i (Some r) rest given e =
    one_behind processors stamp index n bs i r given (rest r e)

wrong_at : (processors n stamp index : ℕ) (bs : List ℕ) (i : ℕ)
    → wrong_from processors stamp index n bs ≡ Some i → WrongAt processors stamp index n bs i
wrong_at processors zero stamp index bs i e = cc
wrong_at processors (suc n) stamp index bs i e =
    wrong_next processors stamp index n bs i (lawful_record processors stamp (take 16 bs))
    (λ r. wrong_at processors n r.stamp (index + 1) (drop 16 bs) i) refl e

-- the record that a refusal names
pub record Wrong (bytes : List ℕ) (i : ℕ) : Type 0 where
  pub held : size_said bytes + 8 ≤ length bytes
  pub inside : i * 16 + 16 ≤ size_said bytes
  pub broken :
      lawful_record (trailer_byte bytes 5) (stamp_before bytes i) (record_there bytes i) ≡ None
  pub long : length (record_there bytes i) ≡ 16

module _ (bytes : List ℕ) (size : ℕ) (held : size + 8 ≤ length bytes) where
  abbrev start : ℕ
  start = length bytes - 8 - size

  part_from : (m : ℕ) → m ≤ size
      → drop m (record_bytes bytes size) ≡ take (size - m) (drop (start + m) bytes)
  part_from m h =
      let split : size ≡ m + (size - m) = omega arith in
      ap (λ n. drop m (take n (drop start bytes))) split
      ∙ drop-take m (size - m) (drop start bytes)
      ∙ ap (take (size - m)) (drop-drop m start bytes)

  length_part : length (record_bytes bytes size) ≡ size
  length_part =
      let rest = length-drop start bytes in
      length-take-le size (drop start bytes) (omega arith)

  record_same : (i : ℕ) → i * 16 + 16 ≤ size
      → take 16 (drop (i * 16) (record_bytes bytes size)) ≡ take 16 (drop (start + i * 16) bytes)
  record_same i h =
      ap (take 16) (part_from (i * 16) (omega arith))
      ∙ take-take 16 (size - i * 16) (drop (start + i * 16) bytes) (omega arith)

  number_same : (m : ℕ) → m + 4 ≤ size
      → number_at (drop m (record_bytes bytes size)) 0 ≡ number_at bytes (start + m)
  number_same m h =
      ap (λ ys. number_at ys 0) (part_from m (omega arith))
      ∙ number_take (size - m) 0 (drop (start + m) bytes) (omega arith)
      ∙ number_drop (start + m) bytes

floor_same : (bytes : List ℕ) (i : ℕ) → size_said bytes + 8 ≤ length bytes
    → i * 16 + 16 ≤ size_said bytes
    → floor 0 i (record_bytes bytes (size_said bytes)) ≡ stamp_before bytes i
floor_same bytes zero held inside = refl
floor_same bytes (suc k) held inside =
    let before : suc k - 1 ≡ k = omega arith in
    let later : (suc k == 0) ≡ false = grind (arith, nat_tests) in
    number_same bytes (size_said bytes) held (k * 16) (omega arith)
    ∙ ap (λ n. number_at bytes (record_place bytes n)) (sym before)
    ∙ ap (λ v. if v then 0 else number_at bytes (record_place bytes (suc k - 1))) (sym later)

wrong_in : (bytes : List ℕ) (i : ℕ) → size_said bytes + 8 ≤ length bytes
    → size_said bytes % 16 ≡ 0
    → let part = record_bytes bytes (size_said bytes) in
    WrongAt (trailer_byte bytes 5) 0 0 (records_in part) part i → Wrong bytes i
wrong_in bytes i held whole w =
    let part = record_bytes bytes (size_said bytes) in
    let long = length_part bytes (size_said bytes) held in
    let at : w.count ≡ i = let place = w.place in omega arith in
    let inside : i * 16 + 16 ≤ size_said bytes = let below = w.inside in omega arith in
    let count_broken = w.broken in
    let broken = rw at at count_broken in
    record {
      held = held;
      inside = inside;
      broken =
          sym (λ k. lawful_record (trailer_byte bytes 5) (floor_same bytes i held inside k)
          (record_same bytes (size_said bytes) held i inside k))
          ∙ broken;
      long =
          let rest = length-drop (record_place bytes i) bytes in
          length-take-le 16 (drop (record_place bytes i) bytes) (omega arith);
    }

by_wrong : (t : Trailer) (bytes part : List ℕ) (i : ℕ) (o : Option ℕ)
    → when_some o (λ index. Err (refusal.Record index)) (Ok (content_of t.processors part))
    ≡ Err (refusal.Record i) → o ≡ Some i
by_wrong t bytes part i None e = cc
by_wrong t bytes part i (Some j) e = cc

by_trailer : (bytes : List ℕ) (i : ℕ) (o : Option Trailer) → trailer_of bytes ≡ o
    → when_some o (λ t. when_some
    (wrong_from t.processors 0 0 (records_in (record_bytes bytes t.size)) (record_bytes bytes t.size))
    (λ index. Err (refusal.Record index)) (Ok (content_of t.processors (record_bytes bytes t.size))))
    (Err refusal.Trailer) ≡ Err (refusal.Record i)
    → Wrong bytes i
by_trailer bytes i None none e = cc
by_trailer bytes i (Some t) given e =
    let told = said bytes t given in
    let size = size_said bytes in
    let wrong = by_wrong t bytes (record_bytes bytes t.size) i _ e in
    let there = wrong_at t.processors (records_in (record_bytes bytes t.size)) 0 0
    (record_bytes bytes t.size) i wrong in
    let Here : ℕ → ℕ → Type 0
    = λ n p. WrongAt p 0 0 (records_in (record_bytes bytes n)) (record_bytes bytes n) i in
    wrong_in bytes i told.held told.whole
    (subst (λ p. Here size p) told.processors (subst (λ n. Here n t.processors) told.size there))

pub wrong : (bytes : List ℕ) (i : ℕ) → trace_of bytes ≡ Err (refusal.Record i) → Wrong bytes i
wrong bytes i e = by_trailer bytes i (trailer_of bytes) refl e

-- reading refuses with 12 or with 13
by_part : (processors : ℕ) (bytes part : List ℕ) (e : Refusal) (o : Option ℕ)
    → ((i : ℕ) → e ≡ refusal.Record i → ⊥)
    → when_some o (λ index. Err (refusal.Record index)) (Ok (content_of processors part)) ≡ Err e → ⊥
by_part processors bytes part e None not h = cc
by_part processors bytes part e (Some j) not h = not j cc

no_trailer : (bytes : List ℕ) (e : Refusal) (o : Option Trailer)
    → ((i : ℕ) → e ≡ refusal.Record i → ⊥)
    → when_some o (λ t. when_some
    (wrong_from t.processors 0 0 (records_in (record_bytes bytes t.size)) (record_bytes bytes t.size))
    (λ index. Err (refusal.Record index)) (Ok (content_of t.processors (record_bytes bytes t.size))))
    (Err refusal.Trailer) ≡ Err e
    → (o ≡ None) × (e ≡ refusal.Trailer)
no_trailer bytes e None not h = (refl, cc)
no_trailer bytes e (Some t) not h =
    absurd (by_part t.processors bytes (record_bytes bytes t.size) e _ not h)

pub refused : (bytes : List ℕ) (e : Refusal) → trace_of bytes ≡ Err e
    → ((i : ℕ) → e ≡ refusal.Record i → ⊥) → (trailer_of bytes ≡ None) × (e ≡ refusal.Trailer)
refused bytes e h not = no_trailer bytes e (trailer_of bytes) not h
