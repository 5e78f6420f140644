-- Records one after another, read from their bytes.
use Rattle.std.proofs.Common.{◌≡◌, ℕ, zero, suc, ◌+◌, ◌-◌, ◌*◌, ◌<◌, ◌≤◌, List, [], ◌∷◌, ◌++◌, ◌/◌, length, get_or, take, drop, Some, None, Option, sym, refl, ap, ◌∙◌, arith, length-append, length-drop, take-append-drop, length-take}
use lib.Seq.{take-append-le, drop-append-le}
use Rattle.std.proofs.lemmas.List.{drop_at, drop-drop, length-take-le, take_at}
use Rattle.std.proofs.lemmas.Bool.Decides.{nat_tests}
use Rattle.std.specs.Simd.{first_chunks}
use Rattle.trace.specs.declared.record.Record.{Record}
use Rattle.trace.specs.Records.{decoded}
use Rattle.trace.specs.Sizes.{records_in}
use Rattle.trace.specs.Traces.{lawful_record, wrong_from, records_from, when_some}
use Rattle.trace.specs.Writing.{trailer_bytes}

-- fewer than sixteen bytes are no record
pub too_short : (bs : List ℕ) → length bs < 16 → decoded bs ≡ None
too_short bs h = grind (arith, nat_tests)

pub past_records : (bs : List ℕ) (i : ℕ) → records_in bs ≤ i
    → length (take 16 (drop (i * 16) bs)) < 16
past_records bs i h =
    let here = length-drop (i * 16) bs in
    let some = length-take 16 (drop (i * 16) bs) in
    grind arith

-- the records as arrays of sixteen bytes
chunk_at : (count i : ℕ) (bs d : List ℕ) → i < count
    → get_or (first_chunks 16 count bs) i d ≡ take 16 (drop (i * 16) bs)
chunk_at zero i bs d h = absurd (omega (arith, h))
chunk_at (suc count) zero bs d h = refl
chunk_at (suc count) (suc i) bs d h =
    let on : 16 + i * 16 ≡ suc i * 16 = omega arith in
    chunk_at count i (drop 16 bs) d (omega (arith, h))
    ∙ ap (take 16) (drop-drop (i * 16) 16 bs ∙ ap (λ m. drop m bs) on)

pub record_at : (bs : List ℕ) (chunks : List (List ℕ)) (i : ℕ) (d : List ℕ)
    → chunks ≡ first_chunks 16 (length bs / 16) bs → length chunks ≡ length bs / 16
    → i < length chunks → get_or chunks i d ≡ take 16 (drop (i * 16) bs)
record_at bs chunks i d front long h =
    ap (λ cs. get_or cs i d) front ∙ chunk_at (length bs / 16) i bs d (omega (arith, h, long))

-- the sixteen bytes of a record, and what comes behind them
module _ (bs next rest : List ℕ) (split : bs ≡ next ++ rest) (long : length next ≡ 16) where
  pub records_more : records_in bs ≡ suc (records_in rest)
  records_more = let all = ap length split ∙ length-append next rest in omega arith

  pub wrong_next : (processors stamp i : ℕ) (o : Option Record)
      → o ≡ lawful_record processors stamp next
      → when_some o (λ r. wrong_from processors r.stamp (i + 1) (records_in rest) rest) (Some i)
      ≡ wrong_from processors stamp i (records_in bs) bs
  wrong_next processors stamp i o e =
      let behind = λ (ys : List ℕ) (r : Record).
      wrong_from processors r.stamp (i + 1) (records_in rest) ys in
      sym (ap (λ n. wrong_from processors stamp i n bs) records_more
      ∙ ap (λ x. when_some (lawful_record processors stamp x) (behind (drop 16 bs)) (Some i))
      (ap (take 16) split ∙ take_at next rest 16 long)
      ∙ ap (λ ys. when_some (lawful_record processors stamp next) (behind ys) (Some i))
      (ap (drop 16) split ∙ drop_at next rest 16 long)
      ∙ ap (λ x. when_some x (behind rest) (Some i)) (sym e))

-- the same by the record's index
pub wrong_at : (processors stamp i count : ℕ) (bs : List ℕ) (o : Option Record) → i < count
    → o ≡ lawful_record processors stamp (take (i * 16 + 16 - i * 16) (drop (i * 16) bs))
    → wrong_from processors stamp i (count - i) (drop (i * 16) bs)
    ≡ when_some o (λ r. wrong_from processors r.stamp (i + 1) (count - (i + 1)) (drop ((i + 1) * 16) bs))
    (Some i)
wrong_at processors stamp i count bs o below e =
    let wide : i * 16 + 16 - i * 16 ≡ 16 = omega arith in
    let on : i * 16 + 16 ≡ (i + 1) * 16 = omega arith in
    let more : count - i ≡ suc (count - (i + 1)) = omega arith in
    let n = count - (i + 1) in
    let behind = λ (ys : List ℕ) (r : Record). wrong_from processors r.stamp (i + 1) n ys in
    ap (λ m. wrong_from processors stamp i m (drop (i * 16) bs)) more
    ∙ ap (λ x. when_some x (behind (drop 16 (drop (i * 16) bs))) (Some i))
    (sym (e ∙ ap (λ m. lawful_record processors stamp (take m (drop (i * 16) bs))) wide))
    ∙ ap (λ rest. when_some o (behind rest) (Some i))
    (drop-drop 16 (i * 16) bs ∙ ap (λ m. drop m bs) on)

-- the first n records do not depend on the bytes behind them
module _ (processors : ℕ) where
  pub wrong_front : (n stamp i : ℕ) (xs ys : List ℕ) → n * 16 ≤ length xs
      → wrong_from processors stamp i n (xs ++ ys) ≡ wrong_from processors stamp i n xs
  wrong_front zero stamp i xs ys h = refl
  wrong_front (suc n) stamp i xs ys h =
      let left = length-drop 16 xs in
      let front = take-append-le 16 xs ys (omega arith) in
      let rear = drop-append-le 16 xs ys (omega arith) in
      let rest : (r : Record)
      → wrong_from processors r.stamp (i + 1) n (drop 16 (xs ++ ys))
      ≡ wrong_from processors r.stamp (i + 1) n (drop 16 xs)
      = λ r. ap (wrong_from processors r.stamp (i + 1) n) rear
      ∙ wrong_front n r.stamp (i + 1) (drop 16 xs) ys (omega arith) in
      λ j. when_some (lawful_record processors stamp (front j)) (λ r. rest r j) (Some i)

pub records_front : (n : ℕ) (xs ys : List ℕ) → n * 16 ≤ length xs
    → records_from n (xs ++ ys) ≡ records_from n xs
records_front zero xs ys h = refl
records_front (suc n) xs ys h =
    let left = length-drop 16 xs in
    let front = take-append-le 16 xs ys (omega arith) in
    let rear = drop-append-le 16 xs ys (omega arith) in
    let rest : records_from n (drop 16 (xs ++ ys)) ≡ records_from n (drop 16 xs)
    = ap (records_from n) rear ∙ records_front n (drop 16 xs) ys (omega arith) in
    λ j. when_some (decoded (front j)) (λ r. r ∷ rest j) []

-- the part in front of the trailer
module _ (bs : List ℕ) (size : ℕ) (held : size + 8 ≤ length bs) where
  abbrev part : List ℕ
  part = take (length bs - 8 - (length bs - 8 - size)) (drop (length bs - 8 - size) bs)

  length_part : length part ≡ size
  length_part =
      let start = length bs - 8 - size in
      let rest = length-drop start bs in
      let wide : length bs - 8 - start ≤ length (drop start bs) = omega arith in
      length-take-le (length bs - 8 - start) (drop start bs) wide ∙ omega arith

  pub last_part : (processors : ℕ) → trailer_bytes size processors ≡ drop (length bs - 8) bs
      → part ++ trailer_bytes (length part) processors ≡ drop (length bs - (length part + 8)) bs
  last_part processors e =
      let start = length bs - 8 - size in
      let wide = length bs - 8 - start in
      let on : start + wide ≡ length bs - 8 = omega arith in
      let from : length bs - (length part + 8) ≡ start = let long = length_part in omega arith in
      ap (λ n. part ++ trailer_bytes n processors) length_part
      ∙ ap (λ ys. part ++ ys) (e ∙ ap (λ m. drop m bs) (sym on) ∙ sym (drop-drop wide start bs))
      ∙ take-append-drop wide (drop start bs) ∙ ap (λ m. drop m bs) (sym from)
