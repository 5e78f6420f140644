-- A trace's records put one after another.
use Prim.{tt}
use Rattle.std.proofs.Common.{◌≡◌, ℕ, zero, suc, ◌+◌, ◌-◌, ◌*◌, ◌<◌, ◌≤◌, true, false, cond, ltb, leb, List, ◌++◌, length, take, drop, Some, None, Ok, Err, sym, refl, ap, ◌∙◌, arith, length-append, take-add}
use Rattle.std.proofs.lemmas.List.{append_assoc, drop_at, drop-drop, take_at, length-take-le}
use Rattle.std.proofs.lemmas.Bool.Decides.{nat_tests}
use Rattle.protocol.specs.declared.refusal.Refusal.TheVariants as refusal
use Rattle.trace.specs.declared.record.Record.{Record}
use Rattle.trace.specs.Records.{encoded, decoded, Takes}
use Rattle.trace.specs.Traces.{follows, wrong_from, records_from, content_of, trace_of, when_some}
use Rattle.trace.specs.Sizes.{records_in}
use Rattle.trace.specs.Writing.{written, trailer_bytes, Put, put_refusal, put_rule, Closed, close_rule, copy_rule}
use Rattle.trace.proofs.Reading.{records_more}
use Rattle.trace.proofs.Puts.{First, first_known, not_some, put_done}

module _ (processors stamp i : ℕ) (bytes : List ℕ)
    (sound : wrong_from processors stamp i (records_in bytes) bytes ≡ None) where
  -- a record that is taken off may follow, and so may what comes behind it
  module _ (rest : List ℕ) (r : Record) (taken : Takes bytes (Some r) rest) where
    first : First processors stamp i (records_in rest) bytes
    first =
        let more = records_more bytes (encoded r) rest taken.1 refl in
        first_known processors stamp i (records_in rest) bytes
        (ap (λ n. wrong_from processors stamp i n bytes) (sym more) ∙ sound)

    same : r ≡ first.head
    same = ap (λ o. when_some o (λ q. q) r) (sym taken.0 ∙ first.given)

    pub may : follows processors stamp r ≡ true
    may = ap (follows processors stamp) same ∙ first.may

    pub behind : wrong_from processors r.stamp (i + 1) (records_in rest) rest ≡ None
    behind =
        ap (λ q. wrong_from processors q.stamp (i + 1) (records_in rest) rest) same
        ∙ ap (wrong_from processors first.head.stamp (i + 1) (records_in rest))
        (sym (ap (drop 16) taken.1 ∙ drop_at (encoded r) rest 16 refl))
        ∙ first.rest

  -- where none is taken off, none is left
  pub none_left : decoded (take 16 bytes) ≡ None → records_in bytes ≡ 0
  none_left none = by_count (records_in bytes) sound
    where
      by_count : (n : ℕ) → wrong_from processors stamp i n bytes ≡ None → n ≡ 0
      by_count zero h = refl
      by_count (suc n) h =
          absurd (not_some (sym (first_known processors stamp i n bytes h).given ∙ none))

put_goes : (processors count stamp long : ℕ) (r : Record) → follows processors stamp r ≡ true
    → count < 1048576 → count * 16 + 24 ≤ long
    → None ≡ put_refusal processors count stamp long r
put_goes processors count stamp long r may few room =
    let low : ltb count 1048576 ≡ true = grind (arith, nat_tests) in
    let fits : leb (count * 16 + 24) long ≡ true = grind (arith, nat_tests) in
    rw may (rw low (rw fits refl))

-- of n records that have room, one that is taken off is put
pub put_taken : (processors stamp i n : ℕ) (bytes rest output : List ℕ) (r : Record)
    → wrong_from processors stamp i (records_in bytes) bytes ≡ None → Takes bytes (Some r) rest
    → i + records_in bytes ≡ n → n ≤ 1048576 → n * 16 + 8 ≤ length output
    → ◌≡◌ {A = Put}
    (record {
      answer = Ok tt;
      count = i + 1;
      stamp = r.stamp;
      output = written output (i * 16) (encoded r);
    })
    (put_rule processors i stamp output r)
put_taken processors stamp i n bytes rest output r sound taken all few room =
    let more = records_more bytes (encoded r) rest taken.1 refl in
    put_done processors i stamp output r
    (put_goes processors i stamp (length output) r (may processors stamp i bytes sound rest r taken)
    (omega (arith, more, all, few)) (omega (arith, more, all, room)))

-- new bytes behind those written before
pub written_behind : (bytes front next : List ℕ) (k : ℕ) → length front ≡ k
    → written (written bytes 0 front) k next ≡ written bytes 0 (front ++ next)
written_behind bytes front next k long =
    let tail = drop (length front + 0) bytes in
    let both = length-append front next in
    let on : length front + 0 + length next ≡ length (front ++ next) + 0 = omega arith in
    let past : length next + k ≡ length front + length next = omega arith in
    ap (λ ys. ys ++ (next ++ drop (length next + k) (front ++ tail))) (take_at front tail k long)
    ∙ ap (λ m. front ++ (next ++ drop m (front ++ tail))) past
    ∙ ap (λ ys. front ++ (next ++ ys)) (sym (drop-drop (length next) (length front) (front ++ tail))
    ∙ ap (drop (length next)) (drop_at front tail (length front) refl)
    ∙ drop-drop (length next) (length front + 0) bytes ∙ ap (λ m. drop m bytes) on)
    ∙ sym (append_assoc front next (drop (length (front ++ next) + 0) bytes))

pub written_more : (bytes new : List ℕ) (k n : ℕ) → k ≤ length new
    → written (written bytes 0 (take k new)) k (take n (drop k new))
    ≡ written bytes 0 (take (k + n) new)
written_more bytes new k n h =
    written_behind bytes (take k new) (take n (drop k new)) k (length-take-le k new h)
    ∙ ap (written bytes 0) (sym (take-add k n new))

-- as many records as break no rule
pub records_many : (n processors stamp i : ℕ) (bytes : List ℕ)
    → wrong_from processors stamp i n bytes ≡ None → length (records_from n bytes) ≡ n
records_many zero processors stamp i bytes h = refl
records_many (suc n) processors stamp i bytes h =
    let head = first_known processors stamp i n bytes h in
    rw head.given
    (ap suc (records_many n processors head.head.stamp (i + 1) (drop 16 bytes) head.rest))

module _ (input output recs : List ℕ) (processors : ℕ)
    (read : Ok (content_of processors recs) ≡ trace_of input)
    (sound : wrong_from processors 0 0 (records_in recs) recs ≡ None) where
  abbrev long : ℕ
  long = records_in recs * 16 + 8

  abbrev copied : ℕ → Closed
  copied n =
      cond (ltb (length output) n) (record { answer = Err refusal.Output; output = output })
      (record { answer = Ok n; output = written output 0 (drop (length input - n) input) })

  by_length : copy_rule input output ≡ copied long
  by_length =
      rw (sym read)
      (ap (λ n. copied (n * 16 + 8)) (records_many (records_in recs) processors 0 0 recs sound))

  pub copy_short : length output < long
      → copy_rule input output ≡ record { answer = Err refusal.Output; output = output }
  copy_short h =
      let short : ltb (length output) long ≡ true = grind (arith, nat_tests) in
      by_length ∙ rw short refl

  pub copy_fits : long ≤ length output
      → copy_rule input output
      ≡ record { answer = Ok long; output = written output 0 (drop (length input - long) input) }
  copy_fits h =
      let fits : ltb (length output) long ≡ false = grind (arith, nat_tests) in
      by_length ∙ rw fits refl

-- closing behind the records
pub close_fits : (processors count : ℕ) (output : List ℕ) → count * 16 + 8 ≤ length output
    → close_rule processors count output
    ≡ record {
      answer = Ok (count * 16 + 8);
      output = written output (count * 16) (trailer_bytes (count * 16) processors);
    }
close_fits processors count output h =
    let fits : ltb (length output) (count * 16 + 8) ≡ false = grind (arith, nat_tests) in
    rw fits refl
