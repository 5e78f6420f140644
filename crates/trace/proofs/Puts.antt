-- What is read of an output into which records were put.
use Prim.{tt}
use Rattle.std.proofs.Common.{◌≡◌, ℕ, zero, suc, ◌+◌, ◌-◌, ◌*◌, ◌/◌, ◌%◌, ◌≤◌, Bool, true, false, cond, ◌&&◌, eqb, ltb, List, [], ◌∷◌, ◌++◌, length, get_or, take, drop, Some, None, Ok, Err, Option, sym, refl, ap, ◌∙◌, arith, length-append, length-drop, take-append-drop, take-add}
use lib.Seq.{take-append-le}
use Rattle.std.proofs.lemmas.List.{append_assoc, get_or-append-add, drop_at, drop-drop, take_at, take-take, length-take-le}
use Rattle.std.proofs.lemmas.Bool.Decides.{nat_tests}
use Rattle.std.proofs.lemmas.Option.{none-some}
use Rattle.trace.specs.declared.record.Record.{Record}
use Rattle.trace.specs.declared.trailer.Trailer.{Trailer}
use Rattle.trace.specs.Records.{number_at, decoded, encoded}
use Rattle.trace.specs.Sizes.{records_in}
use Rattle.trace.specs.Traces.{follows, wrong_from, records_from, lawful, trailer_of, record_bytes, trace_of, when_some}
use Rattle.trace.proofs.Reading.{wrong_front, records_front}
use Rattle.trace.specs.Writing.{written, trailer_bytes, last_stamp, Put, put_refusal, put_rule, Holds}

pub not_some : {X : Type 0} {x : X} → Some x ≡ None → ⊥
not_some h = none-some _ (sym h)

-- the first of some records that break no rule
pub record First (processors stamp i n : ℕ) (bytes : List ℕ) : Type 0 where
  pub head : Record
  pub given : decoded (take 16 bytes) ≡ Some head
  pub may : follows processors stamp head ≡ true
  pub rest : wrong_from processors head.stamp (i + 1) n (drop 16 bytes) ≡ None

module _ (processors stamp i n : ℕ) (bytes : List ℕ) where
  abbrev kept : Record → Option Record
  kept r = cond (follows processors stamp r) (Some r) None

  abbrev behind : Record → Option ℕ
  behind r = wrong_from processors r.stamp (i + 1) n (drop 16 bytes)

  by_rule : (b : Bool) (r : Record) → follows processors stamp r ≡ b
      → decoded (take 16 bytes) ≡ Some r
      → when_some (cond b (Some r) None) behind (Some i) ≡ None → First processors stamp i n bytes
  by_rule true r e d h = record { head = r; given = d; may = e; rest = h }
  by_rule false r e d h = absurd (not_some h)

  by_bytes : (o : Option Record) → decoded (take 16 bytes) ≡ o
      → when_some (when_some o kept None) behind (Some i) ≡ None
      → First processors stamp i n bytes
  by_bytes None d h = absurd (not_some h)
  by_bytes (Some r) d h = by_rule (follows processors stamp r) r refl d h

  pub first_known : wrong_from processors stamp i (suc n) bytes ≡ None
      → First processors stamp i n bytes
  first_known h = by_bytes (decoded (take 16 bytes)) refl h

-- what new bytes leave in front of them, and that bytes in front may be left out
pub take-written : (k at : ℕ) (bytes new : List ℕ) → k ≤ at → at ≤ length bytes
    → take k (written bytes at new) ≡ take k bytes
take-written k at bytes new h room =
    let long = length-take-le at bytes room in
    take-append-le k (take at bytes) _ (omega arith) ∙ take-take k at bytes h

pub drop-written : (k at to : ℕ) (bytes new : List ℕ) → to ≡ k + at → k ≤ length bytes
    → drop k (written bytes to new) ≡ written (drop k bytes) at new
drop-written k at to bytes new e h =
    let far : length new + to ≡ k + (length new + at) = omega arith in
    ap (λ front. drop k (front ++ (new ++ drop (length new + to) bytes)))
    (ap (λ m. take m bytes) e ∙ take-add k at bytes)
    ∙ ap (drop k)
    (append_assoc (take k bytes) (take at (drop k bytes)) (new ++ drop (length new + to) bytes))
    ∙ drop_at (take k bytes) _ k (length-take-le k bytes h)
    ∙ ap (λ rest. take at (drop k bytes) ++ (new ++ rest))
    (ap (λ m. drop m bytes) far ∙ sym (drop-drop (length new + at) k bytes))

pub taken_new : (bytes new : List ℕ) → length new ≡ 16 → take 16 (written bytes 0 new) ≡ new
taken_new bytes new h = take_at new _ 16 h

-- records that break no rule, and one more that may follow the last of them
module _ (processors : ℕ) (new : List ℕ) (r : Record) (sixteen : length new ≡ 16)
    (back : decoded new ≡ Some r) where
  front : (n : ℕ) (bytes : List ℕ) → suc n * 16 ≤ length bytes
      → take 16 (written bytes (suc n * 16) new) ≡ take 16 bytes
  front n bytes room = take-written 16 (suc n * 16) bytes new (omega arith) room

  rear : (n : ℕ) (bytes : List ℕ) → suc n * 16 ≤ length bytes
      → drop 16 (written bytes (suc n * 16) new) ≡ written (drop 16 bytes) (n * 16) new
  rear n bytes room = drop-written 16 (n * 16) (suc n * 16) bytes new (omega arith) (omega arith)

  new_read : (bytes : List ℕ) → decoded (take 16 (written bytes 0 new)) ≡ Some r
  new_read bytes = ap decoded (taken_new bytes new sixteen) ∙ back

  room_behind : (n : ℕ) (bytes : List ℕ) → suc n * 16 ≤ length bytes
      → n * 16 ≤ length (drop 16 bytes)
  room_behind n bytes room = let left = length-drop 16 bytes in omega arith

  pub put_sound : (n stamp i : ℕ) (bytes : List ℕ) → n * 16 ≤ length bytes
      → wrong_from processors stamp i n bytes ≡ None
      → follows processors (last_stamp stamp (records_from n bytes)) r ≡ true
      → wrong_from processors stamp i (suc n) (written bytes (n * 16) new) ≡ None
  put_sound zero stamp i bytes room h may = rw (new_read bytes) (rw may refl)
  put_sound (suc n) stamp i bytes room h may =
      let first = first_known processors stamp i n bytes h in
      let q = first.head in
      let there : decoded (take 16 (written bytes (suc n * 16) new)) ≡ Some q
      = ap decoded (front n bytes room) ∙ first.given in
      let behind = λ (o : Option Record).
      when_some o (λ x. x ∷ records_from n (drop 16 bytes)) [] in
      let rest = put_sound n q.stamp (i + 1) (drop 16 bytes) (room_behind n bytes room) first.rest
      (ap (λ o. follows processors (last_stamp stamp (behind o)) r) (sym first.given) ∙ may) in
      rw there (rw first.may (rw (rear n bytes room) rest))

  pub put_read : (n stamp i : ℕ) (bytes : List ℕ) → n * 16 ≤ length bytes
      → wrong_from processors stamp i n bytes ≡ None
      → records_from (suc n) (written bytes (n * 16) new) ≡ records_from n bytes ++ (r ∷ [])
  put_read zero stamp i bytes room h = rw (new_read bytes) refl
  put_read (suc n) stamp i bytes room h =
      let first = first_known processors stamp i n bytes h in
      let q = first.head in
      let there : decoded (take 16 (written bytes (suc n * 16) new)) ≡ Some q
      = ap decoded (front n bytes room) ∙ first.given in
      let rest = put_read n q.stamp (i + 1) (drop 16 bytes) (room_behind n bytes room) first.rest in
      rw there (rw first.given (rw (rear n bytes room) (ap (λ rs. q ∷ rs) rest)))

pub last_put : (stamp : ℕ) (rs : List Record) (r : Record)
    → last_stamp stamp (rs ++ (r ∷ [])) ≡ r.stamp
last_put stamp [] r = refl
last_put stamp (q ∷ rs) r = last_put q.stamp rs r

pub length-written : (bytes : List ℕ) (at : ℕ) (new : List ℕ)
    → length new + at ≤ length bytes → length (written bytes at new) ≡ length bytes
length-written bytes at new h =
    let front = length-take-le at bytes (omega arith) in
    let rest = length-drop (length new + at) bytes in
    let inner = length-append new (drop (length new + at) bytes) in
    let outer = length-append (take at bytes) (new ++ drop (length new + at) bytes) in
    omega arith

module _ (processors count stamp : ℕ) (output : List ℕ) (r : Record) where
  -- what a put that is not refused answers and leaves
  abbrev done : Put
  done =
      record {
        answer = Ok tt;
        count = count + 1;
        stamp = r.stamp;
        output = written output (count * 16) (encoded r);
      }

  -- a put that is not refused
  pub put_done : None ≡ put_refusal processors count stamp (length output) r
      → done ≡ put_rule processors count stamp output r
  put_done e =
      ap (λ o. when_some o
      (λ refusal. record { answer = Err refusal; count = count; stamp = stamp; output = output })
      done) e

  pub put_follows : None ≡ put_refusal processors count stamp (length output) r
      → follows processors stamp r ≡ true
  put_follows e = grind (arith, nat_tests)

  pub put_holds : (rs : List Record) (new : List ℕ) → length new ≡ 16 → decoded new ≡ Some r
      → follows processors stamp r ≡ true
      → count * 16 + 24 ≤ length output → Holds processors count stamp output rs
      → Holds processors (count + 1) r.stamp (written output (count * 16) new) (rs ++ (r ∷ []))
  put_holds rs new sixteen back may fits h =
      let one : count + 1 ≡ suc count = omega arith in
      let room : count * 16 ≤ length output = omega arith in
      let long = length-written output (count * 16) new (omega arith) in
      let after : follows processors (last_stamp 0 (records_from count output)) r ≡ true
      = ap (λ s. follows processors s r) (ap (last_stamp 0) h.same ∙ h.last) ∙ may in
      record {
        sound = ap (λ n. wrong_from processors 0 0 n (written output (count * 16) new)) one
            ∙ put_sound processors new r sixteen back count 0 0 output room h.sound after;
        same = ap (λ n. records_from n (written output (count * 16) new)) one
            ∙ put_read processors new r sixteen back count 0 0 output room h.sound
            ∙ ap (λ qs. qs ++ (r ∷ [])) h.same;
        last = last_put 0 rs r;
        room = omega arith;
      }

-- what is read of an output that was closed
module _ (processors count : ℕ) (front : List ℕ) (long : length front ≡ count * 16)
    (few : count ≤ 1048576) where
  abbrev last_bytes : List ℕ
  last_bytes = trailer_bytes (count * 16) processors

  abbrev whole : List ℕ
  whole = front ++ last_bytes

  length_whole : length whole ≡ count * 16 + 8
  length_whole = let both = length-append front last_bytes in omega arith

  end_whole : length whole - 8 ≡ length front
  end_whole = let all = length_whole in omega arith

  at_end : (k : ℕ) → get_or whole (length whole - 8 + k) 0 ≡ get_or last_bytes k 0
  at_end k =
      ap (λ e. get_or whole (e + k) 0) end_whole ∙ get_or-append-add front last_bytes k 0

  at_first : get_or whole (length whole - 8) 0 ≡ count * 16 % 256
  at_first =
      let none : length whole - 8 ≡ length whole - 8 + 0 = omega arith in
      ap (λ e. get_or whole e 0) none ∙ at_end 0

  size_back : number_at whole (length whole - 8) ≡ count * 16
  size_back =
      (λ j. at_first j + at_end 1 j * 256 + at_end 2 j * 65536 + at_end 3 j * 16777216)
      ∙ omega arith

  abbrev trailer : Trailer
  trailer = record { size = count * 16; processors = processors }

  is_lawful : 1 ≤ processors → processors ≤ 8 → lawful (count * 16) trailer ≡ true
  is_lawful some most = grind (arith, nat_tests)

  pub trailer_back : 1 ≤ processors → processors ≤ 8 → trailer_of whole ≡ Some trailer
  trailer_back some most =
      let not_short : ltb (count * 16 + 8) 8 ≡ false = grind (arith, nat_tests) in
      (λ j. cond (ltb (length_whole j) 8) None
      (let given : Trailer = record { size = size_back j; processors = at_end 5 j } in
      cond
      (eqb (at_end 4 j) 1 && eqb (at_end 6 j) 0 && eqb (at_end 7 j) 0
      && lawful ((end_whole ∙ long) j) given)
      (Some given) None))
      ∙ rw not_short (rw (is_lawful some most) refl)

  records_back : record_bytes whole (count * 16) ≡ front
  records_back =
      let start : length whole - 8 - count * 16 ≡ 0 = let all = length_whole in omega arith in
      ap (λ m. take (count * 16) (drop m whole)) start ∙ take_at front _ (count * 16) long

  pub reads_as : 1 ≤ processors → processors ≤ 8 → wrong_from processors 0 0 count front ≡ None
      → trace_of whole ≡ Ok (record { processors = processors; records = records_from count front })
  reads_as some most sound =
      let n : records_in front ≡ count = ap (λ m. m / 16) long ∙ omega arith in
      rw (trailer_back some most) (rw records_back (rw n (rw sound refl)))

-- an output closed behind the records that it holds
pub closed_reads : (processors count stamp : ℕ) (output : List ℕ) (rs : List Record)
    → count ≤ 1048576 → 1 ≤ processors → processors ≤ 8
    → Holds processors count stamp output rs
    → trace_of (take (count * 16 + 8)
    (written output (count * 16) (trailer_bytes (count * 16) processors)))
    ≡ Ok (record { processors = processors; records = rs })
closed_reads processors count stamp output rs few some most h =
    let room = h.room in
    let front = take (count * 16) output in
    let long : length front ≡ count * 16 = length-take-le (count * 16) output (omega arith) in
    let trailer = trailer_bytes (count * 16) processors in
    let end = drop (length trailer + count * 16) output in
    let split : output ≡ front ++ drop (count * 16) output
    = sym (take-append-drop (count * 16) output) in
    let cut : take (count * 16 + 8) (front ++ (trailer ++ end)) ≡ front ++ trailer
    = ap (take (count * 16 + 8)) (sym (append_assoc front trailer end))
    ∙ take_at (front ++ trailer) end (count * 16 + 8)
    (let both = length-append front trailer in omega arith) in
    let sound : wrong_from processors 0 0 count front ≡ None
    = sym (wrong_front processors count 0 0 front _ (omega arith))
    ∙ ap (wrong_from processors 0 0 count) (sym split) ∙ h.sound in
    let same : records_from count front ≡ rs
    = sym (records_front count front _ (omega arith))
    ∙ ap (records_from count) (sym split) ∙ h.same in
    ap trace_of cut ∙ reads_as processors count front long few some most sound
    ∙ ap (λ qs. Ok (record { processors = processors; records = qs })) same
