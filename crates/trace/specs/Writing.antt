-- Writing a trace into an output: opened, records put one after another, closed.
use Prim.{Unit, tt}
use Rattle.std.specs.Prelude.{◌≡◌, ℕ, ◌+◌, ◌-◌, ◌*◌, ◌≤◌, if◌then◌else◌, ◌&&◌, List, [], ◌∷◌, ◌++◌, length, take, drop, Some, None, Ok, Err, Option, Result, nat_le, nat_lt, flat_map}
use Rattle.protocol.specs.declared.refusal.Refusal.{Refusal}
use Rattle.protocol.specs.declared.refusal.Refusal.TheVariants as refusal
use Rattle.trace.specs.declared.record.Record.{Record}
use Rattle.trace.specs.Records.{number_bytes, encoded}
use Rattle.trace.specs.Traces.{Content, follows, when_some, wrong_from, records_from, trace_of}

-- the bytes with new ones from a place on
abbrev pub written : List ℕ → ℕ → List ℕ → List ℕ
written bytes at new = take at bytes ++ (new ++ drop (length new + at) bytes)

-- size of the records, version 1, processors, two zero bytes
abbrev pub trailer_bytes : ℕ → ℕ → List ℕ
trailer_bytes size processors = number_bytes size ++ (1 ∷ (processors ∷ (0 ∷ (0 ∷ []))))

abbrev pub open_answer : List ℕ → ℕ → Result (Unit {0}) Refusal
open_answer output processors =
    if nat_le 1 processors && nat_le processors 8
    then (if nat_le 8 (length output) then Ok tt else Err refusal.Output)
    else Err refusal.Trailer

-- what a put answers, the number of records and the last stamp behind it, and the output
pub record Put : Type 0 where
  pub answer : Result (Unit {0}) Refusal
  pub count : ℕ
  pub stamp : ℕ
  pub output : List ℕ

-- why a record is not put into an output of a length, if it is not
abbrev pub put_refusal : ℕ → ℕ → ℕ → ℕ → Record → Option Refusal
put_refusal processors count stamp long r =
    if follows processors stamp r && nat_lt count 1048576
    then (if nat_le (count * 16 + 24) long then None else Some refusal.Output)
    else Some (refusal.Record count)

abbrev pub put_rule : ℕ → ℕ → ℕ → List ℕ → Record → Put
put_rule processors count stamp output r =
    when_some (put_refusal processors count stamp (length output) r)
    (λ e. record { answer = Err e; count = count; stamp = stamp; output = output })
    (record {
      answer = Ok tt;
      count = count + 1;
      stamp = r.stamp;
      output = written output (count * 16) (encoded r);
    })

-- what closing answers, and the output
pub record Closed : Type 0 where
  pub answer : Result ℕ Refusal
  pub output : List ℕ

abbrev pub close_rule : ℕ → ℕ → List ℕ → Closed
close_rule processors count output =
    if nat_lt (length output) (count * 16 + 8)
    then record { answer = Err refusal.Output; output = output }
    else record {
      answer = Ok (count * 16 + 8);
      output = written output (count * 16) (trailer_bytes (count * 16) processors);
    }

abbrev pub last_stamp : ℕ → List Record → ℕ
last_stamp stamp [] = stamp
last_stamp stamp (r ∷ rs) = last_stamp r.stamp rs

-- the output starts with so many lawful records, which are these, the last with this stamp, and has
-- room for the trailer
pub record Holds (processors count stamp : ℕ) (output : List ℕ) (rs : List Record) : Type 0 where
  pub sound : wrong_from processors 0 0 count output ≡ None
  pub same : records_from count output ≡ rs
  pub last : last_stamp 0 rs ≡ stamp
  pub room : count * 16 + 8 ≤ length output

-- what a copy of a trace answers, and the output: the input's bytes from the first record on
abbrev copied : List ℕ → List ℕ → Result Content Refusal → Closed
copied input output (Err e) = record { answer = Err e; output = output }
copied input output (Ok trace) =
    let long = length trace.records * 16 + 8 in
    if nat_lt (length output) long
    then record { answer = Err refusal.Output; output = output }
    else record { answer = Ok long; output = written output 0 (drop (length input - long) input) }

abbrev pub copy_rule : List ℕ → List ℕ → Closed
copy_rule input output = copied input output (trace_of input)

-- why the first of some records that may not be put is refused, if one may not
abbrev pub first_refusal : ℕ → ℕ → ℕ → ℕ → List Record → Option Refusal
first_refusal processors count stamp long [] = None
first_refusal processors count stamp long (r ∷ rs) =
    when_some (put_refusal processors count stamp long r)
    (λ e. Some e)
    (first_refusal processors (count + 1) r.stamp long rs)

-- the records behind one another, and the trailer
abbrev pub trace_bytes : ℕ → List Record → List ℕ
trace_bytes processors rs = flat_map encoded rs ++ trailer_bytes (length rs * 16) processors

-- what opening and putting all records answer, the first refusal or none
abbrev pub admitted : ℕ → ℕ → List Record → Result (Unit {0}) Refusal → Result (Unit {0}) Refusal
admitted processors long rs (Err e) = Err e
admitted processors long rs (Ok opened) =
    when_some (first_refusal processors 0 0 long rs) (λ e. Err e) (Ok tt)

abbrev pub admission : List ℕ → ℕ → List Record → Result (Unit {0}) Refusal
admission output processors rs =
    admitted processors (length output) rs (open_answer output processors)

abbrev pub all_written : List ℕ → ℕ → List Record → Result (Unit {0}) Refusal → Closed
all_written output processors rs (Err e) = record { answer = Err e; output = output }
all_written output processors rs (Ok done) =
    record {
      answer = Ok (length rs * 16 + 8);
      output = written output 0 (trace_bytes processors rs);
    }

-- what writing records as a trace answers, and the output
abbrev pub write_rule : List ℕ → ℕ → List Record → Closed
write_rule output processors rs = all_written output processors rs (admission output processors rs)
