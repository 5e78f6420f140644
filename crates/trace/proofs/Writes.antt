-- Records that are none of them refused, put one after another.
use Prim.{tt}
use Rattle.std.proofs.Common.{◌≡◌, ℕ, ◌+◌, ◌*◌, ◌≤◌, List, [], ◌∷◌, ◌++◌, length, take, Some, None, Ok, Option, flat_map, sym, refl, ap, ◌∙◌, arith, length-append}
use Rattle.std.proofs.lemmas.Grind.{flat_map-append}
use Rattle.std.proofs.lemmas.List.{length-take-le}
use Rattle.protocol.specs.declared.command.Command.TheVariants.{R}
use Rattle.protocol.specs.declared.refusal.Refusal.{Refusal}
use Rattle.trace.specs.declared.record.Record.{Record}
use Rattle.trace.specs.Records.{encoded}
use Rattle.trace.specs.Traces.{when_some}
use Rattle.trace.specs.Writing.{written, trailer_bytes, put_refusal, Closed, close_rule, first_refusal, admission, trace_bytes, all_written, write_rule}
use Rattle.trace.proofs.Puts.{not_some}
use Rattle.trace.proofs.Copies.{close_fits, written_behind}

-- what a place past the end is read as
abbrev pub blank : Record
blank = record { stamp = 0; request = record { processor = 0; command = R; address = 0 } }

length_records : (rs : List Record) → length (flat_map encoded rs) ≡ length rs * 16
length_records [] = refl
length_records (r ∷ rs) =
    let rest = length_records rs in
    let both = length-append (encoded r) (flat_map encoded rs) in omega arith

module _ (processors count stamp long : ℕ) (r : Record) (rest : List Record) where
  abbrev left : Option Refusal
  left = first_refusal processors (count + 1) r.stamp long rest

  by_first : (o : Option Refusal) → put_refusal processors count stamp long r ≡ o
      → when_some o (λ e. Some e) left ≡ None
      → (None ≡ put_refusal processors count stamp long r) × (left ≡ None)
  by_first None e h = (sym e, h)
  by_first (Some refusal) e h = absurd (not_some h)

  -- the first is not refused, nor any behind it
  pub none_refused : first_refusal processors count stamp long (r ∷ rest) ≡ None
      → (None ≡ put_refusal processors count stamp long r) × (left ≡ None)
  none_refused = by_first (put_refusal processors count stamp long r) refl

-- one more record behind those written
pub written_next : (output : List ℕ) (rs : List Record) (r : Record) (i : ℕ) → i ≤ length rs
    → take (i + 1) rs ≡ take i rs ++ (r ∷ [])
    → written (written output 0 (flat_map encoded (take i rs))) (i * 16) (encoded r)
    ≡ written output 0 (flat_map encoded (take (i + 1) rs))
written_next output rs r i h more =
    let front = flat_map encoded (take i rs) in
    let long : length front ≡ i * 16
    = length_records (take i rs) ∙ ap (λ n. n * 16) (length-take-le i rs h) in
    written_behind output front (encoded r) (i * 16) long
    ∙ ap (written output 0)
    (sym (ap (flat_map encoded) more ∙ flat_map-append encoded (take i rs) (r ∷ [])))

module _ (processors : ℕ) (output : List ℕ) (rs : List Record) where
  -- the trailer behind all records is what the rule says
  pub closed_behind : Ok tt ≡ admission output processors rs → (out : List ℕ)
      → out ≡ written output 0 (flat_map encoded rs) → length rs * 16 + 8 ≤ length out
      → (close_rule processors (length rs) out).output ≡ (write_rule output processors rs).output
  closed_behind admits out e room =
      let n = length rs in
      let trailer = trailer_bytes (n * 16) processors in
      let done : Closed =
      record { answer = Ok (n * 16 + 8); output = written output 0 (trace_bytes processors rs) } in
      let rule : write_rule output processors rs ≡ done
      = ap (all_written output processors rs) (sym admits) in
      ap (λ x. x.output) (close_fits processors n out room)
      ∙ ap (λ ys. written ys (n * 16) trailer) e
      ∙ written_behind output (flat_map encoded rs) trailer (n * 16) (length_records rs)
      ∙ sym (ap (λ x. x.output) rule)
