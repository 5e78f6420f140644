-- What is known of each record of a trace that was read.
use Rattle.std.proofs.Common.{◌≡◌, ℕ, zero, suc, ◌+◌, ◌*◌, ◌<◌, true, List, get_or, take, drop, Some, None, sym, ap, ◌∙◌, arith}
use Rattle.std.proofs.lemmas.List.{drop-drop, get_or-drop, get_or-take}
use Rattle.std.proofs.lemmas.Bool.Decides.{nat_tests}
use Rattle.trace.specs.declared.record.Record.{Record}
use Rattle.trace.specs.Records.{decoded}
use Rattle.trace.specs.Sizes.{records_in}
use Rattle.trace.specs.Traces.{follows, wrong_from, records_from, records_of}
use Rattle.trace.proofs.Puts.{first_known}

-- the fifth byte is the processor
fifth : (bs : List ℕ) (r : Record) → decoded bs ≡ Some r → get_or bs 4 0 ≡ r.request.processor
fifth bs r e = grind (arith, nat_tests)

low : (processors stamp : ℕ) (r : Record) → follows processors stamp r ≡ true
    → r.request.processor < processors
low processors stamp r e = grind (arith, nat_tests)

-- a record of the trace, from its sixteen bytes
pub record KnownAt (processors : ℕ) (bytes : List ℕ) (i : ℕ) (r : Record) : Type 0 where
  pub given : decoded (take 16 (drop (i * 16) bytes)) ≡ Some r
  pub served : r.request.processor < processors

module _ (processors : ℕ) (d : Record) where
  known_from : (n stamp index : ℕ) (bytes : List ℕ)
      → wrong_from processors stamp index n bytes ≡ None → (i : ℕ) → i < n
      → KnownAt processors bytes i (get_or (records_from n bytes) i d)
  known_from zero stamp index bytes sound i h = absurd (omega (arith, h))
  known_from (suc n) stamp index bytes sound zero h =
      let head = first_known processors stamp index n bytes sound in
      rw head.given
      (record { given = head.given; served = low processors stamp head.head head.may })
  known_from (suc n) stamp index bytes sound (suc i) h =
      let head = first_known processors stamp index n bytes sound in
      let rest =
      known_from n head.head.stamp (index + 1) (drop 16 bytes) head.rest i (omega (arith, h)) in
      let on : 16 + i * 16 ≡ suc i * 16 = omega arith in
      rw head.given (record {
        given = ap (λ m. decoded (take 16 (drop m bytes))) (sym on)
            ∙ ap (λ bs. decoded (take 16 bs)) (sym (drop-drop (i * 16) 16 bytes)) ∙ rest.given;
        served = rest.served;
      })

  module _ (bytes : List ℕ)
      (sound : wrong_from processors 0 0 (records_in bytes) bytes ≡ None) where
    pub known : (i : ℕ) → i < records_in bytes
        → KnownAt processors bytes i (get_or (records_of bytes) i d)
    known = known_from (records_in bytes) 0 0 bytes sound

    pub known_processor : (i : ℕ) → i < records_in bytes
        → get_or bytes (i * 16 + 4) 0 ≡ (get_or (records_of bytes) i d).request.processor
    known_processor i h =
        sym
        (get_or-take 16 (drop (i * 16) bytes) 4 0 (omega arith) ∙ get_or-drop (i * 16) bytes 4 0)
        ∙ fifth (take 16 (drop (i * 16) bytes)) (get_or (records_of bytes) i d) (known i h).given
