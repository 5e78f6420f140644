-- The stamps of a trace's records.
use Rattle.std.proofs.Common.{◌≡◌, ℕ, ◌*◌, length, take, drop, sym, ◌∙◌, inl, inr, arith}
use Rattle.std.specs.Prelude.{slice_get}
use Rattle.std.proofs.lemmas.Option.{slice_get-get_or, slice_get_cases}
use Rattle.trace.specs.declared.trace.Trace.{Trace}
use Rattle.trace.specs.Records.{decoded}
use Rattle.trace.specs.Sizes.{records_in}
use Rattle.trace.specs.Traces.{records_of}
use Rattle.trace.proofs.Copies.{records_many}
use Rattle.trace.proofs.Known.{known}
use Rattle.trace.proofs.Reading.{too_short, past_records}
use Rattle.run.specs.Running.{no_record}

module _ (t : Trace) where
  pub many : length (records_of t.records.now) ≡ records_in t.records.now
  many = records_many (records_in t.records.now) t.processors 0 0 t.records.now t.sound

  -- the record at an index
  pub record_at : (i : ℕ)
      → decoded (take 16 (drop (i * 16) t.records.now)) ≡ slice_get (records_of t.records.now) i
  record_at i =
      let recs = records_of t.records.now in
      elim (slice_get_cases recs i).1 [
        | inl there ↦
            (known t.processors no_record t.records.now t.sound i (omega (arith, there.1, many))).given
            ∙ sym (slice_get-get_or recs i no_record there.1)
        | inr past ↦
            too_short _ (past_records t.records.now i (omega (arith, past.0, many))) ∙ sym past.1
      ]
