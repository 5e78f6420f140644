-- A run that is not refused.
use Prim.{Unit, tt}
use Rattle.std.proofs.Common.{◌≡◌, ℕ, Bool, true, false, cond, List, length, None, Ok, Err, Result, refl}
use Rattle.protocol.specs.declared.measures.Measures.{Measures}
use Rattle.protocol.specs.declared.refusal.Refusal.{Refusal}
use Rattle.protocol.specs.declared.refusal.Refusal.TheVariants.{TableLength}
use Rattle.cluster.specs.Board.{Board}
use Rattle.cluster.specs.Making.{tables_fit}
use Rattle.trace.specs.Traces.{Content, trace_of}
use Rattle.run.specs.Running.{ran_all, run_rule, Ended, due, end_of}

module _ (m : Measures) (b : Board) (bytes : List ℕ) where
  abbrev fit : Bool
  fit = tables_fit m (length b.lines) (length b.locks)

  fits : (x : Unit {0}) → Ok x ≡ cond fit (Ok tt) (Err TableLength) → fit ≡ true
  fits x told = by_fit fit told
    where
      by_fit : (b : Bool) → ◌≡◌ {A = Result (Unit {0}) Refusal} (Ok x) (cond b (Ok tt) (Err TableLength))
          → b ≡ true
      by_fit true told = refl
      by_fit false told = cc

  pub read_and_run : (x : Unit {0}) (content : Content) → Ok x ≡ cond fit (Ok tt) (Err TableLength)
      → Ok content ≡ trace_of bytes
      → ran_all m b content.records ≡ run_rule m b bytes
  unfolding run_rule
  read_and_run x content fit_told told = rw (fits x fit_told, ← told) refl

  pub ended : (content : Content) → Ok content ≡ trace_of bytes
      → due m content.records (end_of m b content.records) ≡ None
      → Ended m b (trace_of bytes)
  ended content told h = rw (← told) h
