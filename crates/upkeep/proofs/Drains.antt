-- What a drain counts.
use Rattle.std.proofs.Common.{◌≡◌, ℕ, ◌+◌, Bool, true, false, cond, List, [], ◌∷◌, ◌++◌, Ok, Err, Result, sym, refl, ap, arith}
use Rattle.std.proofs.lemmas.List.Sums.{sum_by-cons}
use Rattle.std.specs.Result.{result_unwrap_or}
use Rattle.std.specs.Prelude.{count_by}
use Rattle.protocol.specs.declared.line.Line.{Line}
use Rattle.protocol.specs.declared.refusal.Direction.TheVariants.{Write}
use Rattle.protocol.specs.declared.refusal.Refusal.{Refusal}
use Rattle.protocol.specs.declared.refusal.Refusal.TheVariants.{Memory}
use Rattle.protocol.specs.Entries.{modified}
use Rattle.protocol.specs.Lines.{blank_line}
use Rattle.memory.specs.Meaning.{Mem, grants}
use Rattle.upkeep.proofs.Counts.{is_modified, one_modified}
use Rattle.upkeep.specs.Draining.{Drain, behind, written_back, memory_back, unless_stopped, drain_from}

abbrev pub onto : List Line → Drain → Drain
onto front d = record { answer = d.answer; lines = front ++ d.lines; memory = d.memory }

-- a finished drain writes the modified lines, and no others
back_one : (mem : Mem) (line : Line) (k : ℕ) → written_back mem line ≡ Ok k
    → k ≡ cond (is_modified line) 1 0
back_one mem line k e = by_state (modified line.state) (grants mem line.block) e
  where
    by_state : (b g : Bool) → ◌≡◌ {A = Result ℕ Refusal}
        (cond b (cond g (Ok 1) (Err (Memory line.block Write))) (Ok 0)) (Ok k) → k ≡ cond b 1 0
    by_state false g h = ap (λ r. result_unwrap_or r 0) (sym h)
    by_state true true h = ap (λ r. result_unwrap_or r 0) (sym h)
    by_state true false h = cc

module _ (blocks n : ℕ) (line : Line) (lines : List Line) (mem : Mem)
    (rest : (b : ℕ) → Ok n ≡ (drain_from b lines (memory_back mem line)).answer
    → n ≡ b + count_by is_modified lines) where
  by_answer : (r : Result ℕ Refusal) → written_back mem line ≡ r
      → Ok n ≡ (unless_stopped r (record { answer = Ok blocks; lines = line ∷ lines; memory = mem })
      (λ k. behind blank_line (drain_from (blocks + k) lines (memory_back mem line)))).answer
      → n ≡ blocks + count_by is_modified (line ∷ lines)
  by_answer (Err e) back h = cc
  by_answer (Ok k) back h =
      let one = back_one mem line k back in
      let all = rest (blocks + k) h in
      omega (arith, one, all, sum_by-cons one_modified line lines)

pub drain_count : (lines : List Line) (blocks n : ℕ) (mem : Mem)
    → Ok n ≡ (drain_from blocks lines mem).answer → n ≡ blocks + count_by is_modified lines
drain_count [] blocks n mem e =
    let same : n ≡ blocks = ap (λ r. result_unwrap_or r 0) e in omega (arith, same)
drain_count (line ∷ lines) blocks n mem e =
    by_answer blocks n line lines mem (λ b. drain_count lines b n (memory_back mem line))
    (written_back mem line) refl e
