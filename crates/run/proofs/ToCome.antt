-- Each step leaves less to come of the records and of the processors that do not wait.
use Rattle.std.proofs.Common.{◌≡◌, ℕ, zero, suc, ◌+◌, ◌<◌, ◌≤◌, Bool, true, false, cond, sym, refl, List, [], ◌∷◌, length, get_or, set, IfOk, Ok, Err, Result, arith}
use Rattle.protocol.specs.declared.answer.Answer.{Answer}
use Rattle.protocol.specs.declared.answer.Answer.TheVariants.{Done, Wait}
use Rattle.protocol.specs.declared.refusal.Refusal.{Refusal}
use Rattle.protocol.specs.Answers.{cycles_in}
use Rattle.cluster.specs.declared.cluster.Processor.{Processor}
use Rattle.cluster.specs.Waiting.{not_waiting, WaitsMore}
use Rattle.run.specs.declared.run.Run.{Run}
use Rattle.run.specs.Answered.{cost_of, finishes_record}
use Rattle.run.specs.Kept.{next_after}
use Rattle.run.proofs.Turns.{next_at}
use Rattle.trace.specs.Sizes.{records_in}
use Rattle.trace.specs.Traces.{next_of}
use Rattle.run.specs.Progress.{to_come, Steps, remaining}

few_idle : (ps : List Processor) → not_waiting ps ≤ length ps
few_idle [] = omega arith
few_idle (p ∷ ps) = let rest : not_waiting ps ≤ length ps = few_idle ps in grind arith

place_moved : (count : ℕ) (next : List ℕ) (p to : ℕ) → p < length next → get_or next p 0 < count
    → get_or next p 0 < to
    → to_come count (set next p to) < to_come count next
place_moved count [] p to h below on = omega arith
place_moved count (i ∷ is) zero to h below on = omega arith
place_moved count (i ∷ is) (suc p) to h below on =
    let rest : to_come count (set is p to) < to_come count is =
    place_moved count is p to (omega arith) below on in
    omega arith

finished_falls : (count : ℕ) (next : List ℕ) (p to : ℕ) (ps qs : List Processor) → length qs ≡ 8
    → p < length next
    → get_or next p 0 < count → get_or next p 0 < to
    → remaining count (set next p to) qs < remaining count next ps
finished_falls count next p to ps qs eight h below on =
    let less : to_come count (set next p to) < to_come count next =
    place_moved count next p to h below on in
    let idle : not_waiting qs ≤ length qs = few_idle qs in
    omega arith

waited_falls : (r : Result Answer Refusal) (count : ℕ) (next : List ℕ) (ps qs : List Processor)
    → false ≡ finishes_record r
    → WaitsMore r ps qs → remaining count next qs < remaining count next ps
waited_falls (Ok (Done done)) count next ps qs e h = absurd (cc)
waited_falls (Ok (Wait hit)) count next ps qs e h = omega arith
waited_falls (Err refusal) count next ps qs e h = absurd (cc)

-- the record at a processor's place is finished, or its processor waits
by_answer : (bytes next : List ℕ) (p : ℕ) (ps qs : List Processor) (r : Result Answer Refusal) (b : Bool)
    → finishes_record r ≡ b
    → length qs ≡ 8 → length next ≡ 8 → p < 8 → get_or next p 0 < records_in bytes → WaitsMore r ps qs
    → remaining (records_in bytes) (cond b (set next p (next_of p (get_or next p 0 + 1) bytes)) next)
    qs < remaining (records_in bytes) next ps
by_answer bytes next p ps qs r true e long eight listed below waits =
    let later = (next_at bytes p (get_or next p 0 + 1) (omega (arith, below))).later in
    finished_falls (records_in bytes) next p (next_of p (get_or next p 0 + 1) bytes) ps qs long
    (omega (arith, eight, listed)) below (omega (arith, later))
by_answer bytes next p ps qs r false e long eight listed below waits =
    waited_falls r (records_in bytes) next ps qs (sym e) waits

pub cost_low : (r : Result Answer Refusal) → IfOk r (λ a. cycles_in a ≤ 4000) → cost_of r ≤ 4000
cost_low (Ok answer) h = h
cost_low (Err refusal) h = omega arith

pub step_leaves_less : (bytes : List ℕ) (before after : Run) (p : ℕ) (ps qs : List Processor)
    (r : Result Answer Refusal)
    → length qs ≡ 8 → p < 8 → get_or before.next p 0 < records_in bytes
    → after.next ≡ next_after bytes before.next p (get_or before.next p 0) r
    → after.steps ≡ before.steps + 1 → after.cycles ≡ before.cycles + cost_of r → cost_of r ≤ 4000
    → WaitsMore r ps qs
    → Steps before after
    (remaining (records_in bytes) after.next qs < remaining (records_in bytes) before.next ps)
step_leaves_less bytes before after p ps qs r long listed below next steps cycles low waits =
    record {
      counted = steps;
      cost = omega (arith, cycles, low);
      less = rw next
          (by_answer bytes before.next p ps qs r (finishes_record r) refl long before.eight listed below
          waits);
    }
