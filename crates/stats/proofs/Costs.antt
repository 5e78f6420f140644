-- The bus cycles of an answer are those of its causes.
use Rattle.std.proofs.Common.{◌≡◌, ℕ, ◌+◌, Bool, true, false, cond, ◌||◌, List, [], ◌∷◌, length, is_some, Some, None, Ok, Err, Option, Result, refl, arith}
use Rattle.std.specs.List.{sum_by}
use Rattle.std.proofs.lemmas.List.Sums.{sum_by-cons}
use Rattle.protocol.specs.declared.answer.Answer.{Answer}
use Rattle.protocol.specs.declared.answer.Supplier.{Supplier}
use Rattle.protocol.specs.declared.answer.Supplier.TheVariants.{Memory, Cache}
use Rattle.protocol.specs.declared.command.BusCommand.{BusCommand}
use Rattle.protocol.specs.declared.command.Request.{Request}
use Rattle.protocol.specs.declared.measures.Costs.{Costs}
use Rattle.protocol.specs.declared.measures.Measures.{Measures}
use Rattle.protocol.specs.declared.refusal.Refusal.{Refusal}
use Rattle.protocol.specs.declared.refusal.Refusal.TheVariants.{TableLength}
use Rattle.memory.specs.Meaning.{Mem}
use Rattle.cluster.specs.declared.case.Case.{Case}
use Rattle.cluster.specs.declared.supply.Supply.{Supply}
use Rattle.cluster.specs.declared.ways.Taken.{Taken}
use Rattle.cluster.specs.Board.{Board, Outcome, refusing, unless_err}
use Rattle.cluster.specs.Doing.{lock_hit, supplied, victim_of, swapped_out, memory_after, invalidates, cycles_for}
use Rattle.cluster.specs.Finishing.{way_taken}
use Rattle.cluster.specs.Making.{tables_fit}
use Rattle.cluster.specs.Refusing.{case_of}
use Rattle.cluster.specs.Rule.{unless_some, waiting, finishing, swapping, supplying, proceeding, meeting, command_rule}
use Rattle.cluster.specs.Settling.{ul_sent}
use Rattle.run.specs.Answered.{cost_of}
use Rattle.text.specs.declared.step.Step.{Step}
use Rattle.stats.specs.Events.{completion_of, passes, waits, by_cache, by_memory, is_from_cache, is_from_memory, swaps_out, sends_i}
use Rattle.stats.specs.Statistics.{all_cycles}
use Rattle.stats.specs.Tallying.{cost_if, sends_lock_signal, causes_of}

module _ (costs : Costs) where
  -- what an answer costs by each of the causes
  abbrev pub caused_by : Result Answer Refusal → ℕ
  caused_by r =
      cond (passes (λ d. by_memory d.supplier) (completion_of r)) costs.swap_in 0
      + cond (passes (λ d. by_cache d.supplier) (completion_of r)) costs.transfer 0
      + cond (passes (λ d. is_some d.swapped_out) (completion_of r)) costs.swap_out 0
      + cond (passes (λ d. invalidates d.bus) (completion_of r)) costs.invalidation 0
      + cond (passes (λ d. d.ul) (completion_of r) || waits r) costs.lock_signal 0

  abbrev pub step_causes : Step → ℕ
  step_causes step = caused_by step.answer

  pub causes_add_up : (steps : List Step) → all_cycles (causes_of costs steps) ≡ sum_by step_causes steps
  causes_add_up [] = refl
  causes_add_up (s ∷ ss) =
      let rest = causes_add_up ss in
      omega (
        arith,
        rest,
        sum_by-cons step_causes s ss,
        sum_by-cons (cost_if is_from_memory costs.swap_in) s ss,
        sum_by-cons (cost_if is_from_cache costs.transfer) s ss,
        sum_by-cons (cost_if swaps_out costs.swap_out) s ss,
        sum_by-cons (cost_if sends_i costs.invalidation) s ss,
        sum_by-cons (cost_if sends_lock_signal costs.lock_signal) s ss,
      )

  done_causes : (from : Option Supplier) (bus : Option BusCommand) (swapped ul : Bool)
      → cond (by_memory from) costs.swap_in 0 + cond (by_cache from) costs.transfer 0
      + cond swapped costs.swap_out 0 + cond (invalidates bus) costs.invalidation 0
      + cond (ul || false) costs.lock_signal 0
      ≡ cycles_for costs from bus swapped ul
  done_causes None bus swapped true = omega arith
  done_causes None bus swapped false = omega arith
  done_causes (Some Memory) bus swapped true = omega arith
  done_causes (Some Memory) bus swapped false = omega arith
  done_causes (Some (Cache q)) bus swapped true = omega arith
  done_causes (Some (Cache q)) bus swapped false = omega arith

module _ (m : Measures) (b : Board) where
  abbrev Adds : Outcome Answer → Type 0
  Adds o = caused_by m.costs o.answer ≡ cost_of o.answer

  unless : {X : Type 0} (r : Result X Refusal) (go : X → Outcome Answer) → ((x : X) → Adds (go x))
      → Adds (unless_err b r go)
  unless (Ok x) go each = each x
  unless (Err e) go each = refl

  meets : (hit : ℕ → Outcome Answer) (o : Option ℕ) (go : Outcome Answer) → ((h : ℕ) → Adds (hit h))
      → Adds go → Adds (unless_some hit o go)
  meets hit None go each rest = rest
  meets hit (Some h) go each rest = each h

  waits_add : (c : Case) (holder : ℕ) → Adds (waiting m b c holder)
  waits_add c holder = omega arith

  finishes_add : (c : Case) (s : Supply) (taken : Option Taken) (swapped : Option ℕ) (after : Mem)
      → Adds (finishing m b c s taken swapped after)
  finishes_add c s taken swapped after =
      done_causes m.costs s.from c.effect.bus (is_some swapped) (ul_sent c.command b.locks c.entry)

  proceeds : (c : Case) → Adds (proceeding m b c)
  proceeds c =
      meets (waiting m b c) (lock_hit c) (supplying m b c) (waits_add c)
      (unless (supplied m b.lines b.memory c) (swapping m b c)
      (λ s. let taken = way_taken m b.processors b.lines c in
      let victim = victim_of b.lines taken in
      unless (swapped_out b.memory victim)
      (λ swapped. finishing m b c s taken swapped (memory_after b.memory victim))
      (λ swapped. finishes_add c s taken swapped (memory_after b.memory victim))))

  pub command_causes : (q : Request) → Adds (command_rule m b q)
  command_causes q = by_fit (tables_fit m (length b.lines) (length b.locks))
    where
      by_fit : (fit : Bool) → Adds (cond fit (meeting m b q) (refusing b TableLength))
      by_fit true = unless (case_of m b.processors b.lines b.locks b.memory.count q) (proceeding m b) proceeds
      by_fit false = refl
