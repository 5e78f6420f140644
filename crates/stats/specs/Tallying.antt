-- The numbers of a run: each counts the steps that pass a test, or adds up what the steps cost.
use Rattle.std.specs.Prelude.{ℕ, ◌+◌, ◌/◌, ◌%◌, ◌^◌, Bool, if◌then◌else◌, ◌&&◌, ◌||◌, List, length, map, count_by, replicate, Some, None, Option, nat_lt, slice_index, slice_set}
use Rattle.std.specs.List.{range_with_len, sum_by}
use Rattle.protocol.specs.declared.measures.Costs.{Costs}
use Rattle.text.specs.declared.step.Step.{Step}
use Rattle.stats.specs.declared.tally.Causes.{Causes}
use Rattle.stats.specs.declared.tally.Tally.{Tally}
use Rattle.stats.specs.Events

-- the UL of a done step, or a WAIT
abbrev pub sends_lock_signal : Step → Bool
sends_lock_signal step = Events.sends_ul step || Events.is_waiting step

-- what the step costs by a cause that it has or does not have
abbrev pub cost_if : (Step → Bool) → ℕ → Step → ℕ
cost_if test cost step = if test step then cost else 0

-- a number for each of eight processors and nine commands, ordered by processor, then by command
abbrev pub by_command : (ℕ → ℕ → ℕ) → List ℕ
by_command number = map (λ cell. number (cell / 9) (cell % 9)) (range_with_len 0 72)

-- the steps of a kind that a processor issued with a command
abbrev pub steps_with : (Step → Bool) → ℕ → ℕ → Step → Bool
steps_with kind processor command step = kind step && Events.asks processor command step.request

-- a number for each refusal number
abbrev pub by_refusal : (ℕ → ℕ) → List ℕ
by_refusal number = map number (range_with_len 0 16)

-- bus cycles by cause
abbrev pub causes_of : Costs → List Step → Causes
causes_of costs steps = record {
  swap_in = sum_by (cost_if Events.is_from_memory costs.swap_in) steps;
  transfer = sum_by (cost_if Events.is_from_cache costs.transfer) steps;
  swap_out = sum_by (cost_if Events.swaps_out costs.swap_out) steps;
  invalidation = sum_by (cost_if Events.sends_i costs.invalidation) steps;
  lock_signal = sum_by (cost_if sends_lock_signal costs.lock_signal) steps;
}

-- the numbers of the steps of a run
abbrev pub tally_of : Costs → List Step → Tally
tally_of costs steps = record {
  done = by_command (λ p c. count_by (steps_with Events.is_done p c) steps);
  waiting = by_command (λ p c. count_by (steps_with Events.is_waiting p c) steps);
  refused = by_command (λ p c. count_by (steps_with Events.is_refused p c) steps);
  refusals = by_refusal (λ number. count_by (Events.is_refused_with number) steps);
  hits = count_by Events.is_hit steps;
  misses = count_by Events.is_miss steps;
  from_cache = count_by Events.is_from_cache steps;
  from_memory = count_by Events.is_from_memory steps;
  swap_outs = count_by Events.swaps_out steps;
  sent_f = count_by Events.sends_f steps;
  sent_fi = count_by Events.sends_fi steps;
  sent_i = count_by Events.sends_i steps;
  sent_lk = count_by Events.sends_lk steps;
  sent_ul = count_by Events.sends_ul steps;
  lr_hits = count_by Events.is_lr_hit steps;
  exclusive_lr_hits = count_by Events.is_exclusive_lr_hit steps;
  releases = count_by Events.is_release steps;
  unwaited_releases = count_by Events.is_unwaited_release steps;
  cycles = causes_of costs steps;
}

abbrev pub no_cycles : Causes
no_cycles = record { swap_in = 0; transfer = 0; swap_out = 0; invalidation = 0; lock_signal = 0 }

abbrev pub no_steps : Tally
no_steps = record {
  done = replicate 72 0;
  waiting = replicate 72 0;
  refused = replicate 72 0;
  refusals = replicate 16 0;
  hits = 0;
  misses = 0;
  from_cache = 0;
  from_memory = 0;
  swap_outs = 0;
  sent_f = 0;
  sent_fi = 0;
  sent_i = 0;
  sent_lk = 0;
  sent_ul = 0;
  lr_hits = 0;
  exclusive_lr_hits = 0;
  releases = 0;
  unwaited_releases = 0;
  cycles = no_cycles;
}

-- what 64 bits hold of a number
abbrev pub wrapped : ℕ → ℕ
wrapped n = n % 2 ^ 64

-- a table with one more at a place, if it has that place
abbrev pub one_more_at : List ℕ → Option ℕ → List ℕ
one_more_at counts None = counts
one_more_at counts (Some place) =
    if nat_lt place (length counts)
    then slice_set counts place (wrapped (slice_index counts place + 1))
    else counts

-- a step added to the numbers, in 64 bits each
module _ (costs : Costs) (step : Step) where
  abbrev more : (Step → ℕ) → ℕ → ℕ
  more amount n = wrapped (n + amount step)

  abbrev one_if : (Step → Bool) → ℕ → ℕ
  one_if test n = wrapped (n + (if test step then 1 else 0))

  abbrev pub causes_added : Causes → Causes
  causes_added c = record {
    swap_in = more (cost_if Events.is_from_memory costs.swap_in) c.swap_in;
    transfer = more (cost_if Events.is_from_cache costs.transfer) c.transfer;
    swap_out = more (cost_if Events.swaps_out costs.swap_out) c.swap_out;
    invalidation = more (cost_if Events.sends_i costs.invalidation) c.invalidation;
    lock_signal = more (cost_if sends_lock_signal costs.lock_signal) c.lock_signal;
  }

  abbrev in_cell : (Step → Bool) → List ℕ → List ℕ
  in_cell kind counts = one_more_at counts (Events.cell_of (kind step) step.request)

  abbrev pub added : Tally → Tally
  added t = record {
    done = in_cell Events.is_done t.done;
    waiting = in_cell Events.is_waiting t.waiting;
    refused = in_cell Events.is_refused t.refused;
    refusals = one_more_at t.refusals (Events.refusal_in step.answer);
    hits = one_if Events.is_hit t.hits;
    misses = one_if Events.is_miss t.misses;
    from_cache = one_if Events.is_from_cache t.from_cache;
    from_memory = one_if Events.is_from_memory t.from_memory;
    swap_outs = one_if Events.swaps_out t.swap_outs;
    sent_f = one_if Events.sends_f t.sent_f;
    sent_fi = one_if Events.sends_fi t.sent_fi;
    sent_i = one_if Events.sends_i t.sent_i;
    sent_lk = one_if Events.sends_lk t.sent_lk;
    sent_ul = one_if Events.sends_ul t.sent_ul;
    lr_hits = one_if Events.is_lr_hit t.lr_hits;
    exclusive_lr_hits = one_if Events.is_exclusive_lr_hit t.exclusive_lr_hits;
    releases = one_if Events.is_release t.releases;
    unwaited_releases = one_if Events.is_unwaited_release t.unwaited_releases;
    cycles = causes_added t.cycles;
  }
