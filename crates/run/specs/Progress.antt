-- What is to come of a run, and that each step leaves less of it.
use Rattle.std.specs.Prelude.{◌≡◌, ℕ, ◌+◌, ◌-◌, ◌*◌, ◌<◌, ◌≤◌, List, [], ◌∷◌, Some, None, Option}
use Rattle.cluster.specs.declared.cluster.Processor.{Processor}
use Rattle.cluster.specs.Waiting.{not_waiting}
use Rattle.run.specs.declared.run.Run.{Run}
use Rattle.text.specs.declared.step.Step.{Step}

-- the records from each processor's place to the end
abbrev pub to_come : ℕ → List ℕ → ℕ
to_come count [] = 0
to_come count (i ∷ is) = (count - i) + to_come count is

abbrev pub remaining : ℕ → List ℕ → List Processor → ℕ
remaining count next ps = 9 * to_come count next + not_waiting ps

-- a step counts itself and its cycles, and leaves less to come
pub record Steps (before after : Run) (falls : Type 0) : Type 0 where
  pub counted : after.steps ≡ before.steps + 1
  pub cost : after.cycles ≤ before.cycles + 4000
  pub less : falls

abbrev pub Stepped : ℕ → Option Step → Run → Run → List Processor → List Processor → Type 0
Stepped count None before after ps qs = after ≡ before
Stepped count (Some step) before after ps qs =
    Steps before after (remaining count after.next qs < remaining count before.next ps)
