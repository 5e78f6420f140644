-- The numbers of a run add up to what it came to.
use Rattle.std.proofs.Common.{◌≡◌, ℕ, ◌<◌, List, sym, ap, ◌∙◌, zero-add}
use Rattle.protocol.specs.declared.measures.Measures.{Measures}
use Rattle.cluster.specs.Board.{Board}
use Rattle.text.specs.declared.step.Step.{Step}
use Rattle.text.specs.declared.step.Summary.{Summary}
use Rattle.trace.specs.declared.record.Record.{Record}
use Rattle.run.specs.Running.{Running, request_at, started, to_go, steps_of, end_of, summary_of}
use Rattle.stats.specs.declared.tally.Tally.{Tally}
use Rattle.stats.specs.Statistics.{all_cycles, all_steps}
use Rattle.stats.specs.Tallying.{tally_of}
use Rattle.stats.proofs.Along.{SumsTo, sums_from, all_served}
use Rattle.stats.proofs.Costs.{causes_add_up}
use Rattle.stats.proofs.Totals.{kinds_add_up}

module _ (m : Measures) (records : List Record) (before : Board) (t : Tally) (s : Summary)
    (tallied : t ≡ tally_of m.costs (steps_of m records (started records before)))
    (told : s ≡ summary_of m records (end_of m before records)) where
  abbrev first : Running
  first = started records before

  abbrev steps : List Step
  steps = steps_of m records first

  sums : SumsTo m records first (end_of m before records) steps
  sums = sums_from m records (to_go m records first) first

  pub cycles_add_up : all_cycles t.cycles ≡ s.cycles
  cycles_add_up =
      ap (λ x. all_cycles x.cycles) tallied ∙ causes_add_up m.costs steps
      ∙ sym (sums.cycles ∙ zero-add _) ∙ sym (ap (λ x. x.cycles) told)

  pub steps_add_up : ((i : ℕ) → (request_at records i).processor < 8) → all_steps t ≡ s.steps
  steps_add_up served =
      ap all_steps tallied
      ∙ kinds_add_up m.costs steps (all_served m records served (to_go m records first) first)
      ∙ sym (sums.steps ∙ zero-add _) ∙ sym (ap (λ x. x.steps) told)
