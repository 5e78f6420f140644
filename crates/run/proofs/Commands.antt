-- A run's steps are commands.
use Rattle.std.proofs.Common.{◌≡◌, ℕ, zero, suc, List, [], ◌∷◌, Some, None, Ok, Option, sym, refl, subst}
use Rattle.protocol.specs.declared.measures.Measures.{Measures}
use Rattle.cluster.specs.Board.{Board}
use Rattle.law.specs.Calls.{answered}
use Rattle.trace.specs.declared.record.Record.{Record}
use Rattle.trace.specs.Traces.{Content, trace_of, when_some}
use Rattle.run.specs.Commands.{steps_on, AsCommands, RunAsCommands}
use Rattle.run.specs.Running.{Running, due, stepped, shown, to_go, run_from, steps_from, started, end_of}

module _ (m : Measures) (records : List Record) where
  -- the steps of a run that goes on for n steps at most
  abbrev Along : ℕ → Running → Type 0
  Along n s = AsCommands m s.board (run_from m records n s).board (steps_from m records n s)

  one_more : (n : ℕ) (s : Running) (o : Option ℕ) → ((i : ℕ) → Along n (stepped m records s i))
      → AsCommands m s.board (when_some o (λ i. run_from m records n (stepped m records s i)) s).board
      (when_some o (λ i. shown m records s i ∷ steps_from m records n (stepped m records s i)) [])
  unfolding stepped shown
  one_more n s None rest = record { left = refl; answers = refl }
  one_more n s (Some i) rest =
      record {
        left =
            (rest i).left;
        answers = λ k. answered (shown m records s i).answer ∷ (rest i).answers k;
      }

  commands_from : (n : ℕ) (s : Running) → Along n s
  unfolding run_from steps_from
  commands_from zero s = record { left = refl; answers = refl }
  commands_from (suc n) s = one_more n s (due m records s) (λ i. commands_from n (stepped m records s i))

module _ (m : Measures) (before : Board) where
  -- what the run of some records leaves is what its commands leave
  pub records_as_commands : (records : List Record) (end : Running) → end ≡ end_of m before records
      → RunAsCommands m before end.board records
  records_as_commands records end last =
      let first = started records before in
      subst (λ s. RunAsCommands m before s.board records) (sym last)
      (commands_from m records (to_go m records first) first)

  -- the same of the records of a trace
  pub as_commands : (bytes : List ℕ) (content : Content) (end : Running)
      → Ok content ≡ trace_of bytes → end ≡ end_of m before content.records
      → AsCommands m before end.board (steps_on m before (trace_of bytes))
  as_commands bytes content end told last =
      subst (λ r. AsCommands m before end.board (steps_on m before r)) told
      (records_as_commands content.records end last)
