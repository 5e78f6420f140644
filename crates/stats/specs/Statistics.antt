-- The statistics of a run.
use Rattle.std.specs.Prelude.{◌≡◌, ℕ, ◌+◌, List, sum}
use Rattle.protocol.specs.declared.measures.Measures.{Measures}
use Rattle.cluster.specs.Board.{Board}
use Rattle.text.specs.declared.step.Step.{Step}
use Rattle.trace.specs.declared.record.Record.{Record}
use Rattle.run.specs.Running.{started, steps_of, end_of, summary_of}
use Rattle.upkeep.specs.Counting.{row_of}
use Rattle.stats.specs.declared.statistics.Counting.{Counting}
use Rattle.stats.specs.declared.statistics.Statistics.{Statistics}
use Rattle.stats.specs.declared.tally.Causes.{Causes}
use Rattle.stats.specs.declared.tally.Tally.{Tally}
use Rattle.stats.specs.Copies.{blocks_by_copies}
use Rattle.stats.specs.Tallying.{tally_of, added}

-- the run of records from a board: its steps counted, and what stands at its end
unfoldable pub statistics_of : Measures → List Record → Board → Statistics
statistics_of m records before =
    let end = end_of m before records in
    record {
      processors = m.processors;
      summary = summary_of m records end;
      tally = tally_of m.costs (steps_of m records (started records before));
      lines = row_of end.board.lines;
      copies = blocks_by_copies end.board.lines end.board.memory.count;
    }

-- a watcher that counts adds the step, at costs that stay
pub record Counts (before : Counting) (step : Step) (after : Counting) : Type 0 where
  pub costs : after.costs ≡ before.costs
  pub tally : after.tally ≡ added before.costs step before.tally

-- the bus cycles of all causes
abbrev pub all_cycles : Causes → ℕ
all_cycles c = c.swap_in + c.transfer + c.swap_out + c.invalidation + c.lock_signal

-- the steps of all processors and commands, however answered
abbrev pub all_steps : Tally → ℕ
all_steps t = sum t.done + sum t.waiting + sum t.refused
