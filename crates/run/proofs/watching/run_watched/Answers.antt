use Rattle.std.proofs.Common.{ℕ, sym, refl, ap, subst, ◌∙◌}
use Rattle.cluster.specs.Board.{board_of}
use Rattle.trace.specs.Traces.{records_of}
use Rattle.run.specs.Commands.{issued, steps_over}
use Rattle.run.specs.Kept.{Going, state_of}
use Rattle.run.specs.Running.{Running, due, started, to_go, steps_from, steps_of, summary_of}
use Rattle.run.specs.Watching.{SeesAll}
use Rattle.law.proofs.Along.{law_along}
use Rattle.run.proofs.Commands.{records_as_commands}
use Rattle.run.proofs.Ends.{going_start, goes_on, stops, start_few}
use Rattle.run.proofs.Turns.{few_records, summed}
use Rattle.run.proofs.watching.run_watched.Goals as goal

pub loop-step-init : goal.loop-step-init
loop-step-init g c =
    let recs = records_of c.args.trace.records.now in
    let cluster = c.args.cluster.now in
    let m = cluster.geometry.measures in
    let told = c.start-run.ensures in
    let before = board_of cluster c.args.lines.now c.args.locks.now (g.M.Memory.model c.args.memory.now)
    in
    let first = started recs before in
    let start = told.first before ∙ ap (λ t. started (records_of t.records.now) before) told.trace in
    let sees = g.W.Watch.sees in
    let watcher = c.args.watcher.now in
    let Here : Running → Type 0
    = λ x. (fuel : ℕ) × Going m recs first x fuel
    × ((w : _) → SeesAll sees watcher (steps_from m recs fuel x) w
    → SeesAll sees watcher (steps_of m recs first) w) in
    let going = going_start m recs first
    (start_few m recs first cluster.geometry.few_processors (few_records c.args.trace) refl) in
    (subst Here (sym start) (to_go m recs first, going, λ w seen. seen), told.trace, refl, refl)

pub loop-step-preserved : goal.loop-step-preserved
loop-step-preserved g c =
    let inv = c.loop-step.invariant in
    let told = c.in-Some.ensures in
    let step = c.in-Some.step in
    let further = goes_on _ _ _ _ inv.2 inv.1 _ _ _ _ inv.0.1 step told.value told.after told.less in
    let sees = g.W.Watch.sees in
    let all : (w : _) → SeesAll sees c.see.new.self _ w → SeesAll sees c.args.watcher.now _ w
    = λ w seen. inv.0.2 w (subst (λ steps. SeesAll sees c.loop-step.watcher steps w) (sym further.head)
    (c.see.new.self, (c.in_ok-see.ensures, seen))) in
    ((further.rest, further.going, all), told.trace ∙ inv.1, told.geometry ∙ inv.2, told.kept ∙ inv.3)

pub returns : goal.returns
returns g c =
    let cluster = c.args.cluster.now in
    let m = cluster.geometry.measures in
    let recs = records_of c.args.trace.records.now in
    let before = board_of cluster c.args.lines.now c.args.locks.now (g.M.Memory.model c.args.memory.now)
    in
    let inv = c.loop-step.invariant in
    let told = c.in_default.ensures in
    let last = c.step.new in
    let left = board_of last.cluster last.lines last.locks (g.M.Memory.model last.memory) in
    let stop = stops _ _ _ _ inv.2 inv.1 _ _ _ _ inv.0.1 told.value told.after in
    let kept = ap (λ t. records_of t.records.now) (told.trace ∙ inv.1) in
    record {
      answer = c.summary.ensures.value ∙ summed m last.self recs left kept
          ∙ ap (summary_of m recs) stop.end;
      board = ap (λ s. s.board) stop.end;
      seen = inv.0.2 c.loop-step.watcher
          (subst (λ steps. SeesAll g.W.Watch.sees c.loop-step.watcher steps c.loop-step.watcher)
          (sym stop.no_more) refl);
      ended = sym (ap (due m recs) stop.end) ∙ stop.none;
      commands = records_as_commands m before recs (state_of last.self left) stop.end;
      law = law_along cluster.geometry before (issued (steps_over m before recs));
      geometry = told.geometry ∙ inv.2;
      kept = told.kept ∙ inv.3;
    }
