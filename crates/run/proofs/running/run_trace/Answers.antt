use Rattle.std.proofs.Common.{◌≡◌, Ok, sym, ap, ◌∙◌}
use Rattle.cluster.specs.Board.{board_of}
use Rattle.trace.specs.Traces.{records_of, content_of, trace_of}
use Rattle.run.specs.Commands.{issued, steps_on}
use Rattle.run.specs.Kept.{records_for, state_of}
use Rattle.run.specs.Running.{due, started, ran, end_of, summary_of}
use Rattle.run.proofs.Commands.{as_commands}
use Rattle.run.proofs.Ends.{start_few}
use Rattle.law.proofs.Along.{law_along}
use Rattle.run.proofs.Turns.{few_records, summed}
use Rattle.run.proofs.Runs.{read_and_run, ended}
use Rattle.run.proofs.running.run_trace.Goals as goal

pub finish-requires : goal.finish-requires
finish-requires g c =
    let run = c.start-run.result in
    let cluster = c.args.cluster.now in
    let b = board_of cluster c.args.lines.now c.args.locks.now (g.M.Memory.model c.args.memory.now) in
    let none = ap (λ s. s.steps) (c.start-run.ensures.first b) in
    start_few cluster.geometry.measures (records_for run) (state_of run b) cluster.geometry.few_processors
    (few_records run.trace) none

pub returns : goal.returns
returns g c =
    let cluster = c.args.cluster.now in
    let m = cluster.geometry.measures in
    let before = board_of cluster c.args.lines.now c.args.locks.now (g.M.Memory.model c.args.memory.now)
    in
    let bytes = c.args.bytes.now in
    let t = c.in_ok-read.field-0 in
    let content = content_of t.processors t.records.now in
    let recs = content.records in
    let value = c.in_ok-read.ensures.value in
    let rule = read_and_run m before bytes c.in_ok-check_tables.field-0 content
    c.in_ok-check_tables.ensures value in
    let run = c.start-run.result in
    let told = c.start-run.ensures in
    let alike : records_for run ≡ recs = ap (λ x. records_of x.records.now) told.trace in
    let start = told.first before ∙ ap (λ rs. started rs before) alike in
    let last = c.finish.new in
    let left = board_of last.cluster last.lines last.locks (g.M.Memory.model last.memory) in
    let done = c.finish.ensures in
    let s' = state_of last.self left in
    let end : s' ≡ end_of m before recs = done.after ∙ (λ k. ran m (alike k) (start k)) in
    let kept : records_for last.self ≡ recs =
    ap (λ x. records_of x.records.now) (done.trace ∙ told.trace) in
    let summary =
    c.summary.ensures.value ∙ summed m last.self recs left kept ∙ ap (summary_of m recs) end in
    record {
      answer = ap Ok summary ∙ ap (λ x. x.answer) rule;
      board = ap (λ x. x.board) end ∙ ap (λ x. x.board) rule;
      ended = ended m before bytes content value (sym (λ k. due m (alike k) (end k)) ∙ done.ended);
      commands = as_commands m before bytes content s' value end;
      law = law_along cluster.geometry before (issued (steps_on m before (trace_of bytes)));
      geometry = done.geometry;
      kept = done.kept;
    }
