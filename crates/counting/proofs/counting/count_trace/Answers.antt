use Rattle.std.proofs.Common.{◌≡◌, IfOk, vec_items, length, sym, ap, ◌∙◌, subst}
use Rattle.std.proofs.lemmas.List.{length-replicate}
use Rattle.protocol.specs.Places.{line_count}
use Rattle.protocol.specs.Lines.{blank_line}
use Rattle.memory.specs.Meaning.{Mem}
use Rattle.trace.specs.Traces.{records_of}
use Rattle.run.proofs.Laws.{new_lent}
use Rattle.run.specs.Running.{end_of}
use Rattle.counting.specs.Report.{report_of}
use Rattle.counting.proofs.counting.count_trace.Goals as goal

pub count_run-requires : goal.count_run-requires
count_run-requires g c =
    let board = c.in_ok-board.board in
    let new = c.in_ok-board.ensures.new in
    let mem = g.M.Memory.model c.args.memory.now in
    let lines = c.deref_mut.ensures.value ∙ ap (λ b. b.lines) (new.board mem) in
    ap length lines ∙ length-replicate (line_count c.args.geometry.measures) blank_line
    ∙ ap (λ x. line_count x.measures) (sym new.geometry)

pub returns-clause-counting : goal.returns-clause-counting
returns-clause-counting g c =
    let recs = records_of c.args.trace.records.now in
    let mem = g.M.Memory.model c.args.memory.now in
    let new = c.in_ok-board.ensures.new in
    let made = new_lent new c.deref_mut.ensures.value c.deref_mut-2.ensures.value mem in
    let same = ap (λ x. x.measures) new.geometry in
    subst (λ report. IfOk c.count_run.result (λ out. vec_items out ≡ report))
    (λ k. report_of (same k) (end_of (same k) (made k) recs).board) c.count_run.ensures.counting
