use Rattle.std.proofs.Common.{◌≡◌, true, eqb, List, ◌++◌, length, take, OnOk, codes, vec_items, sym, refl, ap, subst, ◌∙◌, arith}
use Rattle.std.proofs.lemmas.Bool.Decides.{nat_tests}
use Rattle.std.specs.Result.{result_unwrap_or}
use Rattle.protocol.specs.Places.{line_count}
use Rattle.cluster.specs.Board.{board_of}
use Rattle.upkeep.specs.Counting.{census_of, census_rule}
use Rattle.upkeep.specs.Draining.{drain_rule}
use Rattle.text.specs.Lines.{last_field}
use Rattle.text.proofs.Joins.{behind}
use Rattle.counting.specs.Report.{rows_from, modified_line, drained_line, report_of}
use Rattle.counting.proofs.Rows.{counted_rows}
use Rattle.counting.proofs.counting.put_report.Goals as goal

pub returns-clause-report : goal.returns-clause-report
unfolding report_of
returns-clause-report g c locks =
    let cluster = c.args.cluster.now in
    let m = cluster.geometry.measures in
    let mem = g.M.Memory.model c.args.memory.now in
    let b = board_of cluster c.args.lines.now locks mem in
    let start = vec_items c.args.out.now in
    let title = last_field (codes "P EM   EC   SM   S    I") in
    let n = c.processors.result in
    let rows = c.census.new.rows in
    let shown = rows_from 0 (take n rows) in
    let modified = modified_line rows in
    let drained = drained_line c.drain.result in
    let joined : vec_items c.put_modified.new.out ++ drained
    ≡ start ++ (title ++ (shown ++ (modified ++ drained)))
    = behind start title (shown ++ (modified ++ drained)) c.in_ok-put_last.ensures
    (behind (vec_items c.put_last.new.out) shown (modified ++ drained) c.in_ok-put_rows.ensures
    (behind (vec_items c.put_rows.new.out) modified drained c.in_ok-put_modified.ensures refl)) in
    let many : n ≡ m.processors =
    c.processors.ensures.value ∙ ap (λ x. x.measures.processors) c.geometry.ensures in
    let counted : rows ≡ census_of m b.lines
    = c.census.ensures.rows locks mem ∙ counted_rows m b _ c.requires in
    let written = c.drain.ensures.answer locks in
    subst (λ l. OnOk c.put_drained.result (vec_items c.put_drained.new.out ≡ l))
    (joined ∙ (λ k. start ++ (title ++ (rows_from 0 (take (many k) (counted k))
    ++ (modified_line (counted k) ++ drained_line (written k))))))
    c.put_drained.ensures
