use Rattle.std.proofs.Common.{◌≡◌, ◌<◌, ◌+◌, [], ◌++◌, rules, length, take, get_or, vec_items, sym, ap, ◌∙◌, append_assoc, zero-add, add-one, arith}
use Rattle.std.proofs.Math.Seq.{take-suc}
use Rattle.std.proofs.lemmas.List.{length-take-le}
use Rattle.counting.specs.Report.{row_line, rows_from}
use Rattle.counting.proofs.Rows.{rows_more}
use Rattle.counting.proofs.report.put_rows.Goals as goal

pub loop-p-preserved : goal.loop-p-preserved
loop-p-preserved c =
    let p = c.loop-p.p in
    let rows = c.args.rows.now in
    let row = get_or rows p [] in
    let start = vec_items c.args.out.now in
    let low : p < length rows = search rules in
    let added : vec_items c.put_row.new.out ≡ vec_items c.loop-p.out ++ row_line p row = search rules in
    let shown : rows_from 0 (take (p + 1) rows) ≡ rows_from 0 (take p rows) ++ row_line p row
    = ap (λ q. rows_from 0 (take q rows)) (add-one p) ∙ ap (rows_from 0) (take-suc rows p [] low)
    ∙ rows_more 0 (take p rows) row
    ∙ ap (λ q. rows_from 0 (take p rows) ++ row_line q row)
    (zero-add (length (take p rows)) ∙ length-take-le p rows (omega (arith, low))) in
    added ∙ ap (λ l. l ++ row_line p row) c.loop-p.invariant
    ∙ append_assoc start (rows_from 0 (take p rows)) (row_line p row) ∙ ap (λ l. start ++ l) (sym shown)
