use Rattle.std.proofs.Common.{◌≡◌, ◌++◌, vec_items, ap, ◌∙◌}
use Rattle.counting.specs.Report.{report_of}
use Rattle.counting.proofs.counting.count_run.Goals as goal

pub returns-clause-counting : goal.returns-clause-counting
returns-clause-counting g c =
    let told = c.in_ok-run_watched.ensures in
    let same = ap (λ x. x.measures) told.geometry in
    c.in_ok-put_report.ensures.report c.run_watched.new.locks
    ∙ (λ k. c.new-out.ensures.items k ++ report_of (same k) (told.board k))
