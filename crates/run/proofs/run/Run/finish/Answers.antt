use Rattle.std.proofs.Common.{sym, ◌∙◌}
use Rattle.run.proofs.Ends.{on_some, on_none}
use Rattle.run.proofs.run.Run.finish.Goals as goal

pub loop-preserved : goal.loop-preserved
loop-preserved g c =
    let inv = c.loop.invariant in
    let told = c.step.ensures in
    let more = on_some _ _ _ _ inv.2 inv.1 _ _ _ _ inv.0.1 c.step.result (sym c.loop-test.ensures)
    told.value told.after told.less in
    (more, told.trace ∙ inv.1, told.geometry ∙ inv.2, told.kept ∙ inv.3)

pub returns : goal.returns
returns g c =
    let inv = c.loop.invariant in
    let told = c.step.ensures in
    let stop = on_none _ _ _ _ inv.2 inv.1 _ _ _ _ inv.0.1 c.step.result (sym c.loop-test.ensures)
    told.value told.after in
    record {
      after = stop.end;
      ended = stop.none;
      trace = told.trace ∙ inv.1;
      geometry = told.geometry ∙ inv.2;
      kept = told.kept ∙ inv.3;
    }
