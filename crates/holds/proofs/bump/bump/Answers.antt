use Rattle.std.proofs.Common.{ap, ◌∙◌}
use Rattle.protocol.specs.declared.answer.Answer.{Answer}
use Rattle.cluster.specs.Board.{Outcome, board_of}
use Rattle.law.specs.Accounts.{left_along}
use Rattle.holds.specs.Holding.{hold_at, answer_of}
use Rattle.law.proofs.Along.{law_along}
use Rattle.holds.specs.Bumping.{bumping}
use Rattle.holds.proofs.Bumps.{held, answered_by, locked, stops, goes, raised}
use Rattle.holds.proofs.bump.bump.Goals as goal

pub returns-in-NotHeld : goal.returns-in-NotHeld
returns-in-NotHeld g c =
    let p = c.args.processor in
    let a = c.args.address in
    let m = c.args.cluster.now.geometry.measures in
    let b = board_of c.args.cluster.now c.args.lines.now c.args.locks.now
    (g.M.Memory.model c.args.memory.now) in
    let t = c.in-NotHeld.ensures in
    let s = stops m p a b (hold_at p a) _ _ t.answer in
    let made = s.answered ∙ ap (λ (o : Outcome Answer). o.answer) s.rule in
    record {
      answer = made;
      board = t.board ∙ ap (λ (o : Outcome Answer). o.board) s.rule;
      geometry = t.geometry;
      kept = t.kept;
      commands = t.commands ∙ ap (left_along m (locked m p a b)) s.calls;
      law = law_along c.args.cluster.now.geometry b (bumping m p a b);
      raised = raised c.args.cluster.now.geometry p a b _ made s.bumped;
      bumped = s.bumped;
    }

pub returns : goal.returns
returns g c =
    let p = c.args.processor in
    let a = c.args.address in
    let cluster = c.args.cluster.now in
    let m = cluster.geometry.measures in
    let b = board_of cluster c.args.lines.now c.args.locks.now (g.M.Memory.model c.args.memory.now) in
    let t = c.in-Held.ensures in
    let r = c.release_with.ensures in
    let after = c.take.new in
    let n = after.cluster.geometry.measures in
    let d = board_of after.cluster after.lines after.locks (g.M.Memory.model after.memory) in
    let hold = c.in-Held.hold in
    let done = c.in-Held.taken in
    let had = held (hold_at p a) hold done _ t.answer in
    let then = goes m p a b n d hold done (ap (λ k. k.measures) t.geometry) t.commands had.0 had.1 in
    let answered = c.into_answer.ensures ∙ ap answer_of r.answer ∙ answered_by hold _ in
    let made = answered ∙ ap (λ (o : Outcome Answer). o.answer) then.rule in
    record {
      answer = made;
      board = r.board ∙ ap (λ (o : Outcome Answer). o.board) then.rule;
      geometry = r.geometry ∙ t.geometry;
      kept = r.kept ∙ t.kept;
      commands = r.commands ∙ then.calls;
      law = law_along cluster.geometry b (bumping m p a b);
      raised = raised cluster.geometry p a b _ made (then.bumped _ answered);
      bumped = then.bumped _ answered;
    }
