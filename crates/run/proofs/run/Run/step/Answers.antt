use Rattle.std.proofs.Common.{◌≡◌, ◌+◌, ◌<◌, subst, not, ◌&&◌, eqb, get_or, Some, None, refl, ap, ◌∙◌}
use Rattle.cluster.specs.Board.{board_of}
use Rattle.cluster.specs.Rule.{command_rule}
use Rattle.trace.specs.Traces.{records_of}
use Rattle.run.specs.Answered.{cost_of, finishes_record}
use Rattle.run.specs.Kept.{records_for, state_of, unfinished_by}
use Rattle.run.specs.Running.{request_at, due, to_go}
use Rattle.run.proofs.Turns.{due_none, due_some, request_same, request_there, unfinished_after}
use Rattle.run.proofs.Falls.{no_such_processor, step_falls, step_after, shown_due}
use Rattle.run.proofs.ToCome.{cost_low, step_leaves_less}
use Rattle.run.proofs.run.Run.step.Goals as goal

pub returns-in_err-processor : goal.returns-in_err-processor
returns-in_err-processor g c =
    let run = c.args.self.now in
    let t = run.trace in
    let cluster = c.args.cluster.now in
    let m = cluster.geometry.measures in
    let b = board_of cluster c.args.lines.now c.args.locks.now (g.M.Memory.model c.args.memory.now) in
    let s = state_of run b in
    let none : due m (records_for run) s ≡ None
    = due_none t.processors t.records.now t.sound t.served.1 run.next run.eight run.settled m s refl
    c.in_err-processor.ensures in
    let gave = c.from_residual.ensures in
    record {
      stepped =
          rw gave refl;
      value =
          rw none gave;
      after =
          rw none refl;
      less = rw gave tt;
      trace = refl;
      geometry = refl;
      kept = refl;
    }

pub returns-in_err-next : goal.returns-in_err-next
returns-in_err-next g c =
    let t = c.args.self.now.trace in
    absurd (request_there t.processors t.records.now t.sound t.served.1 _ c.in_ok-processor.ensures.2
    c.in_err-next.ensures.value)

pub returns : goal.returns
returns g c =
    let run = c.args.self.now in
    let t = run.trace in
    let bytes = t.records.now in
    let recs = records_for run in
    let cluster = c.args.cluster.now in
    let m = cluster.geometry.measures in
    let ps = cluster.processors in
    let b = board_of cluster c.args.lines.now c.args.locks.now (g.M.Memory.model c.args.memory.now) in
    let s = state_of run b in
    let p = c.in_ok-processor.processor in
    let i = get_or run.next p 0 in
    let next = c.in_ok-next.next in
    let done = c.issue-answer.new in
    let after = c.account.new.self in
    let s' = state_of after (board_of done.self done.lines done.locks (g.M.Memory.model done.memory)) in
    let earliest = c.in_ok-processor.ensures in
    let issued = c.issue-answer.ensures in
    let r = c.issue-answer.result in
    let told = c.account.ensures in
    let is-due : due m recs s ≡ Some i =
    due_some t.processors bytes t.sound t.served.1 run.next run.eight run.settled m s refl p earliest in
    let same : next.request ≡ request_at recs i =
    request_same t.processors bytes t.sound t.served.1 i next earliest.2 c.in_ok-next.ensures.value in
    let answer = issued.answer ∙ ap (λ q. (command_rule m b q).answer) same in
    let left = issued.board ∙ ap (λ q. (command_rule m b q).board) same in
    let unfinished : unfinished_by (records_for after) after.next
    ≡ (λ j. unfinished_by recs run.next j && not (finishes_record r && eqb j i))
    = (λ k. unfinished_by (records_of (told.trace k).records.now) (told.next k))
    ∙ unfinished_after t.processors bytes t.sound t.served.1 run.next run.eight run.settled p earliest.0
    earliest.2 (finishes_record r) in
    let changed = step_after m recs s s' i is-due left
    (unfinished ∙ ap (λ a j. unfinished_by recs run.next j && not (finishes_record a && eqb j i)) answer)
    told.steps
    (told.cycles ∙ ap (λ a. run.cycles + cost_of a) answer) in
    record {
      value = shown_due m recs s (record { number = after.steps; request = next.request; answer = r }) i
          is-due
          (λ k. record { number = told.steps k; request = same k; answer = answer k });
      after = changed;
      stepped = step_leaves_less bytes run after p ps done.self.processors r done.self.eight earliest.0
          earliest.2
          told.next told.steps told.cycles (cost_low r issued.cost) issued.waiting;
      less = subst (λ x. to_go m recs x < to_go m recs s) changed
          (step_falls m recs s s' i r is-due unfinished cluster.geometry.some_processors
          cluster.geometry.few_processors
          cluster.eight issued.idle
          (λ beyond. ap (λ x. x.processors) left ∙ no_such_processor m b (request_at recs i) beyond));
      trace = told.trace;
      geometry = issued.geometry;
      kept = issued.kept;
    }
