use Rattle.std.proofs.Common.{arith, rules, tests}
use Rattle.cluster.specs.Waiting.{awaited_in}
use Rattle.trace.specs.Sizes.{records_in}
use Rattle.run.proofs.Dues.{sooner, later, is_earliest}
use Rattle.run.proofs.run.Run.due.Goals as goal
use Rattle.run.proofs.run.Run.due.Goals.{then-at-earliest+then-awake, else-at-earliest, else-at-earliest-via-then-at-earliest+else-awake, else-at-earliest-via-else-at-earliest}

pub loop-p-preserved : goal.loop-p-preserved
loop-p-preserved c =
    let waits = awaited_in c.args.cluster.now.geometry.measures c.args.cluster.now.processors in
    let next = c.args.self.now.next in
    let count = records_in c.args.self.now.trace.records.now in
    let p = c.loop-p.p in
    let e = c.loop-p.earliest in
    let found = c.loop-p.due in
    elim c.if-at-earliest.branch [
      | then-at-earliest+then-awake w ↦
          rw (w.earliest-is, w.due-is)
          (sooner waits next count p e found (omega (arith)) (search (rules, tests))
          (search (rules, tests)) c.loop-p.invariant)
      | else-at-earliest w ↦ elim w.else-at-earliest.branch [
        | else-at-earliest-via-then-at-earliest+else-awake w' ↦
            rw (w.earliest-is, w.due-is)
            (later waits next count p e found (λ idle. absurd (search (rules, tests))) c.loop-p.invariant)
        | else-at-earliest-via-else-at-earliest w' ↦
            rw (w.earliest-is, w.due-is)
            (later waits next count p e found (λ idle. w'.if-at-earliest.false) c.loop-p.invariant)
      ]
    ]

pub returns : goal.returns
returns c =
    let waits = awaited_in c.args.cluster.now.geometry.measures c.args.cluster.now.processors in
    is_earliest waits c.args.self.now.next (records_in c.args.self.now.trace.records.now) c.loop-p.p
    c.loop-p.earliest c.loop-p.due c.loop-p-test.false c.loop-p.invariant
