use Rattle.std.proofs.Common.{◌≡◌, ◌+◌, ◌<◌, ◌≤◌, true, false, length, Some, None, sym, ◌∙◌, arith, rules}
use Rattle.std.proofs.lemmas.Bool.Decides.{nat_tests}
use Rattle.protocol.proofs.Finding.{first_more, first_end, lowest_more}
use Rattle.protocol.specs.Lines.{no_line}
use Rattle.cluster.specs.Copies.{holds_block, line_of, other_copy}
use Rattle.cluster.proofs.view.View.supplier.Goals as goal

pub caches-preserved-then-p-asking : goal.caches-preserved-then-p-asking
caches-preserved-then-p-asking c =
    let m = c.args.self.now.cluster.now.geometry.measures in
    let test = other_copy m c.args.self.now.lines.now c.args.asking c.args.block in
    let step = lowest_more test c.caches.p m.processors false (omega arith) (grind (arith, nat_tests)) in
    (c.caches.invariant.0, sym step ∙ c.caches.invariant.1)

pub loop-i-preserved : goal.loop-i-preserved
loop-i-preserved c =
    let p : c.caches.p < c.args.self.now.cluster.now.geometry.measures.processors = omega arith in
    let end = c.window-window.result.from + c.window-window.result.count in
    let inside : end ≤ length c.args.self.now.lines.now =
    omega (arith, c.window-window.ensures.within p) in
    let step = first_more (holds_block c.args.block) c.args.self.now.lines.now c.loop-i.i end no_line
    false (omega arith) inside (search rules) in
    (c.loop-i.invariant.0, sym step ∙ c.loop-i.invariant.1)

pub caches-preserved : goal.caches-preserved
caches-preserved c =
    let m = c.args.self.now.cluster.now.geometry.measures in
    let test = other_copy m c.args.self.now.lines.now c.args.asking c.args.block in
    let none : line_of m c.args.self.now.lines.now c.caches.p c.args.block ≡ None
    = sym c.loop-i.invariant.1 ∙ first_end (holds_block c.args.block) c.args.self.now.lines.now c.loop-i.i
    _ c.loop-i-test.false in
    let step = lowest_more test c.caches.p m.processors false (omega arith)
    (grind (arith, nat_tests, none)) in
    (c.loop-i.invariant.0, sym step ∙ c.caches.invariant.1)

pub returns-then-lies_in : goal.returns-then-lies_in
returns-then-lies_in c =
    let m = c.args.self.now.cluster.now.geometry.measures in
    let test = other_copy m c.args.self.now.lines.now c.args.asking c.args.block in
    let p : c.caches.p < m.processors = omega arith in
    let end = c.window-window.result.from + c.window-window.result.count in
    let inside : end ≤ length c.args.self.now.lines.now =
    omega (arith, c.window-window.ensures.within p) in
    let here = first_more (holds_block c.args.block) c.args.self.now.lines.now c.loop-i.i end no_line true
    (omega arith) inside (search rules) in
    let some : line_of m c.args.self.now.lines.now c.caches.p c.args.block ≡ Some c.loop-i.i =
    sym c.loop-i.invariant.1 ∙ here in
    sym (lowest_more test c.caches.p m.processors true p (grind (arith, nat_tests, some)))
    ∙ c.caches.invariant.1
