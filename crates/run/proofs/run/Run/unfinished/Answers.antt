use Rattle.std.proofs.Common.{◌≡◌, ◌≤◌, true, false, inl, inr, ◌&&◌, ltb, leb, length, get_or, sym, ap, ◌∙◌, arith}
use Rattle.std.proofs.lemmas.Bool.Decides.{leb_tells, nat_tests}
use Rattle.trace.specs.Sizes.{records_in}
use Rattle.trace.specs.Traces.{records_of}
use Rattle.run.specs.Kept.{is_left}
use Rattle.run.specs.Running.{request_at}
use Rattle.run.proofs.Turns.{many, low, record_there, request_there}
use Rattle.run.proofs.run.Run.unfinished.Goals as goal

pub bounds-self-record : goal.bounds-self-record
bounds-self-record c =
    let t = c.args.self.now.trace in
    let there = record_there t.processors t.records.now t.sound t.served.1 c.args.index c.in-Some.record
    c.in-Some.ensures.value in
    let below = low t.processors t.records.now t.sound t.served.1 c.args.index there.0 in
    omega (arith, below, ap (λ q. q.processor) there.1)

pub returns-in-Some : goal.returns-in-Some
unfolding is_left
returns-in-Some c =
    let run = c.args.self.now in
    let t = run.trace in
    let i = c.args.index in
    let there = record_there t.processors t.records.now t.sound t.served.1 i c.in-Some.record
    c.in-Some.ensures.value in
    let all = many t.processors t.records.now t.sound t.served.1 in
    let listed : ltb i (length (records_of t.records.now)) ≡ true =
    grind (arith, nat_tests, all, there) in
    ap (λ q. leb (get_or run.next q.processor 0) i) there.1
    ∙ ap (λ b. b && leb (get_or run.next (request_at (records_of t.records.now) i).processor 0) i)
    (sym listed)

pub returns-in-None : goal.returns-in-None
unfolding is_left
returns-in-None c =
    let run = c.args.self.now in
    let t = run.trace in
    let i = c.args.index in
    let there = request_there t.processors t.records.now t.sound t.served.1 i in
    let all = many t.processors t.records.now t.sound t.served.1 in
    let past : records_in t.records.now ≤ i = elim (leb_tells (records_in t.records.now) i) [
      | inl beyond ↦ beyond.1
      | inr inside ↦ absurd (there inside.1 c.in-None.ensures.value)
    ] in
    let none : ltb i (length (records_of t.records.now)) ≡ false = grind (arith, nat_tests, all, past) in
    ap (λ b. b && leb (get_or run.next (request_at (records_of t.records.now) i).processor 0) i) (sym none)
