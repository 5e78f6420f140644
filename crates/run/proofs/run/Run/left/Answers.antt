use Rattle.std.proofs.Common.{◌≡◌, length, sym, ap, ◌∙◌, arith, rules, tests}
use Rattle.std.specs.List.{range_with_len}
use Rattle.std.proofs.lemmas.Iterator.{YieldsList-from_range}
use Rattle.std.proofs.lemmas.Iterator.Consumers.{YieldsList-from_filter, count_from_yields_List}
use Rattle.std.proofs.lemmas.List.Sums.{length-filter}
use Rattle.run.specs.Kept.{records_for, is_left}
use Rattle.run.specs.Running.{how_many}
use Rattle.run.proofs.Falls.{counted}
use Rattle.run.proofs.Turns.{many}
use Rattle.run.proofs.run.Run.left.Goals as goal

pub returns-clause-value : goal.returns-clause-value
unfolding is_left
returns-clause-value c =
    let run = c.args.self.now in
    let t = run.trace in
    let n = c.count.result in
    let numbers = range_with_len 0 n in
    let all = count_from_yields_List c.filter.result c.count-2.result c.count-2.ensures.ran
    (YieldsList-from_filter _ (is_left run) (YieldsList-from_range 0 n n (cc) (omega arith))
    c.filter.ensures.closure (λ x b q k. search (rules, tests))) in
    let many-records : n ≡ length (records_for run) =
    c.count.ensures ∙ sym (many t.processors t.records.now t.sound t.served.1) in
    all ∙ length-filter (is_left run) numbers ∙ counted (is_left run) n 0
    ∙ ap (how_many (is_left run) 0) many-records
