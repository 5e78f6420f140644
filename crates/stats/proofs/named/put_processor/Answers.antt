use Rattle.std.proofs.Common.{◌≡◌, ◌++◌, ap, ◌∙◌, arith}
use Rattle.std.specs.List.{flat_map, range_with_len}
use Rattle.stats.specs.Naming.{entries, answers_of}
use Rattle.stats.proofs.Entries.{one_more_of}
use Rattle.stats.proofs.named.put_processor.Goals as goal

pub loop-command-preserved : goal.loop-command-preserved
loop-command-preserved c =
    let answers = answers_of c.args.tally.now c.args.processor in
    let put = c.in_ok-put_answers.ensures in
    put ∙ ap (λ l. l ++ answers c.loop-command.command) c.loop-command.invariant
    ∙ one_more_of answers (entries c.args.list.now.items) c.loop-command.command

pub returns : goal.returns
returns c =
    let answers = answers_of c.args.tally.now c.args.processor in
    let all : c.loop-command.command ≡ 9 = omega arith in
    c.loop-command.invariant
    ∙ ap (λ n. entries c.args.list.now.items ++ flat_map answers (range_with_len 0 n)) all
