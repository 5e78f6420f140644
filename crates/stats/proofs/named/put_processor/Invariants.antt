use Rattle.std.proofs.Common.{◌≡◌, ◌++◌}
use Rattle.std.specs.List.{flat_map, range_with_len}
use Rattle.stats.specs.Naming.{entries, answers_of}
use Rattle.stats.proofs.named.put_processor.Given as goal

abbrev pub invariant-loop-command : goal.invariant-loop-command
invariant-loop-command l =
    entries l.list.items
    ≡ entries l.initial.list.items ++ flat_map (answers_of l.tally l.processor) (range_with_len 0 l.command)
