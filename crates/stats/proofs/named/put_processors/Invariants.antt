use Rattle.std.proofs.Common.{◌≡◌, ◌++◌}
use Rattle.std.specs.List.{flat_map, range_with_len}
use Rattle.stats.specs.Naming.{entries, processor_of}
use Rattle.stats.proofs.named.put_processors.Given as goal

abbrev pub invariant-loop-processor : goal.invariant-loop-processor
invariant-loop-processor l =
    entries l.list.items
    ≡ entries l.initial.list.items ++ flat_map (processor_of l.tally) (range_with_len 0 l.processor)
