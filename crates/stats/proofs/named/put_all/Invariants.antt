use Rattle.std.proofs.Common.{◌≡◌, ◌++◌, map, take}
use Rattle.stats.specs.Naming.{entry, entries}
use Rattle.stats.proofs.named.put_all.Given as goal

abbrev pub invariant-loop-name : goal.invariant-loop-name
invariant-loop-name l =
    entries l.list.items
    ≡ entries l.initial.list.items ++ map (λ n. entry n.0.now n.1) (take l.name-index l.numbers)
