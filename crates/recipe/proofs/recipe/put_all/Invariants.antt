use Rattle.std.proofs.Common.{◌≡◌, ◌+◌, ◌-◌, ◌*◌, ◌≤◌, ◌++◌, length, take}
use Rattle.recipe.specs.Draws.{records_drawn, records_of_recipe}
use Rattle.recipe.proofs.recipe.put_all.Given as goal

-- the records put so far and those of the draws to come are all
abbrev pub invariant-loop-done : goal.invariant-loop-done
invariant-loop-done l =
    let w = l.bounds.words in
    let p = l.bounds.processors in
    (take l.count l.records ++ records_drawn w p (l.draws - l.done) (l.done + 1) l.value
    ≡ records_of_recipe l.start l.draws w p)
    × (l.count ≤ 2 * l.done)
    × (length l.records ≡ length l.initial.records)
