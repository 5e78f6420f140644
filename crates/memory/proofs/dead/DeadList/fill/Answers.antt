use Rattle.std.proofs.Common.{◌≡◌, true, leb, length, None, arith, le-leb, rules}
use Rattle.std.specs.List.{slice_get}
use Rattle.std.proofs.lemmas.Option.{gets}
use Rattle.memory.proofs.Lists.{from_fn_at, filled_places}
use Rattle.memory.proofs.dead.DeadList.fill.Goals as goal

pub returns-clause-after : goal.returns-clause-after
returns-clause-after c =
    let few : leb (length c.args.numbers.now) 16 ≡ true = le-leb _ _ (omega arith) in
    let numbers = c.args.numbers.now in
    let made = c.from_fn-self.ensures.items in
    rw few
    (filled_places numbers c.from_fn-self.result (omega arith) made.long
    (λ i h.
    from_fn_at _ (slice_get numbers) (λ p. p.0.now ≡ numbers)
    (λ k p q y j call. (search rules, grind (arith, gets, j, call)))
    _ c.from_fn-self.result 0 16 i None (search rules) made.each (omega arith) (omega arith)))
