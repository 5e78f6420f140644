use Rattle.std.proofs.Common.{◌≡◌, ℕ, suc, ◌+◌, ◌%◌, length, ap, ◌∙◌, arith}
use Rattle.std.proofs.Math.Nat.{mod-add-mod}
use Rattle.test_policies.proofs.counting.CountingPolicy.tell.Goals as goal

one_more : (n m k : ℕ) → (n % m + 1 + k) % m ≡ (n + suc k) % m
one_more n m k =
    let first : n % m + 1 + k ≡ n % m + suc k = omega arith in
    ap (λ x. x % m) first ∙ mod-add-mod n m (suc k)

pub returns-clause-after : goal.returns-clause-after
returns-clause-after c =
    let e = c.args.self.now.extent in
    λ i.
    record {
      processors = e.processors;
      columns = e.columns;
      ways = e.ways;
      names =
          λ later processor column. one_more c.args.self.now.tellings e.ways (length later) i;
    }
