use Rattle.std.proofs.Common.{◌≡◌, drop}
use Rattle.test_policies.specs.Telling.{told_all}
use Rattle.test_policies.proofs.lending.tell_all.Given as goal

-- the tellings that are left make of the policy what all make of it as it was
abbrev pub invariant-loop-telling : goal.invariant-loop-telling
invariant-loop-telling g l =
    (told_all (g.P.Policy.model l.policy) (drop l.telling-index l.tellings)
    ≡ told_all (g.P.Policy.model l.initial.policy) l.tellings)
    × (g.P.Policy.standing l.policy ≡ g.P.Policy.standing l.initial.policy)
    × (g.P.Policy.fixed l.policy ≡ g.P.Policy.fixed l.initial.policy)
