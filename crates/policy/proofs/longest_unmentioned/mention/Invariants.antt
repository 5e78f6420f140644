use Rattle.std.proofs.Common.{◌≡◌, ◌++◌, map, take, drop}
use Rattle.policy.specs.Ages.{aged}
use Rattle.policy.proofs.longest_unmentioned.mention.Given as goal

-- the ages raised so far, and the rest as it was
abbrev pub invariant-loop-age : goal.invariant-loop-age
invariant-loop-age l =
    l.ages ≡ map (aged l.limit) (take l.age-index l.initial.ages) ++ drop l.age-index l.initial.ages
