use Rattle.std.proofs.Common.{◌∙◌, length, ap, subst, sym, arith, rules}
use Rattle.policy.specs.Ages.{ageing}
use Rattle.policy.specs.Extents.{extent_of}
use Rattle.policy.specs.Mentions.{NamesLongest}
use Rattle.policy.proofs.Longest.{cleared_longest}
use Rattle.policy.proofs.longest_unmentioned.LongestUnmentioned.new.Goals as goal

pub returns-clause-longest : goal.returns-clause-longest
returns-clause-longest c =
    let m = c.args.geometry.now.measures in
    let n = length c.args.ages.now in
    λ fit.
    subst (NamesLongest m)
    (sym (ap (λ e. ageing e c.fill.new.self) c.of.ensures.value
    ∙ ap (ageing (extent_of m)) (search rules)))
    (cleared_longest m n (omega arith) fit)
