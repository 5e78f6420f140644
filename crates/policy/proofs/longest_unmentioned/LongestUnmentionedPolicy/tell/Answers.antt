use Rattle.std.proofs.Common.{◌≡◌, ◌+◌, ◌∙◌, ◌++◌, true, take, drop, ap, sym}
use Rattle.std.proofs.lemmas.Bool.{cond-true}
use Rattle.policy.specs.Ages.{ageing, mentioned}
use Rattle.policy.specs.Extents.{has}
use Rattle.policy.proofs.Tables.{column_written}
use Rattle.policy.proofs.longest_unmentioned.LongestUnmentionedPolicy.tell.Goals as goal

pub returns-clause-ages : goal.returns-clause-ages
returns-clause-ages c =
    let e = c.args.self.now.extent in
    let ages = c.args.self.now.ages.now in
    let told = c.args.telling in
    let within : has e told ≡ true = cc in
    column_written ages c.mention.new.ages c.start-start.result e.ways told.way c.mention.ensures
    ∙ ap (λ s. take s ages ++ (mentioned told.way (take e.ways (drop s ages)) ++ drop (s + e.ways) ages))
    c.start-start.ensures.value
    ∙ sym (cond-true (has e told) _ ages within)

pub returns-clause-after : goal.returns-clause-after
returns-clause-after c = ap (ageing c.args.self.now.extent) (returns-clause-ages c)
