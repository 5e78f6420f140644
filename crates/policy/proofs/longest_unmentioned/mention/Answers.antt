use Rattle.std.proofs.Common.{slice_index, arith}
use Rattle.policy.specs.Ages.{aged}
use Rattle.policy.proofs.Tables.{mapped_more}
use Rattle.policy.proofs.longest_unmentioned.mention.Goals as goal

pub loop-age-preserved : goal.loop-age-preserved
loop-age-preserved c =
    let ages = c.args.ages.now in
    mapped_more (aged (slice_index ages c.args.way)) ages c.loop-age.ages c.loop-age.age-index
    c.aged.result (omega arith) c.loop-age.invariant c.aged.ensures
