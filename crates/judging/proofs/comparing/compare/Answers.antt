use Rattle.std.proofs.Common.{ap, sym, refl, ◌∙◌, arith, rules}
use Rattle.judging.specs.Verdicts.{differing, verdict_of}
use Rattle.judging.proofs.Compared.{agree_at, first_at, both_end, ours_ends, theirs_ends, lines_differ, go_on, further}
use Rattle.judging.proofs.comparing.compare.Goals as goal

pub loop-our_line-init : goal.loop-our_line-init
unfolding verdict_of
loop-our_line-init c = record { verdict = refl; inside = omega arith; few = omega arith }

pub returns-in-None-None-clause-verdict : goal.returns-in-None-None-clause-verdict
returns-in-None-None-clause-verdict c =
    let at = c.in-None-None in
    both_end _ _ _ _ at.ensures at.ensures' ∙ c.loop-our_line.invariant.verdict

pub returns-in-None-None-clause-agree : goal.returns-in-None-None-clause-agree
returns-in-None-None-clause-agree c = agree_at _ _ _ (returns-in-None-None-clause-verdict c)

pub loop-our_line-smaller : goal.loop-our_line-smaller
loop-our_line-smaller c =
    let at = c.in-Some-Some in
    let more = further c.args.ours.now c.loop-our_line.start _ at.ensures in
    omega arith

pub loop-our_line-preserved : goal.loop-our_line-preserved
loop-our_line-preserved c =
    let at = c.in-Some-Some in
    let inv = c.loop-our_line.invariant in
    let more = further c.args.ours.now c.loop-our_line.start _ at.ensures in
    record {
      verdict = go_on _ _ _ _ _ _ at.ensures at.ensures' (search rules) ∙ inv.verdict;
      inside = more.1;
      few = let few = inv.few in omega arith;
    }

pub returns-else-eq-clause-verdict : goal.returns-else-eq-clause-verdict
returns-else-eq-clause-verdict c =
    let at = c.in-Some-Some in
    let line = c.loop-our_line.line in
    let start = c.loop-our_line.start in
    ap (differing line start) c.field_of-field.ensures.value
    ∙ lines_differ line start _ _ _ _ at.ensures at.ensures' (sym c.if-eq.ensures)
    ∙ c.loop-our_line.invariant.verdict

pub returns-else-eq-clause-first : goal.returns-else-eq-clause-first
returns-else-eq-clause-first c = first_at _ _ _ (returns-else-eq-clause-verdict c)

pub returns-in_default-clause-verdict : goal.returns-in_default-clause-verdict
returns-in_default-clause-verdict c =
    let at = c.in_default in
    ours_ends _ _ _ _ _ at.ensures at.ensures' ∙ c.loop-our_line.invariant.verdict

pub returns-in_default-clause-first : goal.returns-in_default-clause-first
returns-in_default-clause-first c = first_at _ _ _ (returns-in_default-clause-verdict c)

pub returns-in_default-2-clause-verdict : goal.returns-in_default-2-clause-verdict
returns-in_default-2-clause-verdict c =
    let at = c.in_default in
    theirs_ends _ _ _ _ _ at.ensures at.ensures' ∙ c.loop-our_line.invariant.verdict

pub returns-in_default-2-clause-first : goal.returns-in_default-2-clause-first
returns-in_default-2-clause-first c = first_at _ _ _ (returns-in_default-2-clause-verdict c)
