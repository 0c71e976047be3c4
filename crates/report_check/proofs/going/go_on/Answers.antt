use Rattle.std.proofs.Common.{arith}
use Rattle.report_check.proofs.LeadingLemmas.{falls, ways_join}
use Rattle.report_check.proofs.going.go_on.Goals as goal

pub loop-way-smaller : goal.loop-way-smaller
loop-way-smaller c =
    omega (arith, c.in_ok-try_all.ensures.passed.fewer c.if-branch.true, falls _ _ c.in_ok-follow.ensures.leads)

pub loop-way-preserved : goal.loop-way-preserved
loop-way-preserved c =
    record {
      leads = ways_join _ _ _ c.loop-way.invariant.leads (ways_join _ _ _ c.in_ok-try_all.ensures.passed.leads c.in_ok-follow.ensures.leads);
      placed = c.in_ok-follow.ensures.placed;
    }

pub returns-clause-leads : goal.returns-clause-leads
returns-clause-leads c = ways_join _ _ _ c.loop-way.invariant.leads c.in_ok-try_all.ensures.passed.leads
