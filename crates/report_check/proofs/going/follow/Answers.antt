use Rattle.report_check.proofs.LeadingLemmas.{ways_join, tried_leads, tries_end}
use Rattle.report_check.proofs.going.follow.Goals as goal

pub loop-chain-preserved : goal.loop-chain-preserved
loop-chain-preserved c =
    record {
      leads = ways_join _ _ _ c.loop-chain.invariant.leads (tried_leads _ _ _ _ c.in_ok-try_one.ensures.tried);
      placed = c.in_ok-try_one.ensures.placed;
    }

pub loop-chain-smaller : goal.loop-chain-smaller
loop-chain-smaller c = tries_end _ _ _ _ _ _ _ c.in_ok-try_one.ensures.tried c.in-Some.ensures c.in_ok-try_one.ensures.few
