use Rattle.report_check.proofs.StandingLemmas.{described_are}
use Rattle.report_check.proofs.showing.described_graphs.Goals as goal

pub returns : goal.returns
returns c =
    described_are (λ g. g.now) c.new-graphs.result.items c.push.new.self.items c.push_graphs.new.graphs.items _ c.args.steps.now c.new-graphs.ensures.items c.in_ok-push.ensures.items c.in_ok-push_graphs.ensures
