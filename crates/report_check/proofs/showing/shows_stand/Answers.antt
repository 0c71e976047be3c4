use Rattle.change_spec.specs.Asked.{statements_of}
use Rattle.change_spec.specs.Statements.{graph_of}
use Rattle.std.proofs.Common.{filter_map}
use Rattle.report_check.proofs.StandingLemmas.{standing_if}
use Rattle.report_check.proofs.showing.shows_stand.Goals as goal

pub returns : goal.returns
returns c =
    standing_if (λ g. g.now) c.deref.result.now c.in_ok-graphs.graphs.items (filter_map graph_of (statements_of c.args.start.now c.args.steps.now)) c.are_standing.result c.args.history.now c.deref.ensures.value c.in_ok-graphs.ensures
    c.are_standing.ensures
