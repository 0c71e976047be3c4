use Rattle.std.proofs.Common.{map}
use Rattle.base.specs.Each.{Each}
use Rattle.report_check.specs.Showing.{IsShownBy, Shows, begun_in}
use Rattle.report_check.proofs.StandingLemmas.{begun_more, heads_more, not_so, shown_here, shown_more}
use Rattle.report_check.proofs.showing.are_standing.Goals as goal

pub returns-then-not-shows : goal.returns-then-not-shows
returns-then-not-shows c =
    let graphs = map (λ g. g.now) c.args.graphs.now in
    not_so (Shows graphs (begun_in c.loop-line.begun) c.line-item.result) (Each (IsShownBy graphs) c.args.history.now) c.shows.result c.shows.ensures c.if-not-shows.true
    (shown_here graphs c.args.history.now c.loop-line.line-index c.line-item.result (begun_in c.loop-line.begun) c.loop-line-test.true c.line-item.is c.loop-line.invariant.begun)

pub loop-line-preserved : goal.loop-line-preserved
loop-line-preserved c =
    let graphs = map (λ g. g.now) c.args.graphs.now in
    record {
      few = heads_more (begun_in c.loop-line.begun) (begun_in c.behind-begun.result) c.line-item.result c.loop-line.line-index c.behind-begun.ensures c.loop-line.invariant.few;
      begun = begun_more c.args.history.now c.loop-line.line-index c.line-item.result (begun_in c.loop-line.begun) (begun_in c.behind-begun.result) c.loop-line-test.true c.line-item.is c.loop-line.invariant.begun c.behind-begun.ensures;
      shown = shown_more graphs c.args.history.now c.loop-line.line-index c.line-item.result (begun_in c.loop-line.begun) c.loop-line-test.true c.line-item.is c.loop-line.invariant.begun c.loop-line.invariant.shown
          (c.shows.ensures.0 c.if-not-shows.false);
    }
