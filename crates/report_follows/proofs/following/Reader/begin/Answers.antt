use Rattle.std.proofs.Common.{◌∙◌, false, List, [], ◌∷◌, ◌++◌}
use Rattle.report_types.specs.declared.report.HistoryLine.{HistoryLine as Line}
use Rattle.report_types.specs.declared.report.HistoryLine.TheVariants as to
use Rattle.change_spec.specs.Asked.{after_start}
use Rattle.change_spec.specs.Follows.{start_lines}
use Rattle.change_spec.specs.Members.{lines_of_events}
use Rattle.report_follows.specs.Readers.{IsBehind}
use Rattle.report_follows.proofs.EndLemmas.{led_by}
use Rattle.report_follows.proofs.following.Reader.begin.Goals as goal

pub returns-in-Some-clause-found : goal.returns-in-Some-clause-found
returns-in-Some-clause-found c =
    let start = c.args.start.now in
    let layout = c.in_ok-layout.layout in
    let name = c.as_bytes.ensures in
    let args = c.items.ensures in
    let events = c.deref.ensures.value ∙ c.in_ok-events.ensures in
    led_by (λ (ls : List Line). IsBehind (after_start start) ls start.graph layout false) _ (start_lines start.name start.args start.graph) c.args.history.now c.in-Some.left.now
    (λ i. to.Start (name i) (args i) ∷ lines_of_events (events i) ++ to.Commit ∷ [])
    (c.what_is_read_stands.ensures.start start layout c.requires.start c.in_ok-layout.ensures.places c.in_ok-layout.ensures.ports) c.in-Some.ensures.found
