use Rattle.std.proofs.Common.{◌∙◌, List, sym, subst}
use Rattle.std.specs.Prelude.{◌↔◌, IsTrue}
use Rattle.std.specs.List.Sorted.{IsStrictlyIncreasing}
use Rattle.report_types.specs.declared.report.HistoryLine.{HistoryLine as Line}
use Rattle.change_spec.specs.Asked.{Above}
use Rattle.change_spec.specs.Follows.{IsStop}
use Rattle.report_follows.specs.Fronts.{IsStopOf}
use Rattle.report_follows.specs.Readers.{IsBehind}
use Rattle.report_follows.proofs.StepLemmas.{at_stop, live_rise}
use Rattle.report_follows.proofs.following.Reader.is_at_stop.Goals as goal
use Rattle.std.proofs.lemmas.Result.{IfOk-weaker}

pub is_stop-requires : goal.is_stop-requires
is_stop-requires c =
    let l = c.args.self.now.layout in
    record { rise = subst IsStrictlyIncreasing (sym (c.deref.ensures.value ∙ c.in_ok-live.ensures)) (live_rise l.places.items l.ports.items) }

pub returns : goal.returns
returns c =
    let r = c.args.self.now in
    let ports = c.deref.result.now in
    let left = r.left.now in
    IfOk-weaker c.is_stop.result (λ b. IsTrue b ↔ IsStopOf ports left) (λ b. (above : Above) (before : List Line) → IsBehind above before r.graph.now r.layout r.given_up → IsTrue b ↔ IsStop before left) (λ b x above before behind.
    let at = at_stop above before r.graph.now r.layout r.given_up behind ports (c.deref.ensures.value ∙ c.in_ok-live.ensures) left in
    (λ t. at.0 (x.0 t), λ s. x.1 (at.1 s))) c.is_stop.ensures
