use Rattle.std.proofs.Common.{◌∙◌, ap}
use Rattle.quiesce_core.specs.State.{empty}
use Rattle.quiesce_core.specs.CoreState.{CoreState}
use Rattle.report_check.specs.Going.{logs_behind}
use Rattle.report_check.proofs.WayLemmas.{left_at, none_behind}
use Rattle.report_check.proofs.way.Way.new.Goals as goal

pub returns-clause-left : goal.returns-clause-left
returns-clause-left c =
    let h = c.args.history.now in
    let logs = c.args.logs.now in
    ap (λ (x : CoreState). left_at x.state h (logs_behind c.in_ok-places.places.items logs)) c.empty.ensures
    ∙ ap (λ ks. left_at empty h (logs_behind ks logs)) (c.in_ok-places.ensures.items_if_clones_equal (λ y e. e))
    ∙ ap (λ ls. left_at empty h ls) (none_behind logs)
