-- What a way to the end says of merges is said by the law, at the way that was gone.
use Rattle.std.proofs.Common.{Bool, List, subst}
use Rattle.std.specs.Prelude.{◌↔◌, IsTrue}
use Rattle.std.proofs.lemmas.Result.{IfOk-weaker}
use Rattle.change_spec.specs.Members.{Member}
use Rattle.merge_laws.specs.Guarded.{Left}
use Rattle.merge_laws.specs.Merges.{HasLogs, HasRootsApart, IsMergeWith}
use Rattle.merge_laws.specs.Telling.{IsTold}
use Rattle.report_check.specs.Going.{events_of, left_behind}
use Rattle.report_check.specs.Ways.{IsDecidedBy}
use Rattle.report_check.proofs.going.leads_to_the_end.Goals as goal

pub returns-clause-merges : goal.returns-clause-merges
returns-clause-merges c =
    let h = c.args.history.now in
    let logs = events_of c.args.logs.now in
    IfOk-weaker c.decide.result (IsDecidedBy (left_behind c.in_ok-way.way h c.args.logs.now))
    (λ (ended : Bool). IsTold h → IsTrue ended ↔ ((m : List Member) × HasLogs logs m × IsMergeWith h m × HasRootsApart m))
    (λ ended d told.
    let w = subst (λ (x : Left). IsDecidedBy x ended) c.in_ok-way.ensures.left d in
    let law = c.going_decides_merges.ensures h logs w.way told w.can w.no_more in
    (λ t. law.0 (w.ends.0 t), λ m. w.ends.1 (law.1 m)))
    c.decide.ensures
