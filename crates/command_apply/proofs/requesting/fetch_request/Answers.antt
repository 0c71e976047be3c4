-- What is planned makes a request.
use Rattle.std.proofs.lemmas.Result.{err_from_is_err_and}
use Rattle.command_apply.proofs.ApplyLaws.{can_request, comes_to_request, stops_before}
use Rattle.command_apply.proofs.requesting.fetch_request.Goals as goal

pub returns-in_err-planned-clause-comes : goal.returns-in_err-planned-clause-comes
returns-in_err-planned-clause-comes g c =
    let p = err_from_is_err_and c.from_residual.result c.from_residual.ensures.1 in
    rw (p.1, p.2) (stops_before _ c.args.asked.now _ _ c.in_err-planned.field-0.0 c.in_err-planned.ensures.comes)

pub returns-clause-comes : goal.returns-clause-comes
returns-clause-comes g c =
    comes_to_request _ c.args.asked.now _ _ c.in_ok-planned.planned c.request_of.result c.in_ok-planned.ensures.comes c.in_ok-planned.ensures.can
    c.request_of.ensures

pub returns-clause-can : goal.returns-clause-can
returns-clause-can g c =
    can_request c.args.asked.now.within c.in_ok-planned.planned c.request_of.result c.request_of.ensures c.in_ok-planned.ensures.can
