use Rattle.std.specs.Prelude.{IfNone, IfSome}
use Rattle.merge_laws.specs.Reading.{IsGivenUpSo}
use Rattle.report_follows.specs.Fronts.{HasNoFront, LeadsTo, behind_given_up}
use Rattle.report_follows.proofs.ChangeLemmas.{given_up_finds, given_up_means}
use Rattle.report_follows.proofs.FoundLemmas.{Computed, none_found, some_found}
use Rattle.report_follows.proofs.reading.after_given_up.Goals as goal
use Rattle.std.proofs.lemmas.Result.{IfOk-weaker}

pub returns-clause-found : goal.returns-clause-found
returns-clause-found c =
    let ls = c.args.lines.now in
    let Is = IsGivenUpSo c.args.within c.args.closed.now in
    let computed = behind_given_up c.args.within c.args.closed.now ls in
    IfOk-weaker c.behind_given_up.result (Computed (λ s. s.now) Is ls computed) (λ o. IfSome o (λ rest. LeadsTo Is ls rest.now)) (λ o x. some_found (λ s. s.now) Is ls computed o x (λ rest is. given_up_means c.args.within c.args.closed.now ls rest is)) c.behind_given_up.ensures

pub returns-clause-none : goal.returns-clause-none
returns-clause-none c =
    let ls = c.args.lines.now in
    let Is = IsGivenUpSo c.args.within c.args.closed.now in
    let computed = behind_given_up c.args.within c.args.closed.now ls in
    IfOk-weaker c.behind_given_up.result (Computed (λ s. s.now) Is ls computed) (λ o. IfNone o (HasNoFront Is ls)) (λ o x. none_found (λ s. s.now) Is ls computed o x
    (λ front rest is are. given_up_finds c.args.within c.args.closed.now ls front rest is are)) c.behind_given_up.ensures
