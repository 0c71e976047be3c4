use Rattle.std.specs.Prelude.{IfNone, IfSome}
use Rattle.merge_laws.specs.Reading.{IsCommittedSo}
use Rattle.report_follows.specs.Fronts.{HasNoFront, LeadsTo, behind_committed}
use Rattle.report_follows.proofs.ChangeLemmas.{committed_finds, committed_means}
use Rattle.report_follows.proofs.FoundLemmas.{Computed, none_found, some_found}
use Rattle.report_follows.proofs.reading.after_committed.Goals as goal
use Rattle.std.proofs.lemmas.Result.{IfOk-weaker}

pub returns-clause-found : goal.returns-clause-found
returns-clause-found c =
    let ls = c.args.lines.now in
    let Is = IsCommittedSo c.args.within c.args.closed.now c.args.events.now in
    let computed = behind_committed c.args.within c.args.closed.now c.args.events.now ls in
    IfOk-weaker c.behind_committed.result (Computed (λ s. s.now) Is ls computed) (λ o. IfSome o (λ rest. LeadsTo Is ls rest.now)) (λ o x. some_found (λ s. s.now) Is ls computed o x (λ rest is. committed_means c.args.within c.args.closed.now c.args.events.now ls rest c.requires.tellable is)) c.behind_committed.ensures

pub returns-clause-none : goal.returns-clause-none
returns-clause-none c =
    let ls = c.args.lines.now in
    let Is = IsCommittedSo c.args.within c.args.closed.now c.args.events.now in
    let computed = behind_committed c.args.within c.args.closed.now c.args.events.now ls in
    IfOk-weaker c.behind_committed.result (Computed (λ s. s.now) Is ls computed) (λ o. IfNone o (HasNoFront Is ls)) (λ o x. none_found (λ s. s.now) Is ls computed o x
    (λ front rest is are. committed_finds c.args.within c.args.closed.now c.args.events.now ls front rest c.requires.tellable is are)) c.behind_committed.ensures
