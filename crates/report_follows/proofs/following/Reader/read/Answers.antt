use Rattle.std.proofs.Common.{◌≡◌, Bool, true, List, sym, subst}
use Rattle.std.specs.Prelude.{IfOk}
use Rattle.report_types.specs.declared.report.HistoryLine.{HistoryLine as Line}
use Rattle.change_spec.specs.Asked.{Above}
use Rattle.change_spec.specs.declared.steps.Step.{Step}
use Rattle.change_spec.specs.declared.steps.Step.TheVariants as steps
use Rattle.report_follows.specs.Fronts.{LeadsTo}
use Rattle.report_follows.specs.Readers.{CanGo, IsBehind, IsReadSo}
use Rattle.report_follows.proofs.StepLemmas.{passed_to, tries}
use Rattle.report_follows.proofs.following.Reader.read.Goals as goal

pub returns-in-Some-clause-found : goal.returns-in-Some-clause-found
returns-in-Some-clause-found c =
    let r = c.args.self.now in
    let new = c.replace.new.self in
    let t = tries r.given_up c.args.step.now c.in-Some.change.now c.in-Some.ensures in
    subst
    (λ (s : Step). IfOk c.replace.result (λ b. b ≡ true → (above : Above) (before : List Line) (can : CanGo above s) → IsBehind above before r.graph.now r.layout r.given_up
    → LeadsTo (IsReadSo above s can before new.graph.now new.layout new.given_up) r.left.now new.left.now))
    (sym t.1)
    (subst
    (λ (f : Bool). IfOk c.replace.result (λ b. b ≡ true → (above : Above) (before : List Line) (can : CanGo above (steps.Change c.in-Some.change.now)) → IsBehind above before r.graph.now r.layout f
    → LeadsTo (IsReadSo above (steps.Change c.in-Some.change.now) can before new.graph.now new.layout new.given_up) r.left.now new.left.now))
    (sym t.0) c.replace.ensures.found)

pub returns-in-None-clause-found : goal.returns-in-None-clause-found
returns-in-None-clause-found c yes_ above before can b =
    let r = c.args.self.now in
    let new = c.pass.new.self in
    let p = c.pass.ensures in
    passed_to above before r.graph.now r.layout r.given_up b c.args.step.now can c.in-None.ensures r.left.now new.left.now new.graph.now new.layout new.given_up p.graph p.layout p.given_up (p.found yes_)
