use Rattle.std.proofs.Common.{◌≡◌, ◌∙◌, ◌++◌, Bool, true, false, List, refl, sym, subst}
use Rattle.std.specs.Prelude.{IfSome}
use Rattle.report_types.specs.declared.report.HistoryLine.{HistoryLine as Line}
use Rattle.change_spec.specs.Asked.{Above, CanChange, after_change}
use Rattle.change_spec.specs.declared.steps.Step.TheVariants as steps
use Rattle.change_lists.specs.Lists.{closed_by, commit_by}
use Rattle.report_follows.specs.Fronts.{LeadsTo}
use Rattle.report_follows.specs.Readers.{IsBehind, IsEndedSo, IsReadSo}
use Rattle.report_follows.proofs.StepLemmas.{moved_to, replaced}
use Rattle.report_follows.proofs.following.Reader.replace.Goals as goal

pub returns-in-Some-clause-found : goal.returns-in-Some-clause-found
returns-in-Some-clause-found c yes_ above before can b =
    let r = c.args.self.now in
    let x = c.args.change.now in
    let g = r.graph.now in
    let l = r.layout in
    let ended = c.in-Some.ended in
    let new = c.settle.new.self in
    let stands = c.what_is_read_stands.ensures in
    let listed = c.in_ok-closed.ensures in
    let closed = closed_by l.places.items l.ports.items x.plan.freeze in
    let events = commit_by g x.graph x.plan l.places.items l.ports.items in
    let found : LeadsTo (IsEndedSo ended.given_up x.name x.args x.within c.deref.result.now c.deref-2.result.now) r.left.now ended.left.now =
    subst (λ o. IfSome o (λ e. LeadsTo (IsEndedSo e.given_up x.name x.args x.within c.deref.result.now c.deref-2.result.now) r.left.now e.left.now)) c.in-Some.is c.in_ok-ended.ensures.found in
    let led =
    subst (λ es. LeadsTo (IsEndedSo ended.given_up x.name x.args x.within closed es) r.left.now ended.left.now) (c.deref-2.ensures.value ∙ listed.events)
    (subst (λ ps. LeadsTo (IsEndedSo ended.given_up x.name x.args x.within ps c.deref-2.result.now) r.left.now ended.left.now) (c.deref.ensures.value ∙ listed.closed) found) in
    let behind : (lines : List Line) → IsEndedSo ended.given_up x.name x.args x.within closed events lines → IsBehind (after_change above x can) (before ++ lines) new.graph.now new.layout new.given_up =
    λ lines. by above before can b lines ended.given_up refl in
    subst (λ ls. LeadsTo (IsReadSo above (steps.Change x) can before new.graph.now new.layout new.given_up) r.left.now ls) (sym c.settle.ensures.left)
    (replaced above before x can closed events (stands.right above before g l x can b) ended.given_up r.left.now ended.left.now led new.graph.now new.layout new.given_up behind)
  where
    by : (above : Above) (before : List Line) (can : CanChange above c.args.change.now) → IsBehind above before c.args.self.now.graph.now c.args.self.now.layout false → (lines : List Line) (flag : Bool) → c.in-Some.ended.given_up ≡ flag
        → IsEndedSo flag c.args.change.now.name c.args.change.now.args c.args.change.now.within (closed_by c.args.self.now.layout.places.items c.args.self.now.layout.ports.items c.args.change.now.plan.freeze)
        (commit_by c.args.self.now.graph.now c.args.change.now.graph c.args.change.now.plan c.args.self.now.layout.places.items c.args.self.now.layout.ports.items) lines
        → IsBehind (after_change above c.args.change.now can) (before ++ lines) c.settle.new.self.graph.now c.settle.new.self.layout c.settle.new.self.given_up
    by above before can b lines false e x =
        let s = c.settle.ensures.committed e in
        let next = c.in_ok-closed.field-0.commit.next in
        moved_to (after_change above c.args.change.now can) (before ++ lines) c.args.change.now.graph c.settle.new.self.graph.now next c.settle.new.self.layout false c.settle.new.self.given_up s.0 s.1 (s.2 ∙ c.requires.tries)
        (c.what_is_read_stands.ensures.committed above before c.args.self.now.graph.now c.args.self.now.layout next c.args.change.now can b c.in_ok-closed.ensures.places c.in_ok-closed.ensures.ports lines x)
    by above before can b lines true e x =
        let s = c.settle.ensures.given_up e in
        moved_to (after_change above c.args.change.now can) (before ++ lines) c.args.self.now.graph.now c.settle.new.self.graph.now c.args.self.now.layout c.settle.new.self.layout true c.settle.new.self.given_up s.0 s.1 s.2
        (c.what_is_read_stands.ensures.given_up above before c.args.self.now.graph.now c.args.self.now.layout c.args.change.now can b lines x)
