use Rattle.std.proofs.Common.{◌≡◌, ◌∙◌, ◌+◌, false, List, ◌++◌, drop, take, refl, sym, ap, subst}
use Rattle.std.specs.Prelude.{◌↔◌, IfNone, IfSome, IsTrue}
use Rattle.std.proofs.lemmas.Bool.{both_ways}
use Rattle.std.proofs.lemmas.List.{take-append-drop, take_all}
use Rattle.report_types.specs.declared.report.HistoryLine.{HistoryLine as Line}
use Rattle.change_spec.specs.Asked.{Above, after_start, statements_of}
use Rattle.change_spec.specs.Follows.{Follows, IsStop, lines_of, start_lines}
use Rattle.report_follows.specs.Fronts.{HasNoFront, LeadsTo}
use Rattle.report_follows.specs.Readers.{IsBehind}
use Rattle.report_follows.proofs.ScriptLemmas.{Progress, begun, can_go, ended, not_begun, not_onward, onward, steps_before, steps_from}
use Rattle.report_follows.proofs.following.follows_so.Goals as goal
use Rattle.std.proofs.lemmas.Result.{IfOk-weaker}

pub returns-in_default : goal.returns-in_default
returns-in_default c =
    let start = c.args.start.now in
    let none : HasNoFront (λ (ls : List Line). ls ≡ start_lines start.name start.args start.graph) c.args.history.now =
    subst (λ o. IfNone o (HasNoFront (λ (ls : List Line). ls ≡ start_lines start.name start.args start.graph) c.args.history.now)) c.in_default.is c.in_ok-reader.ensures.none in (
      λ h. absurd (both_ways false refl h),
      λ follows. absurd (not_begun start c.args.history.now c.readers_have_no_choice.ensures.next c.args.steps.now none follows),
    )

pub loop-step-init : goal.loop-step-init
loop-step-init c =
    let start = c.args.start.now in
    let r = c.in-Some.reader in
    begun start c.args.history.now c.readers_have_no_choice.ensures.on c.args.steps.now c.requires.steps r.left.now r.graph.now r.layout r.given_up
    (subst (λ o. IfSome o (λ x. LeadsTo (λ (ls : List Line). (ls ≡ start_lines start.name start.args start.graph) × IsBehind (after_start start) ls x.graph.now x.layout x.given_up) c.args.history.now x.left.now))
    c.in-Some.is c.in_ok-reader.ensures.found)

pub returns-then-not-branch : goal.returns-then-not-branch
returns-then-not-branch c =
    let start = c.args.start.now in
    let steps = c.args.steps.now in
    let history = c.args.history.now in
    let r = c.loop-step.reader in
    let i = c.loop-step.step-index in
    let step = c.step-item.result in
    let from = steps_from steps i step c.loop-step-test.true c.step-item.is in
    let p = subst (λ rs. Progress start (take i steps) rs history r.left.now r.graph.now r.layout r.given_up) from c.loop-step.invariant in
    let can = can_go p.above step (drop (i + 1) steps) p.can in
    let all = ap (statements_of start) (sym (take-append-drop i steps) ∙ ap (λ rs. take i steps ++ rs) from) in (
      λ h. absurd (both_ways false refl h),
      λ follows. absurd
          (not_onward start history (take i steps) step (drop (i + 1) steps) r.left.now r.graph.now r.layout r.given_up p c.readers_have_no_choice.ensures.next
          (c.in_ok-read.ensures.none c.if-not-branch.true p.above (lines_of p.read.parts) can.0 p.behind) (subst (λ ss. Follows ss history) all follows)),
    )

pub loop-step-preserved : goal.loop-step-preserved
loop-step-preserved c =
    let start = c.args.start.now in
    let steps = c.args.steps.now in
    let history = c.args.history.now in
    let r = c.loop-step.reader in
    let new = c.read.new.self in
    let i = c.loop-step.step-index in
    let step = c.step-item.result in
    let p = subst (λ rs. Progress start (take i steps) rs history r.left.now r.graph.now r.layout r.given_up) (steps_from steps i step c.loop-step-test.true c.step-item.is) c.loop-step.invariant in
    let can = can_go p.above step (drop (i + 1) steps) p.can in
    subst (λ ds. Progress start ds (drop (i + 1) steps) history new.left.now new.graph.now new.layout new.given_up) (sym (steps_before steps i step c.loop-step-test.true c.step-item.is))
    (onward start history (take i steps) step (drop (i + 1) steps) r.left.now r.graph.now r.layout r.given_up p c.readers_have_no_choice.ensures.on new.left.now new.graph.now new.layout new.given_up
    (c.in_ok-read.ensures.found c.if-not-branch.false p.above (lines_of p.read.parts) can.0 p.behind))

pub returns : goal.returns
returns c =
    let start = c.args.start.now in
    let steps = c.args.steps.now in
    let history = c.args.history.now in
    let r = c.loop-step.reader in
    let i = c.loop-step.step-index in
    let p = subst (λ ds. Progress start ds (drop i steps) history r.left.now r.graph.now r.layout r.given_up) (take_all i steps c.loop-step-test.false) c.loop-step.invariant in
    let law = c.readers_have_no_choice.ensures in
    IfOk-weaker c.is_at_stop.result (λ b. (above : Above) (before : List Line) → IsBehind above before r.graph.now r.layout r.given_up → IsTrue b ↔ IsStop before r.left.now) (λ b. IsTrue b ↔ Follows (statements_of start steps) history) (λ b x. ended start history law.last law.all steps (drop i steps) r.left.now r.graph.now r.layout r.given_up p b (x p.above (lines_of p.read.parts) p.behind)) c.is_at_stop.ensures
