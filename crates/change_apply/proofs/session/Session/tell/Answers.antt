use Rattle.std.proofs.Common.{◌≡◌, ◌∙◌, ◌++◌, Option, ℕ, Some, None, sym, ap, subst}
use Rattle.quiesce_core.specs.Runs.{state_after}
use Rattle.quiesce_core.specs.State.{State}
use Rattle.change_apply.specs.Sessions.{denied, events_told, happened, tells_by}
use Rattle.change_apply.specs.Standing.{IsTurned, change_of, scene_of}
use Rattle.change_apply.proofs.StandLemmas.{stands_told}
use Rattle.change_apply.proofs.session.Session.tell.Goals as goal

pub leave-requires-clause-stands : goal.leave-requires-clause-stands
leave-requires-clause-stands c =
    let es = c.requires.stands.0 in (
      es ++ happened (state_after es) (events_told (state_after es) c.args.said),
      stands_told c.args.self.now es c.do_told.new.core c.args.said c.requires.stands.1 c.do_told.ensures.done,
    )

pub go_on-requires : goal.go_on-requires
go_on-requires c =
    let es = c.requires.stands.0 in (
      es ++ happened (state_after es) (events_told (state_after es) c.args.said),
      stands_told c.args.self.now es c.do_told.new.core c.args.said c.requires.stands.1 c.do_told.ensures.done,
    )

pub returns-in-Some : goal.returns-in-Some
returns-in-Some c es st =
    let d = c.args.self.now in
    let said = c.args.said in
    let done = es ++ happened (state_after es) (events_told (state_after es) said) in
    let is : denied (state_after es) (events_told (state_after es) said) ≡ Some c.in-Some.rule =
    sym (ap (λ (s : State). denied s (events_told s said)) st.state) ∙ sym c.do_told.ensures.answer ∙ c.in-Some.is in
    subst (λ (o : Option ℕ). IsTurned (change_of d) (tells_by o (change_of d) (scene_of d done)) c.leave.new.self c.in_ok-left.left c.args.told.now.items c.leave.new.told.items) (sym is)
    (c.in_ok-left.ensures done (stands_told d es c.do_told.new.core said st c.do_told.ensures.done))

pub returns : goal.returns
returns c es st =
    let d = c.args.self.now in
    let said = c.args.said in
    let done = es ++ happened (state_after es) (events_told (state_after es) said) in
    let is : denied (state_after es) (events_told (state_after es) said) ≡ None =
    sym (ap (λ (s : State). denied s (events_told s said)) st.state) ∙ sym c.do_told.ensures.answer ∙ c.in_default.is in
    subst (λ (o : Option ℕ). IsTurned (change_of d) (tells_by o (change_of d) (scene_of d done)) c.go_on.new.self c.in_ok-given.given c.args.told.now.items c.go_on.new.told.items) (sym is)
    (c.in_ok-given.ensures done (stands_told d es c.do_told.new.core said st c.do_told.ensures.done))
