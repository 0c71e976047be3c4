-- The events so far go on by one step more, or the next is denied.
use Rattle.std.proofs.Common.{◌≡◌, ◌∙◌, Some, Err, ap, subst}
use Rattle.quiesce_core.specs.Rules.{denial}
use Rattle.quiesce_core.specs.Runs.{Step, stays}
use Rattle.quiesce_replay.proofs.DenialLaws.{steps_at, steps_all, denied_at}
use Rattle.quiesce_replay.proofs.applying.apply_all.Goals as goal

pub loop-index-init : goal.loop-index-init
loop-index-init c = stays c.args.core.now.state

pub returns-in-Err-Denied-clause-denied : goal.returns-in-Err-Denied-clause-denied
returns-in-Err-Denied-clause-denied c =
    let step = c.in-Err-Denied in
    let event = c.index-events-index in
    let told = (c.apply.ensures.denied step.rule).0 (step.is ∙ ap Err step.field-0-is) in
    rw step.rule-is
    (denied_at c.args.core.now.state c.loop-index.core.state c.args.events.now c.loop-index.index event.result step.rule c.loop-index-test.true
    c.loop-index.invariant (subst (λ e. denial c.loop-index.core.state e ≡ Some step.rule) event.is told))

pub returns-clause-leads : goal.returns-clause-leads
returns-clause-leads c =
    steps_all c.args.core.now.state c.loop-index.core.state c.args.events.now c.loop-index.index c.loop-index-test.false c.loop-index.invariant

pub loop-index-preserved : goal.loop-index-preserved
loop-index-preserved c =
    let event = c.index-events-index in
    steps_at c.args.core.now.state c.loop-index.core.state c.apply.new.self.state c.args.events.now c.loop-index.index event.result c.loop-index-test.true
    c.loop-index.invariant (subst (λ e. Step c.loop-index.core.state e c.apply.new.self.state) event.is c.in-Ok.ensures.ok)
