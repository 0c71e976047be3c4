use Rattle.std.proofs.Common.{rules, ◌∙◌, ◌<◌, Some, refl, sym, ap, subst}
use Rattle.std.specs.Prelude.{length}
use Rattle.config_graph.specs.Kinds.{row}
use Rattle.quiesce_core.specs.declared.event.Event.TheVariants as event
use Rattle.node_gate.specs.Answers.{TakeSays}
use Rattle.node_gate.specs.declared.answers.TakeAnswer.TheVariants as take
use Rattle.node_host.proofs.EventLaws.{GoesOn, GoesStill, did_by, goes_on, goes_still}
use Rattle.node_host.proofs.Exactly.{takes_stale, takes_taken}
use Rattle.node_host.proofs.InService.{free_known}
use Rattle.node_host.proofs.Permitted.{take_folds}
use Rattle.node_host.specs.Acts.{state_of}
use Rattle.node_host.proofs.node.HostNode.take_at.Given.{Over}
use Rattle.node_host.proofs.node.HostNode.take_at.Goals as goal
use Rattle.node_host.proofs.node.HostNode.take_at.Goals.{After-keep, In-Stale}

pub take-requires-clause-may : goal.take-requires-clause-may
take-requires-clause-may g c =
    let h = c.args.self.now in
    record { free = ap (λ w. w.service) (sym h.hosted.kept) ∙ free_known h.hosted c.requires.free; made = c.requires.port }

pub serve-requires-clause-provide : goal.serve-requires-clause-provide
serve-requires-clause-provide g c = subst (λ m. c.in-Taken.provide < length (row m.kind).provides) c.requires.can.node c.in-Taken.ensures.says.0

still : (g : Over) (c : In-Stale g) → GoesStill g.G.PortGate c.args.gate.now c.take.new.self c.args.self.now c.take.new.seat
still g c =
    goes_still (c.take.ensures.node ∙ c.requires.can.node) (g.met.G.PortGate.within c.take.new.self c.take.new.seat c.take.ensures.fits).1
    (did_by c.requires.can.node refl c.in-Stale.ensures.does)

went : (g : Over) (c : After-keep g) → GoesOn g.G.PortGate c.args.gate.now c.take.new.self c.args.self.now c.serve.new.self c.take.new.seat c.keep.new.log.items c.keep.new.known c.keep.result (event.Take c.args.port c.in-Taken.serial c.in-Taken.value)
went g c =
    let h = c.args.self.now in
    goes_on (c.take.ensures.node ∙ c.requires.can.node) (g.met.G.PortGate.within c.take.new.self c.take.new.seat c.take.ensures.fits).1 (did_by c.requires.can.node refl c.in-Taken.ensures.does)
    tt (take_folds h.first_port c.args.port c.in-Taken.serial c.in-Taken.value c.in-Taken.provide (state_of h) _ (subst (λ m. c.in-Taken.provide < length (row m.kind).provides) c.requires.can.node c.in-Taken.ensures.says.0) c.requires.free c.serve.ensures.state)
    c.keep.ensures.event c.keep.ensures.logged c.keep.ensures.known

pub invariant_of-self-clause-hosted : goal.invariant_of-self-clause-hosted
invariant_of-self-clause-hosted g c = (still g (goal.at.invariant_of-self-clause-hosted g c).In-Stale).hosted

pub returns-in-Stale-clause-acts : goal.returns-in-Stale-clause-acts
returns-in-Stale-clause-acts g c = let w = still g (goal.at.returns-in-Stale-clause-acts g c).In-Stale in search (rules, w.moved)

pub returns-in-Stale-clause-exact : goal.returns-in-Stale-clause-exact
returns-in-Stale-clause-exact g c = λ later s told.
    takes_stale told c.args.port c.in-Stale.word later
    (subst (λ m. TakeSays (g.G.PortGate.state c.args.gate.now) m c.args.port (take.Stale c.in-Stale.word)) c.requires.can.node c.in-Stale.ensures.says)

pub invariant_of-self-in-Taken-clause-hosted : goal.invariant_of-self-in-Taken-clause-hosted
invariant_of-self-in-Taken-clause-hosted g c = (went g (goal.at.invariant_of-self-in-Taken-clause-hosted g c).After-keep).hosted

pub returns-in-Taken-clause-acts : goal.returns-in-Taken-clause-acts
returns-in-Taken-clause-acts g c = let w = went g (goal.at.returns-in-Taken-clause-acts g c).After-keep in search (rules, w.node, w.moved)

pub returns-in-Taken-clause-exact : goal.returns-in-Taken-clause-exact
returns-in-Taken-clause-exact g c =
    let w = went g (goal.at.returns-in-Taken-clause-exact g c).After-keep in
    λ later s told. ap Some w.is ∙ takes_taken told c.args.port c.in-Taken.serial c.in-Taken.value later _ w.led
