use Rattle.std.proofs.Common.{◌+◌, ◌∙◌, ap, subst, sym}
use Rattle.passive_set.specs.Feeding.{FeedsPort}
use Rattle.passive_set.specs.Ports.{Adds}
use Rattle.passive_set.proofs.FeedingLemmas.{depends_read, FeedsPort_yes, FeedsPort_no}
use Rattle.passive_set.proofs.passive.add_feeding.Goals as goal
use Rattle.passive_set.proofs.passive.add_feeding.Goals.{then-depends+in_ok-add_incoming, else-depends}

pub loop-provide-preserved : goal.loop-provide-preserved
loop-provide-preserved c =
    let g = c.args.graph.now in
    let n = c.args.port.node in
    let r = c.args.port.require in
    let x = c.loop-provide.provide in
    let old = c.args.set.now.ports in
    let mid = c.loop-provide.set.ports in
    let read = depends_read g.nodes n x r c.node.result.now c.depends.result c.node.ensures c.depends.ensures in
    elim c.if-depends.branch [
      | then-depends+in_ok-add_incoming w ↦ record {
        room = ap (λ s. s.room) w.set-is ∙ w.in_ok-add_incoming.ensures.room ∙ c.loop-provide.invariant.room;
        added = subst (λ s. Adds old s.ports (FeedsPort g n r (x + 1))) (sym w.set-is) (FeedsPort_yes g n r x old mid w.add_incoming.new.set.ports (read ∙ w.if-depends.true) c.loop-provide.invariant.added w.in_ok-add_incoming.ensures.added);
      }
      | else-depends w ↦ record {
        room = ap (λ s. s.room) w.set-is ∙ c.loop-provide.invariant.room;
        added = subst (λ s. Adds old s.ports (FeedsPort g n r (x + 1))) (sym w.set-is) (FeedsPort_no g n r x old mid (read ∙ w.if-depends.false) c.loop-provide.invariant.added);
      }
    ]
