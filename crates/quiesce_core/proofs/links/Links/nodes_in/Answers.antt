use Rattle.std.proofs.Common.{◌≡◌, ◌+◌, ◌++◌, [], ◌∷◌, ◌∙◌, Some, get_or, ap, sym, subst, arith}
use Rattle.std.specs.Prelude.{slice_get}
use Rattle.std.proofs.lemmas.Option.{slice_get-get_or}
use Rattle.quiesce_core.specs.State.{slot}
use Rattle.quiesce_core.specs.Links.{config_in}
use Rattle.quiesce_core.specs.Listed.{AreNodesOf}
use Rattle.quiesce_core.proofs.TableLaws.{live_made}
use Rattle.quiesce_core.proofs.OrderLemmas.{nodes_more}
use Rattle.quiesce_core.proofs.links.Links.nodes_in.Goals as goal

pub index-requires : goal.index-requires
index-requires c =
    let order = c.args.order.now in
    let k = c.loop-slot.slot-index in
    let at : slice_get order k ≡ Some (get_or order k 0) = slice_get-get_or order k 0 c.loop-slot-test.true in
    omega (arith, live_made (config_in c.args.self.now) (get_or order k 0) (c.requires.order.live k (get_or order k 0) at), c.args.self.now.slots.ok.0, c.args.self.now.slots.ok.1)

pub loop-slot-preserved : goal.loop-slot-preserved
loop-slot-preserved c =
    let order = c.args.order.now in
    let config = config_in c.args.self.now in
    let k = c.loop-slot.slot-index in
    let n = get_or order k 0 in
    let m = c.index.result.now in
    let nodes = c.loop-slot.nodes.items in
    let at : slice_get order k ≡ Some n = slice_get-get_or order k 0 c.loop-slot-test.true in
    let made : slot config n ≡ Some m = slice_get-get_or config.slots n m (live_made config n (c.requires.order.live k n at)) ∙ ap Some (sym c.index.ensures) in
    subst (AreNodesOf config order (k + 1)) (sym (c.in_ok-push.ensures.items ∙ ap (λ x. nodes ++ x ∷ []) c.in_ok-try_clone.ensures))
    (nodes_more config order k n m nodes at made c.loop-slot.invariant)
