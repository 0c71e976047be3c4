use Rattle.std.proofs.Common.{◌∙◌, ◌<◌, [], ◌∷◌, ◌++◌, Some, length, sym, ap, arith}
use Rattle.std.proofs.lemmas.Option.{slice_get_within, same_Some}
use Rattle.elaborator.specs.Expansion.{expanded_of, made_of}
use Rattle.elaborator.specs.NodeOrder.{nodes_in}
use Rattle.elaborator.proofs.TakenLemmas.{instance_there, taken_next, kept_next}
use Rattle.base.proofs.PlaceLaws.{value_read}
use Rattle.elaborator.proofs.nodes.take_nodes.Goals as goal

pub index_mut-instance-requires : goal.index_mut-instance-requires
index_mut-instance-requires c =
    let e = c.args.expansion.now in
    let n = c.args.nodes.now in
    let ns = nodes_in (expanded_of e) n.instances.items in
    let now = c.loop-place.expansion.instances.items in
    let within : c.loop-place.place < length n.instances.items = omega (arith, c.len-place-end.ensures, c.loop-place-test.true) in
    let there = instance_there e ns n c.loop-place.place c.index-number.result.now now c.requires within c.index-number.ensures c.loop-place.invariant.1 in
    omega (arith, c.loop-place.expansion.instances.ok.0, slice_get_within now c.index-number.result.now there.0 there.1)

pub loop-place-preserved : goal.loop-place-preserved
loop-place-preserved c =
    let e = c.args.expansion.now in
    let n = c.args.nodes.now in
    let ns = nodes_in (expanded_of e) n.instances.items in
    let now = c.loop-place.expansion.instances.items in
    let place = c.loop-place.place in
    let number = c.index-number.result.now in
    let x = c.index_mut-instance.result.now in
    let kept = c.loop-place.invariant.1 in
    let within : place < length n.instances.items = omega (arith, c.len-place-end.ensures, c.loop-place-test.true) in
    let there = instance_there e ns n place number now c.requires within c.index-number.ensures kept in
    let at = value_read now number x (slice_get_within now number there.0 there.1) c.index_mut-instance.ensures.value in
    let same = same_Some there.0 x (sym there.1 ∙ at) in
    let made = there.2 ∙ ap (λ y. Some (made_of y)) same in
    let next = taken_next e ns n place number c.index.result.now x c.take_node.result c.requires within c.index-number.ensures c.index.ensures made c.take_node.ensures in
    (c.in_ok-push.ensures.items ∙ ap (λ ts. ts ++ c.take_node.result ∷ []) c.loop-place.invariant.0 ∙ sym next, kept_next e ns n place number now c.take_node.new.instance c.requires within c.index-number.ensures kept)
