use Rattle.std.proofs.Common.{◌≡◌, ◌+◌, ◌++◌, ◌∙◌, ap, sym, get_or, length, slice_get, Some}
use Rattle.std.proofs.lemmas.Option.{slice_get-get_or}
use Rattle.change_lists.proofs.ListLoops.{made_on, make_same, node_there}
use Rattle.change_lists.proofs.layout.Layout.push_makes.Goals as goal

pub loop-index-preserved : goal.loop-index-preserved
loop-index-preserved c =
    let places = c.args.slots.now in
    let k = length c.args.self.now.places.items in
    let plan = c.args.plan.now in
    let new = c.args.new.now in
    let i = c.loop-index.index in
    let j = get_or c.create-create.result.now i 0 in
    let at : slice_get plan.create i ≡ Some j = ap (λ xs. slice_get xs i) (sym c.create-create.ensures) ∙ slice_get-get_or c.create-create.result.now i 0 c.loop-index-test.true in
    made_on places plan.moves new k plan.create i j c.args.events.now.items c.loop-index.events.items _ at c.loop-index.invariant
    (c.in_ok-push.ensures.items ∙ ap (λ es. c.loop-index.events.items ++ es) (make_same _ _ _ _ _ _ (ap (λ k. k + i) c.slot_count.ensures) (c.in_ok-try_clone.ensures ∙ node_there new j c.node.result.now c.node.ensures) c.source.ensures))
