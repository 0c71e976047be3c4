use Rattle.std.proofs.Common.{◌≡◌, ◌+◌, ◌++◌, ◌∙◌, ap, sym, get_or, length, slice_get, Some}
use Rattle.std.proofs.lemmas.Option.{slice_get-get_or}
use Rattle.change_lists.proofs.ListLoops.{node_there, ports_on, ports_same}
use Rattle.change_lists.proofs.layout.Layout.ports_after.Goals as goal

pub loop-index-preserved : goal.loop-index-preserved
loop-index-preserved c =
    let places = c.args.self.now.places.items in
    let plan = c.args.plan.now in
    let new = c.args.new.now in
    let i = c.loop-index.index in
    let j = get_or c.create-create.result.now i 0 in
    let at : slice_get plan.create i ≡ Some j = ap (λ xs. slice_get xs i) (sym c.create-create.ensures) ∙ slice_get-get_or c.create-create.result.now i 0 c.loop-index-test.true in
    ports_on new (length places) plan.create i j c.args.self.now.ports.items c.loop-index.ports.items _ at c.loop-index.invariant
    (c.in_ok-push_ports.ensures ∙ ap (λ xs. c.loop-index.ports.items ++ xs) (ports_same _ _ c.node.result.now _ (ap (λ k. k + i) c.slot_count.ensures) (node_there new j c.node.result.now c.node.ensures)))
