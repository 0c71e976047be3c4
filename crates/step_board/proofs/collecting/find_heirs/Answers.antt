use Rattle.std.proofs.Common.{◌≡◌, ◌<◌, length, sym, subst, arith}
use Rattle.step_board.specs.Heirs.{AreHeirs}
use Rattle.step_board.proofs.HeirLemmas.{heirs_next}
use Rattle.step_board.proofs.collecting.find_heirs.Goals as goal

pub loop-slot-preserved : goal.loop-slot-preserved
loop-slot-preserved g c =
    let d = (g.N.Nodes.machine c.args.nodes.now).config in
    let within : c.loop-slot.slot < length d.slots = omega (arith, c.loop-slot-test.true, c.made-made.ensures.nodes) in
    subst (AreHeirs d _) (sym c.note_heir.ensures)
    (heirs_next d c.loop-slot.slot c.loop-slot.heirs.items c.source-source.result c.loop-slot.invariant within c.source-source.ensures)

pub returns : goal.returns
returns g c =
    let d = (g.N.Nodes.machine c.args.nodes.now).config in
    let last : c.loop-slot.slot ≡ length d.slots = omega (arith, c.loop-slot.auto.slot-end, c.loop-slot-test.false, c.made-made.ensures.nodes) in
    subst (λ i. AreHeirs d i c.loop-slot.heirs.items) last c.loop-slot.invariant
