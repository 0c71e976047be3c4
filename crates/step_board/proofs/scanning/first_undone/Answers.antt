use Rattle.std.proofs.Common.{◌≡◌, ◌∙◌, ◌<◌, ◌&&◌, not, true, false, sym, ap, arith}
use Rattle.quiesce_core.specs.State.{State, is_live}
use Rattle.node_turn_laws.specs.Round.{is_done}
use Rattle.step_board.proofs.TurnLemmas.{undone_here, undone_later}
use Rattle.step_board.proofs.scanning.first_undone.Goals as goal
use Rattle.step_board.proofs.scanning.first_undone.Goals.{else-is_live-via-then-is_live+else-not-is_done, else-is_live-via-else-is_live}

pub returns-then-not-is_done : goal.returns-then-not-is_done
returns-then-not-is_done g c = λ w s.
    let k = c.loop-slot.slot in
    let n = c.made-made.result.nodes in
    let within : k < n = omega (arith, c.loop-slot-test.true) in
    let live : is_live w.machine.config k ≡ true =
    ap (λ (m : State). is_live m.config k) (g.met.N.Nodes.machine_is c.args.nodes.now w s) ∙ sym c.is_live.ensures ∙ c.if-is_live.true in
    let undone : is_done w k ≡ false = sym (c.is_done.ensures w s) ∙ c.if-not-is_done.true in
    sym (c.loop-slot.invariant w s ∙ undone_here (is_live w.machine.config) (is_done w) k n within live undone)

pub loop-slot-preserved : goal.loop-slot-preserved
loop-slot-preserved g c = λ w s.
    let k = c.loop-slot.slot in
    let n = c.made-made.result.nodes in
    let within : k < n = omega (arith, c.loop-slot-test.true) in
    let live_is = ap (λ (m : State). is_live m.config k) (g.met.N.Nodes.machine_is c.args.nodes.now w s) ∙ sym c.is_live.ensures in
    let passed : (is_live w.machine.config k && not (is_done w k)) ≡ false =
    elim c.else-is_live.branch [
      | else-is_live-via-then-is_live+else-not-is_done x ↦
          ap (λ b. b && not (is_done w k)) (live_is ∙ x.if-is_live.true) ∙ ap not (sym (x.is_done.ensures w s) ∙ x.if-not-is_done.false)
      | else-is_live-via-else-is_live x ↦ ap (λ b. b && not (is_done w k)) (live_is ∙ x.if-is_live.false)
    ] in
    c.loop-slot.invariant w s ∙ undone_later (is_live w.machine.config) (is_done w) k n within passed
