-- Each slot is listed where its node is settled, and passed over where not.
use Rattle.std.proofs.Common.{◌≡◌, true, false, refl, arith}
use Rattle.quiesce_replay.proofs.SettledLemmas.{below_push, below_pass, below_all}
use Rattle.quiesce_replay.proofs.settling.list_settled.Goals as goal
use Rattle.quiesce_replay.proofs.settling.list_settled.Goals.{then-is_settled+in_ok-push, else-is_settled}

false_true : false ≡ true → ⊥
false_true is = cc

pub loop-slot-preserved : goal.loop-slot-preserved
loop-slot-preserved c =
    let s = c.args.core.now.state in
    let slot = c.loop-slot.slot in
    let nodes = c.loop-slot.nodes.items in
    elim c.if-is_settled.branch [
      | then-is_settled+in_ok-push w ↦
          rw (w.nodes-is, w.in_ok-push.ensures.items) (below_push s slot nodes c.loop-slot.invariant (w.if-is_settled.ensures.0 refl))
      | else-is_settled w ↦
          rw w.nodes-is (below_pass s slot nodes c.loop-slot.invariant (λ settled. false_true (w.if-is_settled.ensures.1 settled)))
    ]

pub returns : goal.returns
returns c =
    below_all c.args.core.now.state c.loop-slot.slot c.loop-slot.nodes.items c.loop-slot.invariant
    (omega (arith, c.made-slot-end.ensures.nodes, c.loop-slot-test.false))
