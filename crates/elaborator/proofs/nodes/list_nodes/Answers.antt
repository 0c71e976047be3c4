use Rattle.std.proofs.Common.{◌∙◌, ◌+◌, refl, sym, subst}
use Rattle.elaborator.specs.Expansion.{expanded_of, instance_in}
use Rattle.elaborator.specs.Numbering.{Numbered}
use Rattle.elaborator.specs.NodeOrder.{AreListed}
use Rattle.elaborator.proofs.OrderLemmas.{listed-push, listed-skip}
use Rattle.elaborator.proofs.nodes.list_nodes.Goals as goal
use Rattle.elaborator.proofs.nodes.list_nodes.Goals.{then-instance+in_ok-push, else-instance}

pub loop-number-preserved : goal.loop-number-preserved
loop-number-preserved c =
    let e = expanded_of c.args.expansion.now in
    let k = c.loop-number.number in
    let x = c.instance-instance.result.now in
    let i = instance_in x in
    let numbered : Numbered e k i = record { maker = x.maker; is_at = c.instance-instance.ensures.made } in
    elim c.if-instance.branch [
      | then-instance+in_ok-push w ↦
          subst (λ v. AreListed e (k + 1) v.items) (sym w.listed-is)
          (listed-push e k c.loop-number.listed.items w.push.new.self.items (record { path = w.as_bytes.result; number = k }) i c.loop-number.invariant numbered
          (sym c.instance-instance.ensures.primitive ∙ w.if-instance.true) refl (sym w.as_bytes.ensures) w.in_ok-push.ensures.items)
      | else-instance w ↦
          subst (λ v. AreListed e (k + 1) v.items) (sym w.listed-is)
          (listed-skip e k c.loop-number.listed.items i c.loop-number.invariant numbered (sym c.instance-instance.ensures.primitive ∙ w.if-instance.false))
    ]
