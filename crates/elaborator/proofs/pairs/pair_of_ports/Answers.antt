use Rattle.std.proofs.Common.{◌∙◌, sym, refl}
use Rattle.darwin_walk.specs.Walked.{binding_of}
use Rattle.elaborator.specs.Bindings.{named_port}
use Rattle.elaborator.specs.Ports.{named_of}
use Rattle.elaborator.proofs.PairLaws.{port_named_by, pair-forward, pair-backward, pair-of_no_form}
use Rattle.elaborator.proofs.pairs.pair_of_ports.Goals as goal

pub returns-then-may_lead : goal.returns-then-may_lead
returns-then-may_lead c = λ e n i left right.
    let x = named_of left.0 c.args.left.now in
    let y = named_of right.0 c.args.right.now in
    let leads = sym (c.may_lead.ensures left.0 right.0) ∙ c.if-may_lead.true in (
      record { end = (binding_of c.args.binding.now).left; source = named_port x; target = named_port y },
      pair-forward e.tree i (binding_of c.args.binding.now) x y left.1 right.1 leads,
      record {
        end = refl;
        source = port_named_by e n c.args.left.now left.0 left.2;
        target = port_named_by e n c.args.right.now right.0 right.2;
      },
    )

pub returns-then-may_lead-2 : goal.returns-then-may_lead-2
returns-then-may_lead-2 c = λ e n i left right.
    let x = named_of left.0 c.args.left.now in
    let y = named_of right.0 c.args.right.now in
    let not_forward = sym (c.may_lead.ensures left.0 right.0) ∙ c.if-may_lead.false in
    let leads = sym (c.may_lead-else-may_lead.ensures right.0 left.0) ∙ c.if-may_lead-2.true in (
      record { end = (binding_of c.args.binding.now).right; source = named_port y; target = named_port x },
      pair-backward e.tree i (binding_of c.args.binding.now) x y left.1 right.1 not_forward leads,
      record {
        end = refl;
        source = port_named_by e n c.args.right.now right.0 right.2;
        target = port_named_by e n c.args.left.now left.0 left.2;
      },
    )

pub returns-else-may_lead-2 : goal.returns-else-may_lead-2
returns-else-may_lead-2 c = λ e n i left right.
    let x = named_of left.0 c.args.left.now in
    let y = named_of right.0 c.args.right.now in
    let not_forward = sym (c.may_lead.ensures left.0 right.0) ∙ c.if-may_lead.false in
    let not_backward = sym (c.may_lead-else-may_lead.ensures right.0 left.0) ∙ c.if-may_lead-2.false in
    pair-of_no_form e.tree i (binding_of c.args.binding.now) x y left.1 right.1 not_forward not_backward
