use Rattle.std.proofs.Common.{◌∙◌, ap, sym, option_map}
use Rattle.config_graph.specs.declared.node.Target.{Target}
use Rattle.config_graph.proofs.CycleLaws.{IfSome-node, depended_is, leads_by-depended, leads_by-not}
use Rattle.config_graph.proofs.cycles.successor.Goals as goal

pub returns-then-is_depended_on : goal.returns-then-is_depended_on
returns-then-is_depended_on c =
    let g = c.args.graph.now in
    let i = c.args.node in
    let r = c.args.require in
    let depended = depended_is g.nodes i r c.node.result.now c.node.ensures ∙ sym c.is_depended_on.ensures ∙ c.if-is_depended_on.true in
    let aim = λ (t : Target). t.node in
    record {
      node = c.target_node.ensures ∙ ap (option_map aim) c.target.ensures.target ∙ sym (leads_by-depended g i r depended);
      within = rw c.target_node.ensures (IfSome-node g.nodes c.target.result c.target.ensures.within);
    }

pub returns-else-is_depended_on : goal.returns-else-is_depended_on
returns-else-is_depended_on c =
    let g = c.args.graph.now in
    let i = c.args.node in
    let r = c.args.require in
    let depended = depended_is g.nodes i r c.node.result.now c.node.ensures ∙ sym c.is_depended_on.ensures ∙ c.if-is_depended_on.false in
    record { node = sym (leads_by-not g i r depended); within = tt }
