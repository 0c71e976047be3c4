use Rattle.std.proofs.Common.{◌==◌, ◌&&◌, ◌∙◌, ap, sym}
use Rattle.std.specs.List.{list_any}
use Rattle.change_lists.specs.Lists.{is_port_at}
use Rattle.config_graph.specs.declared.node.Port.{Port}
use Rattle.change_lists.proofs.LookupLemmas.{no_port}
use Rattle.change_lists.proofs.lookups.PortSet.has.Goals as goal

pub returns-in-Some : goal.returns-in-Some
returns-in-Some c =
    let i = c.in-Some.place in
    let x = c.args.made in
    c.contains.ensures ∙ c.self.invariant i x.require ∙ ap (list_any (λ (q : Port). (i == q.node) && (x.require == q.require))) c.self.view_is
    ∙ ap (λ place. list_any (is_port_at place x) c.args.self.now) (sym c.in-Some.is)

pub returns-in-None : goal.returns-in-None
returns-in-None c = no_port c.args.made c.args.self.now ∙ ap (λ place. list_any (is_port_at place c.args.made) c.args.self.now) (sym c.in-None.is)
