-- Each link of a graph joins what bindings do, and no other leaves its requirement.
use Rattle.std.proofs.Common.{◌≡◌, ◌∙◌, ℤ, List, Some, refl, sym, ap, subst}
use Rattle.std.specs.List.{Contains}
use Rattle.std.proofs.lemmas.Option.{same_Some}
use Rattle.config_graph.specs.declared.node.Link.{Link}
use Rattle.config_graph.specs.Graph.{Graph, link_at}
use Rattle.darwin_parser.specs.declared.tree.Side.TheVariants.{Provide, Require}
use Rattle.darwin_parser.specs.Tree.{Name, Tree}
use Rattle.elaborator.specs.Instances.{Instance, top_instance}
use Rattle.elaborator.specs.Bindings.{Port, BoundThrough}
use Rattle.elaborator.specs.Graph.{IsLink, IsRequirementAt, IsProvisionAt, port_at}
use Rattle.elaborator.specs.Elaboration.{ElaboratesTo}
use Rattle.elaborator.proofs.UniqueLaws.{links_listed}
use Rattle.config_graph.proofs.GraphByLaws.{own_link}

-- the ends of a link, to the one of which bindings lead from the other
abbrev Joins : Tree → Instance → Graph → Link → Type 0
Joins tree top g l =
    (x y : Port) × IsRequirementAt tree top g.nodes l.from l.require x × IsProvisionAt tree top g.nodes l.to l.provide y × BoundThrough tree top x y

joins : (tree : Tree) (top : Instance) (g : Graph) (l : Link) → IsLink tree top g.nodes l → Joins tree top g l
joins tree top g l is =
    let from = is.linked.from in
    let to = is.linked.to in (
      port_at from.instance Require is.linked.required,
      port_at to.instance Provide is.linked.provided.name,
      record {
        node = is.from;
        instance = from.instance;
        name = is.linked.required;
        stands = is.from_there;
        is_instance = from.is_instance;
        is_node = from.is_node;
        requires_it = is.linked.requires_it;
        is_port = refl;
      },
      record {
        node = is.to;
        instance = to.instance;
        provision = is.linked.provided;
        stands = is.to_there;
        is_instance = to.is_instance;
        is_node = to.is_node;
        provides_it = is.linked.provides_it;
        is_port = refl;
      },
      is.linked.leads,
    )

pub joined :
    (tree : Tree) (name : Name) (arguments : List ℤ) (top : Instance) (g : Graph) (l : Link) → top_instance tree name arguments ≡ Some top
    → ElaboratesTo tree name arguments g → Contains g.links l → Joins tree top g l
joined tree name arguments top g l is_top graph there =
    subst (λ t. Joins tree t g l) (same_Some graph.top top (sym graph.is_top ∙ is_top)) (joins tree graph.top g l ((links_listed tree graph.top g graph.is_elab l).0 there))

pub told_by_requirement :
    (tree : Tree) (name : Name) (arguments : List ℤ) (g : Graph) (k l : Link) → ElaboratesTo tree name arguments g
    → Contains g.links k → Contains g.links l → k.from ≡ l.from → k.require ≡ l.require → k ≡ l
told_by_requirement tree name arguments g k l graph there there' from require =
    let in_order = graph.is_elab.in_order in
    same_Some k l (sym (own_link g in_order k there) ∙ ap (λ n. link_at g.links n k.require) from ∙ ap (λ n. link_at g.links l.from n) require ∙ own_link g in_order l there')
