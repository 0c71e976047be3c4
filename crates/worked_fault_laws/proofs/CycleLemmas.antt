-- The graph of the description whose one node is linked to itself.
use Rattle.std.proofs.Common.{◌≡◌, ◌∙◌, ◌⊎◌, inl, inr, ℕ, pos, [], ◌∷◌, Some, codes, slice_get, refl, sym, ap, subst, arith, Contains}
use Rattle.std.proofs.lemmas.Option.{none-some, same_Some, slice_get_within}
use Rattle.base.proofs.ContainsLaws.{Contains-at, Contains-cons_cases, Contains-here, Contains-one}
use Rattle.config_graph.specs.Cycles.{FirstOnCycle}
use Rattle.config_graph.specs.Graph.{Graph}
use Rattle.config_graph.specs.Kinds.{row}
use Rattle.config_graph.specs.Walks.Walk.{step}
use Rattle.config_graph.specs.declared.kind.Kind.TheVariants.{Map}
use Rattle.config_graph.specs.declared.node.Link.{Link}
use Rattle.config_graph.specs.declared.node.Node.{Node}
use Rattle.darwin_parser.specs.Tree.{Tree, Component, end}
use Rattle.elaborator.specs.Bindings.{pairs_in}
use Rattle.elaborator.specs.Bindings.Bound.{bound}
use Rattle.elaborator.specs.Bindings.BoundThrough.{at_once}
use Rattle.elaborator.specs.Graph.{IsElab, IsLink, IsNode, node_of}
use Rattle.elaborator.specs.Instances.{Inst, Instance, instances, levels}
use Rattle.elaborator.specs.Instances.Inst.{at_top}
use Rattle.elaborator.proofs.InstanceLaws.{instances-listed}
use Rattle.elaborator.proofs.UniqueLaws.{elab_by_list}
use Rattle.worked_fault_laws.specs.Elaborations.{query}
use Rattle.elaborator.specs.FaultCases as case

abbrev tree : Tree
tree = (query case.depends_cycle).tree

abbrev first : Tree → Component → Component
first [] none = none
first (c ∷ others) none = c

abbrev rest : Tree → Tree
rest [] = []
rest (c ∷ others) = others

abbrev mapper : Component
mapper = first (rest tree) (record { name = []; at = record { line = 1; column = 1 }; params = []; ports = []; arrays = []; body = end })

abbrev top : Instance
top = record { path = []; depth = 0; component = first tree mapper; env = [] }

abbrev inside : Instance
inside = record { path = codes "m"; depth = 1; component = mapper; env = record { name = codes "k"; value = pos 1 } ∷ [] }

abbrev pub map_node : Node
map_node = record { path = codes "m"; kind = Map; arg = Some 1 }

abbrev own_link : Link
own_link = record { from = 0; require = 0; to = 0; provide = 0 }

abbrev pub the_graph : Graph
the_graph = record { nodes = map_node ∷ []; links = own_link ∷ [] }

all_instances : instances tree top ≡ top ∷ inside ∷ []
unfolding levels
all_instances = refl

is_inside : Inst tree top inside
unfolding levels
is_inside = (instances-listed tree top inside refl).1 (Contains-at (instances tree top) 1 inside refl)

has_node : IsNode tree top map_node
has_node = record { instance = inside; is_instance = is_inside; is_node = refl }

only_node : (n : Node) → IsNode tree top n → n ≡ map_node
only_node n is =
    by (Contains-cons_cases top (inside ∷ []) is.instance (subst (λ is'. Contains is' is.instance) all_instances ((instances-listed tree top is.instance refl).0 is.is_instance)))
  where
    by : (is.instance ≡ top) ⊎ Contains (inside ∷ []) is.instance → n ≡ map_node
    by (inl at) = absurd (none-some n (sym (ap node_of at) ∙ is.is_node))
    by (inr at) = same_Some n map_node (sym is.is_node ∙ ap node_of (Contains-one inside is.instance at))

is_link : IsLink tree top (map_node ∷ []) own_link
unfolding has_node
is_link =
    record {
      from = map_node;
      to = map_node;
      from_there = refl;
      to_there = refl;
      linked =
          record {
            from = has_node;
            to = has_node;
            required = codes "next";
            provided = record { name = codes "in"; depends = 0 ∷ []; calls = 1; mores = 0 };
            requires_it = refl;
            provides_it = refl;
            leads = at_once _ _ (bound top _ at_top (Contains-at (pairs_in tree top) 0 _ refl));
          };
    }

-- a node of the list is the one, at place 0
at_zero : (n : Node) (k : ℕ) → slice_get (map_node ∷ []) k ≡ Some n → (k ≡ 0) × (n ≡ map_node)
at_zero n k at =
    let place : k ≡ 0 = omega (arith, slice_get_within (map_node ∷ []) k n at) in
    (place, sym (same_Some map_node n (subst (λ k. slice_get (map_node ∷ []) k ≡ Some n) place at)))

only_link : (l : Link) → IsLink tree top (map_node ∷ []) l → l ≡ own_link
only_link l is =
    let from = at_zero is.from l.from is.from_there in
    let to = at_zero is.to l.to is.to_there in
    let requires_it = subst (λ (n : Node). slice_get (row n.kind).requires_ l.require ≡ Some is.linked.required) from.1 is.linked.requires_it in
    let provides_it = subst (λ (n : Node). slice_get (row n.kind).provides l.provide ≡ Some is.linked.provided) to.1 is.linked.provides_it in
    let require : l.require ≡ 0 = omega (arith, slice_get_within (row Map).requires_ l.require is.linked.required requires_it) in
    let provide : l.provide ≡ 0 = omega (arith, slice_get_within (row Map).provides l.provide is.linked.provided provides_it) in
    λ i. record { from = from.0 i; require = require i; to = to.0 i; provide = provide i }

pub is_graph : IsElab tree top the_graph
is_graph =
    elab_by_list tree top the_graph (λ i j d lt within. absurd (omega (arith, lt, within)))
    (λ n. (
      λ there. subst (IsNode tree top) (sym (Contains-one map_node n there)) has_node,
      λ is. subst (Contains (map_node ∷ [])) (sym (only_node n is)) (Contains-here map_node []),
    )) (λ l. (
      λ there. subst (IsLink tree top (map_node ∷ [])) (sym (Contains-one own_link l there)) is_link,
      λ is. subst (Contains (own_link ∷ [])) (sym (only_link l is)) (Contains-here own_link []),
    )) refl

pub is_first : FirstOnCycle the_graph 0
is_first =
    record {
      on_cycle = step (record { port = record { node = 0; require = 0 }; serves = 0; provide = 0; depends = (refl, refl); linked = refl });
      first = λ j lt. absurd (omega (arith, lt));
    }
