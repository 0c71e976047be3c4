use Rattle.std.proofs.Common.{◌≡◌, ◌∙◌, ◌↔◌, ◌<◌, ◌^◌, ℕ, Bool, List, Result, Ok, Err, IfOk, All, Contains, ap, sym, subst, length}
use Rattle.config_graph.specs.Graph.{Graph, IsGraph, IsLinkWithin, OneLinkAPort, graph_of}
use Rattle.config_graph.specs.declared.node.Link.{Link}
use Rattle.config_graph.specs.declared.node.Node.{Node}
use Rattle.change_plan.specs.declared.plan_data.Move.{Move}
use Rattle.change_parts.specs.Stages.{IsAfter}
use Rattle.change_parts.specs.Members.{IsIndex}
use Rattle.change_parts.specs.Staging.{AreLaid, IsApplied, links_in, stands}
use Rattle.change_parts.specs.declared.members.Members.{Members}
use Rattle.change_parts.proofs.StagingLemmas.{few_nodes, few_ports, is_graph, is_stage, links_apart, links_within, stage_rises}
use Rattle.change_parts.proofs.staging.stage.Goals as goal
use Rattle.change_parts.proofs.staging.stage.Goals.{In_ok-links}

links_are : (c : In_ok-links) → c.in_ok-links.links.items ≡ links_in c.args.old.now c.args.new.now c.args.members.now c.args.applied.now c.in_ok-laid.laid.places.items
links_are c = c.in_ok-links.ensures ∙ ap (links_in c.args.old.now c.args.new.now c.args.members.now c.args.applied.now) c.deref.ensures.value

pub build-requires-clause-paths_rise : goal.build-requires-clause-paths_rise
build-requires-clause-paths_rise c =
    let i = c.requires.index in
    let a = c.requires.applied in
    stage_rises c.args.old.now c.args.new.now i.old_graph i.new_graph c.args.members.now i c.args.applied.now a.0 a.1 a.2 c.in_ok-laid.laid.nodes.items c.in_ok-laid.laid.places.items c.in_ok-laid.ensures.laid c.in_ok-laid.ensures.all c.requires.few

pub build-requires-clause-within : goal.build-requires-clause-within
build-requires-clause-within c =
    let i = c.requires.index in
    let a = c.requires.applied in
    subst (All (IsLinkWithin c.in_ok-laid.laid.nodes.items)) (sym (links_are c))
    (links_within c.args.old.now c.args.new.now i.old_graph i.new_graph c.args.members.now i c.args.applied.now a.0 a.1 a.2 c.in_ok-laid.laid.nodes.items c.in_ok-laid.laid.places.items c.in_ok-laid.ensures.laid c.in_ok-laid.ensures.all c.requires.few)

pub build-requires-clause-one_link_a_port : goal.build-requires-clause-one_link_a_port
build-requires-clause-one_link_a_port c =
    let i = c.requires.index in
    let a = c.requires.applied in
    subst OneLinkAPort (sym (links_are c))
    (links_apart c.args.old.now c.args.new.now i.old_graph i.new_graph c.args.members.now i c.args.applied.now a.0 a.1 a.2 c.in_ok-laid.laid.nodes.items c.in_ok-laid.laid.places.items c.in_ok-laid.ensures.laid c.in_ok-laid.ensures.all c.requires.few)

pub build-requires-clause-few_nodes : goal.build-requires-clause-few_nodes
build-requires-clause-few_nodes c =
    let i = c.requires.index in
    let a = c.requires.applied in
    few_nodes c.args.old.now c.args.new.now i.old_graph i.new_graph c.args.members.now i c.args.applied.now a.0 a.1 a.2 c.in_ok-laid.laid.nodes.items c.in_ok-laid.laid.places.items c.in_ok-laid.ensures.laid c.in_ok-laid.ensures.all c.requires.few

pub build-requires-clause-few_ports : goal.build-requires-clause-few_ports
build-requires-clause-few_ports c =
    let i = c.requires.index in
    let a = c.requires.applied in
    few_ports c.args.old.now c.args.new.now i.old_graph i.new_graph c.args.members.now i c.args.applied.now a.0 a.1 a.2 c.in_ok-laid.laid.nodes.items c.in_ok-laid.laid.places.items c.in_ok-laid.ensures.laid c.in_ok-laid.ensures.all c.requires.few

-- what is built is each stage that has these members applied
built : {E : Type 0} (old new : Graph) (m : Members) (index : IsIndex old new m) (applied : List Bool) (nodes : List Node) (places : List ℕ) (links : List Link) (laid : AreLaid (stands m applied) m.nodes.items nodes places)
    → length places ≡ length m.nodes.items → length m.nodes.items < 2 ^ 31 → links ≡ links_in old new m applied places → (r : Result Graph E) → IfOk r (λ g. g ≡ graph_of nodes links)
    → IfOk r (λ g. (l : Link) → Contains g.links l ↔ Contains links l)
    → IfOk r (λ g. (moves : List Move) (firsts : List (List ℕ)) → IsApplied old new moves firsts m.nodes.items applied → IsAfter old new moves firsts old g)
built old new m index applied nodes places links laid long few are (Err e) is same = tt
built old new m index applied nodes places links laid long few are (Ok g) is same =
    λ moves firsts is_applied.
    is_stage old new index.old_graph index.new_graph m index applied moves firsts is_applied nodes places laid long few g (is ∙ ap (graph_of nodes) are)
    (subst (λ (ls : List Link). (l : Link) → Contains g.links l ↔ Contains ls l) are same)

-- and it is a graph
built_graph : {E : Type 0} (old new : Graph) (m : Members) (index : IsIndex old new m) (applied : List Bool) (moves : List Move) (firsts : List (List ℕ)) → IsApplied old new moves firsts m.nodes.items applied
    → (nodes : List Node) (places : List ℕ) (links : List Link) (laid : AreLaid (stands m applied) m.nodes.items nodes places) → length places ≡ length m.nodes.items → length m.nodes.items < 2 ^ 31
    → links ≡ links_in old new m applied places → (r : Result Graph E) → IfOk r (λ g. g ≡ graph_of nodes links) → IfOk r (λ g. IsGraph g)
built_graph old new m index applied moves firsts is_applied nodes places links laid long few are (Err e) is = tt
built_graph old new m index applied moves firsts is_applied nodes places links laid long few are (Ok g) is =
    is_graph old new index.old_graph index.new_graph m index applied moves firsts is_applied nodes places laid long few g (is ∙ ap (graph_of nodes) are)

pub returns-clause-graph : goal.returns-clause-graph
returns-clause-graph c =
    let a = c.requires.applied in
    built_graph c.args.old.now c.args.new.now c.args.members.now c.requires.index c.args.applied.now a.0 a.1 a.2 c.in_ok-laid.laid.nodes.items c.in_ok-laid.laid.places.items c.in_ok-links.links.items
    c.in_ok-laid.ensures.laid c.in_ok-laid.ensures.all c.requires.few
    (c.in_ok-links.ensures ∙ ap (links_in c.args.old.now c.args.new.now c.args.members.now c.args.applied.now) c.deref.ensures.value) c.build.result c.build.ensures.graph

pub returns-clause-after : goal.returns-clause-after
returns-clause-after c =
    built c.args.old.now c.args.new.now c.args.members.now c.requires.index c.args.applied.now c.in_ok-laid.laid.nodes.items c.in_ok-laid.laid.places.items c.in_ok-links.links.items c.in_ok-laid.ensures.laid c.in_ok-laid.ensures.all c.requires.few
    (c.in_ok-links.ensures ∙ ap (links_in c.args.old.now c.args.new.now c.args.members.now c.args.applied.now) c.deref.ensures.value) c.build.result c.build.ensures.graph c.build.ensures.same_links
