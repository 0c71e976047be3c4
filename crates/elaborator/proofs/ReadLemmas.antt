-- Where the code may read of a node: within its lists, and a requirement of its kind.
use Rattle.std.proofs.Common.{◌≡◌, ℕ, ◌<◌, List, length, get_or, ap, sym, subst, ◌∙◌, arith}
use Rattle.std.specs.Option.{option_map_or}
use Rattle.std.proofs.lemmas.Option.{same_Some}
use Rattle.std.proofs.lemmas.List.{length-map}
use Rattle.config_graph.specs.declared.kind.Kind.{Kind}
use Rattle.config_graph.specs.declared.node.Node.{Node}
use Rattle.config_graph.specs.Kinds.{row}
use Rattle.config_graph.specs.Graph.{requires_of, requires_at}
use Rattle.elaborator.specs.Numbering.{Expanded}
use Rattle.elaborator.specs.NodeOrder.{AreNodesOf}
use Rattle.elaborator.specs.declared.nodes.Nodes.{Nodes}
use Rattle.elaborator.proofs.LinkLemmas.{kind_read}
use Rattle.elaborator.proofs.PortLemmas.{numbered_within}
use Rattle.base.proofs.PlaceLaws.{value_read}

pub kind_within : (e : Expanded) (ns : List Node) (n : Nodes) (a : ℕ) → AreNodesOf e ns n → a < length n.instances.items → a < length n.kinds.items
kind_within e ns n a are within =
    omega (arith, within, are.same_length, ap length are.kinds, length-map ns (λ (x : Node). x.kind))

pub instance_within :
    (e : Expanded) (ns : List Node) (n : Nodes) (a number : ℕ) (kind : Kind) → AreNodesOf e ns n → a < length n.instances.items → kind ≡ get_or n.kinds.items a kind
    → number ≡ get_or n.instances.items a number → number < length e.made
instance_within e ns n a number kind are within read_kind read_number =
    let stands = kind_read e ns n a kind are (omega (arith, within, are.same_length)) read_kind in
    let w = are.node_at a stands.0 stands.1 in
    let same : w.0 ≡ number = same_Some w.0 number (sym w.2 ∙ value_read n.instances.items a number within read_number) in
    subst (λ k. k < length e.made) same (numbered_within e w.0 w.1 w.3)

pub requirement_within :
    (e : Expanded) (ns : List Node) (n : Nodes) (a require : ℕ) (kind : Kind) → AreNodesOf e ns n → a < length n.instances.items → kind ≡ get_or n.kinds.items a kind
    → require < requires_at ns a → require < length (row kind).requires_
requirement_within e ns n a require kind are within read_kind required =
    let stands = kind_read e ns n a kind are (omega (arith, within, are.same_length)) read_kind in
    subst (λ k. require < length (row k).requires_) stands.2 (subst (λ o. require < option_map_or requires_of o 0) stands.1 required)

pub requirement_counted :
    (e : Expanded) (ns : List Node) (n : Nodes) (a require : ℕ) (kind : Kind) → AreNodesOf e ns n → a < length n.instances.items → kind ≡ get_or n.kinds.items a kind
    → require < length (row kind).requires_ → require < requires_at ns a
requirement_counted e ns n a require kind are within read_kind counted =
    let stands = kind_read e ns n a kind are (omega (arith, within, are.same_length)) read_kind in
    subst (λ o. require < option_map_or requires_of o 0) (sym stands.1) (subst (λ k. require < length (row k).requires_) (sym stands.2) counted)
