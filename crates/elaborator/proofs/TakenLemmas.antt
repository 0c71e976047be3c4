-- The nodes of an expansion as they take the paths of their instances, one after another.
use Rattle.std.proofs.Common.{◌≡◌, ◌∙◌, ℕ, ◌+◌, ◌<◌, ◌≤◌, List, [], ◌∷◌, ◌++◌, Some, length, get_or, set, take, ap, sym, arith}
use Rattle.std.specs.List.{slice_get}
use Rattle.std.specs.Option.{option_map}
use Rattle.std.proofs.lemmas.List.{take_more}
use Rattle.std.proofs.lemmas.Option.{slice_get-map}
use Rattle.config_graph.specs.declared.kind.Kind.{Kind}
use Rattle.config_graph.specs.declared.node.Node.{Node}
use Rattle.elaborator.specs.Graph.{node_with}
use Rattle.elaborator.specs.Expansion.{expanded_of, made_of, instance_in}
use Rattle.elaborator.specs.NodeOrder.{nodes_in, AreNodesOf}
use Rattle.elaborator.specs.declared.instance.Instance as code_instance
use Rattle.elaborator.specs.declared.instance.Expansion.{Expansion}
use Rattle.elaborator.specs.declared.nodes.Nodes.{Nodes}
use Rattle.elaborator.proofs.NodeLemmas.{nodes_in-push, node_of_kind, node_there, one_number}
use Rattle.elaborator.proofs.TargetLemmas.{node_read}
use Rattle.base.proofs.OptionLaws.{option_map_some}
use Rattle.base.proofs.PlaceLaws.{slice_get-set_other, value_read}

-- from a place on, the instances of nodes are as they were
abbrev pub AreKept : List ℕ → ℕ → List code_instance.Instance → List code_instance.Instance → Type 0
AreKept numbers place old now = (b k : ℕ) → place ≤ b → slice_get numbers b ≡ Some k → slice_get now k ≡ slice_get old k

-- the instance of the node at a place, which is as it was
pub instance_there :
    (e : Expansion) (ns : List Node) (n : Nodes) (place number : ℕ) (now : List code_instance.Instance) → AreNodesOf (expanded_of e) ns n → place < length n.instances.items
    → number ≡ get_or n.instances.items place number → AreKept n.instances.items place e.instances.items now
    → (x : code_instance.Instance) × (slice_get now number ≡ Some x) × (slice_get (expanded_of e).made number ≡ Some (made_of x))
instance_there e ns n place number now are within read kept =
    let at = value_read n.instances.items place number within read in
    let w = node_there (expanded_of e) ns n place number are at in
    let x = option_map_some made_of (slice_get e.instances.items number) _ (sym (slice_get-map made_of e.instances.items number) ∙ w.3.0.is_at) in
    (x.0, kept place number (omega arith) at ∙ x.1, slice_get-map made_of e.instances.items number ∙ ap (option_map made_of) x.1)

-- the node with the path of its instance is the next one
pub taken_next :
    (e : Expansion) (ns : List Node) (n : Nodes) (place number : ℕ) (kind : Kind) (x : code_instance.Instance) (node : Node) → AreNodesOf (expanded_of e) ns n
    → place < length n.instances.items → number ≡ get_or n.instances.items place number → kind ≡ get_or n.kinds.items place kind
    → slice_get (expanded_of e).made number ≡ Some (made_of x) → node ≡ node_with (instance_in x) kind
    → nodes_in (expanded_of e) (take (place + 1) n.instances.items) ≡ nodes_in (expanded_of e) (take place n.instances.items) ++ node ∷ []
taken_next e ns n place number kind x node are within read_number read_kind made is =
    let read = node_read e ns n place number kind x are within read_kind read_number made in
    let same : read.0 ≡ node = node_of_kind (instance_in x) read.0 kind read.2.is_node read.1 ∙ sym is in
    ap (nodes_in (expanded_of e)) (take_more n.instances.items place number within ∙ ap (λ k. take place n.instances.items ++ k ∷ []) (sym read_number))
    ∙ nodes_in-push (expanded_of e) (take place n.instances.items) number (instance_in x) node read.2.numbered (read.2.is_node ∙ ap Some same)

-- the others are as they were
pub kept_next :
    (e : Expansion) (ns : List Node) (n : Nodes) (place number : ℕ) (now : List code_instance.Instance) (x : code_instance.Instance) → AreNodesOf (expanded_of e) ns n
    → place < length n.instances.items → number ≡ get_or n.instances.items place number → AreKept n.instances.items place e.instances.items now
    → AreKept n.instances.items (place + 1) e.instances.items (set now number x)
kept_next e ns n place number now x are within read kept = λ b k from at.
    let at_number = value_read n.instances.items place number within read in
    slice_get-set_other now number x k (λ same. absurd (omega (arith, from, one_number (expanded_of e) ns n place b number are at_number (at ∙ ap Some same))))
    ∙ kept b k (omega (arith, from)) at
