-- The derived comparisons of nodes and links decide equality.
use Rattle.std.proofs.Common.{◌≡◌, ℕ, List, Option, eqb, Decides, ap, rules}
use Rattle.std.specs.Option.{option_eq}
use Rattle.std.proofs.lemmas.Bool.Decides.{Decides-and, Decides-like}
use Rattle.std.proofs.lemmas.Slice.Eq.{bytes_eq-Decides}
use Rattle.config_graph.specs.contracts.kind.KindPartialEq as kind_eq
use Rattle.config_graph.specs.declared.kind.Kind.{Kind}
use lib.Pointwise.{pointwise, pointwise_decides}
use Rattle.std.specs.Cmp.Rules.{comparing}
use Rattle.config_graph.specs.contracts.node.NodePartialEq as node_eq
use Rattle.config_graph.specs.contracts.node.LinkPartialEq as link_eq
use Rattle.config_graph.specs.declared.node.Node.{Node}
use Rattle.config_graph.specs.declared.node.Link.{Link}

pub link_decides : (a b : Link) → Decides ((link_eq.TheImpl.eq-value).it a b) (a ≡ b)
link_decides a b = search (comparing, rules)

pub kind_decides : (a b : Kind) → Decides ((kind_eq.TheImpl.eq-value).it a b) (a ≡ b)
kind_decides a b = search (comparing, rules)

arg_decides : (a b : Option ℕ) → Decides (option_eq eqb a b) (a ≡ b)
arg_decides a b = search (comparing, rules)

pub node_decides : (a b : Node) → Decides ((node_eq.TheImpl.eq-value).it a b) (a ≡ b)
node_decides a b =
    Decides-like ((node_eq.TheImpl.eq-value).it a b) (λ h i. record { path = h.0 i; kind = h.1.0 i; arg = h.1.1 i }) (λ e. (ap (λ n. n.path) e, (ap (λ n. n.kind) e, ap (λ n. n.arg) e))) (Decides-and _ _ (bytes_eq-Decides a.path b.path) (Decides-and _ _ (kind_decides a.kind b.kind) (arg_decides a.arg b.arg)))

pub nodes_decide : (xs ys : List Node) → Decides (pointwise (node_eq.TheImpl.eq-value).it xs ys) (xs ≡ ys)
nodes_decide = pointwise_decides node_decides

pub links_decide : (xs ys : List Link) → Decides (pointwise (link_eq.TheImpl.eq-value).it xs ys) (xs ≡ ys)
links_decide = pointwise_decides link_decides
