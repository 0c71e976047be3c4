-- Whether a node is another, and whether it is in a list, can be told.
use Rattle.std.proofs.Common.{◌≡◌, List, refl, subst, inl, inr, Contains}
use Rattle.config_graph.specs.declared.node.Node.{Node}
use Rattle.config_graph.proofs.SameLaws.{node_decides}
use Rattle.base.proofs.TellLaws.{any_or_none, told_by}
use Rattle.base.specs.Telling.{CanTell}

pub same_node : (m n : Node) → CanTell (m ≡ n)
same_node m n = told_by _ (node_decides m n)

pub tell_contained : (nodes : List Node) (n : Node) → CanTell (Contains nodes n)
tell_contained nodes n =
    elim (any_or_none (λ m. m ≡ n) nodes (λ m there. same_node m n)) [
      | inl w ↦ inl (subst (Contains nodes) w.2 w.1)
      | inr none ↦ inr (λ there. none n there refl)
    ]
