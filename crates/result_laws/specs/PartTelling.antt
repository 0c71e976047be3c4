-- What the text of parts tells: the text of each part's plan, in their order.
use Rattle.std.specs.Prelude.{List, [], ◌∷◌, ℕ, All}
use Rattle.config_graph.specs.Graph.{Graph}
use Rattle.config_graph.specs.GraphText.{IsOneWord}
use Rattle.config_graph.specs.declared.node.Node.{Node}
use Rattle.change_plan.specs.PlanText.{plan_text}
use Rattle.change_parts.specs.declared.part.Part.{Part}

abbrev pub plan_texts : Graph → List Part → List (List ℕ)
plan_texts before [] = []
plan_texts before (p ∷ ps) = plan_text before p.next p.plan ∷ plan_texts p.next ps

-- paths are words in each of the graphs
abbrev pub HasWordPaths : Graph → Type 0
HasWordPaths g = All (λ (n : Node). IsOneWord n.path) g.nodes

abbrev pub HaveWordPaths : Graph → List Part → Type 0
HaveWordPaths before [] = HasWordPaths before
HaveWordPaths before (p ∷ ps) = HasWordPaths before × HaveWordPaths p.next ps
