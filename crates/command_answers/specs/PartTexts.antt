-- To be believed (definitions.md).
-- The text of a change in parts: of each part its number, and the text of its plan from the graph before it. And that
-- of a roll, which carries them out one after the other.
use Rattle.std.specs.Prelude.{ℕ, List, [], ◌∷◌, ◌++◌, codes, decimal, suc, Option, None, Some}
use Rattle.config_graph.specs.Graph.{Graph}
use Rattle.config_graph.specs.GraphText.{graph_text}
use Rattle.change_plan.specs.PlanText.{plan_text}
use Rattle.change_parts.specs.declared.part.Part.{Part}

-- `part I`
abbrev pub part_line : ℕ → List ℕ
part_line number = codes "part " ++ decimal number ++ codes "\n"

-- these parts, of which the first has this number and begins with this graph
abbrev pub parts_text_from : ℕ → Graph → List Part → List ℕ
parts_text_from number before [] = []
parts_text_from number before (p ∷ ps) =
    part_line number ++ plan_text before p.next p.plan ++ parts_text_from (suc number) p.next ps

-- all parts, numbered from 1
abbrev pub parts_text : Graph → List Part → List ℕ
parts_text old ps = parts_text_from 1 old ps

-- all parts were carried out, or the one with this number was given up
abbrev pub end_line : Option ℕ → List ℕ
end_line None = codes "done\n"
end_line (Some number) = codes "pending " ++ decimal number ++ codes "\n"

-- the parts, how their roll ended, and the graph that it left
abbrev pub roll_text : Graph → List Part → Option ℕ → Graph → List ℕ
roll_text old ps given_up left = parts_text old ps ++ end_line given_up ++ graph_text left
