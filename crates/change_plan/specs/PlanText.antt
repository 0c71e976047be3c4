-- To be believed (definitions.md).
-- The text of a plan: a line for each of its steps.
use Rattle.std.specs.Prelude.{ℕ, List, [], ◌++◌, flat_map, slice_get, codes}
use Rattle.std.specs.Option.{option_map_or}
use Rattle.config_graph.specs.Graph.{Graph}
use Rattle.config_graph.specs.GraphText.{end_text, kind_text, provide_name, require_name}
use Rattle.config_graph.specs.declared.node.Link.{Link}
use Rattle.config_graph.specs.declared.node.Node.{Node}
use Rattle.config_graph.specs.declared.node.Port.{Port}
use Rattle.change_plan.specs.declared.plan_data.Plan.{Plan}

-- a text of node i
abbrev pub at_node : (Node → List ℕ) → Graph → ℕ → List ℕ
at_node text g i = option_map_or text (slice_get g.nodes i) []

-- `PATH.REQUIRE` and `PATH.PROVIDE`
abbrev pub port_text : Graph → ℕ → ℕ → List ℕ
port_text g i require = at_node (λ n. end_text n.path (require_name n.kind require)) g i

abbrev pub provision_text : Graph → ℕ → ℕ → List ℕ
provision_text g i provide = at_node (λ n. end_text n.path (provide_name n.kind provide)) g i

-- `WORD PATH`, as `freeze PATH` and `remove PATH`
abbrev pub step_line : List ℕ → Graph → ℕ → List ℕ
step_line word g i = word ++ at_node (λ n. n.path) g i ++ codes "\n"

-- `unlink PATH.REQUIRE`
abbrev pub unlink_line : Graph → Port → List ℕ
unlink_line old p = codes "unlink " ++ port_text old p.node p.require ++ codes "\n"

-- `create PATH KIND(ARG)`
abbrev pub create_line : Graph → ℕ → List ℕ
create_line new i =
    codes "create " ++ at_node (λ n. n.path ++ codes " " ++ kind_text n.kind n.arg) new i ++ codes "\n"

-- `link PATH.REQUIRE PATH.PROVIDE`
abbrev pub link_line : Graph → Link → List ℕ
link_line new l =
    codes "link " ++ port_text new l.from l.require ++ codes " " ++ provision_text new l.to l.provide ++ codes "\n"

abbrev pub plan_text : Graph → Graph → Plan → List ℕ
plan_text old new p =
    flat_map (step_line (codes "freeze ") old) p.freeze
    ++ flat_map (unlink_line old) p.unlink
    ++ flat_map (step_line (codes "remove ") old) p.remove
    ++ flat_map (create_line new) p.create
    ++ flat_map (link_line new) p.link
