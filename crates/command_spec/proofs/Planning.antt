-- A description isn't both refused a start and given one.
use Rattle.std.proofs.Common.{◌≡◌, ◌∙◌, inl, inr, ℕ, ℤ, List, [], Some, length, sym, subst}
use Rattle.config_graph.specs.Graph.{Graph, ports}
use Rattle.config_graph.specs.declared.node.Made.{Made}
use Rattle.change_plan.specs.Refusals.{CanPlan, IsRefusal}
use Rattle.change_plan.specs.Room.{RoomFault, LacksRoomFor}
use Rattle.change_plan.specs.declared.error.PlanError.{PlanError}
use Rattle.change_plan.proofs.RoomLaws.{no_room, one_wanted}
use Rattle.elaborator.proofs.UniqueLaws as elaborating
use Rattle.darwin_parser.specs.Tree.{Tree}
use Rattle.elaborator.specs.Elaboration.{ElaboratesTo}
use Rattle.elaborator.specs.Graph.{IsElab}
use Rattle.elaborator.specs.Instances.{Instance, top_instance}
use Rattle.std.proofs.lemmas.Option.{same_Some}
use Rattle.command_spec.specs.Descriptions.{HasGraph}
use Rattle.command_spec.specs.Plans.{Starts, RefusesStart, has_no_graph, is_full}
use Rattle.change_spec.specs.Scripts.{nothing_made}
use Rattle.command_spec.proofs.Readings as readings

-- ---- room is full or not

pub not_full : (old new : Graph) (made : Made) (e : PlanError) → CanPlan old new [] made → IsRefusal old new [] made e → ⊥
not_full old new made e can (inl first) = cc (first.at)
not_full old new made e can (inr (may, (n, p, wanted, fault))) =
    let same = one_wanted old new n p can.nodes can.ports wanted can.wanted in
    no_room made can.nodes can.ports e can.room (subst (λ k. RoomFault made can.nodes k e) same.1 (subst (λ k. RoomFault made k p e) same.0 fault))

-- ---- a description has one graph

same_top : (tree : Tree) (name : List ℕ) (args : List ℤ) (t u : Instance) → top_instance tree name args ≡ Some t → top_instance tree name args ≡ Some u → t ≡ u
same_top tree name args t u a b = same_Some t u (sym a ∙ b)

pub one_graph_of : (tree : Tree) (name : List ℕ) (args : List ℤ) (g h : Graph) → ElaboratesTo tree name args g → ElaboratesTo tree name args h → g ≡ h
one_graph_of tree name args g h a b =
    elaborating.one_graph tree b.top g h (subst (λ t. IsElab tree t g) (same_top tree name args a.top b.top a.is_top b.is_top) a.is_elab) b.is_elab

pub one_graph : (text name : List ℕ) (args : List ℤ) (g h : Graph) → HasGraph text name args g → HasGraph text name args h → g ≡ h
one_graph text name args g h x y =
    one_graph_of y.tree name args g h
    (subst (λ t. ElaboratesTo t name args g) (readings.one_tree text x.tree y.tree x.checked.is_tree y.checked.is_tree) x.is.is_graph) y.is.is_graph

-- ---- the laws

pub never_both_start :
    (text top : List ℕ) (args : List ℤ) (graph : Graph) (words : List (List ℕ))
    → Starts text top args graph → RefusesStart text top args words → ⊥
never_both_start text top args graph _ starts (has_no_graph words refuses) = readings.never_both text top args graph words starts.has_graph refuses
never_both_start text top args graph _ starts (is_full other e has refuses) =
    no_room nothing_made (length graph.nodes) (length (ports graph.nodes)) e starts.has_room
    (subst (λ g. LacksRoomFor nothing_made g e) (one_graph text top args other graph has starts.has_graph) refuses)
