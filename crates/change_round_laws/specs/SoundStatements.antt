-- The statements of a sound script: one start stands before all others, each graph is sound and has room, and each
-- change may be planned from the graph that was named last.
use Rattle.std.specs.Prelude.{◌≡◌, ⊤, ℕ, ℤ, List, [], ◌∷◌, length, Option, Some}
use Rattle.config_graph.specs.Graph.{Graph, IsGraph, ports}
use Rattle.config_graph.specs.Sound.{Sound}
use Rattle.config_graph.specs.declared.node.Made.{Made}
use Rattle.change_plan.specs.Refusals.{CanPlan}
use Rattle.change_plan.specs.Room.{HasRoomFor}
use Rattle.change_plan.specs.declared.plan_data.Move.{Move}
use Rattle.change_spec.specs.Scripts.{more_made, nothing_made}
use Rattle.change_spec.specs.Statements.{Statement, start, change, run, finish, show}

-- to which graph a component elaborates, by a function of the file's name, the component's, and its arguments
abbrev pub elaborates_by : (List ℕ → List ℕ → List ℤ → Option Graph) → List ℕ → List ℕ → List ℤ → Graph → Type 0
elaborates_by elab file name args g = elab file name args ≡ Some g

pub record IsSoundGraph (g : Graph) : Type 0 where
  pub is_graph : IsGraph g
  pub sound : Sound g

-- all that a graph has is made
abbrev pub made_of_graph : Graph → Made
made_of_graph g = more_made nothing_made (length g.nodes) (length (ports g.nodes))

-- the graph that was named last, behind a statement
abbrev pub named_by : Statement → Graph → Graph
named_by (start name args g) old = g
named_by (change name args g within moves) old = g
named_by (run k) old = old
named_by (finish n) old = old
named_by show old = old

-- a change, and what stands below it
pub record ChangesSoundly (old : Graph) (made : Made) (new : Graph) (moves : List Move) (Below : Graph → Made → Type 0)
    : Type 0 where
  pub graph : IsSoundGraph new
  pub can_plan : CanPlan old new moves made
  pub below : Below new (more_made made can_plan.nodes can_plan.ports)

-- below statements that named this graph, and made so many nodes and ports if each change was committed
abbrev pub GoOnSoundly : List Statement → Graph → Made → Type 0
GoOnSoundly [] old made = ⊤
GoOnSoundly (start name args g ∷ rest) old made = ⊥
GoOnSoundly (change name args g within moves ∷ rest) old made = ChangesSoundly old made g moves (GoOnSoundly rest)
GoOnSoundly (run k ∷ rest) old made = GoOnSoundly rest old made
GoOnSoundly (finish n ∷ rest) old made = GoOnSoundly rest old made
GoOnSoundly (show ∷ rest) old made = GoOnSoundly rest old made

-- a start, and what stands below it
pub record StartsSoundly (g : Graph) (rest : List Statement) : Type 0 where
  pub graph : IsSoundGraph g
  pub room : HasRoomFor nothing_made g
  pub below : GoOnSoundly rest g (made_of_graph g)

abbrev pub AreSound : List Statement → Type 0
AreSound (start name args g ∷ rest) = StartsSoundly g rest
AreSound _ = ⊥
