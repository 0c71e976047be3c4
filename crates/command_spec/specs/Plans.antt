-- To be believed (definitions.md).
-- Changes between two components. A run that starts with the first has to keep the limits of a run; the change to the
-- second then follows, with what the start made. No state is moved.
use Rattle.std.specs.Prelude.{◌≡◌, ℕ, ℤ, List, [], ◌∷◌, ◌++◌, length, Option, None, Some}
use Rattle.config_graph.specs.Graph.{Graph, ports}
use Rattle.config_graph.specs.declared.node.Made.{Made}
use Rattle.change_spec.specs.Scripts.{nothing_made}
use Rattle.change_spec.specs.Statements.{Statement, start, change}
use Rattle.change_plan.specs.PlanText.{plan_text}
use Rattle.change_plan.specs.Plans.{IsPlanOf}
use Rattle.change_plan.specs.Room.{HasRoomFor, LacksRoomFor}
use Rattle.change_plan.specs.declared.error.PlanError.{PlanError}
use Rattle.change_plan.specs.declared.plan_data.Plan.{Plan}
use Rattle.change_parts.specs.Parts.{AreParts}
use Rattle.change_parts.specs.declared.part.Part.{Part}
use Rattle.change_parts.specs.Rolls.{IsRoll, roll_statements, stage_left}
use Rattle.command_words.specs.declared.words.Change.{Change}
use Rattle.command_words.specs.declared.words.TopCall.{TopCall}
use Rattle.command_spec.specs.Descriptions.{HasGraph, IsDescriptionRefusal}
use Rattle.command_spec.specs.Lines.{RunLine, uses, calls, starts, changes}
use Rattle.command_answers.specs.Answers.{roll_status}
use Rattle.command_answers.specs.PartTexts.{parts_text, roll_text}
use Rattle.command_answers.specs.RefusalLines.{plan_words}
use Rattle.command_answers.specs.declared.status.Status.{Status}

-- what a start with a graph makes
abbrev pub made_of_graph : Graph → Made
made_of_graph g = record { nodes = length g.nodes; ports = length (ports g.nodes) }

-- a run can start with the graph of a component
pub record Starts (text top : List ℕ) (args : List ℤ) (graph : Graph) : Type 0 where
  pub has_graph : HasGraph text top args graph
  pub has_room : HasRoomFor nothing_made graph

-- the words of why it can't
pub data RefusesStart (text top : List ℕ) (args : List ℤ) : List (List ℕ) → Type 0 where
  has_no_graph : (words : List (List ℕ)) → IsDescriptionRefusal text top args words → RefusesStart text top args words
  is_full :
      (graph : Graph) (e : PlanError) → HasGraph text top args graph → LacksRoomFor nothing_made graph e
      → RefusesStart text top args (plan_words e)

-- the text of the plan from one graph to another
abbrev pub IsPlanText : Graph → Graph → List ℕ → Type 0
IsPlanText old new written = (steps : Plan) × IsPlanOf old new [] steps × (written ≡ plan_text old new steps)

-- the text of the parts of the same change
abbrev pub IsPartsText : Graph → Graph → List ℕ → Type 0
IsPartsText old new written = (ps : List Part) × AreParts old new [] ps × (written ≡ parts_text old ps)

-- The text and the status of a roll: the first component is started and runs, and the parts of the change are carried
-- out, as far as the rounds say.
pub record IsRollText (run within : ℕ) (call target : TopCall) (own : Status) (old new : Graph) (written : List ℕ) : Type 0 where
  pub parts : List Part
  pub are_parts : AreParts old new [] parts
  pub given_up : Option ℕ
  pub is_roll : IsRoll (roll_statements call.top call.args old run target.top target.args within parts) given_up
  pub ended : own ≡ roll_status given_up
  pub is_text : written ≡ roll_text old parts given_up (stage_left old parts given_up)

-- the lines of a script that say a change: its first component is started, and changed to the second
abbrev pub uses_other : Option (List ℕ) → List RunLine
uses_other None = []
uses_other (Some file) = uses file ∷ []

abbrev pub lines_of_change : Change → List RunLine
lines_of_change c =
    uses c.file ∷ calls starts c.call.top c.call.args
    ∷ (uses_other c.other ++ calls (changes 0 []) c.target.top c.target.args ∷ [])

-- the statements to which they lead
abbrev pub statements_of_change : Change → Graph → Graph → List Statement
statements_of_change c old new =
    start c.call.top c.call.args old ∷ change c.target.top c.target.args new 0 [] ∷ []
