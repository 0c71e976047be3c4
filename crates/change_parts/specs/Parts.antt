-- To be believed (definitions.md).
-- A change in parts: each part takes the fewest groups after which there is no cycle of dependent services.
use Rattle.std.specs.Prelude.{⊤, ◌<◌, ◌≡◌, ℕ, List, [], ◌∷◌, ◌++◌, length, take, Some, slice_get, zero, suc}
use Rattle.config_graph.specs.Cycles.{HasCycle, graph_wiring}
use Rattle.config_graph.specs.Graph.{Graph}
use Rattle.config_graph.specs.Wiring.{HasNoCycle}
use Rattle.config_graph.specs.declared.node.Node.{Node}
use Rattle.change_plan.specs.Applying.{IsAtOneOf}
use Rattle.change_plan.specs.PlanWithin.{IsPlanWithin}
use Rattle.change_plan.specs.Plans.{IsPlanOf}
use Rattle.change_plan.specs.Selects.{Selects}
use Rattle.change_plan.specs.declared.plan_data.Move.{Move}
use Rattle.change_parts.specs.Groups.{AreGroups, IsIn}
use Rattle.change_parts.specs.Stages.{IsAfter}
use Rattle.change_parts.specs.Ties.{IsCreated, IsRemoved}
use Rattle.change_parts.specs.declared.part.Part.{Part}

-- the move's ends are in these groups
pub record HasEndsIn (old new : Graph) (moves : List Move) (firsts : List (List ℕ)) (m : Move) : Type 0 where
  pub source : Node
  pub target : Node
  pub from : source.path ≡ m.from
  pub to : target.path ≡ m.to
  pub removed : IsRemoved old new source
  pub created : IsCreated old new target
  pub source_in : IsIn old new moves firsts source
  pub target_in : IsIn old new moves firsts target

-- The part that has these groups, from the stage before it: its moves, the stage after it, and its plan. There is no
-- cycle after it, and there is one after fewer of these groups.
pub record IsPart (old new : Graph) (moves : List Move) (taken : List (List ℕ)) (stage : Graph) (p : Part) : Type 0 where
  pub takes_some : 0 < length taken
  pub leads_to : IsAfter old new moves taken stage p.next
  pub no_cycle : HasNoCycle (graph_wiring p.next)
  pub fewest : (count : ℕ) → 0 < count → count < length taken
      → (g : Graph) → IsAfter old new moves (take count taken) stage g → HasCycle g
  pub moves_are : Selects (HasEndsIn old new moves taken) moves p.moves
  pub plan_is : IsPlanOf stage p.next p.moves p.plan

-- from this stage on, the parts of the groups that are left
pub data ArePartsFrom (old new : Graph) (moves : List Move) : Graph → List (List ℕ) → List Part → Type 0 where
  none_left : {stage : Graph} → ArePartsFrom old new moves stage [] []
  then_ : {stage : Graph} {taken left : List (List ℕ)} {p : Part} {ps : List Part}
      → IsPart old new moves taken stage p → ArePartsFrom old new moves p.next left ps
      → ArePartsFrom old new moves stage (taken ++ left) (p ∷ ps)

pub record AreParts (old new : Graph) (moves : List Move) (ps : List Part) : Type 0 where
  pub groups : List (List ℕ)
  pub are_groups : AreGroups old new moves groups
  pub parts : ArePartsFrom old new moves old groups ps

-- the stage after so many parts
unfoldable pub stage_after : Graph → List Part → ℕ → Graph
stage_after old ps zero = old
stage_after old [] (suc k) = old
stage_after old (p ∷ ps) (suc k) = stage_after p.next ps k

-- part k removes, or creates, a node
abbrev pub RemovedBy : Graph → List Part → ℕ → Node → Type 0
RemovedBy old ps k n = (p : Part) × (slice_get ps k ≡ Some p) × IsAtOneOf (stage_after old ps k) p.plan.remove n

abbrev pub CreatedBy : Graph → List Part → ℕ → Node → Type 0
CreatedBy old ps k n = (p : Part) × (slice_get ps k ≡ Some p) × IsAtOneOf p.next p.plan.create n

-- exactly one number has a property
pub record StandsInOne (P : ℕ → Type 0) : Type 0 where
  pub part : ℕ
  pub stands : P part
  pub only : (k : ℕ) → P k → k ≡ part

-- the places in each part's plan are in range: of the stage before it, and of the one after it
abbrev pub ArePlansWithin : Graph → List Part → Type 0
ArePlansWithin stage [] = ⊤
ArePlansWithin stage (p ∷ ps) = IsPlanWithin stage p.next p.plan × ArePlansWithin p.next ps
