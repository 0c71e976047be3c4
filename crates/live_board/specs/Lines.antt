-- The nodes of a line as they were sighted.
use Rattle.std.specs.Prelude.{◌≡◌, ⊤, ◌==◌, ℕ, Bool, true, List, [], ◌∷◌, ◌++◌, map, flat_map, Option, Some, None}
use Rattle.std.specs.List.{AllByRecursion, IsDistinct}
use Rattle.component_trait.specs.Making.{argument_or_0}
use Rattle.config_graph.specs.declared.kind.Kind.{Kind}
use Rattle.change_board.specs.Sights.{Sight}
use Rattle.live_hall.specs.Lines.{LinePlace}
use Rattle.node_host.specs.Lines.{LineNode}
use Rattle.quiesce_core.specs.State.{Configuration, is_live, slot}
use Rattle.quiesce_core.specs.declared.event.Event.{Event}
use Rattle.quiesce_core.specs.declared.state.Slot.{Slot}

-- a node of a line, with its events so far
pub record LineSight : Type 0 where
  pub slot : ℕ
  pub first : ℕ
  pub arg : ℕ
  pub log : List Event

-- as its host has it, as its door has it, and as the record has it
abbrev pub line_node : LineSight → LineNode
line_node x = record { first = x.first; arg = x.arg; log = x.log }

abbrev pub line_place : LineSight → LinePlace
line_place x = record { slot = x.slot; first = x.first; arg = x.arg }

abbrev pub line_sight : LineSight → Sight
line_sight x = record { slot = x.slot; events = x.log }

abbrev pub is_in_slot : ℕ → LineSight → Bool
is_in_slot n x = x.slot == n

-- the node was made so
pub record IsMadeSo (c : Configuration) (k : Kind) (from : Option ℕ) (x : LineSight) : Type 0 where
  pub made : Slot
  pub there : slot c x.slot ≡ Some made
  pub kind : made.node.kind ≡ k
  pub first : made.first_port ≡ x.first
  pub arg : argument_or_0 made.node.arg ≡ x.arg
  pub from_is : made.from ≡ from

-- and each of a line, the earliest first, took over from the one before it
abbrev pub IsMadeLine : Configuration → Kind → Option ℕ → List LineSight → Type 0
IsMadeLine c k from [] = ⊤
IsMadeLine c k from (x ∷ xs) = IsMadeSo c k from x × IsMadeLine c k (Some x.slot) xs

-- the line of a node: the earlier ones, and itself
pub record WholeLine : Type 0 where
  pub kind : Kind
  pub past : List LineSight
  pub last : LineSight

abbrev pub line_nodes : WholeLine → List LineSight
line_nodes l = l.past ++ l.last ∷ []

abbrev pub last_slot : WholeLine → ℕ
last_slot l = l.last.slot

-- it was made so, and its last node is live
pub record IsOfLiveNode (c : Configuration) (l : WholeLine) : Type 0 where
  pub made : IsMadeLine c l.kind None (line_nodes l)
  pub live : is_live c l.last.slot ≡ true

-- lines of live nodes, one of each, in any order
pub record AreOfLiveNodes (c : Configuration) (lines : List WholeLine) : Type 0 where
  pub each : AllByRecursion (IsOfLiveNode c) lines
  pub once : IsDistinct (λ (a b : ℕ). a == b) (map last_slot lines)

-- what was sighted of lines, one behind the other
abbrev pub line_sights : List WholeLine → List Sight
line_sights lines = flat_map (λ (l : WholeLine). map line_sight (line_nodes l)) lines
