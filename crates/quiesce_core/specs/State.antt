-- To be believed (definitions.md).
-- A state of a system that is changed while it runs: a configuration, which the change alone alters, and the traffic
-- in it, which the nodes alone alter. Nodes are named by their slots and ports by their numbers, through all nodes
-- made. Look-ups are total: what was not made looks fresh, that is closed, idle, unlinked and with serial 0, and
-- services nothing.
use Rattle.std.specs.Prelude.{ℕ, Bool, true, false, List, [], length, Option, None, slice_get, slice_index_or, option_and_then}
use Rattle.std.specs.List.{range_with_len}
use Rattle.std.specs.Option.{option_map_or}
use Rattle.config_graph.specs.Kinds.{row, depends_on, is_depended_on, calls_of, mores_of}
use Rattle.config_graph.specs.declared.node.Target.{Target}
use Rattle.quiesce_core.specs.declared.state.Slot.{Slot}
use Rattle.quiesce_core.specs.declared.state.Gate.{Gate}
use Rattle.quiesce_core.specs.declared.state.Exchange.{Exchange}
use Rattle.quiesce_core.specs.declared.state.Service.{Service}
use Rattle.quiesce_word.specs.declared.phase.Phase.TheVariants.{Idle}

-- the nodes made, by slot, and the ports made, by number
pub record Configuration : Type 0 where
  pub slots : List Slot
  pub gates : List Gate

-- what each node made services, and what is done at each port made
pub record Traffic : Type 0 where
  pub services : List (Option Service)
  pub exchanges : List Exchange

pub record State : Type 0 where
  pub config : Configuration
  pub traffic : Traffic

-- nothing is made
abbrev pub empty : State
empty = record { config = record { slots = []; gates = [] }; traffic = record { services = []; exchanges = [] } }

abbrev pub fresh_gate : Gate
fresh_gate = record { owner = 0; require = 0; closed = true; target = None }

abbrev pub fresh_exchange : Exchange
fresh_exchange = record { phase = Idle; serial = 0; value = 0; within = None }

-- the node made in a slot
abbrev pub slot : Configuration → ℕ → Option Slot
slot c n = slice_get c.slots n

abbrev pub is_live : Configuration → ℕ → Bool
is_live c n = option_map_or (λ (m : Slot). m.live) (slot c n) false

-- the ports of a node, in the order of its requirements
abbrev pub ports_of : Configuration → ℕ → List ℕ
ports_of c n = option_map_or (λ (m : Slot). range_with_len m.first_port (length (row m.node.kind).requires_)) (slot c n) []

abbrev pub gate : Configuration → ℕ → Gate
gate c p = slice_index_or c.gates p fresh_gate

abbrev pub owner : Configuration → ℕ → ℕ
owner c p = (gate c p).owner

abbrev pub target : Configuration → ℕ → Option Target
target c p = (gate c p).target

-- the provision to which a port is linked
abbrev pub provision : Configuration → ℕ → ℕ
provision c p = option_map_or (λ (t : Target). t.provide) (target c p) 0

-- how many services a node provides, and how many calls and intermediate replies one service by a provision makes at
-- most
abbrev pub provides : Configuration → ℕ → ℕ
provides c n = option_map_or (λ (m : Slot). length (row m.node.kind).provides) (slot c n) 0

abbrev pub calls_allowed : Configuration → ℕ → ℕ → ℕ
calls_allowed c n x = option_map_or (λ (m : Slot). calls_of m.node.kind x) (slot c n) 0

abbrev pub mores_allowed : Configuration → ℕ → ℕ → ℕ
mores_allowed c n x = option_map_or (λ (m : Slot). mores_of m.node.kind x) (slot c n) 0

-- whether provision x of node n, and whether some provision of it, depends on n's port p
abbrev pub depends : Configuration → ℕ → ℕ → ℕ → Bool
depends c n x p = option_map_or (λ (m : Slot). depends_on m.node.kind x (gate c p).require) (slot c n) false

abbrev pub is_depended : Configuration → ℕ → ℕ → Bool
is_depended c n p = option_map_or (λ (m : Slot). is_depended_on m.node.kind (gate c p).require) (slot c n) false

abbrev pub exchange : State → ℕ → Exchange
exchange s p = slice_index_or s.traffic.exchanges p fresh_exchange

-- what a node services
abbrev pub service : State → ℕ → Option Service
service s n = slice_index_or s.traffic.services n None

-- what the node to which a port is linked services
abbrev pub target_service : State → ℕ → Option Service
target_service s p = option_and_then (λ (t : Target). service s t.node) (target s.config p)
