-- A table of nodes as a board wants them: what the laws of `Nodes` rest on.
use Rattle.std.proofs.Common.{◌≡◌, ◌∙◌, ℕ, List, length, map, sym, ap}
use Rattle.std.specs.Prelude.{Option, Some, None}
use Rattle.std.specs.List.{range_with_len}
use Rattle.component_trait.specs.States.{NodeState}
use Rattle.node_host.specs.declared.turning.Turn.{Turn}
use Rattle.node_host.specs.declared.turning.Turn.TheVariants.{Moved, Still}
use Rattle.step_board.specs.LogFacts as of_logs
use Rattle.step_board.specs.Table.{ShowsWorld, entries, logs, machine}
use Rattle.step_board.specs.declared.table.NodeTable.{NodeTable}
use Rattle.port_queue.specs.declared.plain.PlainHints.{PlainHints}
use Rattle.quiesce_core.specs.Runs.{done_by}
use Rattle.quiesce_core.specs.State.{State}
use Rattle.quiesce_core.specs.declared.event.Event.{Event}
use Rattle.state_handover.specs.declared.any_node.AnyNode.{AnyNode}
use Rattle.node_turn_laws.specs.Reached.{IsReached}
use Rattle.node_turn_laws.specs.World.{World}

-- the event of a turn that moved
abbrev pub event_in : Turn → Option Event
event_in (Moved e) = Some e
event_in Still = None

module _ (state_of : AnyNode → NodeState) (tells : PlainHints → ℕ → Option (List ℕ)) (t : NodeTable) (w : World) (h : ShowsWorld state_of tells t w) where
  pub is_reached : IsReached w
  is_reached = h.reached

  pub machine_is : w.machine ≡ machine t
  machine_is = h.machine

  pub logs_are : logs state_of t ≡ map (λ n. done_by n w.events) (range_with_len 0 (length w.machine.config.slots))
  logs_are =
      of_logs.logs_are (machine t) (entries state_of t) t.line_ends.items w.events h.holds
      ∙ ap (λ (s : State). map (λ n. done_by n w.events) (range_with_len 0 (length s.config.slots))) (sym (h.machine ∙ h.holds.state))
