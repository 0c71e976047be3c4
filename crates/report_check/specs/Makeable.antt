-- Which lines of a history make nodes that may be made, by the lines before them.
use Rattle.std.specs.Prelude.{⊤, ℕ, Bool, true, false, not, ◌&&◌, List, Option, is_none, IsTrue}
use Rattle.std.specs.Option.{option_map_or}
use Rattle.config_graph.specs.declared.node.Node.{Node}
use Rattle.quiesce_core.specs.declared.state.Slot.{Slot}
use Rattle.quiesce_core.specs.Rules.{has_its_argument, has_room}
use Rattle.quiesce_core.specs.State.{slot}
use Rattle.report_types.specs.declared.report.HistoryLine.{HistoryLine}
use Rattle.report_types.specs.declared.report.HistoryLine.TheVariants as to
use Rattle.change_spec.specs.Endings.{moved_to}
use Rattle.change_spec.specs.Scene.{config_after}

-- whether a node was removed, and its state went to none
abbrev pub is_left_over : List HistoryLine → ℕ → Bool
is_left_over before k =
    option_map_or (λ (m : Slot). not m.live && is_none (moved_to before k)) (slot (config_after before) k) false

-- the slot is the next and there is room, the argument is the kind's, and what it takes over is left over
abbrev pub is_makeable : List HistoryLine → ℕ → Node → Option ℕ → Bool
is_makeable before n node from =
    has_room (config_after before) n node && has_its_argument node && option_map_or (is_left_over before) from true

abbrev pub IsMakeable : List HistoryLine → HistoryLine → Type 0
IsMakeable before (to.Make n node from) = IsTrue (is_makeable before n node from)
IsMakeable before _ = ⊤
