use Rattle.std.proofs.Common.{◌≡◌, ◌-◌}
use Rattle.std.specs.Prelude.{filter, find, not}
use Rattle.std.specs.List.{range_with_len}
use Rattle.quiesce_core.specs.State.{is_live}
use Rattle.step_board.specs.Seeing.{first_undone_in}
use Rattle.node_turn_laws.specs.Round.{is_done}
use Rattle.node_turn_laws.specs.World.{World}
use Rattle.step_board.proofs.scanning.first_undone.Given as goal

-- the first of all is the first of those from this slot on
abbrev pub invariant-loop-slot : goal.invariant-loop-slot
invariant-loop-slot g l = (w : World) → g.N.Nodes.shows l.nodes w
    → first_undone_in w ≡ find (λ n. not (is_done w n)) (filter (is_live w.machine.config) (range_with_len l.slot (l.made - l.slot)))
