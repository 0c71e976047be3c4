-- What a scan sees of a world: a look at each port made, and a sight of each node made.
use Rattle.std.specs.Prelude.{ℕ, not, List, map, length, find, Option, slice_index_or, []}
use Rattle.std.specs.List.{range_with_len}
use Rattle.change_board.specs.Scans.{Found, all_ports, live_nodes}
use Rattle.change_board.specs.Sights.{Sight}
use Rattle.quiesce_core.specs.State.{State}
use Rattle.quiesce_core.specs.Words.{word_of}
use Rattle.quiesce_core.specs.declared.event.Event.{Event}
use Rattle.node_turn_laws.specs.Round.{is_done}
use Rattle.node_turn_laws.specs.World.{World}

abbrev pub found_at : State → ℕ → Found
found_at s p = record { port = p; word = word_of s p }

abbrev pub found_all : State → List Found
found_all s = map (found_at s) (all_ports s.config)

abbrev pub sight_of : List (List Event) → ℕ → Sight
sight_of logs n = record { slot = n; events = slice_index_or logs n [] }

abbrev pub sights_of : List (List Event) → List Sight
sights_of logs = map (sight_of logs) (range_with_len 0 (length logs))

-- the first live node that isn't done
abbrev pub first_undone_in : World → Option ℕ
first_undone_in w = find (λ n. not (is_done w n)) (live_nodes w.machine.config)
