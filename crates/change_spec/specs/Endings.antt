-- To be believed (definitions.md).
-- How a report ends: to which node a state went, and with which status.
use Rattle.std.specs.Prelude.{ℕ, Bool, false, ◌==◌, List, find, filter_map, Option, is_some, if◌then◌else◌}
use Rattle.std.specs.List.{list_any}
use Rattle.std.specs.Option.{option_map_or}
use Rattle.report_types.specs.declared.report.HistoryLine.{HistoryLine}
use Rattle.report_types.specs.declared.report.HistoryLine.TheVariants as to
use Rattle.change_spec.specs.Members.{is_pending, made_slot}

-- the node to which a slot's state was handed over
abbrev pub is_made_from : ℕ → ℕ → HistoryLine → Bool
is_made_from n j (to.Make i made from) = if i == j then option_map_or (λ k. k == n) from false else false
is_made_from n j _ = false

abbrev pub moved_to : List HistoryLine → ℕ → Option ℕ
moved_to history n = find (λ j. list_any (is_made_from n j) history) (filter_map made_slot history)

-- 7 where a change was given up, else 8 where a node is named that wasn't done, else 0
abbrev pub status_of : List HistoryLine → Option ℕ → ℕ
status_of history unfinished = if list_any is_pending history then 7 else if is_some unfinished then 8 else 0
