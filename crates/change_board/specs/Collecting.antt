-- The logs of a board at its end.
use Rattle.std.specs.Prelude.{◌≡◌, ℕ, Bool, false, not, ◌==◌, List, map, length, find, position, slice_get, All, Option}
use Rattle.std.specs.List.{range_with_len}
use Rattle.std.specs.Option.{option_map_or}
use Rattle.change_spec.specs.Lawful.{EndsAs}
use Rattle.report_types.specs.declared.report.NodeLog.{NodeLog}
use Rattle.quiesce_core.specs.State.{Configuration}
use Rattle.quiesce_core.specs.declared.event.Event.{Event}
use Rattle.quiesce_core.specs.declared.state.Slot.{Slot}
use Rattle.change_board.specs.declared.board.Collected.{Collected}
use Rattle.txn_records.specs.Entries.{config_of}
use Rattle.txn_records.specs.declared.entry.Entry.{Entry}
use Rattle.txn_records.specs.Records.{Adds}
use Rattle.change_board.specs.Scans.{live_nodes}
use Rattle.change_board.specs.Sights.{Sight, fold_seen, is_seen_done, sight_entry}

-- the node that took over the state of the node in slot n
abbrev pub took_over : ℕ → Slot → Bool
took_over n m = option_map_or (λ k. k == n) m.from false

abbrev pub heir_of : Configuration → ℕ → Option ℕ
heir_of c n = position (took_over n) c.slots

-- a log ends with the numbers of its node's last state, or tells to which node the state went
abbrev pub IsEndOf : Configuration → List (List Event) → NodeLog → Type 0
IsEndOf c taken l = EndsAs (fold_seen c (slice_get taken) l.slot) (heir_of c l.slot) l.last

-- the first live node that isn't done
abbrev pub is_undone : Configuration → List (List Event) → ℕ → Bool
is_undone c taken n = not (is_seen_done c (slice_get taken) n)

abbrev pub first_undone : Configuration → List (List Event) → Option ℕ
first_undone c taken = find (is_undone c taken) (live_nodes c)

-- A board took in the logs of all nodes made, by slot, and gave copies of them.
pub record Collects {B : Type 0} (S : B → List Entry → Type 0) (old new : B) (taken : List (List Event)) (x : Collected)
    : Type 0 where
  pub sights : List Sight
  pub adds : Adds S old new (map sight_entry sights)
  pub events : map (λ (l : NodeLog). l.events) x.logs ≡ taken
  pub slots : (r : List Entry) → S old r
      → map (λ (l : NodeLog). l.slot) x.logs ≡ range_with_len 0 (length (config_of r).slots)
  pub ends : (r : List Entry) → S old r → All (IsEndOf (config_of r) taken) x.logs
  pub undone : (r : List Entry) → S old r → x.undone ≡ first_undone (config_of r) taken
