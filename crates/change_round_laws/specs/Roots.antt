-- Which roots the `open` lines of a report of rounds name: those that the last look of their change saw.
use Rattle.std.specs.Prelude.{◌≡◌, ℕ, true, false, List, [], map, filter, IsTrue}
use Rattle.std.specs.List.{list_any}
use Rattle.change_spec.specs.Members.{is_pending, is_root}
use Rattle.change_spec.specs.Scene.{root_line}
use Rattle.change_spec.specs.Serial.{ChangesTo, Played, lines_played, seen_at, world_after}
use Rattle.change_spec.specs.Statements.{Statement, change}
use Rattle.report_types.specs.declared.report.HistoryLine.{HistoryLine}
use Rattle.quiesce_laws.specs.Lists.{In}
use Rattle.quiesce_core.specs.State.{exchange}
use Rattle.quiesce_laws.specs.Roots.{has_root}
use Rattle.node_turn_laws.specs.World.{World}

abbrev pub roots_in : List HistoryLine → List HistoryLine
roots_in lines = filter is_root lines

-- These lines name each port that is left in this world, and no other, with the root that stands there.
pub record NameWhatIsLeft (lines : List HistoryLine) (v : World) (left : List ℕ) : Type 0 where
  pub named : roots_in lines ≡ map root_line (map (seen_at v) left)
  pub stand : (p : ℕ) → In left p → IsTrue (has_root v.machine p (exchange v.machine p).serial)

-- A change that is tried names what its last look left; no other statement names a root.
abbrev pub NamesWhatIsOpen : List HistoryLine → World → Statement → List HistoryLine → World → Type 0
NamesWhatIsOpen before w (change name args g within moves) lines v =
    (list_any is_pending before ≡ true → roots_in lines ≡ [])
    × (list_any is_pending before ≡ false → (c : ChangesTo w name args g within moves lines v)
    → NameWhatIsLeft lines c.at_end c.found.left)
NamesWhatIsOpen before w _ lines v = roots_in lines ≡ []

abbrev pub NamesRoots : List Played → Played → Type 0
NamesRoots before p = NamesWhatIsOpen (lines_played before) (world_after before) p.statement p.lines p.world
