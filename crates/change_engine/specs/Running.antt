-- To be believed (definitions.md).
-- How a system is run until so many transactions have ended: looks at all ports, and then scans in which nodes may
-- begin transactions.
use Rattle.std.specs.Prelude.{◌≡◌, ◌-◌, ℕ, Bool, true, false, not, ◌||◌, nat_le, List, fold, map, if◌then◌else◌}
use Rattle.std.specs.List.{AllByRecursion, range_with_len}
use Rattle.base.specs.Each.{Each}
use Rattle.change_board.specs.declared.board.Board.{Ghosts as BoardWords}
use Rattle.change_board.specs.declared.board.Scan.{Scan}
use Rattle.txn_records.specs.declared.looking.Look.{Look}
use Rattle.txn_records.specs.declared.looking.Look.TheVariants.{Drained, Busy}
use Rattle.txn_records.specs.Entries.{config_of}
use Rattle.txn_records.specs.declared.entry.Entry.{Entry}
use Rattle.txn_records.specs.Looks.{ended_in_word}
use Rattle.txn_records.specs.Records.{Adds}
use Rattle.change_board.specs.Scans.{Found, ended_in, look_entry, ports_of}
use Rattle.change_engine.specs.Finishing.{IsScanIn, SawTwice, ScanSeen, all_entries}

-- how many transactions a look shows as ended
abbrev pub ended_by : Look → ℕ
ended_by (Drained k idle) = if idle then k else k - 1
ended_by (Busy w) = ended_in_word w

-- None follows a scan that moved nothing where nodes take turns in scans alone; elsewhere, none that saw all at rest.
abbrev pub ends_run : Bool → Scan → Bool
ends_run alone s = if alone then not s.moved else s.done

-- how many ended from the looks, which showed so many as ended, to the last of the scans
abbrev pub ended_since : ℕ → List ScanSeen → ℕ
ended_since shown scans = fold (λ n (w : ScanSeen). w.answer.ended - shown) 0 scans

abbrev pub is_out_after : Bool → List ScanSeen → Bool
is_out_after alone scans = fold (λ b (w : ScanSeen). ends_run alone w.answer) false scans

abbrev pub are_enough : Bool → ℕ → ℕ → List ScanSeen → Bool
are_enough alone k shown scans = nat_le k (ended_since shown scans) || is_out_after alone scans

-- each scan is made where the run doesn't end before it
abbrev pub RunsOn : Bool → ℕ → ℕ → List ScanSeen → ScanSeen → Type 0
RunsOn alone k shown before w = are_enough alone k shown before ≡ false

-- a look at each of the first so many ports, and how many transactions they show as ended
pub record Counts {B : Type 0} (words : BoardWords B) (old new : B) (ports ended : ℕ) : Type 0 where
  pub looks : List Found
  pub at_ports : ports_of looks ≡ range_with_len 0 ports
  pub ended_is : ended ≡ ended_in looks
  pub adds : Adds words.stands_for old new (map look_entry looks)

-- scans until the run ends
pub record ScansUntil {B : Type 0} (words : BoardWords B) (old new : B) (shown k ended : ℕ) : Type 0 where
  pub scans : List ScanSeen
  pub are_scans : (r : List Entry) → words.stands_for old r → AllByRecursion (IsScanIn words.alone (config_of r)) scans
  pub twice : words.alone ≡ false → (r : List Entry) → words.stands_for old r → Each (SawTwice r) scans
  pub go_on : Each (RunsOn words.alone k shown) scans
  pub ends : are_enough words.alone k shown scans ≡ true
  pub ended_is : ended ≡ ended_since shown scans
  pub adds : Adds words.stands_for old new (all_entries scans)
