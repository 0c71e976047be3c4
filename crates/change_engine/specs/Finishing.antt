-- To be believed (definitions.md).
-- How a system is run until it is done: scans in which nodes may begin transactions.
use Rattle.std.specs.Prelude.{◌≡◌, ◌⊎◌, ◌≤◌, ℕ, Bool, true, false, not, ◌&&◌, ◌||◌, List, [], ◌∷◌, ◌++◌, flat_map, length, if◌then◌else◌}
use Rattle.std.specs.List.{AllByRecursion, sum_by}
use Rattle.base.specs.Each.{Each}
use Rattle.report_types.specs.declared.report.HistoryLine.TheVariants as to
use Rattle.quiesce_core.specs.State.{Configuration}
use Rattle.change_board.specs.declared.board.Board.{Ghosts as BoardWords}
use Rattle.change_board.specs.declared.board.Scan.{Scan}
use Rattle.txn_records.specs.Entries.{config_of}
use Rattle.txn_records.specs.declared.entry.Entry.{Entry}
use Rattle.txn_records.specs.Records.{Adds}
use Rattle.change_board.specs.Scans.{Found, IsSeenTwice, SightsAll, all_ports, ended_in, is_seen_at_rest, ports_of, scan_entries}
use Rattle.change_board.specs.Sights.{Sight}
use Rattle.change_board.specs.Transcripts.{said}
use Rattle.change_engine.specs.Growing.{Grew, Telling}
use Rattle.change_engine.specs.Passivating.{silent_items}

-- a scan, by what it answered and saw
pub record ScanSeen : Type 0 where
  pub answer : Scan
  pub sights : List Sight
  pub found : List Found

abbrev pub seen_entries : ScanSeen → List Entry
seen_entries w = scan_entries true w.answer.moved w.sights w.found

abbrev pub all_entries : List ScanSeen → List Entry
all_entries scans = flat_map seen_entries scans

-- the answer tells what was seen, in this configuration; on a board that is alone, each node was seen, and it is exact
pub record IsScanIn (alone : Bool) (c : Configuration) (w : ScanSeen) : Type 0 where
  pub all_sighted : alone ≡ true → SightsAll c w.sights
  pub at_ports : ports_of w.found ≡ all_ports c
  pub done : alone ≡ true → w.answer.done ≡ is_seen_at_rest c w.sights w.found
  pub at_rest : w.answer.done ≡ true → is_seen_at_rest c w.sights w.found ≡ true
  pub ended : w.answer.ended ≡ ended_in w.found

-- Behind such a record, a scan that answers that all is at rest saw the same as the scan before it: so it is on a board
-- that isn't alone.
abbrev pub SawTwice : List Entry → List ScanSeen → ScanSeen → Type 0
SawTwice r before w = w.answer.done ≡ true → IsSeenTwice (r ++ all_entries before) w.sights

-- a scan that moved nothing and saw all at rest is no round
abbrev pub count_of : Scan → ℕ
count_of s = if not s.moved && s.done then 0 else 1

abbrev pub rounds_in : List ScanSeen → ℕ
rounds_in scans = sum_by (λ (w : ScanSeen). count_of w.answer) scans

-- none follows a scan that saw all at rest, nor one that moved nothing where nodes take turns in scans alone
abbrev pub ends_finish : Bool → Scan → Bool
ends_finish alone s = s.done || (alone && not s.moved)

abbrev pub ScansGoOn : Bool → ScanSeen → Type 0
ScansGoOn alone w = ends_finish alone w.answer ≡ false

-- some of these scans was the last, or so many were made
pub record EndsWith (alone : Bool) (scans : List ScanSeen) : Type 0 where
  pub before : List ScanSeen
  pub final : ScanSeen
  pub parts : scans ≡ before ++ final ∷ []
  pub go_on : AllByRecursion (ScansGoOn alone) before
  pub ends : ends_finish alone final.answer ≡ true

abbrev pub EndsAfter : Bool → ℕ → List ScanSeen → Type 0
EndsAfter alone n scans = EndsWith alone scans ⊎ ((length scans ≡ n) × AllByRecursion (ScansGoOn alone) scans)

-- at most so many scans
pub record Scans {B : Type 0} (words : BoardWords B) (old new : B) (n rounds : ℕ) : Type 0 where
  pub scans : List ScanSeen
  pub few : length scans ≤ n
  pub are_scans : (r : List Entry) → words.stands_for old r → AllByRecursion (IsScanIn words.alone (config_of r)) scans
  pub twice : words.alone ≡ false → (r : List Entry) → words.stands_for old r → Each (SawTwice r) scans
  pub rounds_are : rounds ≡ rounds_in scans
  pub ends : EndsAfter words.alone n scans
  pub adds : Adds words.stands_for old new (all_entries scans)

-- and the line that tells how many of them were rounds
pub record Finished {B : Type 0} (words : BoardWords B) (old new : Telling B) (n rounds : ℕ) : Type 0 where
  pub scans : List ScanSeen
  pub few : length scans ≤ n
  pub are_scans : (r : List Entry) → words.stands_for old.board r → AllByRecursion (IsScanIn words.alone (config_of r)) scans
  pub twice : words.alone ≡ false → (r : List Entry) → words.stands_for old.board r → Each (SawTwice r) scans
  pub rounds_are : rounds ≡ rounds_in scans
  pub ends : EndsAfter words.alone n scans
  pub grew : Grew words old new (silent_items (all_entries scans) ++ said (to.Finish n rounds) ∷ [])
