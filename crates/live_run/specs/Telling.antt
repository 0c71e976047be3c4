-- What lines of a history tell of the looks and scans that the transcript has before them.
use Rattle.std.specs.Prelude.{◌≡◌, ◌≤◌, ◌⊎◌, ⊤, ℕ, ℤ, false, true, List, [], ◌∷◌, ◌++◌, length, map}
use Rattle.std.specs.List.{AllByRecursion}
use Rattle.base.specs.Each.{Each}
use Rattle.change_board.specs.Scans.{Found, all_ports, ended_in, look_entry, ports_of}
use Rattle.change_board.specs.Transcripts.{Item, silent, told, said, entries}
use Rattle.change_engine.specs.Draining.{pending_items}
use Rattle.change_engine.specs.Finishing.{EndsAfter, IsScanIn, SawTwice, ScanSeen, all_entries, rounds_in}
use Rattle.change_engine.specs.Passivating.{IsPassivation, Passivation, left_after, silent_items}
use Rattle.change_engine.specs.Running.{RunsOn, are_enough, ended_since}
use Rattle.change_engine.specs.declared.passivating.LeftRoot.{LeftRoot}
use Rattle.change_transcript_laws.specs.Pieces.{config_at, opening_items}
use Rattle.report_types.specs.declared.report.HistoryLine.{HistoryLine}
use Rattle.report_types.specs.declared.report.HistoryLine.TheVariants as to

-- the last of these items is a line that is no entry
pub record EndsWithLine (t : List Item) : Type 0 where
  pub front : List Item
  pub line : HistoryLine
  pub parts : t ≡ front ++ said line ∷ []

-- So it is, or there are none: then all silent items that follow are behind the same line.
abbrev pub IsUpToLine : List Item → Type 0
IsUpToLine t = (t ≡ []) ⊎ EndsWithLine t

-- A run: a look at each port, and then scans, each at all ports, until k transactions ended or all was seen at rest. So
-- many more are seen as ended in the last scan than in the looks. Nothing else is between the line before it and its own.
pub record WereCounted (before : List Item) (k ended : ℕ) : Type 0 where
  pub front : List Item
  pub up_to_line : IsUpToLine front
  pub looks : List Found
  pub scans : List ScanSeen
  pub parts : before ≡ front ++ silent_items (map look_entry looks ++ all_entries scans)
  pub at_ports : ports_of looks ≡ all_ports (config_at front)
  pub are_scans : AllByRecursion (IsScanIn false (config_at front)) scans
  pub twice : Each (SawTwice (entries front ++ map look_entry looks)) scans
  pub go_on : Each (RunsOn false k (ended_in looks)) scans
  pub ends : are_enough false k (ended_in looks) scans ≡ true
  pub ended_is : ended ≡ ended_since (ended_in looks) scans

-- A finish: scans alone, n of them or until all was seen at rest. So many of them were rounds. Nothing else is between
-- the line before it and its own.
pub record WereScanned (before : List Item) (n rounds : ℕ) : Type 0 where
  pub front : List Item
  pub up_to_line : IsUpToLine front
  pub scans : List ScanSeen
  pub parts : before ≡ front ++ silent_items (all_entries scans)
  pub few : length scans ≤ n
  pub are_scans : AllByRecursion (IsScanIn false (config_at front)) scans
  pub twice : Each (SawTwice (entries front)) scans
  pub ends : EndsAfter false n scans
  pub rounds_are : rounds ≡ rounds_in scans

-- A root that is open: a change closed these ports and waited for all its rounds, the last look left these roots, and
-- those before it are told already.
pub record LastSaw (before : List Item) (p k : ℕ) : Type 0 where
  pub front : List Item
  pub name : List ℕ
  pub args : List ℤ
  pub closed : List ℕ
  pub within : ℕ
  pub how : Passivation
  pub is_passivation : IsPassivation closed within how
  pub all_rounds : length how.rounds ≡ within
  pub earlier : List LeftRoot
  pub later : List LeftRoot
  pub parts : before ≡ front ++ opening_items name args closed how ++ pending_items within earlier
  pub roots : left_after how.first how.rounds ≡ earlier ++ record { port = p; serial = k } ∷ later

-- a line of a run, of a finish or of an open root tells what was seen before it
abbrev pub IsSeenSo : List Item → HistoryLine → Type 0
IsSeenSo before (to.Run k ended) = WereCounted before k ended
IsSeenSo before (to.Finish n rounds) = WereScanned before n rounds
IsSeenSo before (to.Root p k) = LastSaw before p k
IsSeenSo before _ = ⊤

-- so does the line of an item, where it has one, by the items before it
abbrev pub IsSeenItem : List Item → Item → Type 0
IsSeenItem before (silent e) = ⊤
IsSeenItem before (told e l) = IsSeenSo before l
IsSeenItem before (said l) = IsSeenSo before l
