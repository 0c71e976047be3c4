-- To be believed (definitions.md).
-- What a record bears of a report: what the history of a report tells was done or seen, at its place.
use Rattle.std.specs.Prelude.{◌≡◌, ◌≤◌, ℕ, ◌+◌, Bool, true, false, ◌&&◌, ◌==◌, List, [], ◌∷◌, ◌++◌, Some, None, IsTrue}
use Rattle.std.specs.List.{count_by, list_all, list_any}
use Rattle.base.specs.Each.{Each}
use Rattle.change_spec.specs.Members.{event_of, is_close, is_root}
use Rattle.report_types.specs.declared.report.HistoryLine.{HistoryLine}
use Rattle.report_types.specs.declared.report.HistoryLine.TheVariants as to
use Rattle.quiesce_word.specs.Words.{has_root, unpack}
use Rattle.quiesce_core.specs.Rules.{is_live_port}
use Rattle.txn_records.specs.Entries.{config_of, event_in}
use Rattle.txn_records.specs.declared.entry.Entry.{Entry}
use Rattle.txn_records.specs.declared.entry.Entry.TheVariants.{Looked, Scanned}
use Rattle.txn_records.specs.Looks.{serial_of}
use Rattle.change_board.specs.Transcripts.{Item, silent, told, said, entries, lines, tells}

-- whether an entry is a look at this port, and one that loaded a root of this serial
abbrev pub looks_at : ℕ → Entry → Bool
looks_at p (Looked q w) = q == p
looks_at p _ = false

abbrev pub loads_root : ℕ → ℕ → Entry → Bool
loads_root p k (Looked q w) = q == p && (has_root (unpack w) && serial_of w == k)
loads_root p k _ = false

-- whether an entry is the mark of a scan
abbrev pub is_scan : Entry → Bool
is_scan (Scanned b m) = true
is_scan _ = false

-- Behind the last close and before the line on how many rounds were made, at least one look more than these rounds
-- loaded root k of port p; one of them behind the last scan.
pub record SawRoot (before : List Item) (p k : ℕ) : Type 0 where
  pub front : List Item
  pub since : List Item
  pub roots : List Item
  pub rounds : ℕ
  pub parts : before ≡ front ++ since ++ said (to.Pending rounds) ∷ roots
  pub only_roots : list_all is_root (lines roots) ≡ true
  pub behind_closes : list_any is_close (lines since) ≡ false
  pub enough : rounds + 1 ≤ count_by (loads_root p k) (entries since)
  pub earlier : List Item
  pub word : ℕ
  pub later : List Item
  pub last : since ≡ earlier ++ silent (Looked p word) ∷ later
  pub loads : loads_root p k (Looked p word) ≡ true
  pub no_scan_behind : list_any is_scan (entries later) ≡ false

-- whether an entry is the mark of a scan in which no node begins a transaction
abbrev pub is_waiting_scan : Entry → Bool
is_waiting_scan (Scanned false moved) = true
is_waiting_scan _ = false

-- behind the last close, at least so many scans were made in which no node begins a transaction
pub record HadRounds (before : List Item) (rounds : ℕ) : Type 0 where
  pub front : List Item
  pub since : List Item
  pub parts : before ≡ front ++ since
  pub behind_closes : list_any is_close (lines since) ≡ false
  pub enough : rounds ≤ count_by is_waiting_scan (entries since)

-- since the line before, each live port was looked at at least so often
pub record WereLookedAt (before : List Item) (rounds : ℕ) : Type 0 where
  pub front : List Item
  pub since : List Item
  pub parts : before ≡ front ++ since
  pub no_line : lines since ≡ []
  pub enough : (p : ℕ) → IsTrue (is_live_port (config_of (entries before)) p)
      → rounds ≤ count_by (looks_at p) (entries since)

-- a line that is no event, and tells of no look
abbrev pub IsAside : HistoryLine → Type 0
IsAside (to.Drained p k) = ⊥
IsAside l = event_of l ≡ None

-- no event is left out, what is told is so, and what is said beside was seen as often as it says
abbrev pub IsBorne : List Item → Item → Type 0
IsBorne before (silent x) = event_in x ≡ None
IsBorne before (told x l) = tells x ≡ Some l
IsBorne before (said (to.Pending rounds)) = HadRounds before rounds
IsBorne before (said (to.Root p k)) = SawRoot before p k
IsBorne before (said (to.Finish n rounds)) = WereLookedAt before rounds
IsBorne before (said l) = IsAside l

-- The least of it, which is enough for the events: none is left out, what is told is so, and what is said beside is none.
abbrev pub IsToldSo : Item → Type 0
IsToldSo (silent x) = event_in x ≡ None
IsToldSo (told x l) = tells x ≡ Some l
IsToldSo (said l) = event_of l ≡ None

-- the record bears the history of a report
pub record Bears (r : List Entry) (history : List HistoryLine) : Type 0 where
  pub items : List Item
  pub entries_are : entries items ≡ r
  pub lines_are : lines items ≡ history
  pub borne : Each IsBorne items
