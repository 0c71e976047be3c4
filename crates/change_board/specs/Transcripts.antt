-- To be believed (definitions.md).
-- Transcripts: entries of a board's record and lines of a history in one order, since some are both.
use Rattle.std.specs.Prelude.{List, filter_map, Option, Some, None, if◌then◌else◌}
use Rattle.change_spec.specs.Members.{line_of}
use Rattle.report_types.specs.declared.report.HistoryLine.{HistoryLine}
use Rattle.report_types.specs.declared.report.HistoryLine.TheVariants as to
use Rattle.txn_records.specs.declared.entry.Entry.{Entry}
use Rattle.txn_records.specs.declared.entry.Entry.TheVariants.{Did, Looked, Sighted, Scanned}
use Rattle.txn_records.specs.Looks.{is_drained_word, serial_of}

-- an entry of which the history says nothing, one that it tells, and a line that is no entry
pub data Item : Type 0 where
  silent : Entry → Item
  told : Entry → HistoryLine → Item
  said : HistoryLine → Item

abbrev pub entry_in : Item → Option Entry
entry_in (silent e) = Some e
entry_in (told e l) = Some e
entry_in (said l) = None

abbrev pub line_in : Item → Option HistoryLine
line_in (silent e) = None
line_in (told e l) = Some l
line_in (said l) = Some l

abbrev pub entries : List Item → List Entry
entries t = filter_map entry_in t

abbrev pub lines : List Item → List HistoryLine
lines t = filter_map line_in t

-- the line that tells an entry: an event of the change, or a look that found a port drained
abbrev pub tells : Entry → Option HistoryLine
tells (Did e) = line_of e
tells (Looked p w) = if is_drained_word w then Some (to.Drained p (serial_of w)) else None
tells (Sighted n es) = None
tells (Scanned b m) = None
