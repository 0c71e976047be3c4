-- To be believed (definitions.md).
-- What was told and what was done, as one list: items of a transcript and moments of a run that have the same entries
-- are joined so that each entry stands once. The members of a lawful report are those of such a list.
use Rattle.std.specs.Prelude.{◌≡◌, List, filter_map, Option, Some, None, if◌then◌else◌}
use Rattle.quiesce_core.specs.declared.event.Event.{Event}
use Rattle.report_types.specs.declared.report.HistoryLine.{HistoryLine}
use Rattle.change_spec.specs.Members as members
use Rattle.change_spec.specs.Members.{Member, is_root}
use Rattle.txn_records.specs.declared.entry.Entry.{Entry}
use Rattle.txn_records.specs.Records as records
use Rattle.txn_records.specs.Records.{Moment}
use Rattle.change_board.specs.Transcripts as transcripts
use Rattle.change_board.specs.Transcripts.{Item}

-- an event of a node, a line that is no entry, or an entry with its line, if it has one
pub data Joint : Type 0 where
  of_node : Event → Joint
  of_line : HistoryLine → Joint
  of_entry : Entry → Option HistoryLine → Joint

abbrev pub item_of : Joint → Option Item
item_of (of_node e) = None
item_of (of_line l) = Some (transcripts.said l)
item_of (of_entry x None) = Some (transcripts.silent x)
item_of (of_entry x (Some l)) = Some (transcripts.told x l)

abbrev pub moment_of : Joint → Option Moment
moment_of (of_node e) = Some (records.by_node e)
moment_of (of_line l) = None
moment_of (of_entry x o) = Some (records.entry x)

-- a line but one on what was open
abbrev pub line_member : HistoryLine → Option Member
line_member l = if is_root l then None else Some (members.of_history l)

abbrev pub member_of : Joint → Option Member
member_of (of_node e) = Some (members.by_node e)
member_of (of_line l) = line_member l
member_of (of_entry x None) = None
member_of (of_entry x (Some l)) = line_member l

abbrev pub items_in : List Joint → List Item
items_in js = filter_map item_of js

abbrev pub moments_in : List Joint → List Moment
moments_in js = filter_map moment_of js

abbrev pub members_in : List Joint → List Member
members_in js = filter_map member_of js

pub record AreJoined (t : List Item) (m : List Moment) (ms : List Member) : Type 0 where
  pub joint : List Joint
  pub items_are : items_in joint ≡ t
  pub moments_are : moments_in joint ≡ m
  pub members_are : members_in joint ≡ ms
