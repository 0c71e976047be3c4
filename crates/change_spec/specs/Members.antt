-- To be believed (definitions.md).
-- A run with changes as one list: of nodes' events, and of lines of the history, among which are the events of the
-- change.
use Rattle.std.specs.Prelude.{ℕ, Bool, true, false, not, List, Option, Some, None, filter, filter_map}
use Rattle.quiesce_core.specs.declared.event.Event.{Event}
use Rattle.quiesce_core.specs.declared.event.Event.TheVariants as event
use Rattle.quiesce_core.specs.State.{State}
use Rattle.quiesce_core.specs.Runs.{state_after}
use Rattle.report_types.specs.declared.report.HistoryLine.{HistoryLine}
use Rattle.report_types.specs.declared.report.HistoryLine.TheVariants.{Make, Link, Unlink, Remove, Close, Reopen, Commit, Pending, Root}

-- the event that a line is
abbrev pub event_of : HistoryLine → Option Event
event_of (Make n made from) = Some (event.Make n made from)
event_of (Link p n x) = Some (event.Link p n x)
event_of (Unlink p) = Some (event.Unlink p)
event_of (Remove n) = Some (event.Remove n)
event_of (Close p) = Some (event.Close p)
event_of (Reopen p) = Some (event.Reopen p)
event_of _ = None

-- the line of an event of the change
abbrev pub line_of : Event → Option HistoryLine
line_of (event.Make n made from) = Some (Make n made from)
line_of (event.Link p n x) = Some (Link p n x)
line_of (event.Unlink p) = Some (Unlink p)
line_of (event.Remove n) = Some (Remove n)
line_of (event.Close p) = Some (Close p)
line_of (event.Reopen p) = Some (Reopen p)
line_of _ = None

abbrev pub lines_of_events : List Event → List HistoryLine
lines_of_events es = filter_map line_of es

pub data Member : Type 0 where
  by_node : Event → Member
  of_history : HistoryLine → Member

abbrev pub event_in : Member → Option Event
event_in (by_node e) = Some e
event_in (of_history l) = event_of l

abbrev pub line_in : Member → Option HistoryLine
line_in (by_node e) = None
line_in (of_history l) = Some l

-- the events, and the lines, of such a list
abbrev pub events : List Member → List Event
events m = filter_map event_in m

abbrev pub lines : List Member → List HistoryLine
lines m = filter_map line_in m

-- the state at a place of it
abbrev pub state_at : List Member → State
state_at m = state_after (events m)

abbrev pub is_root : HistoryLine → Bool
is_root (Root p k) = true
is_root _ = false

abbrev pub is_close : HistoryLine → Bool
is_close (Close p) = true
is_close _ = false

abbrev pub is_commit : HistoryLine → Bool
is_commit Commit = true
is_commit _ = false

abbrev pub is_pending : HistoryLine → Bool
is_pending (Pending r) = true
is_pending _ = false

-- the history without the lines on what was still open
abbrev pub without_roots : List HistoryLine → List HistoryLine
without_roots history = filter (λ l. not (is_root l)) history

-- the slot of the node that a line makes
abbrev pub made_slot : HistoryLine → Option ℕ
made_slot (Make n made from) = Some n
made_slot _ = None
