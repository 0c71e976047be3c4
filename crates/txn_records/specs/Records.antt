-- To be believed (definitions.md).
-- Records: lists of entries from the beginning on. Of which runs they are the records, and what a change may do
-- by them.
use Rattle.std.specs.Prelude.{◌≡◌, ⊤, ℕ, true, false, List, ◌++◌, All, filter_map, Option, Some, None, IsTrue}
use Rattle.base.specs.Each.{Each}
use Rattle.quiesce_laws.specs.Steps.{MayStep}
use Rattle.quiesce_core.specs.declared.event.Event.{Event}
use Rattle.quiesce_core.specs.Doers.{is_of_change}
use Rattle.quiesce_core.specs.Rules.{is_live_port}
use Rattle.quiesce_core.specs.Runs.{IsRun, done_by, state_after}
use Rattle.quiesce_core.specs.State.{State}
use Rattle.quiesce_core.specs.Words.{word_of}
use Rattle.txn_records.specs.Entries.{config_of, event_in}
use Rattle.txn_records.specs.declared.entry.Entry.{Entry}
use Rattle.txn_records.specs.declared.entry.Entry.TheVariants.{Did, Looked, Sighted, Scanned}
use Rattle.txn_records.specs.Notes.{is_noted}

-- a moment of a run: an event of a node, or an entry
pub data Moment : Type 0 where
  by_node : Event → Moment
  entry : Entry → Moment

abbrev pub event_at : Moment → Option Event
event_at (by_node e) = Some e
event_at (entry x) = event_in x

abbrev pub entry_at : Moment → Option Entry
entry_at (by_node e) = None
entry_at (entry x) = Some x

abbrev pub events : List Moment → List Event
events m = filter_map event_at m

abbrev pub entries : List Moment → List Entry
entries m = filter_map entry_at m

abbrev pub state_at : List Moment → State
state_at m = state_after (events m)

-- nodes do nodes' events and the change its own; a look loads the port's word, and a sight shows all that the node did
abbrev pub IsSo : List Moment → Moment → Type 0
IsSo before (by_node e) = is_of_change e ≡ false
IsSo before (entry (Did e)) = is_of_change e ≡ true
IsSo before (entry (Looked p w)) = w ≡ word_of (state_at before) p
IsSo before (entry (Sighted n es)) = es ≡ done_by n (events before)
IsSo before (entry (Scanned b m)) = ⊤

-- the record of a run that has these moments
pub record IsRecordOf (r : List Entry) (m : List Moment) : Type 0 where
  pub record_is : entries m ≡ r
  pub runs : IsRun (events m)
  pub so : Each IsSo m

pub record IsRecord (r : List Entry) : Type 0 where
  pub moments : List Moment
  pub is_of : IsRecordOf r moments

-- the record of the front of a run, whose last events are nodes' and follow the record's last entry; a call that
-- broke off may have let nodes take turns
pub record IsRecordCut (r : List Entry) : Type 0 where
  pub moments : List Moment
  pub later : List Event
  pub is_of : IsRecordOf r moments
  pub by_nodes : All (λ e. is_of_change e ≡ false) later
  pub runs_on : IsRun (events moments ++ later)

-- what a change may do, by the configuration that the record makes and the ports that it notes
abbrev pub May : List Entry → Event → Type 0
May r e = MayStep (is_noted r) (config_of r) e

-- every port of a live node is noted
abbrev pub AreAllNoted : List Entry → Type 0
AreAllNoted r = (p : ℕ) → IsTrue (is_live_port (config_of r) p) → IsTrue (is_noted r p)

-- a board that stood for a record stands for it with these entries added
abbrev pub Adds : {B : Type 0} → (B → List Entry → Type 0) → B → B → List Entry → Type 0
Adds S old new es = (r : List Entry) → S old r → S new (r ++ es)
