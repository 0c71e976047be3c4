-- To be believed (definitions.md).
-- What each call of an engine does: the transcript that it adds, with all that it saw.
use Rattle.std.specs.Prelude.{◌≡◌, ◌≤◌, ◌<◌, ◌-◌, ◌^◌, ℕ, ℤ, true, false, List, [], ◌∷◌, ◌++◌, map, flat_map, length}
use Rattle.std.specs.List.{AllByRecursion}
use Rattle.base.specs.Each.{Each}
use Rattle.change_plan.specs.declared.plan_data.Move.{Move}
use Rattle.change_plan.specs.declared.plan_data.Plan.{Plan}
use Rattle.report_types.specs.declared.report.HistoryLine.TheVariants as to
use Rattle.report_types.specs.declared.report.Report.{Report}
use Rattle.quiesce_laws.specs.Lists.{In}
use Rattle.quiesce_laws.specs.Steps.{live_ports}
use Rattle.config_graph.specs.Graph.{Graph}
use Rattle.change_plan_laws.specs.Commit.{commit_events, ports_to_close}
use Rattle.quiesce_core.specs.declared.event.Event.TheVariants as event
use Rattle.quiesce_laws.specs.Starts.{start_of}
use Rattle.change_spec.specs.Endings.{status_of}
use Rattle.change_board.specs.declared.board.Board.{Ghosts as BoardWords}
use Rattle.change_board.specs.declared.board.Collected.{Collected}
use Rattle.change_board.specs.Collecting.{Collects}
use Rattle.txn_records.specs.Entries.{config_of}
use Rattle.change_board.specs.Scans.{Found, all_ports, ended_in, look_entry, ports_of}
use Rattle.change_board.specs.Steps.{Deed, events_of}
use Rattle.change_board.specs.Transcripts.{Item, entries, lines, said}
use Rattle.change_engine.specs.Beginning.{start_items}
use Rattle.change_engine.specs.Breaking.{BrokeInRun, IsClosedOr, IsClosedStill}
use Rattle.change_engine.specs.Carrying.{deed_items}
use Rattle.change_engine.specs.Draining.{pending_items}
use Rattle.change_engine.specs.Ending.{unfinished_after}
use Rattle.change_engine.specs.Engines.{IsIdle, IsOpen, IsPlanned, IsPrepared, IsReadyToCommit, MayAbandon}
use Rattle.change_engine.specs.Finishing.{EndsAfter, IsScanIn, SawTwice, ScanSeen, all_entries, rounds_in}
use Rattle.change_engine.specs.Leaving.{IsRootLeft}
use Rattle.change_engine.specs.Passivating.{IsPassivation, Passivation, last_look, left_after, passivation_items, silent_items}
use Rattle.change_engine.specs.Running.{RunsOn, ended_since, are_enough}
use Rattle.change_engine.specs.Stopping.{stop_items}
use Rattle.change_engine.specs.declared.engine.Engine.{Engine}
use Rattle.change_engine.specs.declared.passivating.LeftRoot.{LeftRoot}

-- Between the changes: an engine on which none is open goes on so, by these items.
abbrev pub Continues : {B : Type 0} → BoardWords B → Engine B → Engine B → List Item → Type 0
Continues words old new items = (t : List Item) → IsIdle words old t → IsIdle words new (t ++ items)

-- Start: all of the graph was made, linked and opened, on a board on which nothing was made.
pub record HasStarted {B : Type 0} (words : BoardWords B) (e : Engine B) (name : List ℕ) (args : List ℤ) (g : Graph)
    : Type 0 where
  pub deeds : List Deed
  pub events_are : events_of deeds ≡ start_of g
  pub idle : IsIdle words e (start_items name args deeds)
  pub graph_is : e.graph ≡ g

abbrev pub skip_items : List ℕ → List ℤ → List Item
skip_items name args = said (to.Change name args) ∷ said to.Skipped ∷ []

-- Show and skip: lines alone.
abbrev pub HasShown : {B : Type 0} → BoardWords B → Engine B → Engine B → Type 0
HasShown words old new = Continues words old new (said (to.Show old.graph) ∷ [])

abbrev pub HasSkipped : {B : Type 0} → BoardWords B → Engine B → Engine B → List ℕ → List ℤ → Type 0
HasSkipped words old new name args = Continues words old new (skip_items name args)

-- Run: a look at each port made, and then scans in which nodes may begin transactions, until the ports show so many
-- more transactions as ended, or a scan was the last.
pub record HasRun {B : Type 0} (words : BoardWords B) (old new : Engine B) (k ended : ℕ) : Type 0 where
  pub looks : List Found
  pub scans : List ScanSeen
  pub at_ports : (t : List Item) → IsIdle words old t → ports_of looks ≡ all_ports (config_of (entries t))
  pub are_scans : (t : List Item) → IsIdle words old t → AllByRecursion (IsScanIn words.alone (config_of (entries t))) scans
  pub twice : words.alone ≡ false → (t : List Item) → IsIdle words old t
      → Each (SawTwice (entries t ++ map look_entry looks)) scans
  pub go_on : Each (RunsOn words.alone k (ended_in looks)) scans
  pub ends : are_enough words.alone k (ended_in looks) scans ≡ true
  pub ended_is : ended ≡ ended_since (ended_in looks) scans
  pub goes : Continues words old new
      (silent_items (map look_entry looks ++ all_entries scans) ++ said (to.Run k ended) ∷ [])

-- Finish: scans until one saw all at rest, or so many were made, or one moved nothing where nodes take turns in scans
-- alone.
pub record HasFinished {B : Type 0} (words : BoardWords B) (old new : Engine B) (n rounds : ℕ)
    : Type 0 where
  pub scans : List ScanSeen
  pub few : length scans ≤ n
  pub are_scans : (t : List Item) → IsIdle words old t → AllByRecursion (IsScanIn words.alone (config_of (entries t))) scans
  pub twice : words.alone ≡ false → (t : List Item) → IsIdle words old t → Each (SawTwice (entries t)) scans
  pub rounds_are : rounds ≡ rounds_in scans
  pub ends : EndsAfter words.alone n scans
  pub goes : Continues words old new (silent_items (all_entries scans) ++ said (to.Finish n rounds) ∷ [])

-- Run and finish, broken off for want of memory: no event was done and no line told, and the layout and the change are
-- as they were.
pub record HasRunUntold {B : Type 0} (words : BoardWords B) (old new : Engine B) : Type 0 where
  pub broke : BrokeInRun words old.board new.board
  pub history_is : new.history.items ≡ old.history.items
  pub layout_is : new.layout ≡ old.layout
  pub change_is : new.change ≡ old.change

-- Prepare: all memory is there, and the line that begins the change.
pub record HasPrepared {B : Type 0} (words : BoardWords B) (old new : Engine B) (name : List ℕ)
    (args : List ℤ) (plan : Plan) (next_ : Graph) : Type 0 where
  pub graph_is : new.graph ≡ old.graph
  pub prepares : (t : List Item) (moves : List Move) → IsIdle words old t
      → IsPlanned old.graph next_ moves plan (config_of (entries t))
      → IsPrepared words new (t ++ said (to.Change name args) ∷ []) moves plan next_

-- Passivate, to its end: each port that was closed was found drained.
pub record HasPassivated {B : Type 0} (words : BoardWords B) (old new : Engine B) (plan : Plan)
    (within : ℕ) : Type 0 where
  pub closed : List ℕ
  pub how : Passivation
  pub closed_are : (t : List Item) (moves : List Move) (next_ : Graph) → IsOpen words old t moves plan next_
      → closed ≡ ports_to_close old.graph plan (config_of (entries t))
  pub is_passivation : IsPassivation closed within how
  pub none_left : left_after how.first how.rounds ≡ []
  pub graph_is : new.graph ≡ old.graph
  pub opens : (t : List Item) (moves : List Move) (next_ : Graph) → IsOpen words old t moves plan next_
      → IsReadyToCommit words new (t ++ passivation_items closed how) moves plan next_

-- Passivate, given up: the first look and each of the rounds saw a root. These are the roots that the last look saw.
pub record HasLeft {B : Type 0} (words : BoardWords B) (old new : Engine B) (plan : Plan)
    (within : ℕ) (left : List LeftRoot) : Type 0 where
  pub closed : List ℕ
  pub how : Passivation
  pub closed_are : (t : List Item) (moves : List Move) (next_ : Graph) → IsOpen words old t moves plan next_
      → closed ≡ ports_to_close old.graph plan (config_of (entries t))
  pub is_passivation : IsPassivation closed within how
  pub all_rounds : length how.rounds ≡ within
  pub left_is : left ≡ left_after how.first how.rounds
  pub some_left : 0 < length left
  pub graph_is : new.graph ≡ old.graph
  pub opens : (t : List Item) (moves : List Move) (next_ : Graph) → IsOpen words old t moves plan next_
      → MayAbandon words new (t ++ (passivation_items closed how ++ pending_items within left)) moves plan next_
  pub are_roots : (t : List Item) (moves : List Move) (next_ : Graph) → IsOpen words old t moves plan next_
      → (x : LeftRoot) → In left x
      → IsRootLeft closed (last_look how.first how.rounds)
      (entries (t ++ (passivation_items closed how ++ pending_items within left))) x

-- Passivate, broken off in a scan for want of memory: all ports were closed, and each look so far saw roots. All
-- gates that were closed then, and before, stay so.
pub record HasBrokenOff {B : Type 0} (words : BoardWords B)
    (old new : Engine B) (plan : Plan) (within : ℕ) : Type 0 where
  pub closed : List ℕ
  pub how : Passivation
  pub closed_are : (t : List Item) (moves : List Move) (next_ : Graph) → IsOpen words old t moves plan next_
      → closed ≡ ports_to_close old.graph plan (config_of (entries t))
  pub is_passivation : IsPassivation closed within how
  pub fewer : length how.rounds < within
  pub some_left : left_after how.first how.rounds ≡ [] → ⊥
  pub graph_is : new.graph ≡ old.graph
  pub layout_is : new.layout ≡ old.layout
  pub history_is : (t : List Item) (moves : List Move) (next_ : Graph) → IsOpen words old t moves plan next_
      → new.history.items ≡ lines (t ++ passivation_items closed how)
  pub broke : (t : List Item) (moves : List Move) (next_ : Graph) → IsOpen words old t moves plan next_
      → words.broke_off new.board (entries (t ++ passivation_items closed how))
  pub stay_closed : (t : List Item) (moves : List Move) (next_ : Graph) → IsOpen words old t moves plan next_
      → (p : ℕ) → IsClosedOr closed (config_of (entries t)) p
      → IsClosedStill (entries (t ++ passivation_items closed how)) p

-- Commit: the plan was carried out, and its graph is the one that stands.
pub record HasCommitted {B : Type 0} (words : BoardWords B) (old new : Engine B) (plan : Plan)
    (next_ : Graph) : Type 0 where
  pub deeds : List Deed
  pub events_are : (t : List Item) (moves : List Move) → IsReadyToCommit words old t moves plan next_
      → events_of deeds ≡ commit_events old.graph next_ plan (config_of (entries t))
  pub graph_is : new.graph ≡ next_
  pub goes : (t : List Item) (moves : List Move) → IsReadyToCommit words old t moves plan next_
      → IsIdle words new (t ++ (flat_map deed_items deeds ++ said to.Commit ∷ []))

-- Abandon: what was closed was opened again.
pub record HasAbandoned {B : Type 0} (words : BoardWords B) (old new : Engine B) (plan : Plan)
    : Type 0 where
  pub deeds : List Deed
  pub events_are : (t : List Item) (moves : List Move) (next_ : Graph) → MayAbandon words old t moves plan next_
      → events_of deeds ≡ map event.Reopen (ports_to_close old.graph plan (config_of (entries t)))
  pub graph_is : new.graph ≡ old.graph
  pub goes : (t : List Item) (moves : List Move) (next_ : Graph) → MayAbandon words old t moves plan next_
      → IsIdle words new (t ++ (flat_map deed_items deeds ++ said to.Abandon ∷ []))

-- Stop: the ports of all live nodes were passivated, and all logs taken in.
pub record HasStopped {B : Type 0} (words : BoardWords B) (old : Engine B)
    (report : Report) (board : B) : Type 0 where
  pub closed : List ℕ
  pub how : Passivation
  pub closed_are : (t : List Item) → IsIdle words old t → closed ≡ live_ports (config_of (entries t))
  pub is_passivation : IsPassivation closed (2 ^ 64 - 1) how
  pub none_left : left_after how.first how.rounds ≡ []
  -- the board when all was drained, and what it then gave
  pub quiet : B
  pub stands : (t : List Item) → IsIdle words old t → words.stands_for quiet (entries (t ++ stop_items closed how))
  pub given : Collected
  pub collected : Collects words.stands_for quiet board (words.taken board) given
  pub history_is : (t : List Item) → IsIdle words old t → report.history ≡ lines (t ++ stop_items closed how)
  pub logs_are : report.logs ≡ given.logs
  pub unfinished_is : report.unfinished ≡ unfinished_after report.history given.undone
  pub status_is : report.status ≡ status_of report.history report.unfinished
