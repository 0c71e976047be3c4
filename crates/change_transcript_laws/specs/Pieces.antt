-- To be believed (definitions.md).
-- What is done and told of each statement of a script, on any board, in one order: entries of the board's record, and
-- lines of the history.
use Rattle.std.specs.Prelude.{◌≡◌, ◌≤◌, ◌<◌, ◌⊎◌, ℕ, ℤ, Bool, true, false, List, [], ◌∷◌, ◌++◌, map, length, flat_map}
use Rattle.std.specs.List.{AllByRecursion, list_any}
use Rattle.base.specs.Each.{Each}
use Rattle.config_graph.specs.Graph.{Graph}
use Rattle.change_plan.specs.Moves.{MayMoveAll}
use Rattle.change_plan.specs.Plans.{IsPlanOf}
use Rattle.change_plan.specs.declared.plan_data.Move.{Move}
use Rattle.change_plan.specs.declared.plan_data.Plan.{Plan}
use Rattle.report_types.specs.declared.report.HistoryLine.TheVariants as to
use Rattle.quiesce_laws.specs.Steps.{live_ports}
use Rattle.change_plan_laws.specs.Commit.{commit_events, ports_to_close}
use Rattle.quiesce_laws.specs.Starts.{start_of}
use Rattle.quiesce_core.specs.Live.{IsGraphOf}
use Rattle.quiesce_core.specs.State.{Configuration}
use Rattle.quiesce_core.specs.declared.event.Event.TheVariants as event
use Rattle.change_spec.specs.Members.{is_pending}
use Rattle.change_spec.specs.Statements.{Statement, start, change, run, finish, show}
use Rattle.txn_records.specs.Entries.{config_of}
use Rattle.change_board.specs.Scans.{Found, all_ports, ended_in, look_entry, ports_of}
use Rattle.change_board.specs.Sights.{Sight}
use Rattle.change_board.specs.Steps.{Deed, events_of}
use Rattle.change_board.specs.Transcripts.{Item, said, entries, lines}
use Rattle.change_engine.specs.Beginning.{start_items}
use Rattle.change_engine.specs.Calls.{skip_items}
use Rattle.change_engine.specs.Carrying.{deed_items, sight_item}
use Rattle.change_engine.specs.Draining.{pending_items}
use Rattle.change_engine.specs.Finishing.{EndsAfter, IsScanIn, SawTwice, ScanSeen, all_entries, rounds_in}
use Rattle.change_engine.specs.Passivating.{IsPassivation, Passivation, left_after, passivation_items, silent_items}
use Rattle.change_engine.specs.Running.{RunsOn, ended_since, are_enough}
use Rattle.change_engine.specs.Stopping.{stop_items}
use Rattle.change_engine.specs.declared.passivating.LeftRoot.{LeftRoot}

-- the configuration behind items
abbrev pub config_at : List Item → Configuration
config_at t = config_of (entries t)

-- A start: all is made, linked and reopened, and committed; the graph stands then.
pub record AreStartItems (before : List Item) (name : List ℕ) (args : List ℤ) (g : Graph) (t : List Item) : Type 0 where
  pub deeds : List Deed
  pub events_are : events_of deeds ≡ start_of g
  pub are : t ≡ start_items name args deeds
  pub stands : IsGraphOf (config_at (before ++ t)) g

-- A change that found all ports drained, and took its steps; the new graph stands then.
pub record AreCommitItems (before : List Item) (old new : Graph) (plan : Plan) (left : List LeftRoot) (t : List Item)
    : Type 0 where
  pub none_left : left ≡ []
  pub deeds : List Deed
  pub events_are : events_of deeds ≡ commit_events old new plan (config_at before)
  pub are : t ≡ flat_map deed_items deeds ++ said to.Commit ∷ []
  pub stands : IsGraphOf (config_at (before ++ t)) new

-- One that found some not drained in the end, and reopened what it had closed.
pub record AreAbandonItems (closed : List ℕ) (within : ℕ) (left : List LeftRoot) (t : List Item) : Type 0 where
  pub some_left : 0 < length left
  pub deeds : List Deed
  pub events_are : events_of deeds ≡ map event.Reopen closed
  pub are : t ≡ pending_items within left ++ flat_map deed_items deeds ++ said to.Abandon ∷ []

-- what a change that is tried begins with: it closes ports and waits for them to drain
abbrev pub opening_items : List ℕ → List ℤ → List ℕ → Passivation → List Item
opening_items name args closed how = said (to.Change name args) ∷ passivation_items closed how

pub record AreChangeItems (before : List Item) (name : List ℕ) (args : List ℤ) (new : Graph) (within : ℕ) (moves : List Move)
    (t : List Item) : Type 0 where
  pub old : Graph
  pub is_old : IsGraphOf (config_at before) old
  pub plan : Plan
  pub moves_lead : MayMoveAll old new moves (length moves)
  pub is_plan : IsPlanOf old new moves plan
  pub closed : List ℕ
  pub closed_are : closed ≡ ports_to_close old plan (config_at before)
  pub how : Passivation
  pub is_passivation : IsPassivation closed within how
  pub rest : List Item
  pub are : t ≡ opening_items name args closed how ++ rest
  pub ends : AreCommitItems (before ++ opening_items name args closed how) old new plan (left_after how.first how.rounds) rest
      ⊎ ((length how.rounds ≡ within) × AreAbandonItems closed within (left_after how.first how.rounds) rest)

-- A run: looks at all ports, and scans in which nodes may begin transactions, until the ports show so many more as
-- ended, or a scan was the last; and the line that tells how many ended.
pub record AreRunItems (alone : Bool) (before : List Item) (k : ℕ) (t : List Item) : Type 0 where
  pub looks : List Found
  pub at_ports : ports_of looks ≡ all_ports (config_at before)
  pub scans : List ScanSeen
  pub are_scans : AllByRecursion (IsScanIn alone (config_at before)) scans
  pub twice : alone ≡ false → Each (SawTwice (entries before ++ map look_entry looks)) scans
  pub go_on : Each (RunsOn alone k (ended_in looks)) scans
  pub ends : are_enough alone k (ended_in looks) scans ≡ true
  pub ended : ℕ
  pub ended_is : ended ≡ ended_since (ended_in looks) scans
  pub are : t ≡ silent_items (map look_entry looks ++ all_entries scans) ++ said (to.Run k ended) ∷ []

-- A finish: scans alone.
pub record AreFinishItems (alone : Bool) (before : List Item) (n : ℕ) (t : List Item) : Type 0 where
  pub scans : List ScanSeen
  pub few : length scans ≤ n
  pub are_scans : AllByRecursion (IsScanIn alone (config_at before)) scans
  pub twice : alone ≡ false → Each (SawTwice (entries before)) scans
  pub ends : EndsAfter alone n scans
  pub are : t ≡ silent_items (all_entries scans) ++ said (to.Finish n (rounds_in scans)) ∷ []

pub record AreShowItems (c : Configuration) (t : List Item) : Type 0 where
  pub graph : Graph
  pub stands : IsGraphOf c graph
  pub are : t ≡ said (to.Show graph) ∷ []

-- The items of a statement, behind these items; a change is skipped exactly where one before it was given up.
abbrev pub IsDone : Bool → List Item → Statement → List Item → Type 0
IsDone alone before (start name args g) t = AreStartItems before name args g t
IsDone alone before (change name args g within moves) t =
    (list_any is_pending (lines before) ≡ true → t ≡ skip_items name args)
    × (list_any is_pending (lines before) ≡ false → AreChangeItems before name args g within moves t)
IsDone alone before (run k) t = AreRunItems alone before k t
IsDone alone before (finish n) t = AreFinishItems alone before n t
IsDone alone before show t = AreShowItems (config_at before) t

-- A stop: the ports of all live nodes are closed, and all are found drained; and then all nodes may be sighted.
pub record AreStopItems (before t : List Item) : Type 0 where
  pub closed : List ℕ
  pub closed_are : closed ≡ live_ports (config_at before)
  pub within : ℕ
  pub how : Passivation
  pub is_passivation : IsPassivation closed within how
  pub none_left : left_after how.first how.rounds ≡ []
  pub sights : List Sight
  pub are : t ≡ stop_items closed how ++ map sight_item sights

-- one statement with its items
pub record Piece : Type 0 where
  pub statement : Statement
  pub items : List Item

abbrev pub items_of : List Piece → List Item
items_of pieces = flat_map (λ (p : Piece). p.items) pieces

abbrev pub IsDonePiece : Bool → List Piece → Piece → Type 0
IsDonePiece alone before p = IsDone alone (items_of before) p.statement p.items

abbrev pub AreDone : Bool → List Piece → Type 0
AreDone alone pieces = Each (IsDonePiece alone) pieces

-- All of a script, and the stop. `alone` says whether nodes take turns in scans of the board alone.
pub record IsTranscript (alone : Bool) (statements : List Statement) (t : List Item) : Type 0 where
  pub pieces : List Piece
  pub stop : List Item
  pub statements_are : map (λ (p : Piece). p.statement) pieces ≡ statements
  pub done : AreDone alone pieces
  pub stops : AreStopItems (items_of pieces) stop
  pub are : items_of pieces ++ stop ≡ t
