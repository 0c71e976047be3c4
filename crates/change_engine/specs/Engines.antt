-- What an engine keeps of a system on a board, where the board's record and the history are told by one transcript.
use Rattle.std.specs.Global.{Vec}
use Rattle.std.specs.Prelude.{◌≡◌, ◌≤◌, ◌+◌, ◌*◌, List, [], ◌∷◌, ◌++◌, map, None, Some, vec_capacity, vec_len}
use Rattle.change_plan.specs.Plans.{IsPlanOf}
use Rattle.change_plan.specs.Refusals.{CanPlan}
use Rattle.change_plan.specs.declared.plan_data.Move.{Move}
use Rattle.change_plan.specs.declared.plan_data.Plan.{Plan}
use Rattle.report_types.specs.declared.report.HistoryLine.{HistoryLine}
use Rattle.report_types.specs.declared.report.HistoryLine.TheVariants as to
use Rattle.quiesce_laws.specs.Steps.{change_all}
use Rattle.config_graph.specs.Graph.{Graph, IsGraph}
use Rattle.config_graph.specs.Sound.{Sound}
use Rattle.change_plan_laws.specs.Commit.{commit_events, ports_to_close}
use Rattle.change_plan_laws.specs.Committing.{made_in}
use Rattle.quiesce_core.specs.Live.{IsGraphOf}
use Rattle.quiesce_core.specs.State.{Configuration}
use Rattle.quiesce_core.specs.WellFormed.{IsSound}
use Rattle.quiesce_core.specs.declared.event.Event.TheVariants as event
use Rattle.change_spec.specs.Members.{lines_of_events}
use Rattle.txn_records.specs.Entries.{config_of}
use Rattle.change_board.specs.declared.board.Board.{Ghosts as BoardWords}
use Rattle.change_board.specs.Steps.{HasRoomForAll}
use Rattle.change_board.specs.Transcripts.{Item, entries, lines}
use Rattle.change_lists.specs.Layouts.{IsLayoutOf}
use Rattle.change_engine.specs.Passivating.{HasPlaceFor}
use Rattle.change_engine.specs.Planning.{MayCarryOut}
use Rattle.change_engine.specs.declared.engine.Change.{Change}
use Rattle.change_engine.specs.declared.engine.Engine.{Engine}
use Rattle.change_lists.specs.declared.layout.Layout.{Layout}

-- The board stands for the transcript's entries and the history has its lines; the graph that is kept is the one that
-- the entries make.
pub record Tells {B : Type 0} (words : BoardWords B) (e : Engine B) (t : List Item) : Type 0 where
  pub board : words.stands_for e.board (entries t)
  pub history : e.history.items ≡ lines t
  pub graph : IsGraphOf (config_of (entries t)) e.graph
  pub is_graph : IsGraph e.graph
  pub sound : Sound e.graph
  pub layout : IsLayoutOf e.layout (config_of (entries t)) e.graph

-- and no change is open
pub record IsIdle {B : Type 0} (words : BoardWords B) (e : Engine B) (t : List Item) : Type 0 where
  pub tells : Tells words e t
  pub none_open : e.change ≡ None

-- the plan leads from the graph that stands to a sound graph, and there is room for what it creates
pub record IsPlanned (old new : Graph) (moves : List Move) (plan : Plan) (c : Configuration) : Type 0 where
  pub new_graph : IsGraph new
  pub new_sound : Sound new
  pub is_plan : IsPlanOf old new moves plan
  pub can_plan : CanPlan old new moves (made_in c)

-- a configuration that a layout tells, with its graph
pub record IsLaidOut (layout : Layout) (g : Graph) (c : Configuration) : Type 0 where
  pub laid : IsLayoutOf layout c g
  pub graph : IsGraphOf c g
  pub sound : IsSound c

-- What was prepared is what the plan asks for, in each configuration that the layout tells: ports may be closed or
-- open.
pub record IsFor (layout : Layout) (old new : Graph) (plan : Plan) (change : Change) : Type 0 where
  pub closed : (c : Configuration) → IsLaidOut layout old c → change.closed.items ≡ ports_to_close old plan c
  pub events : (c : Configuration) → IsLaidOut layout old c → change.events.items ≡ commit_events old new plan c
  pub next_ : (c : Configuration) → IsLaidOut layout old c
      → IsLayoutOf change.next (change_all c (commit_events old new plan c)) new
  pub lines_are : change.lines.items ≡ lines_of_events change.events.items ++ to.Commit ∷ []
  pub reopens : change.reopens.items ≡ map event.Reopen change.closed.items
  pub reopen_lines : change.reopen_lines.items ≡ lines_of_events change.reopens.items ++ to.Abandon ∷ []

-- a change by this plan is open, and there is room for all that it makes
pub record IsOpen {B : Type 0} (words : BoardWords B) (e : Engine B) (t : List Item)
    (moves : List Move) (plan : Plan) (new : Graph) : Type 0 where
  pub tells : Tells words e t
  pub planned : IsPlanned e.graph new moves plan (config_of (entries t))
  pub change : Change
  pub open_ : e.change ≡ Some change
  pub is_for : IsFor e.layout e.graph new plan change
  pub room : HasRoomForAll (words.room e.board) change.events.items

-- There is place for the lines of a change, of the wait and of either end, and to wait in.
pub record HasPlace (history : Vec HistoryLine) (change : Change) : Type 0 where
  pub commit_lines : vec_len history + 2 * vec_len change.closed + 1 + vec_len change.lines ≤ vec_capacity history
  pub abandon_lines : vec_len history + 2 * vec_len change.closed + 1 + vec_len change.reopen_lines ≤ vec_capacity history
  pub waiting : HasPlaceFor change.waiting (vec_len change.closed)

-- a change is open, and there is place for all that it adds, so that its memory is taken: as it is behind `prepare`
pub record IsPrepared {B : Type 0} (words : BoardWords B) (e : Engine B) (t : List Item)
    (moves : List Move) (plan : Plan) (new : Graph) : Type 0 where
  pub is_open : IsOpen words e t moves plan new
  pub place : HasPlace e.history is_open.change

-- its commit can't fail: what it closed is noted as drained, and the history has room
pub record IsReadyToCommit {B : Type 0} (words : BoardWords B) (e : Engine B) (t : List Item)
    (moves : List Move) (plan : Plan) (new : Graph) : Type 0 where
  pub is_open : IsOpen words e t moves plan new
  pub may_ : MayCarryOut e.graph new moves plan (entries t)
  pub place : vec_len e.history + vec_len is_open.change.lines ≤ vec_capacity e.history

-- it can be given up
pub record MayAbandon {B : Type 0} (words : BoardWords B) (e : Engine B) (t : List Item)
    (moves : List Move) (plan : Plan) (new : Graph) : Type 0 where
  pub is_open : IsOpen words e t moves plan new
  pub place : vec_len e.history + vec_len is_open.change.reopen_lines ≤ vec_capacity e.history
