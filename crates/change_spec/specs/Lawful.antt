-- To be believed (definitions.md).
-- Lawful reports: the nodes' logs and the history are parts of one run of the change machine, in which a change
-- touches a node only while it is quiescent (Kramer and Magee 1990).
use Rattle.std.specs.Prelude.{◌≡◌, ◌≤◌, ◌<◌, ◌⊎◌, ⊤, ℕ, ◌-◌, Bool, true, false, not, List, ◌++◌, map, length, filter_map, slice_get, find, All, Option, Some, None, IsTrue, if◌then◌else◌}
use Rattle.std.specs.List.{count_by, list_any, range_with_len}
use Rattle.std.specs.Option.{option_map_or}
use Rattle.base.specs.Each.{Each}
use Rattle.component_trait.specs.States.{NodeState}
use Rattle.component_trait.specs.Moves as moves
use Rattle.config_graph.specs.Graph.{Graph}
use Rattle.quiesce_core.specs.declared.event.Event.{Event}
use Rattle.quiesce_core.specs.Doers.{is_of_change}
use Rattle.quiesce_core.specs.Live.{IsGraphOf}
use Rattle.quiesce_word.specs.Phases.{is_idle}
use Rattle.quiesce_core.specs.Runs.{IsRun, done_by, is_begin_of, is_end_of, state_after}
use Rattle.quiesce_core.specs.Settled.{Quiescent}
use Rattle.quiesce_core.specs.State.{exchange, gate, is_live, owner}
use Rattle.quiesce_laws.specs.Drained.{is_drained}
use Rattle.quiesce_laws.specs.Events.{is_ask_of, is_give_of, is_hear_of, is_more_of, is_take_of, ends_transaction}
use Rattle.quiesce_laws.specs.Roots.{has_root}
use Rattle.report_types.specs.declared.report.HistoryLine.{HistoryLine}
use Rattle.report_types.specs.declared.report.HistoryLine.TheVariants as to
use Rattle.report_types.specs.declared.report.Last.{Last}
use Rattle.report_types.specs.declared.report.Last.TheVariants as last
use Rattle.report_types.specs.declared.report.NodeLog.{NodeLog}
use Rattle.report_types.specs.declared.report.Report.{Report}
use Rattle.change_spec.specs.Endings.{moved_to, status_of}
use Rattle.change_spec.specs.Follows.{Follows}
use Rattle.change_spec.specs.Members.{Member, by_node, of_history, events, is_close, lines, made_slot, state_at, without_roots}
use Rattle.change_spec.specs.Opening.{fold_of_node}
use Rattle.quiesce_laws.specs.Steps.{live_ports}
use Rattle.change_spec.specs.Serial.{Serial}
use Rattle.change_spec.specs.Statements.{Statement, graph_of, is_finish}

-- an event that is no line of the history is one that nodes do
abbrev pub IsOfItsKind : Member → Type 0
IsOfItsKind (by_node e) = is_of_change e ≡ false
IsOfItsKind (of_history l) = ⊤

-- a log has the events that its node does in the list
abbrev pub IsLogIn : List Member → NodeLog → Type 0
IsLogIn m l = done_by l.slot (events m) ≡ l.events

-- The report has one log for each node that its history makes, and no other. The list has the events of each log, in
-- order; and the lines of the history, in order, but those on what was still open. Where it is a run besides, it has no
-- other event of a node: each is done by a node that was made, and stands in the log of that node.
pub record Merge (m : List Member) (report : Report) : Type 0 where
  pub one_log_a_node : map (λ (l : NodeLog). l.slot) report.logs ≡ filter_map made_slot report.history
  pub logs : All (IsLogIn m) report.logs
  pub by_nodes : All IsOfItsKind m
  pub history : lines m ≡ without_roots report.history

-- at a link and an unlink the port's owner is quiescent, and at a removal the node
abbrev pub IsQuiescentAt : List Member → Member → Type 0
IsQuiescentAt before (of_history (to.Link p n x)) = Quiescent (events before) (owner (state_at before).config p)
IsQuiescentAt before (of_history (to.Unlink p)) = Quiescent (events before) (owner (state_at before).config p)
IsQuiescentAt before (of_history (to.Remove n)) = Quiescent (events before) n
IsQuiescentAt before _ = ⊤

-- a transaction that was begun or called has all that it needs, and no more
pub record EndsOnce (es : List Event) (p k : ℕ) : Type 0 where
  pub begun : count_by (is_begin_of p k) es ≡ 1
  pub taken : count_by (is_take_of p k) es ≡ 1
  pub given : count_by (is_give_of p k) es ≡ 1
  pub ended : count_by (is_end_of p k) es ≡ 1
  pub asked : count_by (is_ask_of p k) es ≡ count_by (is_more_of p k) es
  pub heard : count_by (is_hear_of p k) es ≡ count_by (is_more_of p k) es

abbrev pub IsEndedOnce : List Event → ℕ → ℕ → Type 0
IsEndedOnce es p k = list_any (is_begin_of p k) es ≡ true → EndsOnce es p k

-- a log has a fold, and ends with its last state, or tells to which node it went
abbrev pub EndsAs : Option NodeState → Option ℕ → Last → Type 0
EndsAs (Some s) None (last.State xs) = moves.numbers s ≡ xs
EndsAs (Some s) (Some j) (last.Moved i) = i ≡ j
EndsAs _ _ _ = ⊥

abbrev pub IsFolded : List Member → List HistoryLine → NodeLog → Type 0
IsFolded m history l = EndsAs (fold_of_node (events m) l.slot) (moved_to history l.slot) l.last

-- a port that is said to be drained is so, with this serial
abbrev pub IsDrainedAt : List Member → Member → Type 0
IsDrainedAt before (of_history (to.Drained p k)) = IsTrue (is_drained (state_at before) p) × ((exchange (state_at before) p).serial ≡ k)
IsDrainedAt before _ = ⊤

-- Root k of port p stands open, and the port closed, at a place behind all closes of the change and before the line
-- that says so. In a run it stood open then since the port's last close: no root begins at a closed port.
pub record StoodOpen (m : List Member) (before : List HistoryLine) (p k : ℕ) : Type 0 where
  pub front : List Member
  pub rest : List Member
  pub later : List HistoryLine
  pub parts : m ≡ front ++ rest
  pub place : lines front ++ later ≡ without_roots before
  pub behind_closes : list_any is_close later ≡ false
  pub open_there : IsTrue (has_root (state_at front) p k)
  pub closed_there : IsTrue (gate (state_at front).config p).closed

abbrev pub StoodOpenWhereSaid : List Member → List HistoryLine → HistoryLine → Type 0
StoodOpenWhereSaid m before (to.Root p k) = StoodOpen m before p k
StoodOpenWhereSaid m before _ = ⊤

-- the graph of the description of the last start or change that a line began
abbrev pub is_head : HistoryLine → Bool
is_head (to.Start name args) = true
is_head (to.Change name args) = true
is_head _ = false

abbrev pub described : List Statement → List HistoryLine → Option Graph
described statements before = slice_get (filter_map graph_of statements) (count_by is_head before - 1)

pub record IsGraphDescribed (statements : List Statement) (before : List Member) : Type 0 where
  pub graph : Graph
  pub described_so : described statements (lines before) ≡ Some graph
  pub stands : IsGraphOf (state_at before).config graph

-- at a commit the graph is that of the description, and at a show the one that is shown
abbrev pub IsGraphAt : List Statement → List Member → Member → Type 0
IsGraphAt statements before (of_history to.Commit) = IsGraphDescribed statements before
IsGraphAt statements before (of_history (to.Show g)) = IsGraphOf (state_at before).config g
IsGraphAt statements before _ = ⊤

-- whether the node in slot n has done what it is made for
abbrev pub is_done : List Event → ℕ → Bool
is_done es n = option_map_or moves.is_done (fold_of_node es n) false

-- the first live node that isn't done, where the script has a finish
abbrev pub is_unfinished : List Event → ℕ → Bool
is_unfinished es n = if is_live (state_after es).config n then not (is_done es n) else false

abbrev pub unfinished_of : List Statement → List Event → Option ℕ
unfinished_of statements es =
    if list_any is_finish statements then find (is_unfinished es) (range_with_len 0 (length (state_after es).config.slots)) else None

-- all that is asked of the one list but the numbers of `run` and `finish` lines
pub record IsLawfulBy (statements : List Statement) (report : Report) (m : List Member) : Type 0 where
  -- the logs and the history are parts of the list, and it has nothing else
  pub merge : Merge m report
  -- its events are a run of the change machine
  pub runs : IsRun (events m)
  -- the owner of a port that is linked or unlinked, and a node that is removed, is quiescent then
  pub quiescent : Each IsQuiescentAt m
  -- each transaction has ended once, with all that it needs; that each of these stands in the log of the node that does
  -- it is the merge's
  pub ended_once : (p k : ℕ) → IsEndedOnce (events m) p k
  -- each log is one of its node's kind, from what the node was made with, and ends with its state or with the node to
  -- which that went
  pub folds : All (IsFolded m report.history) report.logs
  -- what is said to be drained is so, with the serial that is said
  pub drained : Each IsDrainedAt m
  -- what is said to be open stood open from the close on to a place behind all closes of its change
  pub stood_open : Each (StoodOpenWhereSaid m) report.history
  -- at a commit the graph is that of the description, and at a show the one that is shown
  pub graphs : Each (IsGraphAt statements) m
  -- the first live node that isn't done is named, where the script has a finish
  pub unfinished : report.unfinished ≡ unfinished_of statements (events m)
  -- 7 where a change was given up, else 8 where a node wasn't done, else 0
  pub status : report.status ≡ status_of report.history report.unfinished

-- The report is lawful for a script with these statements, but for the numbers of `run` and `finish` lines: what is
-- asked of them goes by how the report came about (below).
pub record Lawful (statements : List Statement) (report : Report) : Type 0 where
  -- the history has the lines of each statement, in order, and those of the stop
  pub follows : Follows statements report.history
  -- the one list that is said to be there
  pub members : List Member
  pub by_them : IsLawfulBy statements report members

-- Rest, and the numbers of `run` and `finish`.

-- a place since the last line at which a test holds
pub record HeldSince (before : List Member) (test : List Event → Bool) : Type 0 where
  pub front : List Member
  pub later : List Event
  pub parts : before ≡ front ++ map by_node later
  pub held : IsTrue (test (events front))

abbrev pub is_idle_after : ℕ → List Event → Bool
is_idle_after p es = is_idle (exchange (state_after es) p).phase

-- since the last line each live node was done at some place, and each live port idle at some
pub record CameToRest (before : List Member) : Type 0 where
  pub nodes : (n : ℕ) → IsTrue (is_live (state_at before).config n) → HeldSince before (λ es. is_done es n)
  pub ports : All (λ p. HeldSince before (is_idle_after p)) (live_ports (state_at before).config)

-- at least so many transactions ended since the last line
pub record EndedSince (before : List Member) (n : ℕ) : Type 0 where
  pub front : List Member
  pub later : List Event
  pub parts : before ≡ front ++ map by_node later
  pub enough : n ≤ count_by ends_transaction later

-- A `run` ended with as many transactions as it says: with all that were asked for, or all came to rest.
abbrev pub IsRunAt : List Member → Member → Type 0
IsRunAt before (of_history (to.Run k n)) = EndedSince before n × ((k ≤ n) ⊎ CameToRest before)
IsRunAt before _ = ⊤

-- A `finish` made all rounds that were allowed, or fewer where all came to rest.
abbrev pub IsFinishAt : List Member → Member → Type 0
IsFinishAt before (of_history (to.Finish n r)) = (r ≡ n) ⊎ ((r < n) × CameToRest before)
IsFinishAt before _ = ⊤

-- the numbers of a system on threads
pub record NumbersOnThreads (m : List Member) : Type 0 where
  pub runs_end : Each IsRunAt m
  pub finishes_end : Each IsFinishAt m

-- Of the numbers in rounds no more is asked here: they are those that the rounds give (`Serial`).
abbrev pub IsEndedAt : List Member → Member → Type 0
IsEndedAt before (of_history (to.Run k n)) = EndedSince before n
IsEndedAt before _ = ⊤

abbrev pub IsFewAt : List Member → Member → Type 0
IsFewAt before (of_history (to.Finish n r)) = r ≤ n
IsFewAt before _ = ⊤

-- the numbers of a system in rounds
pub record NumbersInRounds (m : List Member) : Type 0 where
  pub ended : Each IsEndedAt m
  pub few : Each IsFewAt m

-- what the report of a system on threads must be
pub record LawfulOnThreads (statements : List Statement) (report : Report) : Type 0 where
  pub lawful : Lawful statements report
  pub numbers : NumbersOnThreads lawful.members

-- What the report of rounds must be: lawful by the list in which the rounds made the events.
pub record LawfulInRounds (statements : List Statement) (report : Report) (serial : Serial statements report) : Type 0 where
  pub lawful : Lawful statements report
  pub numbers : NumbersInRounds lawful.members
  pub order : events lawful.members ≡ serial.world.events
