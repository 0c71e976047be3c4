-- Whether a report is lawful by a list of members (`IsLawfulBy`), with which numbers, found by tests and by lists that are computed, so
-- that it can be evaluated on a report.
use Rattle.std.specs.Prelude.{◌≡◌, ℕ, ◌+◌, ◌-◌, Bool, true, false, not, ◌&&◌, ◌||◌, ◌==◌, nat_le, nat_lt, List, [], ◌∷◌, ◌++◌, map, length, take, filter_map, Option, Some, None, if◌then◌else◌}
use Rattle.std.specs.List.{count_by, list_all, list_any, range_with_len}
use Rattle.std.specs.Option.{option_map_or}
use Rattle.base.specs.Each.{Each}
use Rattle.component_trait.specs.Moves as moves
use Rattle.component_trait.specs.States.{NodeState}
use Rattle.quiesce_core.specs.Doers.{is_of_change}
use Rattle.quiesce_core.specs.Runs.{can_run, done_by}
use Rattle.quiesce_core.specs.State.{empty, exchange, is_live}
use Rattle.quiesce_core.specs.declared.event.Event.{Event}
use Rattle.quiesce_laws.specs.Drained.{is_drained}
use Rattle.quiesce_laws.specs.Events.{ends_transaction}
use Rattle.report_types.specs.declared.report.HistoryLine.TheVariants as to
use Rattle.report_types.specs.declared.report.Last.{Last}
use Rattle.report_types.specs.declared.report.Last.TheVariants as last
use Rattle.report_types.specs.declared.report.NodeLog.{NodeLog}
use Rattle.report_types.specs.declared.report.Report.{Report}
use Rattle.change_spec.specs.Endings.{moved_to, status_of}
use Rattle.change_spec.specs.Lawful.{StoodOpenWhereSaid, described, is_done, is_idle_after, unfinished_of}
use Rattle.change_spec.specs.Members.{Member, by_node, of_history, events, lines, made_slot, state_at, without_roots}
use Rattle.change_spec.specs.Opening.{fold_of_node}
use Rattle.quiesce_laws.specs.Steps.{live_ports}
use Rattle.change_spec.specs.Scene.{Seen}
use Rattle.change_spec.specs.Standing.{is_graph_of}
use Rattle.change_spec.specs.Statements.{Statement}
use Rattle.change_spec.specs.Told.{Told, can_follow, history_told}

-- a test of each member, after those before it
abbrev pub passes_each : {A : Type 0} → (List A → A → Bool) → List A → List A → Bool
passes_each test before [] = true
passes_each test before (x ∷ xs) = test before x && passes_each test (before ++ x ∷ []) xs

-- whether an event that is no line is one that nodes do
abbrev pub is_of_its_kind : Member → Bool
is_of_its_kind (by_node e) = not (is_of_change e)
is_of_its_kind (of_history l) = true

-- whether a port that is said to be drained is so, with this serial
abbrev pub is_drained_at : List Member → Member → Bool
is_drained_at before (of_history (to.Drained p k)) =
    is_drained (state_at before) p && (exchange (state_at before) p).serial == k
is_drained_at before _ = true

-- whether the graph that stands at a commit is that of the description, and the one that is shown at a show
abbrev pub is_graph_at : List Statement → List Member → Member → Bool
is_graph_at statements before (of_history to.Commit) =
    option_map_or (is_graph_of (state_at before).config) (described statements (lines before)) false
is_graph_at statements before (of_history (to.Show g)) = is_graph_of (state_at before).config g
is_graph_at statements before _ = true

-- with what a log must end; none where it has no fold
abbrev pub last_of_log : Option NodeState → Option ℕ → Option Last
last_of_log (Some s) None = Some (last.State (moves.numbers s))
last_of_log (Some s) (Some j) = Some (last.Moved j)
last_of_log None o = None

-- the members up to the last line, and the events behind it
abbrev pub is_line : Member → Bool
is_line (by_node e) = false
is_line (of_history l) = true

abbrev pub up_to_line : List Member → List Member
up_to_line [] = []
up_to_line (x ∷ m) = if list_any is_line (x ∷ m) then x ∷ up_to_line m else []

abbrev pub since_line : List Member → List Event
since_line [] = []
since_line (x ∷ m) = if list_any is_line (x ∷ m) then since_line m else events (x ∷ m)

-- whether a test held at a place since the last line
abbrev pub held_at : List Member → (List Event → Bool) → ℕ → Bool
held_at before test k = test (events (up_to_line before) ++ take (length (since_line before) - k) (since_line before))

abbrev pub held_since : List Member → (List Event → Bool) → Bool
held_since before test = list_any (held_at before test) (range_with_len 0 (length (since_line before) + 1))

-- whether all came to rest since the last line
abbrev pub came_to_rest : List Member → Bool
came_to_rest before =
    list_all (λ n. not (is_live (state_at before).config n)
    || held_since before (λ es. is_done es n)) (range_with_len 0 (length (state_at before).config.slots))
    && list_all (λ p. held_since before (is_idle_after p)) (live_ports (state_at before).config)

-- whether the numbers are those of a system on threads
abbrev pub is_run_at : List Member → Member → Bool
is_run_at before (of_history (to.Run k n)) = nat_le n (count_by ends_transaction (since_line before)) && (nat_le k n || came_to_rest before)
is_run_at before _ = true

abbrev pub is_finish_at : List Member → Member → Bool
is_finish_at before (of_history (to.Finish n r)) = r == n || (nat_lt r n && came_to_rest before)
is_finish_at before _ = true

-- whether they may be those of a system in rounds
abbrev pub is_ended_at : List Member → Member → Bool
is_ended_at before (of_history (to.Run k n)) = nat_le n (count_by ends_transaction (since_line before))
is_ended_at before _ = true

abbrev pub is_few_at : List Member → Member → Bool
is_few_at before (of_history (to.Finish n r)) = nat_le r n
is_few_at before _ = true

-- A report that was found lawful for these statements: by what its history tells beside them, by what the stop saw,
-- and by these members. That what was still open stood so is said of the lines that say it.
pub record IsFound (statements : List Statement) (ts : List Told) (seen : List Seen) (m : List Member) (report : Report) : Type 0 where
  pub follows : can_follow statements ts seen ≡ true
  pub history : history_told statements ts seen ≡ report.history
  pub slots : map (λ (l : NodeLog). l.slot) report.logs ≡ filter_map made_slot report.history
  pub logs : map (λ (l : NodeLog). done_by l.slot (events m)) report.logs ≡ map (λ (l : NodeLog). l.events) report.logs
  pub kinds : list_all is_of_its_kind m ≡ true
  pub lines_are : lines m ≡ without_roots report.history
  pub runs : can_run empty (events m) ≡ true
  pub lasts : map (λ (l : NodeLog). last_of_log (fold_of_node (events m) l.slot) (moved_to report.history l.slot))
      report.logs ≡ map (λ (l : NodeLog). Some l.last) report.logs
  pub drained : passes_each is_drained_at [] m ≡ true
  pub stood_open : Each (StoodOpenWhereSaid m) report.history
  pub graphs : passes_each (is_graph_at statements) [] m ≡ true
  pub unfinished : report.unfinished ≡ unfinished_of statements (events m)
  pub status : report.status ≡ status_of report.history report.unfinished
