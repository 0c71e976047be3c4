-- To be believed (definitions.md).
-- The report of a system on one thread, whose nodes take turns in rounds: what each line says is computed from the
-- rounds.
use Rattle.std.specs.Prelude.{◌≡◌, ℕ, zero, suc, ℤ, ◌-◌, Bool, true, false, not, ◌||◌, ◌&&◌, ◌==◌, nat_le, List, [], ◌∷◌, ◌++◌, map, length, filter, flat_map, find, fold, Option, None, if◌then◌else◌}
use Rattle.std.specs.List.{list_any, range_with_len}
use Rattle.std.specs.Option.{option_map_or}
use Rattle.base.specs.Each.{Each}
use Rattle.component_trait.specs.Moves as moves
use Rattle.config_graph.specs.Graph.{Graph}
use Rattle.change_plan.specs.Moves.{MayMoveAll}
use Rattle.change_plan.specs.Plans.{IsPlanOf}
use Rattle.change_plan.specs.declared.plan_data.Move.{Move}
use Rattle.change_plan.specs.declared.plan_data.Plan.{Plan}
use Rattle.change_plan_laws.specs.Commit.{commit_events, ports_to_close}
use Rattle.quiesce_core.specs.Live.{IsGraphOf}
use Rattle.quiesce_core.specs.Runs.{done_by}
use Rattle.quiesce_core.specs.State.{exchange, is_live}
use Rattle.quiesce_core.specs.declared.event.Event.{Event}
use Rattle.quiesce_core.specs.declared.event.Event.TheVariants.{Close, Reopen}
use Rattle.quiesce_laws.specs.Drained.{is_drained}
use Rattle.quiesce_laws.specs.Starts.{start_of}
use Rattle.node_turn_laws.specs.Round.{FirstAt, after_rounds, ended, is_at_rest, is_done, stands_still}
use Rattle.node_turn_laws.specs.World.{World, nowhere, state_of, with_event}
use Rattle.report_types.specs.declared.report.HistoryLine.{HistoryLine}
use Rattle.report_types.specs.declared.report.HistoryLine.TheVariants as to
use Rattle.report_types.specs.declared.report.Last.{Last}
use Rattle.report_types.specs.declared.report.Last.TheVariants as last
use Rattle.report_types.specs.declared.report.NodeLog.{NodeLog}
use Rattle.report_types.specs.declared.report.Report.{Report}
use Rattle.change_spec.specs.Changes.{commit_lines, drained_lines, opening_lines, pending_lines}
use Rattle.change_spec.specs.Endings.{moved_to, status_of}
use Rattle.change_spec.specs.Follows.{skip_lines, start_lines}
use Rattle.change_spec.specs.Members.{is_pending}
use Rattle.quiesce_laws.specs.Steps.{live_ports}
use Rattle.change_spec.specs.Scene.{Seen}
use Rattle.change_spec.specs.Statements.{Statement, start, change, run, finish, show, is_finish}

-- the change does these events, one after the other
abbrev pub after_changes : World → List Event → World
after_changes w es = fold with_event w es

-- `run K`: rounds until K transactions ended since the line, or a round moved nothing
abbrev pub run_ends : World → ℕ → ℕ → Bool
run_ends w k j = nat_le k (ended (after_rounds true w j) - ended w) || stands_still true w j

pub record RunsTo (w : World) (k : ℕ) (lines : List HistoryLine) (v : World) : Type 0 where
  pub rounds : ℕ
  pub number : FirstAt (run_ends w k) rounds
  pub world : v ≡ after_rounds true w rounds
  pub are : lines ≡ to.Run k (ended v - ended w) ∷ []

-- `finish within N`: rounds until each live node is done and no transaction is left, or N were made, or one moved
-- nothing
abbrev pub finish_ends : World → ℕ → ℕ → Bool
finish_ends w n j = is_at_rest (after_rounds true w j) || j == n || stands_still true w j

pub record FinishesAt (w : World) (n : ℕ) (lines : List HistoryLine) (v : World) : Type 0 where
  pub rounds : ℕ
  pub number : FirstAt (finish_ends w n) rounds
  pub world : v ≡ after_rounds true w rounds
  pub are : lines ≡ to.Finish n rounds ∷ []

-- Looks: one, and one after each round in which no node begins, at the ports that were not yet found drained.
abbrev pub seen_at : World → ℕ → Seen
seen_at w p = record { port = p; serial = (exchange w.machine p).serial }

pub record Looks : Type 0 where
  pub seen : List (List Seen)
  pub left : List ℕ

abbrev pub look_once : World → Looks → Looks
look_once w l =
    record {
      seen = l.seen ++ map (seen_at w) (filter (is_drained w.machine) l.left) ∷ [];
      left = filter (λ p. not (is_drained w.machine p)) l.left;
    }

abbrev pub looks_after : World → List ℕ → ℕ → Looks
looks_after w ports zero = look_once w (record { seen = []; left = ports })
looks_after w ports (suc j) = look_once (after_rounds false w (suc j)) (looks_after w ports j)

abbrev pub is_none_left : World → List ℕ → ℕ → Bool
is_none_left w ports j = length (looks_after w ports j).left == 0

-- a change waits so many rounds at most
abbrev pub wait_ends : World → List ℕ → ℕ → ℕ → Bool
wait_ends w ports within j = is_none_left w ports j || j == within

-- how a change ends after a wait: in this world, with these looks
abbrev pub end_lines : Graph → Graph → Plan → ℕ → List ℕ → World → Looks → List HistoryLine
end_lines old new plan within closed v l =
    if length l.left == 0 then drained_lines l.seen ++ commit_lines old new plan v.machine.config
    else drained_lines l.seen ++ pending_lines within (map (seen_at v) l.left) closed

abbrev pub end_events : Graph → Graph → Plan → List ℕ → World → Looks → List Event
end_events old new plan closed v l =
    if length l.left == 0 then commit_events old new plan v.machine.config else map Reopen closed

-- A change that is tried closes its ports and waits for rounds in which no node begins a transaction, whether its gate
-- is closed or open; then it ends by what the looks found.
pub record ChangesTo (w : World) (name : List ℕ) (args : List ℤ) (new : Graph) (within : ℕ) (moves : List Move) (lines : List HistoryLine) (v : World) : Type 0 where
  pub old : Graph
  pub is_old : IsGraphOf w.machine.config old
  pub plan : Plan
  pub moves_lead : MayMoveAll old new moves (length moves)
  pub is_plan : IsPlanOf old new moves plan
  pub closed : List ℕ
  pub closed_are : closed ≡ ports_to_close old plan w.machine.config
  pub waiting : World
  pub waits : waiting ≡ after_changes w (map Close closed)
  pub rounds : ℕ
  pub number : FirstAt (wait_ends waiting closed within) rounds
  pub at_end : World
  pub end_is : at_end ≡ after_rounds false waiting rounds
  pub found : Looks
  pub found_is : found ≡ looks_after waiting closed rounds
  pub are : lines ≡ opening_lines name args old plan w.machine.config ++ end_lines old new plan within closed at_end found
  pub world : v ≡ after_changes at_end (end_events old new plan closed at_end found)

pub record ShowsGraph (w : World) (lines : List HistoryLine) : Type 0 where
  pub graph : Graph
  pub is_graph : IsGraphOf w.machine.config graph
  pub are : lines ≡ to.Show graph ∷ []

pub record Skips (w : World) (name : List ℕ) (args : List ℤ) (lines : List HistoryLine) (v : World) : Type 0 where
  pub are : lines ≡ skip_lines name args
  pub world : v ≡ w

-- a statement leads, behind these lines, from a world with its lines to a world
abbrev pub Plays : List HistoryLine → World → Statement → List HistoryLine → World → Type 0
Plays before w (start name args g) lines v = (lines ≡ start_lines name args g) × (v ≡ after_changes w (start_of g))
Plays before w (change name args g within moves) lines v =
    (list_any is_pending before ≡ true → Skips w name args lines v)
    × (list_any is_pending before ≡ false → ChangesTo w name args g within moves lines v)
Plays before w (run k) lines v = RunsTo w k lines v
Plays before w (finish n) lines v = FinishesAt w n lines v
Plays before w show lines v = ShowsGraph w lines × (v ≡ w)

-- a statement with its lines and the world behind it
pub record Played : Type 0 where
  pub statement : Statement
  pub lines : List HistoryLine
  pub world : World

abbrev pub lines_played : List Played → List HistoryLine
lines_played parts = flat_map (λ (p : Played). p.lines) parts

abbrev pub world_after : List Played → World
world_after parts = fold (λ w (p : Played). p.world) nowhere parts

abbrev pub IsPlayed : List Played → Played → Type 0
IsPlayed before p = Plays (lines_played before) (world_after before) p.statement p.lines p.world

-- the stop waits until all that it closed is drained
pub record StopsAt (w : World) (lines : List HistoryLine) (v : World) : Type 0 where
  pub waiting : World
  pub waits : waiting ≡ after_changes w (map Close (live_ports w.machine.config))
  pub rounds : ℕ
  pub number : FirstAt (is_none_left waiting (live_ports w.machine.config)) rounds
  pub world : v ≡ after_rounds false waiting rounds
  pub are : lines ≡ to.Stop ∷ map to.Close (live_ports w.machine.config)
      ++ drained_lines (looks_after waiting (live_ports w.machine.config) rounds).seen

-- the logs at the end, and what wasn't finished
abbrev pub last_of : List HistoryLine → World → ℕ → Last
last_of history w n =
    option_map_or last.Moved (moved_to history n) (last.State (option_map_or moves.numbers (state_of w n) []))

abbrev pub log_of : List HistoryLine → World → ℕ → NodeLog
log_of history w n = record { slot = n; events = done_by n w.events; last = last_of history w n }

abbrev pub is_left_undone : World → ℕ → Bool
is_left_undone w n = is_live w.machine.config n && not (is_done w n)

abbrev pub unfinished_in : List Statement → World → Option ℕ
unfinished_in statements w =
    if list_any is_finish statements then find (is_left_undone w) (range_with_len 0 (length w.machine.config.slots)) else None

abbrev pub report_of : List Statement → List HistoryLine → World → Report
report_of statements history w =
    record {
      history = history;
      logs = map (log_of history w) (range_with_len 0 (length w.machine.config.slots));
      unfinished = unfinished_in statements w;
      status = status_of history (unfinished_in statements w);
    }

-- The report of the rounds of a script with these statements.
pub record Serial (statements : List Statement) (report : Report) : Type 0 where
  pub parts : List Played
  pub statements_are : map (λ (p : Played). p.statement) parts ≡ statements
  pub played : Each IsPlayed parts
  pub stop : List HistoryLine
  pub world : World
  pub stops : StopsAt (world_after parts) stop world
  pub report_is : report ≡ report_of statements (lines_played parts ++ stop) world
