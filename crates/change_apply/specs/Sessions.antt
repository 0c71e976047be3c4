-- To be believed (definitions.md).
-- A session of `apply`: a change of a system that runs elsewhere. What each line that comes does, what is answered, and
-- what has happened then.
use Rattle.std.specs.Prelude.{ℕ, ◌≤◌, ◌+◌, ◌-◌, ◌==◌, Bool, true, false, ◌&&◌, nat_lt, nat_le, List, [], ◌∷◌, ◌++◌, map, length, Option, Some, None, if◌then◌else◌}
use Rattle.std.specs.List.{flat_map, list_all, list_any}
use Rattle.change_spec.specs.Changes.{commit_lines}
use Rattle.change_plan.specs.declared.plan_data.Plan.{Plan}
use Rattle.change_plan.specs.Plans.{IsPlanOf}
use Rattle.change_plan.specs.Refusals.{CanPlan}
use Rattle.change_plan_laws.specs.Commit.{commit_events, ports_to_close}
use Rattle.change_plan_laws.specs.Committing.{made_in}
use Rattle.config_graph.specs.Graph.{Graph, IsGraph, ports}
use Rattle.config_graph.specs.Sound.{Sound}
use Rattle.config_graph.specs.declared.TheConstants.{MAX_NODES, MAX_PORTS}
use Rattle.quiesce_core.specs.declared.event.Event.{Event}
use Rattle.quiesce_core.specs.declared.event.Event.TheVariants as event
use Rattle.quiesce_core.specs.Effect.{effect}
use Rattle.quiesce_core.specs.Rules.{denial, is_open}
use Rattle.quiesce_core.specs.Runs.{state_after}
use Rattle.quiesce_core.specs.Start.{started}
use Rattle.quiesce_core.specs.State.{State, exchange}
use Rattle.quiesce_laws.specs.Drained.{is_drained}
use Rattle.quiesce_laws.specs.Starts.{start_of}
use Rattle.report_types.specs.declared.report.HistoryLine.{HistoryLine}
use Rattle.report_types.specs.declared.report.HistoryLine.TheVariants as to
use Rattle.change_apply.specs.declared.request.Request.{Request}
use Rattle.change_apply.specs.declared.said.Answer.{Answer}
use Rattle.change_apply.specs.declared.said.Answer.TheVariants as answer
use Rattle.change_apply.specs.declared.said.Phase.{Phase}
use Rattle.change_apply.specs.declared.said.Phase.TheVariants as phase
use Rattle.change_apply.specs.declared.said.Said.{Said}
use Rattle.change_apply.specs.declared.said.Said.TheVariants as says

-- the change of a session: from a graph to a graph by a plan, within so many rounds
pub record Change : Type 0 where
  pub old : Graph
  pub new : Graph
  pub plan : Plan
  pub within : ℕ

-- that of a request
abbrev pub change_in : Request → Change
change_in r = record { old = r.from.graph; new = r.to.graph; plan = r.plan; within = r.within }

-- What is asked of a change: both graphs are such of descriptions, the plan leads from the one to the other, moves no
-- state, and has room.
pub record CanChange (c : Change) : Type 0 where
  pub old_graph : IsGraph c.old
  pub old_sound : Sound c.old
  pub few_nodes : length c.old.nodes ≤ MAX_NODES
  pub few_ports : length (ports c.old.nodes) ≤ MAX_PORTS
  pub new_graph : IsGraph c.new
  pub new_sound : Sound c.new
  pub is_plan : IsPlanOf c.old c.new [] c.plan
  pub can_plan : CanPlan c.old c.new [] (made_in (started c.old).config)

-- the ports whose gates are to be closed: those of the nodes that the plan freezes
abbrev pub asked : Change → List ℕ
asked c = ports_to_close c.old c.plan (state_after (start_of c.old)).config

-- where a session is: what has happened since the start began, how many rounds it still waits, and its phase
pub record Scene : Type 0 where
  pub events : List Event
  pub left : ℕ
  pub phase : Phase

abbrev pub state_of : Scene → State
state_of s = state_after s.events

-- where a session begins
abbrev pub first_scene : Change → Scene
first_scene c = record { events = start_of c.old; left = c.within; phase = phase.Waiting }

-- what a line does, what is answered, and where the session is then
pub record Turned : Type 0 where
  pub answer : Answer
  pub lines : List HistoryLine
  pub next : Scene

-- ---- what a line tells

-- `busy P`: a transaction begins; `closed P`: the gate is closed; `idle P`: the transaction is taken, answered and ended
abbrev pub events_told : State → Said → List Event
events_told s (says.Busy p) = event.Begin p ((exchange s p).serial + 1) 0 ∷ []
events_told s (says.Closed p) = event.Close p ∷ []
events_told s (says.Idle p) =
    event.Take p (exchange s p).serial 0 ∷ event.Give p (exchange s p).serial 0 ∷ event.End p (exchange s p).serial 0 ∷ []
events_told s _ = []

-- events that are told happen one after the other, up to the first that is denied; and the rule by which it is
abbrev pub happened_by : Option ℕ → Event → List Event → List Event
happened_by None e rest = e ∷ rest
happened_by (Some rule) e rest = []

abbrev pub happened : State → List Event → List Event
happened s [] = []
happened s (e ∷ es) = happened_by (denial s e) e (happened (effect s e) es)

abbrev pub denied_by : Option ℕ → Option ℕ → Option ℕ
denied_by None rest = rest
denied_by (Some rule) rest = Some rule

abbrev pub denied : State → List Event → Option ℕ
denied s [] = None
denied s (e ∷ es) = denied_by (denial s e) (denied (effect s e) es)

abbrev pub is_ready : Phase → Bool
is_ready phase.Ready = true
is_ready _ = false

-- whether a line makes sense: its port was made; its gate was to be closed, and is open; all is ready
abbrev pub may_say : Change → Scene → Said → Bool
may_say c s (says.Busy p) = nat_lt p (length (state_of s).config.gates)
may_say c s (says.Idle p) = nat_lt p (length (state_of s).config.gates)
may_say c s (says.Closed p) = list_any (λ q. q == p) (asked c) && is_open (state_of s).config p
may_say c s says.Go = is_ready s.phase
may_say c s says.Senseless = false
may_say c s _ = true

-- ---- how a session goes on

abbrev pub drained_at : State → ℕ → HistoryLine
drained_at s p = to.Drained p (exchange s p).serial

-- the root at a port that isn't drained
abbrev pub root_at : State → ℕ → List HistoryLine
root_at s p = if is_drained s p then [] else to.Root p (exchange s p).serial ∷ []

-- nothing is answered
abbrev pub waits : Scene → Turned
waits s = record { answer = answer.Waits; lines = []; next = s }

-- each port is drained: `drained P S` .., and then `ready`
abbrev pub gets_ready : Change → Scene → Turned
gets_ready c s = record {
  answer = answer.Ready;
  lines = map (drained_at (state_of s)) (asked c);
  next = record s { phase = phase.Ready };
}

-- the change isn't made: behind these lines, each gate is opened that was to be closed
abbrev pub leaves : Change → Scene → Answer → List HistoryLine → Turned
leaves c s a first = record {
  answer = a;
  lines = first ++ (map to.Reopen (asked c) ++ to.Abandon ∷ []);
  next = record { events = s.events ++ map event.Reopen (asked c); left = s.left; phase = phase.Left };
}

-- it is given up, and each port is named that isn't drained
abbrev pub gives_up : Change → Scene → Turned
gives_up c s = leaves c s answer.GivenUp (to.Pending c.within ∷ flat_map (root_at (state_of s)) (asked c))

-- the plan is carried out
abbrev pub commits : Change → Scene → Turned
commits c s = record {
  answer = answer.Committed;
  lines = commit_lines c.old c.new c.plan (state_of s).config;
  next = record {
    events = s.events ++ commit_events c.old c.new c.plan (state_of s).config;
    left = s.left;
    phase = phase.Committed;
  };
}

-- While it waits: it is ready where each port is drained; else it is given up where no round is left.
abbrev pub settles : Change → Scene → Turned
settles c s =
    if list_all (is_drained (state_of s)) (asked c) then gets_ready c s
    else (if nat_le s.left 0 then gives_up c s else waits s)

abbrev pub goes_on_in : Phase → Change → Scene → Turned
goes_on_in phase.Waiting c s = settles c s
goes_on_in _ c s = waits s

abbrev pub goes_on : Change → Scene → Turned
goes_on c s = goes_on_in s.phase c s

-- a line of events: all happen, or one is denied (`denied LINE RULE`)
abbrev pub tells_by : Option ℕ → Change → Scene → Turned
tells_by None c s = goes_on c s
tells_by (Some rule) c s = leaves c s (answer.Denied rule) []

abbrev pub tells : Change → Scene → List Event → Turned
tells c s es = tells_by (denied (state_of s) es) c (record s { events = s.events ++ happened (state_of s) es })

-- A line that makes sense. The end of the input is as `stop`; where it can't be read on, nobody is told what is open.
abbrev pub hears : Change → Scene → Said → Turned
hears c s says.Round = goes_on c (record s { left = s.left - 1 })
hears c s says.Stop = gives_up c s
hears c s says.Over = gives_up c s
hears c s says.Broken = leaves c s answer.Unread []
hears c s says.Go = commits c s
hears c s says.Silent = waits s
hears c s said = tells c s (events_told (state_of s) said)

abbrev pub is_over : Phase → Bool
is_over phase.Committed = true
is_over phase.Left = true
is_over _ = false

-- any line, or the end of the input (`bad LINE` where it makes no sense); a session that is over hears nothing
abbrev pub turn : Change → Scene → Said → Turned
turn c s said =
    if is_over s.phase then waits s
    else (if may_say c s said then hears c s said else leaves c s answer.Bad [])
