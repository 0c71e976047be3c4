-- What the code of a session stands for.
use Rattle.std.specs.Prelude.{◌≡◌, ℕ, Bool, true, false, List, [], ◌++◌, length, map, Some, fold}
use Rattle.std.specs.List.{list_all, range_with_len}
use Rattle.change_lists.specs.Layouts.{IsLayoutOf}
use Rattle.change_lists.specs.Lists.{closed_by, commit_by, places_after, ports_after}
use Rattle.change_lists.specs.declared.lists.Commit.{Commit}
use Rattle.change_lists.specs.declared.layout.Layout.{Layout}
use Rattle.change_plan.specs.Plans.{IsPlanOf}
use Rattle.change_plan.specs.Refusals.{CanPlan}
use Rattle.change_plan.specs.declared.plan_data.Move.{Move}
use Rattle.change_plan.specs.declared.plan_data.Plan.{Plan}
use Rattle.change_plan_laws.specs.Committing.{made_in}
use Rattle.config_graph.specs.Graph.{Graph, IsGraph, ports as ports_of}
use Rattle.config_graph.specs.Sound.{Sound}
use Rattle.quiesce_core.specs.declared.event.Event.{Event}
use Rattle.quiesce_core.specs.Effect.{effect}
use Rattle.quiesce_core.specs.Live.{IsGraphOf}
use Rattle.quiesce_core.specs.Runs.{IsRun, Steps, state_after}
use Rattle.quiesce_core.specs.Start.{started}
use Rattle.quiesce_core.specs.State.{Configuration, State}
use Rattle.quiesce_laws.specs.Drained.{is_drained}
use Rattle.report_types.specs.declared.report.HistoryLine.{HistoryLine}
use Rattle.change_apply.specs.declared.said.Answer.{Answer}
use Rattle.change_apply.specs.declared.said.Answer.TheVariants as answer
use Rattle.change_apply.specs.declared.said.Phase.TheVariants as phase
use Rattle.change_apply.specs.declared.session.Session.{Session}
use Rattle.change_apply.specs.declared.request.Request.{Request}
use Rattle.change_apply.specs.declared.session.Ground.{Ground}
use Rattle.change_apply.specs.Sessions.{Change, Scene, Turned, asked, change_in, happened, is_over}

abbrev pub AreDrained : State → List ℕ → Type 0
AreDrained s ports = list_all (is_drained s) ports ≡ true

-- events that may be done from a state on, and their doing
abbrev pub CanDo : State → List Event → Type 0
CanDo s es = Steps s es (fold effect s es)

abbrev pub HasDone : State → List Event → State → Type 0
HasDone s es t = t ≡ fold effect s es

abbrev pub after_told : State → List Event → State
after_told s es = fold effect s (happened s es)

-- the plan leads from the graph that stands to a sound graph, and there is room for what it creates
pub record IsPlanned (old new : Graph) (moves : List Move) (plan : Plan) (c : Configuration) : Type 0 where
  pub new_graph : IsGraph new
  pub new_sound : Sound new
  pub is_plan : IsPlanOf old new moves plan
  pub can_plan : CanPlan old new moves (made_in c)

-- what a commit's lists are by a layout
pub record IsListed (old new : Graph) (plan : Plan) (l : Layout) (x : Commit) : Type 0 where
  pub events : x.events.items ≡ commit_by old new plan l.places.items l.ports.items
  pub places : x.next.places.items ≡ places_after old new plan l.places.items
  pub ports : x.next.ports.items ≡ ports_after new plan l.places.items l.ports.items

-- the change of a session, and its scene where these events have happened
abbrev pub change_of : Session → Change
change_of d = change_in d.request

abbrev pub scene_of : Session → List Event → Scene
scene_of d es = record { events = es; left = d.left; phase = d.phase }

-- What is there of a system that was started as the old graph says: its machine, its layout, and the ports to be closed.
pub record IsGroundOf (r : Request) (x : Ground) : Type 0 where
  pub state : x.core.state ≡ started r.from.graph
  pub places : x.layout.places.items ≡ map Some (range_with_len 0 (length r.from.graph.nodes))
  pub ports : x.layout.ports.items ≡ ports_of r.from.graph.nodes
  pub closed : x.asked.items ≡ closed_by x.layout.places.items x.layout.ports.items r.plan.freeze

-- A session that isn't over stands for a system in which these events have happened. They are a run, the graph is the
-- old one still, and the plan may be carried out once all ports are drained; as they are where it is ready.
pub record Stands (d : Session) (es : List Event) : Type 0 where
  pub going : is_over d.phase ≡ false
  pub state : d.core.state ≡ state_after es
  pub run : IsRun es
  pub graph : IsGraphOf (state_after es).config d.request.from.graph
  pub is_graph : IsGraph d.request.from.graph
  pub layout : IsLayoutOf d.layout (state_after es).config d.request.from.graph
  pub planned : IsPlanned d.request.from.graph d.request.to.graph [] d.request.plan (state_after es).config
  pub asked_are : d.asked.items ≡ asked (change_of d)
  pub closed : d.asked.items ≡ closed_by d.layout.places.items d.layout.ports.items d.request.plan.freeze
  pub ready : d.phase ≡ phase.Ready → AreDrained (state_after es) d.asked.items

-- one that is over: the machine is where these events lead, they are a run, and its graph is this
pub record IsOver (d : Session) (es : List Event) (g : Graph) : Type 0 where
  pub state : d.core.state ≡ state_after es
  pub run : IsRun es
  pub graph : IsGraphOf (state_after es).config g

-- what a session stands for behind an answer: the new graph behind a commit, the old one behind any other end
abbrev pub Holds : Answer → Session → List Event → Change → Type 0
Holds answer.Waits d es c = Stands d es
Holds answer.Ready d es c = Stands d es
Holds answer.Committed d es c = IsOver d es c.new
Holds _ d es c = IsOver d es c.old

-- whether behind this answer the change isn't made
abbrev pub is_leaving : Answer → Bool
is_leaving answer.GivenUp = true
is_leaving (answer.Denied rule) = true
is_leaving answer.Bad = true
is_leaving answer.Unread = true
is_leaving _ = false

-- A turn was made: the answer and the lines are these, and the session stands for what has happened.
pub record IsTurned (c : Change) (t : Turned) (new : Session) (a : Answer) (before after : List HistoryLine) : Type 0 where
  pub answer_is : a ≡ t.answer
  pub lines : after ≡ before ++ t.lines
  pub change : change_of new ≡ c
  pub scene : scene_of new t.next.events ≡ t.next
  pub holds : Holds t.answer new t.next.events c
