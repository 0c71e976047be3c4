-- To be believed (definitions.md).
-- What has happened in a session, whatever was said: the start's events, those that lines told, and those of its end.
use Rattle.std.specs.Prelude.{◌≡◌, ◌<◌, ℕ, Bool, true, false, List, [], ◌++◌, IsTrue, fold, map}
use Rattle.std.specs.List.{list_all}
use Rattle.change_plan_laws.specs.Commit.{commit_events}
use Rattle.quiesce_core.specs.declared.event.Event.{Event}
use Rattle.quiesce_core.specs.declared.event.Event.TheVariants.{Begin, Take, Give, End, Close, Reopen}
use Rattle.quiesce_core.specs.Live.{IsGraphOf}
use Rattle.quiesce_core.specs.Rules.{is_live_port}
use Rattle.quiesce_core.specs.Runs.{IsRun, state_after}
use Rattle.quiesce_core.specs.State.{gate}
use Rattle.quiesce_laws.specs.Drained.{is_drained}
use Rattle.quiesce_laws.specs.Starts.{start_of}
use Rattle.change_apply.specs.Sessions.{Change, Scene, asked, first_scene, goes_on, turn}
use Rattle.change_apply.specs.declared.said.Phase.{Phase}
use Rattle.change_apply.specs.declared.said.Phase.TheVariants as phase
use Rattle.change_apply.specs.declared.said.Said.{Said}
use Rattle.change_apply.specs.declared.said.Said.TheVariants as says

-- where a session is behind what was said
abbrev pub scene_after : Change → List Said → Scene
scene_after c said = fold (λ s x. (turn c s x).next) (goes_on c (first_scene c)).next said

-- whether a line counts as a round
abbrev pub is_round : Said → Bool
is_round says.Round = true
is_round _ = false

-- the events that lines tell
abbrev pub is_told : Event → Bool
is_told (Begin p k v) = true
is_told (Take p k v) = true
is_told (Give p k v) = true
is_told (End p k v) = true
is_told (Close p) = true
is_told _ = false

-- whether all is drained behind these events that was to be
abbrev pub all_drained : Change → List Event → Bool
all_drained c es = list_all (is_drained (state_after es)) (asked c)

-- Where it waits, something isn't drained and rounds are left; where it is ready, all is drained. The graph is the old
-- one still.
pub record IsWaiting (c : Change) (before ended : List Event) (left : ℕ) : Type 0 where
  pub none_yet : ended ≡ []
  pub undrained : all_drained c before ≡ false
  pub rounds_left : 0 < left
  pub graph : IsGraphOf (state_after before).config c.old

pub record IsReady (c : Change) (before ended : List Event) : Type 0 where
  pub none_yet : ended ≡ []
  pub drained : all_drained c before ≡ true
  pub graph : IsGraphOf (state_after before).config c.old

-- Where the change was made, all was drained, the graph is the new one, and each gate of a live node is open.
pub record IsMade (c : Change) (before ended : List Event) : Type 0 where
  pub drained : all_drained c before ≡ true
  pub commit : ended ≡ commit_events c.old c.new c.plan (state_after before).config
  pub graph : IsGraphOf (state_after (before ++ ended)).config c.new
  pub gates : (p : ℕ) → IsTrue (is_live_port (state_after (before ++ ended)).config p) → (gate (state_after (before ++ ended)).config p).closed ≡ false

-- Where it wasn't, the graph is the old one, and each gate is as it was where the session began.
pub record IsLeft (c : Change) (before ended : List Event) : Type 0 where
  pub reopens : ended ≡ map Reopen (asked c)
  pub graph : IsGraphOf (state_after (before ++ ended)).config c.old
  pub gates : (p : ℕ) → (gate (state_after (before ++ ended)).config p).closed ≡ (gate (state_after (start_of c.old)).config p).closed

abbrev pub EndsIn : Phase → Change → ℕ → List Event → List Event → Type 0
EndsIn phase.Waiting c left before ended = IsWaiting c before ended left
EndsIn phase.Ready c left before ended = IsReady c before ended
EndsIn phase.Committed c left before ended = IsMade c before ended
EndsIn phase.Left c left before ended = IsLeft c before ended

pub record Course (c : Change) (s : Scene) : Type 0 where
  pub told : List Event
  pub ended : List Event
  pub are : s.events ≡ (start_of c.old ++ told) ++ ended
  pub by_lines : list_all is_told told ≡ true
  pub run : IsRun s.events
  pub ends : EndsIn s.phase c s.left (start_of c.old ++ told) ended
