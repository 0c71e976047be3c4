-- To be believed (definitions.md).
-- What is promised of a session.
use Rattle.std.specs.Prelude.{◌≡◌, ℕ, false, List, ◌∷◌, ◌++◌, Option, Some, None, IsTrue}
use Rattle.change_apply.specs.Applied.{heard}
use Rattle.change_apply.specs.Sessions.{Change}
use Rattle.change_apply.specs.declared.request.Request.{Request}
use Rattle.change_apply.specs.declared.said.Ending.{Ending}
use Rattle.change_apply.specs.declared.said.Ending.TheVariants as ending
use Rattle.change_apply.specs.declared.said.Phase.TheVariants.{Ready}
use Rattle.change_apply.specs.declared.said.Said.{Said}
use Rattle.change_apply.specs.declared.said.Said.TheVariants.{Go}
use Rattle.config_graph.specs.Graph.{Graph}
use Rattle.crowd_laws.specs.Acts.{Act, MayGoOn, events_told, world_after}
use Rattle.crowd_laws.specs.Beginning.{IsStart}
use Rattle.crowd_laws.specs.Crowds.{World}
use Rattle.crowd_laws.specs.Quiet.{IsQuiescent}
use Rattle.quiesce_core.specs.declared.event.Event.{Event}
use Rattle.quiesce_core.specs.declared.event.Event.TheVariants.{Link, Remove, Unlink}
use Rattle.quiesce_core.specs.Live.{IsGraphOf}
use Rattle.quiesce_core.specs.Rules.{is_live_port}
use Rattle.quiesce_core.specs.Runs.{state_after}
use Rattle.quiesce_core.specs.Settled.{Quiescent}
use Rattle.quiesce_core.specs.Start.{started}
use Rattle.quiesce_core.specs.State.{Configuration, gate, owner}
use Rattle.quiesce_laws.specs.Starts.{start_of}

-- the node that is changed: the owner of a port that is linked or unlinked, or what is removed
abbrev pub touched : Configuration → Event → Option ℕ
touched c (Link p n x) = Some (owner c p)
touched c (Unlink p) = Some (owner c p)
touched c (Remove n) = Some n
touched c _ = None

-- Behind these events the node that this one changes is quiescent. So it is in each crowd that has the system, where what
-- came of the crowd is what was told.
pub record FindsQuiet (old : Graph) (before : List Event) (e : Event) : Type 0 where
  pub in_the_run : (n : ℕ) → touched (state_after before).config e ≡ Some n → Quiescent before n
  pub in_crowds :
      (w : World) (acts : List Act) (n : ℕ) → touched (state_after before).config e ≡ Some n → IsStart w → w.machine ≡ started old
      → MayGoOn w acts → before ≡ start_of old ++ events_told w acts → IsQuiescent (world_after w acts) n

-- Where it was committed, the new graph stands, and each gate of a live node is open. Behind any other end the old one does,
-- and each gate is as it was where the session began.
pub record StandsNew (c : Change) (events : List Event) : Type 0 where
  pub graph : IsGraphOf (state_after events).config c.new
  pub gates : (p : ℕ) → IsTrue (is_live_port (state_after events).config p) → (gate (state_after events).config p).closed ≡ false

pub record StandsOld (c : Change) (events : List Event) : Type 0 where
  pub graph : IsGraphOf (state_after events).config c.old
  pub gates : (p : ℕ) → (gate (state_after events).config p).closed ≡ (gate (state_after (start_of c.old)).config p).closed

abbrev pub StandsBehind : Ending → Change → List Event → Type 0
StandsBehind ending.Committed c events = StandsNew c events
StandsBehind _ c events = StandsOld c events

-- `go` was said where all was ready
pub record SaysGo (r : Request) (said : List Said) : Type 0 where
  pub before : List Said
  pub after : List Said
  pub are : said ≡ before ++ Go ∷ after
  pub ready : (heard r before).scene.phase ≡ Ready
