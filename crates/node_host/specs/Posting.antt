-- What becomes of the hint of a request that a node sends.
use Rattle.std.specs.Prelude.{◌≡◌, ◌≢◌, ◌+◌, ◌-◌, ℕ, Bool, true, false, ◌&&◌, List, Option, Some, None, is_none, slice_index_or, slice_set, if◌then◌else◌}
use Rattle.node_gate.specs.Answers.{IsTargetAt}
use Rattle.node_gate.specs.Loads.{IsLoaded, Loads, TellsLoads, leads_to}
use Rattle.node_gate.specs.Seats.{NodeAt}
use Rattle.port_queue.specs.Inboxes.{Counts, CountsNext, after_next, after_post, front, has_room}
use Rattle.quiesce_core.specs.State.{State}
use Rattle.quiesce_core.specs.declared.event.Event.{Event}
use Rattle.quiesce_core.specs.declared.event.Event.TheVariants.{Begin, Call}
use Rattle.quiesce_core.specs.declared.known.Known.{Known}
use Rattle.node_host.specs.Told.{FitsToldState}
use Rattle.node_host.specs.Tried.{HasNoRequest, is_passed}
use Rattle.node_host.specs.Trying.{CountsTried}

-- what contracts see of the inboxes of all nodes, and of the hints of one node that wait
pub record Hinted : Type 0 where
  pub waiting : List (Option ℕ)
  pub counts : ℕ → Counts
  pub told : ℕ → Option (List ℕ)

-- The hint of requirement r for node m was posted, or its inbox was full and was counted so, and it waits. A way that
-- tells the inbox posts it exactly where that has room. All other inboxes are as they were.
pub record IsPosted (first r m : ℕ) (old new : Hinted) : Type 0 where
  pub posted : Bool
  pub waits : new.waiting ≡ slice_set old.waiting r (if posted then None else Some m)
  pub tried : CountsTried posted (old.counts m) (new.counts m)
  pub full : (held : List ℕ) → old.told m ≡ Some held → posted ≡ has_room held
  pub put : (held : List ℕ) → old.told m ≡ Some held → new.told m ≡ Some (after_post held (first + r))
  pub counts : (other : ℕ) → other ≢ m → new.counts other ≡ old.counts other
  pub told : (other : ℕ) → other ≢ m → new.told other ≡ old.told other

-- what contracts see of a gate: its state, where it tells that, and what the node's seat tells of its loads before
-- and after
pub record GateSeen : Type 0 where
  pub state : Option State
  pub before : Option Loads
  pub after : Option Loads

-- it is posted for the node to which the port leads, by the gate's state and by the word that the seat loaded
pub record IsSent (g : GateSeen) (first p : ℕ) (old new : Hinted) : Type 0 where
  pub target : ℕ
  pub leads : IsTargetAt g.state p target
  pub loaded : TellsLoads (IsLoaded p (leads_to target)) g.before g.after
  pub posted : IsPosted first (p - first) target old new

-- whether it is an event that asks something of another node
abbrev pub is_asking : Option Event → Bool
is_asking (Some (Begin p k v)) = true
is_asking (Some (Call p k v)) = true
is_asking _ = false

-- the hint of an event that asks, and of no other
abbrev pub HintOf : GateSeen → ℕ → Option Event → Hinted → Hinted → Type 0
HintOf g first (Some (Begin p k v)) old new = IsSent g first p old new
HintOf g first (Some (Call p k v)) old new = IsSent g first p old new
HintOf g first _ old new = new ≡ old

-- ---- all that a turn does with hints

-- a hint that waits at requirement r is posted again
abbrev pub Reposted : Option ℕ → ℕ → ℕ → Hinted → Hinted → Type 0
Reposted None first r old new = new ≡ old
Reposted (Some m) first r old new = IsPosted first r m old new

-- the node's waiting hints are posted, by port
pub record PostsWaiting (first : ℕ) (old new : Hinted) : Type 0 where
  pub between : Hinted
  pub left : Reposted (slice_index_or old.waiting 0 None) first 0 old between
  pub right : Reposted (slice_index_or between.waiting 1 None) first 1 between new

-- the node's inbox was asked for the next hint
pub record IsLooked (slot : ℕ) (old new : Hinted) : Type 0 where
  pub hint : Option ℕ
  pub counted : CountsNext (old.counts slot) hint (new.counts slot)
  pub in_front : (held : List ℕ) → old.told slot ≡ Some held → hint ≡ front held
  pub taken : (held : List ℕ) → old.told slot ≡ Some held → new.told slot ≡ Some (after_next held)
  pub counts : (other : ℕ) → other ≢ slot → new.counts other ≡ old.counts other
  pub told : (other : ℕ) → other ≢ slot → new.told other ≡ old.told other
  pub waiting : new.waiting ≡ old.waiting

abbrev pub Looked : Bool → ℕ → Hinted → Hinted → Type 0
Looked true slot old new = IsLooked slot old new
Looked false slot old new = new ≡ old

-- Where the inbox was asked, it was so before the event, whose hint is sent then; and if no request was taken up,
-- then none waits at the next hint, or there is no hint.
pub record IsSentAfter (g : GateSeen) (slot first : ℕ) (asked : Bool) (e : Option Event) (old new : Hinted) : Type 0 where
  pub between : Hinted
  pub looked : Looked asked slot old between
  pub request : asked ≡ true → is_passed 3 e ≡ true
      → HasNoRequest slot (old.counts slot) (between.counts slot) g.before g.after
  pub sent : HintOf g first e between new

-- The inbox is asked exactly where the node is in no service and neither replied nor went on with one: where the rule
-- says so, if the gate tells its state.
pub record IsSentBy (g : GateSeen) (n : NodeAt) (known : Known) (rule : State → Bool) (e : Option Event) (old new : Hinted) : Type 0 where
  pub asked : Bool
  pub exact : asked ≡ (is_passed 2 e && is_none known.service)
  pub ruled : (s : State) → FitsToldState g.state n known s → asked ≡ rule s
  pub after : IsSentAfter g n.slot n.first asked e old new

-- a turn posts the hints that wait, then asks the inbox, and then sends the hint of its event
pub record IsHinted (g : GateSeen) (n : NodeAt) (known : Known) (rule : State → Bool) (e : Option Event) (old new : Hinted) : Type 0 where
  pub posted : Hinted
  pub waits : PostsWaiting n.first old posted
  pub sent : IsSentBy g n known rule e posted new
