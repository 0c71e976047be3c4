-- What nodes do between two entries of a record: turns, one after the other.
use Rattle.std.specs.Prelude.{◌≡◌, ℕ, Bool, false, List, ◌++◌, All, filter, fold, if◌then◌else◌}
use Rattle.std.specs.List.{range_with_len}
use Rattle.quiesce_core.specs.Doers.{is_of_change}
use Rattle.quiesce_core.specs.State.{is_live}
use Rattle.quiesce_core.specs.declared.event.Event.{Event}
use Rattle.node_turn_laws.specs.Reached.{IsReached}
use Rattle.node_turn_laws.specs.Round.{Round, give_turn, round}
use Rattle.node_turn_laws.specs.World.{World}

-- further events of nodes, which the machine allowed; the configuration stands
pub record WentOn (w v : World) : Type 0 where
  pub later : List Event
  pub events_are : v.events ≡ w.events ++ later
  pub by_nodes : All (λ e. is_of_change e ≡ false) later
  pub reached : IsReached v
  pub config : v.machine.config ≡ w.machine.config

-- the turns of the live nodes in the slots below this one: the front of a round
abbrev pub live_below : World → ℕ → List ℕ
live_below w k = filter (λ n. is_live w.machine.config n) (range_with_len 0 k)

abbrev pub before_turns : World → Round
before_turns w = record { world = w; moved = false }

abbrev pub turns_below : Bool → World → ℕ → Round
turns_below begins w k = fold (give_turn begins) (before_turns w) (live_below w k)

-- the turn of a node that is live, and of no other
abbrev pub turn_if_live : Bool → World → ℕ → Round
turn_if_live begins w n = if is_live w.machine.config n then give_turn begins (before_turns w) n else before_turns w

-- nodes that were as in a world are as in the one behind this round, and it moved so
pub record Gave {B : Type 0} (S : B → World → Type 0) (new : B) (moved : Bool) (round_ : Round) : Type 0 where
  pub shows : S new round_.world
  pub moved_is : moved ≡ round_.moved

abbrev pub GaveTurn : {B : Type 0} → (B → World → Type 0) → B → B → Bool → ℕ → Bool → Type 0
GaveTurn S old new begins n moved = (w : World) → S old w → Gave S new moved (give_turn begins (before_turns w) n)

abbrev pub GaveTurnIfLive : {B : Type 0} → (B → World → Type 0) → B → B → Bool → ℕ → Bool → Type 0
GaveTurnIfLive S old new begins n moved = (w : World) → S old w → Gave S new moved (turn_if_live begins w n)

abbrev pub GaveTurns : {B : Type 0} → (B → World → Type 0) → B → B → Bool → Bool → Type 0
GaveTurns S old new begins moved = (w : World) → S old w → Gave S new moved (round begins w)

-- a round broke off: nodes went on, in whatever turns
pub record Went {B : Type 0} (S : B → World → Type 0) (new : B) (w : World) : Type 0 where
  pub world : World
  pub went_on : WentOn w world
  pub shows : S new world

abbrev pub BrokeOff : {B : Type 0} → (B → World → Type 0) → B → B → Type 0
BrokeOff S old new = (w : World) → S old w → Went S new w

-- they are as in some world
abbrev pub ShowsSome : {B : Type 0} → (B → World → Type 0) → B → Type 0
ShowsSome S b = ∥ ((w : World) × S b w) ∥₁
