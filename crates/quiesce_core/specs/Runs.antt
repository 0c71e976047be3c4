-- To be believed (definitions.md).
-- Steps and runs of the change machine, who does an event, and the transactions of a run (Kramer and Magee 1990: an
-- exchange between two nodes, of whose completion the initiator is aware).
use Rattle.std.specs.Prelude.{◌≡◌, ℕ, Bool, true, false, not, ◌&&◌, ◌==◌, List, [], ◌∷◌, ◌++◌, Option, Some, None, is_none, option_map, fold, if◌then◌else◌}
use Rattle.std.specs.List.{list_any}
use Rattle.std.specs.Option.{option_map_or}
use Rattle.config_graph.specs.declared.node.Target.{Target}
use Rattle.quiesce_core.specs.declared.event.Event.{Event}
use Rattle.quiesce_core.specs.declared.event.Event.TheVariants.{Begin, Call, Take, Give, End, More, Ask, Hear, Miss, Close, Reopen, Make, Link, Unlink, Remove}
use Rattle.quiesce_core.specs.declared.state.Service.{Service}
use Rattle.quiesce_core.specs.State.{State, empty, owner, target, exchange, service}
use Rattle.quiesce_core.specs.Rules.{denial}
use Rattle.quiesce_core.specs.Effect.{effect}
use Rattle.base.specs.Each.{Each}

-- the event may happen in the old state, and leads to the new one
pub record Step (old : State) (e : Event) (new : State) : Type 0 where
  pub allowed : denial old e ≡ None
  pub changed : new ≡ effect old e

-- events that are steps one after the other, from a state to a state
pub data Steps : State → List Event → State → Type 0 where
  stays : (s : State) → Steps s [] s
  onward : (s t u : State) (e : Event) (more_ : List Event) → Step s e t → Steps t more_ u → Steps s (e ∷ more_) u

-- the state after events, beginning with nothing made
abbrev pub state_after : List Event → State
state_after es = fold effect empty es

-- each event is a step from the state before it
abbrev pub IsRun : List Event → Type 0
IsRun es = Each (λ before e. Step (state_after before) e (state_after (before ++ e ∷ []))) es

-- the same as a test, from a state on
abbrev pub can_run : State → List Event → Bool
can_run s [] = true
can_run s (e ∷ es) = is_none (denial s e) && can_run (effect s e) es

-- the node that does an event; the change does the others
abbrev pub doer : State → Event → Option ℕ
doer s (Begin p k v) = Some (owner s.config p)
doer s (Call p k v) = Some (owner s.config p)
doer s (Miss p) = Some (owner s.config p)
doer s (Ask p k v) = Some (owner s.config p)
doer s (End p k v) = Some (owner s.config p)
doer s (Take p k v) = option_map (λ (t : Target). t.node) (target s.config p)
doer s (Give p k v) = option_map (λ (t : Target). t.node) (target s.config p)
doer s (More p k v) = option_map (λ (t : Target). t.node) (target s.config p)
doer s (Hear p k v) = option_map (λ (t : Target). t.node) (target s.config p)
doer s (Close p) = None
doer s (Reopen p) = None
doer s (Make n node from) = None
doer s (Link p n x) = None
doer s (Unlink p) = None
doer s (Remove n) = None

-- whether node n does an event
abbrev pub is_doer : State → ℕ → Event → Bool
is_doer s n e = option_map_or (λ m. m == n) (doer s e) false

-- the events that node n does, in order, from a state on
abbrev pub done_from : State → ℕ → List Event → List Event
done_from s n [] = []
done_from s n (e ∷ es) = if is_doer s n e then e ∷ done_from (effect s e) n es else done_from (effect s e) n es

abbrev pub done_by : ℕ → List Event → List Event
done_by n es = done_from empty n es

-- whether an event begins the transaction of this port and serial, or ends it
abbrev pub is_begin_of : ℕ → ℕ → Event → Bool
is_begin_of p k (Begin q j v) = q == p && j == k
is_begin_of p k (Call q j v) = q == p && j == k
is_begin_of p k _ = false

abbrev pub is_end_of : ℕ → ℕ → Event → Bool
is_end_of p k (End q j v) = q == p && j == k
is_end_of p k _ = false

-- A transaction of a run is a port and a serial that a Begin or Call of it names. It engages two nodes, the port's
-- owner and its target at that event.
pub record Begun (es : List Event) (p k : ℕ) : Type 0 where
  pub before : List Event
  pub event : Event
  pub after : List Event
  pub parts : es ≡ before ++ event ∷ after
  pub begins : is_begin_of p k event ≡ true

abbrev pub initiator : (es : List Event) (p k : ℕ) → Begun es p k → ℕ
initiator es p k b = owner (state_after b.before).config p

abbrev pub target_at_begin : (es : List Event) (p k : ℕ) → Begun es p k → Option ℕ
target_at_begin es p k b = option_map (λ (t : Target). t.node) (target (state_after b.before).config p)

-- it is open until its End
abbrev pub is_open_after : List Event → ℕ → ℕ → Bool
is_open_after es p k = list_any (is_begin_of p k) es && not (list_any (is_end_of p k) es)

-- The root of a transaction: itself where it was begun, and where it was called that of the transaction that its
-- owner serviced.
pub data HasRoot (es : List Event) : ℕ → ℕ → ℕ → ℕ → Type 0 where
  root : (p k v : ℕ) (before after : List Event) → es ≡ before ++ Begin p k v ∷ after → HasRoot es p k p k
  consequent : (p k v q j : ℕ) (before after : List Event) (w : Service) → es ≡ before ++ Call p k v ∷ after
      → service (state_after before) (owner (state_after before).config p) ≡ Some w
      → HasRoot es w.port ((exchange (state_after before) w.port).serial) q j → HasRoot es p k q j
