-- How a node's state agrees with what its own events tell it of the machine: of the service that it is in, and of its
-- ports.
use Rattle.std.specs.Prelude.{◌≡◌, ℕ, ◌+◌, ◌<◌, ◌≤◌, Bool, true, false, not, length, Option, Some, None, ⊤, if◌then◌else◌}
use Rattle.std.specs.List.{All}
use Rattle.component_trait.specs.Fold.{calls_at, wants_at}
use Rattle.component_trait.specs.States.{NodeState, Service}
use Rattle.quiesce_core.specs.Knowledge.{OwnPort, own_port_next}
use Rattle.quiesce_core.specs.Rules.{value_limit}
use Rattle.quiesce_core.specs.declared.event.Event.{Event}
use Rattle.quiesce_core.specs.declared.event.Event.TheVariants.{Begin, Call, End, Hear, Miss, More, Take}
use Rattle.quiesce_core.specs.declared.known.Served.{Served}

-- no transaction of these ports belongs to a service of the node
abbrev pub HasNoCall : (ℕ → OwnPort) → Type 0
HasNoCall ports = (p : ℕ) → (ports p).idle ≡ false → (ports p).consequent ≡ false

-- A service agrees: it waits where the last message wasn't heard. Each call and each intermediate reply but the last
-- one has brought its answer or further message, and where that was heard and no call is open, the last one too.
pub record ServiceAgrees (ports : ℕ → OwnPort) (w : Service) (u : Served) : Type 0 where
  pub waits : w.waits ≡ not u.heard
  pub all_but_one : u.calls + u.mores ≤ length w.answers + 1
  pub all : u.heard ≡ true → HasNoCall ports → u.calls + u.mores ≤ length w.answers

abbrev pub ServicesAgree : (ℕ → OwnPort) → Option Service → Option Served → Type 0
ServicesAgree ports None None = ⊤
ServicesAgree ports None (Some u) = ⊥
ServicesAgree ports (Some w) None = ⊥
ServicesAgree ports (Some w) (Some u) = ServiceAgrees ports w u

-- whether the node expects an answer at the port: that of a call, which its service asks for next, or of a
-- transaction that it wants
abbrev pub expects : Bool → ℕ → NodeState → ℕ → Bool
expects consequent first t p = if consequent then calls_at first t p else wants_at first t p

-- the state of a node with this first port agrees with what it services and with how far its ports have come
pub record Agrees (first : ℕ) (t : NodeState) (u : Option Served) (far : ℕ → OwnPort) : Type 0 where
  pub services : ServicesAgree far t.service u
  pub ports : (p : ℕ) → (far p).idle ≡ false → expects (far p).consequent first t p ≡ true

-- how far the ports have come after one more event of the node
abbrev pub ports_next : (ℕ → OwnPort) → Event → ℕ → OwnPort
ports_next ports e = λ p. own_port_next p (ports p) e

-- What a turn sees to before it does an event: a port on which a transaction begins is idle, and one on which it ends
-- isn't; and no call is open where a service goes on.
abbrev pub IsInTurn : (ℕ → OwnPort) → Event → Type 0
IsInTurn ports (Begin p k v) = (ports p).idle ≡ true
IsInTurn ports (End p k v) = (ports p).idle ≡ false
IsInTurn ports (Call p k v) = HasNoCall ports
IsInTurn ports (Miss p) = HasNoCall ports
IsInTurn ports (More p k v) = HasNoCall ports
IsInTurn ports _ = ⊤

-- all values of a node's state are below the limit
pub record ServiceIsSmall (w : Service) : Type 0 where
  pub value : w.value < value_limit
  pub reply : w.reply < value_limit
  pub answers : All (λ v. v < value_limit) w.answers

pub record IsSmall (t : NodeState) : Type 0 where
  pub arg : t.arg < value_limit
  pub items : All (λ v. v < value_limit) t.kept.items
  pub service : (w : Service) → t.service ≡ Some w → ServiceIsSmall w

-- the value that an event hands to its node is below the limit
abbrev pub HandsSmall : Event → Type 0
HandsSmall (Take p k v) = v < value_limit
HandsSmall (Hear p k v) = v < value_limit
HandsSmall (End p k v) = v < value_limit
HandsSmall _ = ⊤
