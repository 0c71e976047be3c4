-- To be believed (definitions.md).
-- What a node knows from its own events alone: what it services, and how far each port of its own has come; and that
-- the state has of it exactly that.
use Rattle.std.specs.Prelude.{◌≡◌, ℕ, ◌+◌, Bool, true, false, not, ◌==◌, List, [], ◌∷◌, length, slice_get, Option, Some, None, is_some, option_map, fold, if◌then◌else◌, ⊤}
use Rattle.quiesce_core.specs.declared.event.Event.{Event}
use Rattle.quiesce_core.specs.declared.event.Event.TheVariants.{Begin, Call, Take, Give, End, More, Ask, Hear, Miss}
use Rattle.quiesce_core.specs.declared.known.Known.{Known}
use Rattle.quiesce_core.specs.declared.known.PortKnown.{PortKnown}
use Rattle.quiesce_core.specs.declared.known.Served.{Served}
use Rattle.quiesce_core.specs.declared.state.Service.{Service}
use Rattle.quiesce_core.specs.State.{State, exchange, service, slot}
use Rattle.quiesce_word.specs.Phases.{is_answered, is_idle, is_in_more}
use Rattle.quiesce_core.specs.Reach.{IsPortOf}
use Rattle.quiesce_core.specs.WellFormed.{IsWellFormed}
use Rattle.quiesce_core.specs.Traffic.{IsConsistent}
use Rattle.quiesce_core.specs.declared.state.Slot.{Slot}

-- what it services after one more event of its own
abbrev pub served_next : Option Served → Event → Option Served
served_next w (Take p k v) = Some (record { port = p; serial = k; value = v; calls = 0; mores = 0; heard = true })
served_next w (Call p k v) = option_map (λ (u : Served). record u { calls = u.calls + 1 }) w
served_next w (Miss p) = option_map (λ (u : Served). record u { calls = u.calls + 1 }) w
served_next w (More p k v) = option_map (λ (u : Served). record u { mores = u.mores + 1; heard = false }) w
served_next w (Hear p k v) = option_map (λ (u : Served). record u { value = v; heard = true }) w
served_next w (Give p k v) = None
served_next w _ = w

-- what it services after these events of its own
abbrev pub served_after : List Event → Option Served
served_after es = fold served_next None es

-- of a port of its own: whether it is idle, its serial, and whether its transaction is consequent
pub record OwnPort : Type 0 where
  pub idle : Bool
  pub serial : ℕ
  pub consequent : Bool

abbrev pub own_port_next : ℕ → OwnPort → Event → OwnPort
own_port_next p w (Begin q k v) = if q == p then record { idle = false; serial = k; consequent = false } else w
own_port_next p w (Call q k v) = if q == p then record { idle = false; serial = k; consequent = true } else w
own_port_next p w (End q k v) = if q == p then record { idle = true; serial = k; consequent = false } else w
own_port_next p w _ = w

abbrev pub own_port_after : ℕ → List Event → OwnPort
own_port_after p es = fold (own_port_next p) (record { idle = true; serial = 0; consequent = false }) es

-- what is known of a service: the serial is that of the port, and the value too, unless a further message is awaited.
pub record IsServed (s : State) (v : Service) (u : Served) : Type 0 where
  pub port : u.port ≡ v.port
  pub serial : u.serial ≡ (exchange s v.port).serial
  pub calls : u.calls ≡ v.calls
  pub mores : u.mores ≡ v.mores
  pub heard : u.heard ≡ v.heard
  pub value : v.heard ≡ true → u.value ≡ (exchange s v.port).value

abbrev pub KnowsService : State → Option Service → Option Served → Type 0
KnowsService s None None = ⊤
KnowsService s None (Some u) = ⊥
KnowsService s (Some v) None = ⊥
KnowsService s (Some v) (Some u) = IsServed s v u

-- how far the state has a port
abbrev pub own_port : State → ℕ → OwnPort
own_port s p = record { idle = is_idle (exchange s p).phase; serial = (exchange s p).serial; consequent = is_some (exchange s p).within }

-- these events of node n tell it what it services, and how far each port of its own has come
pub record Knows (s : State) (n : ℕ) (es : List Event) : Type 0 where
  pub services : KnowsService s (service s n) (served_after es)
  pub ports : (p : ℕ) → IsPortOf s.config n p → own_port_after p es ≡ own_port s p

-- ---- the same by require index

-- nothing is known to have happened at the port
abbrev pub port_at_start : PortKnown
port_at_start = record { idle = true; serial = 0; consequent = false; seen = None; more = false }

-- what a node knows of itself before its first event
abbrev pub nothing_known : Known
nothing_known = record { service = None; ports = port_at_start ∷ port_at_start ∷ [] }

-- of port p, after one more event of its owner: what was seen there is replied to by the Ask or the End
abbrev pub port_known_next : ℕ → PortKnown → Event → PortKnown
port_known_next p w (Begin q k v) = if q == p then record { idle = false; serial = k; consequent = false; seen = None; more = false } else w
port_known_next p w (Call q k v) = if q == p then record { idle = false; serial = k; consequent = true; seen = None; more = false } else w
port_known_next p w (Ask q k v) = if q == p then record w { seen = None; more = false } else w
port_known_next p w (End q k v) = if q == p then record { idle = true; serial = k; consequent = false; seen = None; more = false } else w
port_known_next p w _ = w

-- of ports in a row, from this one on
abbrev pub ports_known_next : ℕ → List PortKnown → Event → List PortKnown
ports_known_next p [] e = []
ports_known_next p (w ∷ ws) e = port_known_next p w e ∷ ports_known_next (p + 1) ws e

-- what a node with this first port knows after one more event of its own, and after all of them
abbrev pub known_next : ℕ → Known → Event → Known
known_next first w e = record { service = served_next w.service e; ports = ports_known_next first w.ports e }

abbrev pub known_after : ℕ → List Event → Known
known_after first es = fold (known_next first) nothing_known es

-- a reply of this value stands at the port: an intermediate one, or the answer
pub record StandsThere (s : State) (p : ℕ) (more_ : Bool) (v : ℕ) : Type 0 where
  pub value : (exchange s p).value ≡ v
  pub answered : is_answered (exchange s p).phase ≡ not more_
  pub in_more : is_in_more (exchange s p).phase ≡ more_

-- what is known of a port is so, and what was seen there stands there
pub record IsPortKnown (s : State) (p : ℕ) (k : PortKnown) : Type 0 where
  pub idle : k.idle ≡ is_idle (exchange s p).phase
  pub serial : k.serial ≡ (exchange s p).serial
  pub consequent : k.consequent ≡ is_some (exchange s p).within
  pub seen : (v : ℕ) → k.seen ≡ Some v → StandsThere s p k.more v

-- what is known of node n, whose first port this is, is what the state has of it
pub record IsKnown (s : State) (n first : ℕ) (w : Known) : Type 0 where
  pub two_ports : length w.ports ≡ 2
  pub service : KnowsService s (service s n) w.service
  pub ports : (r : ℕ) (k : PortKnown) → slice_get w.ports r ≡ Some k → IsPortOf s.config n (first + r) → IsPortKnown s (first + r) k

-- node n, which was made as this, is in service u, and this is known of it
pub record KnowsItsService (s : State) (n : ℕ) (m : Slot) (k : Known) (u : Served) : Type 0 where
  pub well_formed : IsWellFormed s
  pub consistent : IsConsistent s
  pub made : slot s.config n ≡ Some m
  pub known : IsKnown s n m.first_port k
  pub serves : k.service ≡ Some u
