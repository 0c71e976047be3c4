-- What an event changes, told place by place: of each slot the node made there and its service, of each port its gate
-- and its exchange. All else stays.
use Rattle.std.specs.Prelude.{◌≡◌, ℕ, ◌+◌, ◌-◌, Bool, true, false, ◌&&◌, ◌==◌, nat_lt, nat_le, length, Option, Some, None, option_map, if◌then◌else◌}
use Rattle.config_graph.specs.Kinds.{row}
use Rattle.quiesce_core.specs.declared.event.Event.{Event}
use Rattle.quiesce_core.specs.declared.event.Event.TheVariants.{Begin, Call, Take, Give, End, More, Ask, Hear, Miss, Close, Reopen, Make, Link, Unlink, Remove}
use Rattle.quiesce_core.specs.declared.state.Slot.{Slot}
use Rattle.quiesce_core.specs.declared.state.Gate.{Gate}
use Rattle.quiesce_core.specs.declared.state.Exchange.{Exchange}
use Rattle.quiesce_core.specs.declared.state.Service.{Service}
use Rattle.quiesce_word.specs.declared.phase.Phase.TheVariants as phase
use Rattle.quiesce_core.specs.State.{Configuration, State, slot, gate, owner, exchange, service}
use Rattle.quiesce_core.specs.Runs.{is_doer}

-- whether a message goes over port p by the event, or its transaction ends: Take and Hear take a message up, and Miss
-- sends none
abbrev pub is_message_at : ℕ → Event → Bool
is_message_at p (Begin q k v) = q == p
is_message_at p (Call q k v) = q == p
is_message_at p (Give q k v) = q == p
is_message_at p (More q k v) = q == p
is_message_at p (Ask q k v) = q == p
is_message_at p (End q k v) = q == p
is_message_at p _ = false

-- what the event makes of the exchange of the port, whose owner is in this service
abbrev pub exchange_by : Option Service → Exchange → Event → Exchange
exchange_by s x (Begin q k v) = record { phase = phase.Asked; serial = k; value = v; within = None }
exchange_by s x (Call q k v) = record { phase = phase.Asked; serial = k; value = v; within = option_map (λ (w : Service). w.port) s }
exchange_by s x (Give q k v) = record x { phase = phase.Answered; value = v }
exchange_by s x (More q k v) = record x { phase = phase.More; value = v }
exchange_by s x (Ask q k v) = record x { phase = phase.Asked; value = v }
exchange_by s x (End q k v) = record x { phase = phase.Idle; value = 0; within = None }
exchange_by s x _ = x

-- what is at port p then
abbrev pub exchange_next : State → ℕ → Event → Exchange
exchange_next s p e = if is_message_at p e then exchange_by (service s (owner s.config p)) (exchange s p) e else exchange s p

-- what the event makes of the service of the node that does it
abbrev pub service_by : Option Service → Event → Option Service
service_by s (Call q k v) = option_map (λ (w : Service). record w { calls = w.calls + 1 }) s
service_by s (Miss q) = option_map (λ (w : Service). record w { calls = w.calls + 1 }) s
service_by s (Take q k v) = Some (record { port = q; calls = 0; mores = 0; heard = true })
service_by s (Give q k v) = None
service_by s (More q k v) = option_map (λ (w : Service). record w { mores = w.mores + 1; heard = false }) s
service_by s (Hear q k v) = option_map (λ (w : Service). record w { heard = true }) s
service_by s _ = s

-- what node n services then
abbrev pub service_next : State → ℕ → Event → Option Service
service_next s n e = if is_doer s n e then service_by (service s n) e else service s n

-- the gate of port p then: a new node's ports are behind all others
abbrev pub gate_next : Configuration → ℕ → Event → Gate
gate_next c p (Close q) = if q == p then record (gate c p) { closed = true } else gate c p
gate_next c p (Reopen q) = if q == p then record (gate c p) { closed = false } else gate c p
gate_next c p (Link q n x) = if q == p then record (gate c p) { target = Some (record { node = n; provide = x }) } else gate c p
gate_next c p (Unlink q) = if q == p then record (gate c p) { target = None } else gate c p
gate_next c p (Make n node from) =
    if nat_le (length c.gates) p && nat_lt p (length c.gates + length (row node.kind).requires_)
    then record { owner = length c.slots; require = p - length c.gates; closed = true; target = None } else gate c p
gate_next c p _ = gate c p

-- what was made in slot m then
abbrev pub slot_next : Configuration → ℕ → Event → Option Slot
slot_next c m (Make n node from) =
    if m == length c.slots then Some (record { node = node; first_port = length c.gates; from = from; live = true }) else slot c m
slot_next c m (Remove n) = if m == n then option_map (λ (k : Slot). record k { live = false }) (slot c m) else slot c m
slot_next c m _ = slot c m

-- how many nodes and ports there are then
abbrev pub nodes_next : Configuration → Event → ℕ
nodes_next c (Make n node from) = length c.slots + 1
nodes_next c _ = length c.slots

abbrev pub ports_next : Configuration → Event → ℕ
ports_next c (Make n node from) = length c.gates + length (row node.kind).requires_
ports_next c _ = length c.gates

-- the new configuration is the old one but for what the event changes
pub record Reconfigures (c : Configuration) (e : Event) (d : Configuration) : Type 0 where
  pub nodes : length d.slots ≡ nodes_next c e
  pub ports : length d.gates ≡ ports_next c e
  pub slots : (n : ℕ) → slot d n ≡ slot_next c n e
  pub gates : (p : ℕ) → gate d p ≡ gate_next c p e

-- the new state is the old one but for what the event changes
pub record Alters (s : State) (e : Event) (t : State) : Type 0 where
  pub config : Reconfigures s.config e t.config
  pub services : (n : ℕ) → service t n ≡ service_next s n e
  pub exchanges : (p : ℕ) → exchange t p ≡ exchange_next s p e
