-- To be believed (definitions.md).
-- What each event changes. All else stays.
use Rattle.std.specs.Prelude.{ℕ, ◌+◌, Bool, true, false, List, [], ◌∷◌, ◌++◌, map, length, replicate, Option, Some, None, option_map, fold, slice_set}
use Rattle.std.specs.List.{range_with_len}
use Rattle.std.specs.Option.{option_map_or}
use Rattle.config_graph.specs.Kinds.{row}
use Rattle.config_graph.specs.declared.node.Node.{Node}
use Rattle.config_graph.specs.declared.node.Target.{Target}
use Rattle.quiesce_core.specs.declared.event.Event.{Event}
use Rattle.quiesce_core.specs.declared.event.Event.TheVariants.{Begin, Call, Take, Give, End, More, Ask, Hear, Miss, Close, Reopen, Make, Link, Unlink, Remove}
use Rattle.quiesce_core.specs.declared.state.Slot.{Slot}
use Rattle.quiesce_core.specs.declared.state.Gate.{Gate}
use Rattle.quiesce_core.specs.declared.state.Exchange.{Exchange}
use Rattle.quiesce_core.specs.declared.state.Service.{Service}
use Rattle.quiesce_word.specs.declared.phase.Phase.TheVariants as phase
use Rattle.quiesce_core.specs.State.{Configuration, Traffic, State, empty, slot, gate, owner, target, exchange, service, target_service, fresh_exchange}

abbrev pub with_gate : Configuration → ℕ → Gate → Configuration
with_gate c p g = record c { gates = slice_set c.gates p g }

-- the port is closed, or open
abbrev pub with_closed : Configuration → ℕ → Bool → Configuration
with_closed c p b = with_gate c p (record (gate c p) { closed = b })

-- the port leads there, or nowhere
abbrev pub with_target : Configuration → ℕ → Option Target → Configuration
with_target c p t = with_gate c p (record (gate c p) { target = t })

-- the node in the slot is live no more
abbrev pub with_removed : Configuration → ℕ → Configuration
with_removed c n = record c { slots = option_map_or (λ (m : Slot). slice_set c.slots n (record m { live = false })) (slot c n) c.slots }

-- the gates of a node that requires so many services, when it was just made
abbrev pub new_gates : ℕ → ℕ → List Gate
new_gates n requires_ = map (λ r. record { owner = n; require = r; closed = true; target = None }) (range_with_len 0 requires_)

-- the node is in the next slot, and its ports follow those made before
abbrev pub with_node : Configuration → Node → Option ℕ → Configuration
with_node c node from =
    record {
      slots = c.slots ++ record { node = node; first_port = length c.gates; from = from; live = true } ∷ [];
      gates = c.gates ++ new_gates (length c.slots) (length (row node.kind).requires_);
    }

-- What an event makes of the configuration: the change's events alone alter it, and they go by nothing else.
abbrev pub change_next : Configuration → Event → Configuration
change_next c (Close p) = with_closed c p true
change_next c (Reopen p) = with_closed c p false
change_next c (Make n node from) = with_node c node from
change_next c (Link p n x) = with_target c p (Some (record { node = n; provide = x }))
change_next c (Unlink p) = with_target c p None
change_next c (Remove n) = with_removed c n
change_next c _ = c

-- the configuration after events, beginning with nothing made
abbrev pub configuration_after : List Event → Configuration
configuration_after es = fold change_next empty.config es

-- the traffic with a fresh node that requires so many services
abbrev pub with_fresh : Traffic → ℕ → Traffic
with_fresh t requires_ = record { services = t.services ++ None ∷ []; exchanges = t.exchanges ++ replicate requires_ fresh_exchange }

abbrev pub with_exchange : State → ℕ → Exchange → State
with_exchange s p x = record s { traffic = record s.traffic { exchanges = slice_set s.traffic.exchanges p x } }

abbrev pub with_service : State → ℕ → Option Service → State
with_service s n v = record s { traffic = record s.traffic { services = slice_set s.traffic.services n v } }

-- the node to which the port is linked services this
abbrev pub with_target_service : State → ℕ → Option Service → State
with_target_service s p v =
    record s {
      traffic = record s.traffic {
        services = option_map_or (λ (t : Target). slice_set s.traffic.services t.node v) (target s.config p) s.traffic.services;
      };
    }

-- one more call was made in the service of node n
abbrev pub with_call : State → ℕ → State
with_call s n = with_service s n (option_map (λ (v : Service). record v { calls = v.calls + 1 }) (service s n))

abbrev pub effect : State → Event → State
effect s (Begin p k v) = with_exchange s p (record { phase = phase.Asked; serial = k; value = v; within = None })
effect s (Call p k v) =
    with_exchange (with_call s (owner s.config p)) p
    (record { phase = phase.Asked; serial = k; value = v; within = option_map (λ (w : Service). w.port) (service s (owner s.config p)) })
effect s (Miss p) = with_call s (owner s.config p)
effect s (Take p k v) = with_target_service s p (Some (record { port = p; calls = 0; mores = 0; heard = true }))
effect s (Give p k v) =
    with_exchange (with_target_service s p None) p (record (exchange s p) { phase = phase.Answered; value = v })
effect s (More p k v) =
    with_exchange
    (with_target_service s p (option_map (λ (w : Service). record w { mores = w.mores + 1; heard = false }) (target_service s p)))
    p (record (exchange s p) { phase = phase.More; value = v })
effect s (Ask p k v) = with_exchange s p (record (exchange s p) { phase = phase.Asked; value = v })
effect s (Hear p k v) = with_target_service s p (option_map (λ (w : Service). record w { heard = true }) (target_service s p))
effect s (End p k v) = with_exchange s p (record (exchange s p) { phase = phase.Idle; value = 0; within = None })
effect s (Close p) = record s { config = change_next s.config (Close p) }
effect s (Reopen p) = record s { config = change_next s.config (Reopen p) }
effect s (Make n node from) =
    record { config = change_next s.config (Make n node from); traffic = with_fresh s.traffic (length (row node.kind).requires_) }
effect s (Link p n x) = record s { config = change_next s.config (Link p n x) }
effect s (Unlink p) = record s { config = change_next s.config (Unlink p) }
effect s (Remove n) = record s { config = change_next s.config (Remove n) }
