-- To be believed (definitions.md).
-- The numbered rules of the change machine: what has to hold for each event. An event may happen where each of its
-- rules holds, and else it is denied by the first that fails.
use Rattle.std.specs.Prelude.{ℕ, ◌+◌, Bool, true, false, not, ◌&&◌, ◌||◌, ◌==◌, nat_lt, nat_le, List, [], ◌∷◌, length, Option, Some, None, is_some, is_none, bytes_eq, if◌then◌else◌}
use Rattle.std.specs.List.{list_any, list_all, range_with_len}
use Rattle.std.specs.Option.{option_map_or}
use Rattle.config_graph.specs.Kinds.{row}
use Rattle.config_graph.specs.declared.kind.Kind.{Kind}
use Rattle.config_graph.specs.declared.node.Node.{Node}
use Rattle.config_graph.specs.declared.TheConstants.{MAX_NODES, MAX_PORTS, VALUE_LIMIT}
use Rattle.quiesce_core.specs.declared.event.Event.{Event}
use Rattle.quiesce_core.specs.declared.event.Event.TheVariants.{Begin, Call, Take, Give, End, More, Ask, Hear, Miss, Close, Reopen, Make, Link, Unlink, Remove}
use Rattle.quiesce_core.specs.declared.state.Slot.{Slot}
use Rattle.quiesce_core.specs.declared.state.Service.{Service}
use Rattle.quiesce_word.specs.Phases.{is_idle, is_asked, is_answered, is_in_more}
use Rattle.quiesce_word.specs.Words as words
use Rattle.quiesce_word.specs.declared.word.TheConstants.{LAST_SERIAL}
use Rattle.quiesce_core.specs.State.{Configuration, State, slot, is_live, ports_of, gate, owner, target, provision, provides, calls_allowed, mores_allowed, depends, exchange, service, target_service}
use Rattle.quiesce_core.specs.Effect.{with_target}
use Rattle.quiesce_core.specs.Fields.{fields_of}
use Rattle.quiesce_core.specs.Reach.{reaches, has_no_cycle}

-- values are below this number
abbrev pub value_limit : ℕ
value_limit = VALUE_LIMIT

-- the serial of a port's last transaction
abbrev pub last_serial : ℕ
last_serial = LAST_SERIAL

-- whether the port was made and its owner is live
abbrev pub is_live_port : Configuration → ℕ → Bool
is_live_port c p = nat_lt p (length c.gates) && is_live c (owner c p)

abbrev pub is_open : Configuration → ℕ → Bool
is_open c p = not (gate c p).closed

abbrev pub is_linked : Configuration → ℕ → Bool
is_linked c p = is_some (target c p)

-- whether the serial is the port's plus one and there is such a serial
abbrev pub is_next_serial : State → ℕ → ℕ → Bool
is_next_serial s p k = k == (exchange s p).serial + 1 && nat_le k last_serial

abbrev pub is_port_serial : State → ℕ → ℕ → Bool
is_port_serial s p k = k == (exchange s p).serial

abbrev pub is_last_message : State → ℕ → ℕ → ℕ → Bool
is_last_message s p k v = k == (exchange s p).serial && v == (exchange s p).value

abbrev pub is_value : ℕ → Bool
is_value v = nat_lt v value_limit

-- whether the port is unlinked or its transactions are spent
abbrev pub is_missing : State → ℕ → Bool
is_missing s p = words.is_missing (fields_of s p)

-- whether node n services a transaction by a provision that depends on the port
abbrev pub serves_through : State → ℕ → ℕ → Bool
serves_through s n p = option_map_or (λ (v : Service). depends s.config n (provision s.config v.port) p) (service s n) false

-- whether node n made fewer calls in its service than its kind allows
abbrev pub has_calls_left : State → ℕ → Bool
has_calls_left s n = option_map_or
    (λ (v : Service). nat_lt v.calls (calls_allowed s.config n (provision s.config v.port))) (service s n) false

-- whether a service is there in which the last message was heard
abbrev pub was_heard : Option Service → Bool
was_heard v = option_map_or (λ (w : Service). w.heard) v false

-- whether the request of the port is taken: the port's target services it
abbrev pub is_taken : State → ℕ → Bool
is_taken s p = option_map_or (λ (v : Service). v.port == p) (target_service s p) false

-- whether the port has a transaction that belongs to a service of port q
abbrev pub is_called_within : State → ℕ → ℕ → Bool
is_called_within s q p = option_map_or (λ w. w == q) (exchange s p).within false

-- whether each call of the port's service has ended
abbrev pub calls_have_ended : State → ℕ → Bool
calls_have_ended s p =
    option_map_or (λ t. list_all (λ q. not (is_called_within s p q)) (ports_of s.config t.node)) (target s.config p) true

-- whether fewer intermediate replies were made in the port's service than the kind of its target allows
abbrev pub has_mores_left : State → ℕ → Bool
has_mores_left s p =
    option_map_or (λ t. option_map_or (λ (v : Service). nat_lt v.mores (mores_allowed s.config t.node t.provide))
    (service s t.node) false) (target s.config p) false

-- whether the port is closed and has no transaction
abbrev pub is_quiet : State → ℕ → Bool
is_quiet s p = (gate s.config p).closed && is_idle (exchange s p).phase

-- whether a node is settled: it is live, it services nothing, and its own ports and those that reach it are closed
-- and idle
abbrev pub is_settled : State → ℕ → Bool
is_settled s n =
    is_live s.config n
    && list_all (λ p. is_quiet s p) (ports_of s.config n)
    && is_none (service s n)
    && list_all (λ p. is_quiet s p || not (reaches s.config n p)) (range_with_len 0 (length s.config.gates))

-- whether the slot is the next and there is room for the node and its ports
abbrev pub has_room : Configuration → ℕ → Node → Bool
has_room c n node =
    n == length c.slots && nat_lt n MAX_NODES
    && nat_le (length c.gates + length (row node.kind).requires_) MAX_PORTS

-- whether a live node has the path
abbrev pub is_path_taken : Configuration → List ℕ → Bool
is_path_taken c path = list_any (λ (m : Slot). m.live && bytes_eq m.node.path path) c.slots

-- whether an argument is there exactly where the kind has one, and is a value
abbrev pub has_its_argument : Node → Bool
has_its_argument node = if is_some (row node.kind).arg then option_map_or is_value node.arg false else is_none node.arg

abbrev pub is_kind : Kind → Kind → Bool
is_kind j k = (row j).number == (row k).number

-- whether a node was made from the one in slot k
abbrev pub was_moved : Configuration → ℕ → Bool
was_moved c k = list_any (λ (m : Slot). option_map_or (λ f. f == k) m.from false) c.slots

-- whether the state of the node in slot k can go over to a node of this kind: it was removed, and has gone over to no
-- other
abbrev pub can_move : Configuration → ℕ → Kind → Bool
can_move c k kind = option_map_or (λ (m : Slot). not m.live && is_kind m.node.kind kind) (slot c k) false && not (was_moved c k)

abbrev pub has_provision : Configuration → ℕ → ℕ → Bool
has_provision c n x = is_live c n && nat_lt x (provides c n)

-- whether node n is linked to none and none to it
abbrev pub is_apart : Configuration → ℕ → Bool
is_apart c n =
    list_all (λ p. is_none (target c p)) (ports_of c n)
    && list_all (λ p. option_map_or (λ t. not (t.node == n)) (target c p) true) (range_with_len 0 (length c.gates))

-- the rules of an event, by their numbers, in the order in which they are looked at, and whether each holds
abbrev pub rules_at : State → Event → List (ℕ × Bool)
rules_at s (Begin p k v) =
    (1, is_live_port s.config p) ∷ (2, is_open s.config p) ∷ (3, is_linked s.config p)
    ∷ (4, is_idle (exchange s p).phase) ∷ (5, is_next_serial s p k)
    ∷ (6, is_value v) ∷ []
rules_at s (Call p k v) =
    (1, is_live_port s.config p) ∷ (7, serves_through s (owner s.config p) p) ∷ (8, has_calls_left s (owner s.config p))
    ∷ (29, was_heard (service s (owner s.config p))) ∷ (3, is_linked s.config p) ∷ (4, is_idle (exchange s p).phase)
    ∷ (5, is_next_serial s p k) ∷ (6, is_value v) ∷ []
rules_at s (Miss p) =
    (1, is_live_port s.config p) ∷ (7, serves_through s (owner s.config p) p) ∷ (8, has_calls_left s (owner s.config p))
    ∷ (29, was_heard (service s (owner s.config p))) ∷ (4, is_idle (exchange s p).phase) ∷ (9, is_missing s p) ∷ []
rules_at s (Take p k v) =
    (1, is_live_port s.config p) ∷ (10, is_asked (exchange s p).phase) ∷ (11, not (is_taken s p)) ∷ (12, is_none (target_service s p))
    ∷ (13, is_last_message s p k v) ∷ []
rules_at s (Give p k v) =
    (1, is_live_port s.config p) ∷ (14, is_taken s p) ∷ (29, was_heard (target_service s p)) ∷ (15, is_port_serial s p k)
    ∷ (16, calls_have_ended s p) ∷ (6, is_value v) ∷ []
rules_at s (More p k v) =
    (1, is_live_port s.config p) ∷ (14, is_taken s p) ∷ (29, was_heard (target_service s p)) ∷ (15, is_port_serial s p k)
    ∷ (16, calls_have_ended s p) ∷ (28, has_mores_left s p) ∷ (6, is_value v) ∷ []
rules_at s (Ask p k v) =
    (1, is_live_port s.config p) ∷ (27, is_in_more (exchange s p).phase) ∷ (15, is_port_serial s p k) ∷ (6, is_value v) ∷ []
rules_at s (Hear p k v) =
    (1, is_live_port s.config p) ∷ (10, is_asked (exchange s p).phase) ∷ (14, is_taken s p) ∷ (30, not (was_heard (target_service s p)))
    ∷ (13, is_last_message s p k v) ∷ []
rules_at s (End p k v) = (1, is_live_port s.config p) ∷ (17, is_answered (exchange s p).phase) ∷ (13, is_last_message s p k v) ∷ []
rules_at s (Close p) = (1, is_live_port s.config p) ∷ []
rules_at s (Reopen p) = (1, is_live_port s.config p) ∷ []
rules_at s (Make n node from) =
    (18, has_room s.config n node) ∷ (19, not (is_path_taken s.config node.path) && has_its_argument node)
    ∷ (26, option_map_or (λ k. can_move s.config k node.kind) from true) ∷ []
rules_at s (Link p n x) =
    (1, is_live_port s.config p) ∷ (20, not (is_linked s.config p)) ∷ (21, has_provision s.config n x)
    ∷ (22, is_settled s (owner s.config p))
    ∷ (23, has_no_cycle (with_target s.config p (Some (record { node = n; provide = x })))) ∷ []
rules_at s (Unlink p) = (1, is_live_port s.config p) ∷ (3, is_linked s.config p) ∷ (22, is_settled s (owner s.config p)) ∷ []
rules_at s (Remove n) = (24, is_live s.config n) ∷ (22, is_settled s n) ∷ (25, is_apart s.config n) ∷ []

-- the number of the first rule that fails
abbrev pub first_failing : List (ℕ × Bool) → Option ℕ
first_failing [] = None
first_failing (rule ∷ rules) = if rule.1 then first_failing rules else Some rule.0

-- the number of the rule by which an event is denied
abbrev pub denial : State → Event → Option ℕ
denial s e = first_failing (rules_at s e)
