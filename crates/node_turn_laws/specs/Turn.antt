-- To be believed (definitions.md).
-- A node's turn: it posts what waits, and makes the first of four moves that is possible. It ends, or replies in, a
-- transaction at the lowest of its ports at which a reply stands; it goes on with its service; it takes up the next
-- request; or it begins what it wants.
use Rattle.std.specs.Prelude.{ℕ, ◌+◌, ◌-◌, Bool, false, not, ◌&&◌, ◌||◌, ◌==◌, List, [], ◌∷◌, ◌++◌, drop, find, fold, Option, Some, None, option_map, option_and_then, is_none, is_some, slice_set, if◌then◌else◌}
use Rattle.std.specs.List.{enumerate_from, list_any}
use Rattle.std.specs.Option.{option_map_or}
use Rattle.config_graph.specs.declared.node.Target.{Target}
use Rattle.component_trait.specs.States.{NodeState}
use Rattle.component_trait.specs.Moves as moves
use Rattle.component_trait.specs.declared.next.Ask.{Ask}
use Rattle.component_trait.specs.declared.next.Next.{Next}
use Rattle.component_trait.specs.declared.next.Next.TheVariants as next
use Rattle.quiesce_word.specs.Phases.{is_answered, is_asked, is_idle, is_in_more}
use Rattle.quiesce_core.specs.Rules.{is_missing, is_open}
use Rattle.quiesce_core.specs.State.{State, exchange, ports_of, service, target}
use Rattle.quiesce_core.specs.declared.event.Event.{Event}
use Rattle.quiesce_core.specs.declared.event.Event.TheVariants as event
use Rattle.quiesce_core.specs.declared.state.Service.{Service}
use Rattle.node_turn_laws.specs.World.{World, first_port, inbox, state_of, waiting_of, with_event_of}
use Rattle.port_queue.specs.Inboxes.{has_room}

-- Move 1: of its ports, the lowest that is answered or in more.
abbrev pub reply_to : State → NodeState → ℕ → Event
reply_to s t p =
    if is_answered (exchange s p).phase then event.End p (exchange s p).serial (exchange s p).value
    else event.Ask p (exchange s p).serial (moves.replies t)

abbrev pub has_reply : State → ℕ → Bool
has_reply s p = is_answered (exchange s p).phase || is_in_more (exchange s p).phase

abbrev pub ends : State → ℕ → NodeState → Option Event
ends s n t = option_map (reply_to s t) (find (has_reply s) (ports_of s.config n))

-- Move 2: where it is in a service of which no call is left to end, it hears a further message where it waits for
-- one, and else does what its kind does next.
abbrev pub is_call : State → ℕ → Bool
is_call s p = not (is_idle (exchange s p).phase) && is_some (exchange s p).within

abbrev pub awaits_call : State → ℕ → Bool
awaits_call s n = list_any (is_call s) (ports_of s.config n)

abbrev pub hears : State → ℕ → Option Event
hears s p = if is_asked (exchange s p).phase then Some (event.Hear p (exchange s p).serial (exchange s p).value) else None

abbrev pub calls : State → ℕ → ℕ → Option Event
calls s p v =
    if not (is_idle (exchange s p).phase) then None
    else if is_missing s p then Some (event.Miss p) else Some (event.Call p ((exchange s p).serial + 1) v)

abbrev pub does_next : State → ℕ → ℕ → Next → Option Event
does_next s first p (next.Give v) = Some (event.Give p (exchange s p).serial v)
does_next s first p (next.More v) = Some (event.More p (exchange s p).serial v)
does_next s first p (next.Ask a) = calls s (first + a.require) a.value

abbrev pub goes_on : State → ℕ → NodeState → Service → Option Event
goes_on s n t v = if v.heard then option_and_then (does_next s (first_port s n) v.port) (moves.next t) else hears s v.port

abbrev pub serves : State → ℕ → NodeState → Option Event
serves s n t = if awaits_call s n then None else option_and_then (goes_on s n t) (service s n)

-- Move 3: where it services nothing it looks at the next hint, and takes the request up that waits there for it.
abbrev pub is_for : State → ℕ → ℕ → Bool
is_for s n p = is_asked (exchange s p).phase && option_map_or (λ (t : Target). t.node == n) (target s.config p) false

abbrev pub takes : State → ℕ → List ℕ → Option Event
takes s n [] = None
takes s n (p ∷ box) = if is_for s n p then Some (event.Take p (exchange s p).serial (exchange s p).value) else None

-- Move 4: it begins what it wants on an idle port, whose gate is open.
abbrev pub begins_at : State → ℕ → ℕ → Option Event
begins_at s p v =
    if is_idle (exchange s p).phase && is_open s.config p
    && not (is_missing s p) then Some (event.Begin p ((exchange s p).serial + 1) v) else None

abbrev pub begins : State → ℕ → NodeState → Option Event
begins s n t = option_and_then (λ (a : Ask). begins_at s (first_port s n + a.require) a.value) (moves.wants t)

-- whether it looks at the next hint in its inbox, which is gone then, whether a request waits there or none
abbrev pub looks : State → ℕ → NodeState → Bool
looks s n t = is_none (ends s n t) && is_none (serves s n t) && is_none (service s n)

abbrev pub or_else : Option Event → Option Event → Option Event
or_else (Some e) later = Some e
or_else None later = later

-- the event of node n's turn, by the machine's state, its own, and its inbox; none where no move is possible
abbrev pub move_of : State → ℕ → NodeState → List ℕ → Bool → Option Event
move_of s n t box allowed =
    or_else (ends s n t)
    (or_else (serves s n t)
    (or_else (if is_none (service s n) then takes s n box else None)
    (if allowed then begins s n t else None)))

-- Hints. An inbox has room for so many; a hint that finds it full waits, at most one for each port.
abbrev pub is_full : List ℕ → Bool
is_full box = not (has_room box)

abbrev pub with_waiting : World → ℕ → ℕ → Option ℕ → World
with_waiting w n r m = record w { waiting = slice_set w.waiting n (slice_set (waiting_of w n) r m) }

abbrev pub with_hint : World → ℕ → ℕ → World
with_hint w m p = record w { inboxes = slice_set w.inboxes m (inbox w m ++ p ∷ []) }

-- node n posts the hint for node m that requirement r asks
abbrev pub post : World → ℕ → ℕ → ℕ → World
post w n r m =
    if is_full (inbox w m) then with_waiting w n r (Some m)
    else with_hint (with_waiting w n r None) m (first_port w.machine n + r)

-- Move 0: it posts, by port, each of its hints that waits.
abbrev pub post_one : ℕ → World → ℕ × Option ℕ → World
post_one n w q = option_map_or (post w n q.0) q.1 w

abbrev pub post_waiting : World → ℕ → World
post_waiting w n = fold (post_one n) w (enumerate_from 0 (waiting_of w n))

-- the requirement that an event of node n asks, and of which node
pub record Request : Type 0 where
  pub require : ℕ
  pub node : ℕ

abbrev pub request_at : State → ℕ → ℕ → Option Request
request_at s n p =
    option_map (λ (t : Target). record { require = p - first_port s n; node = t.node }) (target s.config p)

abbrev pub request_of : State → ℕ → Event → Option Request
request_of s n (event.Begin p k v) = request_at s n p
request_of s n (event.Call p k v) = request_at s n p
request_of s n _ = None

abbrev pub post_request : World → ℕ → Option Request → World
post_request w n r = option_map_or (λ (q : Request). post w n q.require q.node) r w

-- node n does an event, and posts the hint of a request
abbrev pub do_event : World → ℕ → Event → World
do_event w n e = post_request (with_event_of w n e) n (request_of w.machine n e)

abbrev pub without_hint : World → ℕ → World
without_hint w n = record w { inboxes = slice_set w.inboxes n (drop 1 (inbox w n)) }

-- what comes of a turn
pub record Turn : Type 0 where
  pub event : Option Event
  pub world : World

-- the turn of a node in this state, once its waiting hints are posted
abbrev pub turn_in : World → ℕ → Bool → NodeState → Turn
turn_in w n allowed t =
    let e = move_of w.machine n t (inbox w n) allowed in
    let v = if looks w.machine n t then without_hint w n else w in
    record { event = e; world = option_map_or (do_event v n) e v }

abbrev pub turn : World → ℕ → Bool → Turn
turn w n allowed =
    let v = post_waiting w n in
    option_map_or (turn_in v n allowed) (state_of v n) (record { event = None; world = v })
