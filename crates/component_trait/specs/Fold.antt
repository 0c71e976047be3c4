-- To be believed (definitions.md).
-- The state of a node after events of its own. There is none where an event isn't what a node of its kind does.
use Rattle.std.specs.Prelude.{ℕ, ◌+◌, Bool, false, ◌==◌, ◌&&◌, ◌||◌, nat_lt, List, length, fold, if◌then◌else◌}
use Rattle.std.specs.Prelude.{Option, Some, None, is_none, option_and_then}
use Rattle.std.specs.Option.{option_map_or}
use Rattle.config_graph.specs.Kinds.{row}
use Rattle.config_graph.specs.declared.kind.Kind.{Kind}
use Rattle.quiesce_core.specs.declared.event.Event.{Event}
use Rattle.quiesce_core.specs.declared.event.Event.TheVariants as event
use Rattle.component_trait.specs.declared.next.Ask.{Ask}
use Rattle.component_trait.specs.declared.next.Next.{Next}
use Rattle.component_trait.specs.declared.next.Next.TheVariants as next
use Rattle.component_trait.specs.States.{Kept, NodeState, at_rest}
use Rattle.component_trait.specs.Moves as moves

-- whether a port of a node with this first port is that of a request, and whether the value is its value too
abbrev pub is_request_at : ℕ → ℕ → Option Ask → Bool
is_request_at first p a = option_map_or (λ (x : Ask). first + x.require == p) a false

abbrev pub is_request : ℕ → ℕ → ℕ → Option Ask → Bool
is_request first p v a = option_map_or (λ (x : Ask). first + x.require == p && x.value == v) a false

-- what its service asks next, and whether its next is this intermediate reply or this answer
abbrev pub asked_by : Option Next → Option Ask
asked_by (Some (next.Ask a)) = Some a
asked_by _ = None

abbrev pub is_more : ℕ → Option Next → Bool
is_more v (Some (next.More w)) = w == v
is_more v _ = false

abbrev pub is_give : ℕ → Option Next → Bool
is_give v (Some (next.Give w)) = w == v
is_give v _ = false

-- whether it may take a value up: its kind provides a service, and it is in none
abbrev pub may_take : NodeState → Bool
may_take s = nat_lt 0 (length (row s.kind).provides) && is_none s.service

-- whether its service calls at a port, and whether it may have a transaction there: such a call, or one of its own
abbrev pub calls_at : ℕ → NodeState → ℕ → Bool
calls_at first s p = is_request_at first p (asked_by (moves.next s))

abbrev pub wants_at : ℕ → NodeState → ℕ → Bool
wants_at first s p = is_request_at first p (moves.wants s)

abbrev pub awaits_at : ℕ → NodeState → ℕ → Bool
awaits_at first s p = calls_at first s p || wants_at first s p

abbrev pub where_so : Bool → NodeState → Option NodeState
where_so b s = if b then Some s else None

-- The state after one more event. A Begin is what it wants; a Call, Miss, More or Give is what its service does next,
-- and a Miss is answered with 0. A Take serves the value, and a Hear hands a further one to the service that waits. An
-- Ask has the value that it replies. An End hands its answer in, to the service that called or as that of a transaction
-- of its own.
abbrev pub after_event : ℕ → NodeState → Event → Option NodeState
after_event first s (event.Begin p j v) = where_so (is_request first p v (moves.wants s)) s
after_event first s (event.Call p j v) = where_so (is_request first p v (asked_by (moves.next s))) s
after_event first s (event.Miss p) = where_so (calls_at first s p) (moves.after_answer s 0)
after_event first s (event.Take p j v) = where_so (may_take s) (moves.after_take s v)
after_event first s (event.More p j v) = where_so (is_more v (moves.next s)) (moves.after_more s)
after_event first s (event.Ask p j v) = where_so (awaits_at first s p && v == moves.replies s) s
after_event first s (event.Hear p j v) = where_so (moves.waits s) (moves.after_answer s v)
after_event first s (event.Give p j v) = where_so (is_give v (moves.next s)) (moves.after_give s)
after_event first s (event.End p j v) =
    if calls_at first s p then Some (moves.after_answer s v) else where_so (wants_at first s p) (moves.after_end s v)
after_event first s _ = None

abbrev pub fold_next : ℕ → Option NodeState → Event → Option NodeState
fold_next first s e = option_and_then (λ (t : NodeState). after_event first t e) s

-- the state after these events, from a state on
abbrev pub fold_from : ℕ → NodeState → List Event → Option NodeState
fold_from first s es = fold (fold_next first) (Some s) es

-- the state after these events of a node of this kind and argument, with this first port, that opened with what is kept
abbrev pub fold_of : Kind → ℕ → ℕ → Kept → List Event → Option NodeState
fold_of k arg first kept es = fold_from first (at_rest k arg kept) es
