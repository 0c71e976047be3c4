-- To be believed (definitions.md).
-- What a node in a state does next, and the state in which it is after what it did. The tables decide.
use Rattle.std.specs.Prelude.{ℕ, Bool, true, false, List, [], ◌∷◌, ◌++◌, if◌then◌else◌}
use Rattle.std.specs.Prelude.{Option, Some, None, is_some, option_map, option_and_then}
use Rattle.std.specs.Option.{option_map_or}
use Rattle.component_trait.specs.declared.next.Ask.{Ask}
use Rattle.component_trait.specs.declared.next.Next.{Next}
use Rattle.component_trait.specs.States.{Service, NodeState}
use Rattle.component_trait.specs.Tables as tables
use Rattle.component_trait.specs.Tables.{Outcome}

-- what it would begin now
abbrev pub wants : NodeState → Option Ask
wants s = tables.wants s.kind s.arg s.kept

-- what its service does next, where it is in one that waits for no further message
abbrev pub next_in : NodeState → Service → Option Next
next_in s w = if w.waits then None else Some (tables.next_of s.kind s.arg w.value w.reply w.answers)

abbrev pub next : NodeState → Option Next
next s = option_and_then (next_in s) s.service

abbrev pub waits : NodeState → Bool
waits s = option_map_or (λ (w : Service). w.waits) s.service false

abbrev pub replies : NodeState → ℕ
replies s = tables.replies s.kind s.kept

abbrev pub in_service : NodeState → Bool
in_service s = is_some s.service

abbrev pub is_done : NodeState → Bool
is_done s = tables.is_done s.kind s.arg s.kept

abbrev pub numbers : NodeState → List ℕ
numbers s = tables.numbers s.kind s.kept

-- a transaction of its own ended with an answer
abbrev pub after_end : NodeState → ℕ → NodeState
after_end s v = record s { kept = tables.kept_after_end s.kind s.kept v }

-- it took a value up
abbrev with_service : NodeState → Outcome → ℕ → NodeState
with_service s done v =
    record s {
      kept = done.kept;
      service = Some (record { value = v; reply = done.reply; answers = []; waits = false });
    }

abbrev pub after_take : NodeState → ℕ → NodeState
after_take s v = with_service s (tables.serve s.kind s.arg s.kept v) v

-- its service has one more answer or further message
abbrev pub with_answer : ℕ → Service → Service
with_answer v w = record w { answers = w.answers ++ v ∷ []; waits = false }

abbrev pub after_answer : NodeState → ℕ → NodeState
after_answer s v = record s { service = option_map (with_answer v) s.service }

-- its service sent an intermediate reply
abbrev pub with_wait : Service → Service
with_wait w = record w { waits = true }

abbrev pub after_more : NodeState → NodeState
after_more s = record s { service = option_map with_wait s.service }

-- its service gave its answer
abbrev pub after_give : NodeState → NodeState
after_give s = record s { service = None }
