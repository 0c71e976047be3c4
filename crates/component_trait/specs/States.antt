-- To be believed (definitions.md).
-- The state of a node: what it keeps from one service to the next, and the service that it is in.
use Rattle.std.specs.Prelude.{ℕ, Bool, List, [], Option, Some, None, is_some, if◌then◌else◌}
use Rattle.config_graph.specs.Kinds.{row}
use Rattle.config_graph.specs.declared.kind.Kind.{Kind}

-- What a node keeps: a count, a sum and a list. Each kind uses of these what its table names; the others stay 0 and
-- empty.
pub record Kept : Type 0 where
  pub count : ℕ
  pub total : ℕ
  pub items : List ℕ

abbrev pub nothing : Kept
nothing = record { count = 0; total = 0; items = [] }

abbrev pub with_count : ℕ → Kept
with_count n = record { count = n; total = 0; items = [] }

abbrev pub with_total : ℕ → Kept
with_total n = record { count = 0; total = n; items = [] }

abbrev pub with_items : List ℕ → Kept
with_items vs = record { count = 0; total = 0; items = vs }

-- A service: the value that was taken up, the reply where serving decided on it at once, the answers and further
-- messages since, in order, and whether it waits for a further message.
pub record Service : Type 0 where
  pub value : ℕ
  pub reply : ℕ
  pub answers : List ℕ
  pub waits : Bool

-- A node's state; the argument is 0 where its kind has none.
pub record NodeState : Type 0 where
  pub kind : Kind
  pub arg : ℕ
  pub kept : Kept
  pub service : Option Service

-- a node that is in no service
abbrev pub at_rest : Kind → ℕ → Kept → NodeState
at_rest k a kept = record { kind = k; arg = a; kept = kept; service = None }

-- its argument, where its kind has one
abbrev pub argument : NodeState → Option ℕ
argument s = if is_some (row s.kind).arg then Some s.arg else None
