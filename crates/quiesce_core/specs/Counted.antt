-- What the sum of what is left goes by: numbers up to the greatest of 128 bits, and what is known of nodes so far.
use Rattle.std.specs.Prelude.{◌≡◌, ℕ, ◌-◌, ◌^◌, min, cond, List, Option, Some, None, slice_index_or}
use Rattle.config_graph.specs.declared.node.Target.{Target}
use Rattle.quiesce_core.specs.State.{Configuration, depends}
use Rattle.quiesce_core.specs.Rest.{full, events_through}

-- the number, or the greatest of 128 bits where it is more
abbrev pub capped : ℕ → ℕ
capped n = min n (2 ^ 128 - 1)

-- of each node at most the events of a transaction with its first provision
abbrev pub AreCounted : Configuration → List (Option ℕ) → Type 0
AreCounted c known = (n v : ℕ) → slice_index_or known n None ≡ Some v → v ≡ capped (full c n 0)

-- the events of one call of the port in a service by the target's provision; none where that doesn't depend on the port
abbrev pub events_within : Configuration → Target → ℕ → ℕ
events_within c t p = cond (depends c t.node t.provide p) (events_through c p) 0
