-- Requests, and what comes next in a service, within the bounds of a kind.
use Rattle.std.specs.Prelude.{◌≡◌, ℕ, ◌+◌, ◌<◌, ◌≤◌, Bool, true, false, ◌==◌, length, Option, Some}
use Rattle.std.specs.Option.{option_map_or}
use Rattle.config_graph.specs.Kinds.{row, calls_of, depends_on, mores_of}
use Rattle.config_graph.specs.declared.kind.Kind.{Kind}
use Rattle.component_trait.specs.States.{NodeState, Service}
use Rattle.config_graph.specs.declared.TheConstants.{VALUE_LIMIT}
use Rattle.component_trait.specs.declared.next.Ask.{Ask}
use Rattle.component_trait.specs.declared.next.Next.{Next}
use Rattle.component_trait.specs.declared.next.Next.TheVariants as next

pub record FitsRequest (k : Kind) (a : Ask) : Type 0 where
  pub require : a.require < length (row k).requires_
  pub value : a.value < VALUE_LIMIT

-- a service calls at requirements alone on which its provision depends
abbrev pub FitsNext : Kind → Next → Type 0
FitsNext k (next.Ask a) = FitsRequest k a × (depends_on k 0 a.require ≡ true)
FitsNext k (next.More v) = v < VALUE_LIMIT
FitsNext k (next.Give v) = v < VALUE_LIMIT

abbrev pub is_request_of : ℕ → Option Ask → Bool
is_request_of r a = option_map_or (λ (x : Ask). x.require == r) a false

-- A service within the bounds of its kind: no more answers and further messages came than its kind makes calls and
-- sends intermediate replies together; while it waits for one more, fewer came than it sends intermediate replies.
pub record IsBoundedService (k : Kind) (w : Service) : Type 0 where
  pub answers : length w.answers ≤ calls_of k 0 + mores_of k 0
  pub waits : w.waits ≡ true → length w.answers < mores_of k 0

abbrev pub IsBounded : NodeState → Type 0
IsBounded s = (w : Service) → s.service ≡ Some w → IsBoundedService s.kind w
