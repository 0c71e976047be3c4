-- To be believed (definitions.md).
-- How many events can still happen before what is open has ended, at most. Numbers are unbounded.
use Rattle.std.specs.Prelude.{ℕ, zero, suc, ◌+◌, ◌-◌, ◌*◌, max, List, [], ◌∷◌, length, filter, sum_by, if◌then◌else◌}
use Rattle.std.specs.List.{range_with_len}
use Rattle.std.specs.Option.{option_map_or}
use Rattle.config_graph.specs.declared.node.Target.{Target}
use Rattle.quiesce_core.specs.declared.state.Service.{Service}
use Rattle.quiesce_word.specs.declared.phase.Phase.{Phase}
use Rattle.quiesce_word.specs.declared.phase.Phase.TheVariants as phase
use Rattle.quiesce_core.specs.State.{Configuration, State, target, ports_of, depends, calls_allowed, mores_allowed, exchange, service}
use Rattle.quiesce_word.specs.Phases.{is_in_more}
use Rattle.quiesce_core.specs.Rules.{is_taken}

-- the greatest number that f gives on the list, 0 where it is empty
abbrev pub greatest : (ℕ → ℕ) → List ℕ → ℕ
greatest f [] = 0
greatest f (x ∷ xs) = max (f x) (greatest f xs)

-- The events of one transaction with provision x of node m, its consequents among them, at most: the Take, the Give
-- and the End, three for each intermediate reply, and for each call itself and the events of the provision to which
-- it leads. Of a chain of dependent provisions, so many are looked at.
abbrev pub full_within : Configuration → ℕ → ℕ → ℕ → ℕ
full_within c zero m x = 0
full_within c (suc k) m x =
    3 + 3 * mores_allowed c m x
    + calls_allowed c m x
    * greatest (λ p. 1 + option_map_or (λ (t : Target). full_within c k t.node t.provide) (target c p) 0)
    (filter (depends c m x) (ports_of c m))

-- all of it: where there is no cycle, no chain is longer
unfoldable pub full : Configuration → ℕ → ℕ → ℕ
full c m x = full_within c (suc (length c.slots)) m x

-- the events of one call of the port: itself, and those of the provision to which the port is linked
abbrev pub events_through : Configuration → ℕ → ℕ
events_through c p = 1 + option_map_or (λ (t : Target). full c t.node t.provide) (target c p) 0

-- the events of one call in a service by provision x of node m, at most
abbrev pub call_events : Configuration → ℕ → ℕ → ℕ
call_events c m x = greatest (events_through c) (filter (depends c m x) (ports_of c m))

-- the replies and messages still due in a service: the reply and the End, a further message to be heard, and before
-- that to be sent
abbrev pub messages_due : Service → Phase → ℕ
messages_due v ph = if v.heard then 2 else if is_in_more ph then 4 else 3

-- what is left of a service by provision x of node m, of a transaction in this phase
abbrev pub service_rest : Configuration → ℕ → ℕ → Service → Phase → ℕ
service_rest c m x v ph =
    3 * (mores_allowed c m x - v.mores) + (calls_allowed c m x - v.calls) * call_events c m x + messages_due v ph

-- what is left of the transaction of a port that is asked or in more and leads there
abbrev pub asked_rest : State → ℕ → Target → ℕ
asked_rest s p t =
    if is_taken s p then option_map_or (λ (v : Service). service_rest s.config t.node t.provide v (exchange s p).phase) (service s t.node) 0
    else full s.config t.node t.provide

-- what is left of the transaction of a port
abbrev pub port_rest : State → ℕ → Phase → ℕ
port_rest s p phase.Idle = 0
port_rest s p phase.Answered = 1
port_rest s p phase.Asked = option_map_or (asked_rest s p) (target s.config p) 0
port_rest s p phase.More = option_map_or (asked_rest s p) (target s.config p) 0

-- the sum over the transactions that have not ended
abbrev pub rest : State → ℕ
rest s = sum_by (λ p. port_rest s p (exchange s p).phase) (range_with_len 0 (length s.config.gates))
