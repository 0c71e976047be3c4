-- Hints, and the requests that they tell of. A request waits at a port that is asked and that its target doesn't
-- service yet.
use Rattle.std.specs.Prelude.{◌≡◌, ℕ, ◌+◌, ◌==◌, ◌&&◌, Bool, false, not, Option, None, option_and_then, slice_get, slice_index_or, if◌then◌else◌}
use Rattle.std.specs.List.{count_by}
use Rattle.std.specs.Option.{option_map_or}
use Rattle.config_graph.specs.declared.node.Target.{Target}
use Rattle.quiesce_word.specs.Phases.{is_asked}
use Rattle.quiesce_core.specs.Rules.{is_taken}
use Rattle.quiesce_core.specs.State.{Configuration, State, exchange, target}
use Rattle.quiesce_core.specs.declared.state.Gate.{Gate}
use Rattle.node_turn_laws.specs.World.{World, inbox, waiting_of}

abbrev pub waits : State → ℕ → Bool
waits s p = is_asked (exchange s p).phase && not (is_taken s p)

abbrev pub leads_to : Configuration → ℕ → ℕ → Bool
leads_to c m p = option_map_or (λ (t : Target). t.node == m) (target c p) false

-- whether a request waits at port p for node m
abbrev pub waits_for : State → ℕ → ℕ → Bool
waits_for s m p = waits s p && leads_to s.config m p

-- the node for which the hint of a port waits with the port's owner, while that node's inbox is full
abbrev pub kept_back : World → ℕ → Option ℕ
kept_back w p =
    option_and_then (λ (g : Gate). slice_index_or (waiting_of w g.owner) g.require None) (slice_get w.machine.config.gates p)

-- how many hints of port p there are for node m: in its inbox, and with the port's owner
abbrev pub hints_for : World → ℕ → ℕ → ℕ
hints_for w m p =
    count_by (λ q. q == p) (inbox w m) + (if option_map_or (λ k. k == m) (kept_back w p) false then 1 else 0)

-- there is one hint of each request, for the node that it waits for, and no other hint
abbrev pub HintsAreRequests : World → Type 0
HintsAreRequests w = (m p : ℕ) → hints_for w m p ≡ (if waits_for w.machine m p then 1 else 0)
