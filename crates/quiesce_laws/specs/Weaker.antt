-- Less than being settled, and what can still happen then.
use Rattle.std.specs.Prelude.{◌≡◌, ℕ, Bool, true, false, not, ◌&&◌, ◌||◌, ◌==◌, List, length, Some, is_none, IsTrue}
use Rattle.std.specs.List.{list_all, range_with_len}
use Rattle.std.specs.Option.{option_map_or}
use Rattle.config_graph.specs.declared.node.Target.{Target}
use Rattle.quiesce_core.specs.declared.event.Event.{Event}
use Rattle.quiesce_core.specs.declared.state.Service.{Service}
use Rattle.quiesce_word.specs.Phases.{is_idle}
use Rattle.quiesce_core.specs.Reach.{reaches}
use Rattle.quiesce_core.specs.Rules.{is_quiet}
use Rattle.quiesce_core.specs.Runs.{IsRun, state_after, Begun, initiator, is_open_after}
use Rattle.quiesce_core.specs.Settled.{Continues, later_target}
use Rattle.quiesce_core.specs.State.{State, is_live, ports_of, gate, owner, target, exchange, service}

abbrev pub is_closed : State → ℕ → Bool
is_closed s p = (gate s.config p).closed

abbrev pub is_free : State → ℕ → Bool
is_free s p = is_idle (exchange s p).phase

-- whether each port of the node passes, and each that reaches it, and each that is linked to it
abbrev pub all_own : (State → ℕ → Bool) → State → ℕ → Bool
all_own test s n = list_all (test s) (ports_of s.config n)

abbrev pub all_reaching : (State → ℕ → Bool) → State → ℕ → Bool
all_reaching test s n = list_all (λ p. test s p || not (reaches s.config n p)) (range_with_len 0 (length s.config.gates))

abbrev pub all_direct : (State → ℕ → Bool) → State → ℕ → Bool
all_direct test s n =
    list_all (λ p. test s p || not (option_map_or (λ (t : Target). t.node == n) (target s.config p) false))
    (range_with_len 0 (length s.config.gates))

abbrev pub services_none : State → ℕ → Bool
services_none s n = is_none (service s n)

-- settled, but that its own ports may be in a transaction; or may be open; that it may service one that a closed port
-- has; that ports which don't lead to it themselves may be open
abbrev pub but_own_busy : State → ℕ → Bool
but_own_busy s n = is_live s.config n && all_own is_closed s n && services_none s n && all_reaching is_quiet s n

abbrev pub but_own_open : State → ℕ → Bool
but_own_open s n = is_live s.config n && all_own is_free s n && services_none s n && all_reaching is_quiet s n

abbrev pub but_reaching_busy : State → ℕ → Bool
but_reaching_busy s n = is_live s.config n && all_own is_quiet s n && all_reaching is_closed s n

abbrev pub but_indirect_open : State → ℕ → Bool
but_indirect_open s n = is_live s.config n && all_own is_quiet s n && services_none s n && all_direct is_quiet s n

-- the node initiated a transaction that is open after the run
pub record Initiates (es : List Event) (n : ℕ) : Type 0 where
  pub port : ℕ
  pub serial : ℕ
  pub begun : Begun es port serial
  pub open_ : is_open_after es port serial ≡ true
  pub initiated : initiator es port serial begun ≡ n

-- it begins one as the run goes on
pub record Begins (es : List Event) (n : ℕ) : Type 0 where
  pub more_ : List Event
  pub continues : Continues es more_
  pub port : ℕ
  pub serial : ℕ
  pub begun : Begun more_ port serial
  pub owned : owner (state_after es).config port ≡ n

-- it services one
pub record Serves (es : List Event) (n : ℕ) : Type 0 where
  pub what : Service
  pub services : service (state_after es) n ≡ Some what

-- one that is begun or called as the run goes on has it as its target
pub record BecomesTarget (es : List Event) (n : ℕ) : Type 0 where
  pub more_ : List Event
  pub continues : Continues es more_
  pub port : ℕ
  pub serial : ℕ
  pub begun : Begun more_ port serial
  pub led : later_target es more_ port serial begun ≡ Some n

-- after some run a node passes the test, and yet this comes about
pub record IsTooWeak (test : State → ℕ → Bool) (breaks : List Event → ℕ → Type 0) : Type 0 where
  pub run : List Event
  pub node : ℕ
  pub runs : IsRun run
  pub passes : IsTrue (test (state_after run) node)
  pub broken : breaks run node
