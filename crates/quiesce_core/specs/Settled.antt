-- To be believed (definitions.md).
-- When a node may be changed: settled by its state, and quiescent by all that can still happen (Kramer and Magee 1990).
use Rattle.std.specs.Prelude.{◌≡◌, ℕ, Bool, true, false, List, ◌++◌, Option, Some, None, option_map, IsTrue}
use Rattle.std.specs.List.{list_any}
use Rattle.config_graph.specs.declared.node.Target.{Target}
use Rattle.quiesce_core.specs.declared.event.Event.{Event}
use Rattle.quiesce_core.specs.declared.event.Event.TheVariants.{Reopen, Make, Link}
use Rattle.quiesce_core.specs.State.{State, is_live, owner, target, service}
use Rattle.config_graph.specs.Wiring.{Reach}
use Rattle.quiesce_core.specs.Reach.{IsPortOf, wiring_of}
use Rattle.quiesce_core.specs.Rules.{is_quiet}
use Rattle.quiesce_core.specs.Runs.{IsRun, state_after, Begun, initiator, target_at_begin, is_open_after}

-- The node is live, each of its ports and each port that reaches it is closed and idle, and it services nothing.
pub record Settled (s : State) (n : ℕ) : Type 0 where
  pub live : IsTrue (is_live s.config n)
  pub own : (p : ℕ) → IsPortOf s.config n p → IsTrue (is_quiet s p)
  pub services_nothing : service s n ≡ None
  pub reaching : (p : ℕ) → Reach (wiring_of s.config) n p → IsTrue (is_quiet s p)

abbrev pub is_opening : Event → Bool
is_opening (Reopen p) = true
is_opening (Make n node from) = true
is_opening (Link p n x) = true
is_opening _ = false

-- further events with which a run goes on, none of them a Reopen, Link or Make
pub record Continues (es more_ : List Event) : Type 0 where
  pub runs : IsRun (es ++ more_)
  pub closed : list_any is_opening more_ ≡ false

-- the node to which the port of a transaction leads that further events of a run begin, when they do
abbrev pub later_target : (es more_ : List Event) (p k : ℕ) → Begun more_ p k → Option ℕ
later_target es more_ p k b = option_map (λ (t : Target). t.node) (target (state_after (es ++ b.before)).config p)

-- The node is live after the run, and by four conditions nothing can engage it any more.
pub record Quiescent (es : List Event) (n : ℕ) : Type 0 where
  pub live : IsTrue (is_live (state_after es).config n)
  -- no open transaction was initiated by it
  pub initiated_none : (p k : ℕ) (b : Begun es p k) → is_open_after es p k ≡ true → initiator es p k b ≡ n → ⊥
  -- it begins and calls none
  pub begins_none : (more_ : List Event) → Continues es more_ → (p k : ℕ) (b : Begun more_ p k) → owner (state_after es).config p ≡ n → ⊥
  -- it services nothing
  pub services_nothing : service (state_after es) n ≡ None
  -- no open transaction has it as its target, and none that is begun or called later has
  pub targets_none : (p k : ℕ) (b : Begun es p k) → is_open_after es p k ≡ true → target_at_begin es p k b ≡ Some n → ⊥
  pub targets_none_later : (more_ : List Event) → Continues es more_ → (p k : ℕ) (b : Begun more_ p k)
      → later_target es more_ p k b ≡ Some n → ⊥
