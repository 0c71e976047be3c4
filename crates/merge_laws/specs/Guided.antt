-- A list of members in which each comes where the guards let it come.
use Rattle.std.specs.Prelude.{◌≡◌, ℕ, true, false, not, ◌&&◌, ◌==◌, List, ◌∷◌, ◌++◌}
use Rattle.quiesce_core.specs.declared.event.Event.{Event}
use Rattle.quiesce_core.specs.Doers.{is_of_change}
use Rattle.quiesce_core.specs.State.{exchange, gate}
use Rattle.quiesce_laws.specs.Drained.{is_drained}
use Rattle.report_types.specs.declared.report.HistoryLine.{HistoryLine}
use Rattle.report_types.specs.declared.report.HistoryLine.TheVariants as to
use Rattle.change_spec.specs.Members.{Member, by_node, of_history, lines, state_at, without_roots}
use Rattle.merge_laws.specs.Guarded.{is_called_at, is_met, told, waits}

pub record Guided (m : List Member) (history : List HistoryLine) : Type 0 where
  -- an event that is no line is one that nodes do
  pub nodes : (x z : List Member) (e : Event) → m ≡ x ++ by_node e ∷ z → is_of_change e ≡ false
  -- and waits for no line of the history behind it
  pub free : (x z : List Member) (e : Event) (c r : List HistoryLine) → m ≡ x ++ by_node e ∷ z → history ≡ c ++ r
      → lines x ≡ without_roots c → waits (state_at x) r e ≡ false
  -- a port that is closed has what is told of it next
  pub met : (x z : List Member) (p : ℕ) (c r : List HistoryLine) → m ≡ x ++ of_history (to.Close p) ∷ z
      → history ≡ c ++ to.Close p ∷ r → lines x ≡ without_roots c → is_met (state_at x) p (told p r) ≡ true
  -- one that is said to be drained is so
  pub drained : (x z : List Member) (p k : ℕ) → m ≡ x ++ of_history (to.Drained p k) ∷ z
      → (is_drained (state_at x) p && (exchange (state_at x) p).serial == k) ≡ true
  -- and one with an open root is closed, and none at which services call
  pub rooted : (x z : List Member) (p k : ℕ) (c r : List HistoryLine) → m ≡ x ++ z → history ≡ c ++ to.Root p k ∷ r
      → lines x ≡ without_roots c → ((gate (state_at x).config p).closed && not (is_called_at (state_at x).config p)) ≡ true
