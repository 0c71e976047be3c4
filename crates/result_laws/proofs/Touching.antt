-- A node of a row is settled only while the source's port is closed and idle. So nothing is linked, unlinked or removed while a
-- value is under way, and the row stands that stood when its transaction began.
use Rattle.std.proofs.Common.{◌≡◌, ◌∙◌, ℕ, ◌<◌, true, false, List, [], ◌∷◌, length, sym, ap, subst, arith, inl, inr}
use Rattle.std.specs.Prelude.{◌⊎◌, IsTrue}
use Rattle.std.proofs.lemmas.Bool.{and_parts}
use Rattle.base.proofs.OptionLaws.{map_or_at}
use Rattle.config_graph.specs.Kinds.{depends_on, row}
use Rattle.config_graph.specs.Wiring.{Reach, direct, through}
use Rattle.config_graph.specs.declared.kind.Kind.{Kind}
use Rattle.component_trait.specs.States.{NodeState}
use Rattle.quiesce_word.specs.Phases.{is_idle}
use Rattle.quiesce_core.specs.Reach.{IsPortOf, wiring_of}
use Rattle.quiesce_core.specs.Rules.{is_quiet, is_settled}
use Rattle.quiesce_core.specs.State.{Configuration, State, depends, exchange, gate, owner, slot}
use Rattle.quiesce_core.specs.WellFormed.{IsSound, IsWellFormed}
use Rattle.quiesce_core.specs.declared.state.Slot.{Slot}
use Rattle.quiesce_core.proofs.SettledLaws.{settled_if}
use Rattle.result_laws.proofs.Passing.{Stop, ToMap, Way}

-- the node stands on the way
abbrev pub IsOnWay : List Stop → ℕ → ℕ → Type 0
IsOnWay [] t n = n ≡ t
IsOnWay (m ∷ ms) t n = (n ≡ m.at) ⊎ IsOnWay ms t n

module _ (c : Configuration) (f : ℕ → NodeState) (sound : IsSound c) where
  -- a map's provision depends on its port
  map_depends : (p : ℕ) (m : Stop) → ToMap c f p m → (IsPortOf c m.at m.port) × IsTrue (depends c m.at 0 m.port)
  map_depends p m to =
      let made = to.to.made in
      let one_ : length (row made.node.kind).requires_ ≡ 1 = ap (λ (k : Kind). length (row k).requires_) to.to.kind in
      let here = to.first in
      let row_of = sound.rows m.at made to.to.there in
      let require_0 : (gate c m.port).require ≡ 0 = ap (λ q. (gate c q).require) (omega (arith, here)) ∙ row_of.in_order 0 (omega (arith, one_)) in (
        record { node = made; made = to.to.there; from = omega (arith, here); below = omega (arith, here, one_) },
        map_or_at (λ (s : Slot). depends_on s.node.kind 0 (gate c m.port).require) (slot c m.at) false made to.to.there ∙ (λ i. depends_on (to.to.kind i) 0 (require_0 i)),
      )

  -- the first port reaches each node on the way
  reaches_all : (ms : List Stop) (p t n : ℕ) → Way c f p ms t → IsOnWay ms t n → Reach (wiring_of c) n p
  reaches_all [] p t n w on = subst (λ k. Reach (wiring_of c) k p) (sym on) (direct w.to.leads)
  reaches_all (m ∷ ms) p t n w (inl here) = subst (λ k. Reach (wiring_of c) k p) (sym here) (direct w.0.to.leads)
  reaches_all (m ∷ ms) p t n w (inr later) = through (reaches_all ms m.port t n w.1 later) (map_depends p m w.0) w.0.to.leads

-- so where a node of a row is settled, its source's port is closed and idle
pub quiet_where_settled : (s : State) (f : ℕ → NodeState) (a p : ℕ) (ms : List Stop) (t n : ℕ) → IsWellFormed s → owner s.config p ≡ a → p < length s.config.gates → Way s.config f p ms t → is_settled s n ≡ true
    → (n ≡ a) ⊎ IsOnWay ms t n → ((gate s.config p).closed ≡ true) × (is_idle (exchange s p).phase ≡ true)
quiet_where_settled s f a p ms t n well owned made way settled place = and_parts (gate s.config p).closed (is_idle (exchange s p).phase) (by place)
  where
    by : (n ≡ a) ⊎ IsOnWay ms t n → is_quiet s p ≡ true
    by (inl here) = (settled_if s well.sound n settled).own p (subst (λ k. IsPortOf s.config k p) (owned ∙ sym here) (well.sound.ports p made))
    by (inr on) = (settled_if s well.sound n settled).reaching p (reaches_all s.config f well.sound ms p t n way on)
