-- To be believed (definitions.md).
-- What a change may do by the configuration, where some ports are known to be drained: the machine's rules, with the
-- rule that a node is settled told by ports alone.
use Rattle.std.specs.Prelude.{⊤, ℕ, Bool, true, false, not, List, [], ◌∷◌, length, filter, fold, Some, IsTrue}
use Rattle.std.specs.List.{range_with_len}
use Rattle.quiesce_core.specs.declared.event.Event.{Event}
use Rattle.quiesce_core.specs.declared.event.Event.TheVariants.{Close, Reopen, Make, Link, Unlink, Remove}
use Rattle.quiesce_core.specs.Effect.{change_next, with_target}
use Rattle.quiesce_core.specs.Legal.{CanMake}
use Rattle.quiesce_core.specs.Reach.{IsPortOf, has_no_cycle, wiring_of}
use Rattle.config_graph.specs.Wiring.{Reach}
use Rattle.quiesce_core.specs.Rules.{has_provision, is_apart, is_linked, is_live_port}
use Rattle.quiesce_core.specs.State.{Configuration, is_live, owner}

-- the configuration after events, from one on; nodes' events leave it
abbrev pub change_all : Configuration → List Event → Configuration
change_all c es = fold change_next c es

-- the node is live, and its ports and all that reach it are known to be drained
pub record IsNoted (noted : ℕ → Bool) (c : Configuration) (n : ℕ) : Type 0 where
  pub live : IsTrue (is_live c n)
  pub own : (q : ℕ) → IsPortOf c n q → IsTrue (noted q)
  pub reaching : (q : ℕ) → Reach (wiring_of c) n q → IsTrue (noted q)

-- the rules of a link, an unlink and a removal
pub record MayLink (noted : ℕ → Bool) (c : Configuration) (p n x : ℕ) : Type 0 where
  pub live : IsTrue (is_live_port c p)
  pub unlinked : IsTrue (not (is_linked c p))
  pub provision : IsTrue (has_provision c n x)
  pub settled : IsNoted noted c (owner c p)
  pub no_cycle : IsTrue (has_no_cycle (with_target c p (Some (record { node = n; provide = x }))))

pub record MayUnlink (noted : ℕ → Bool) (c : Configuration) (p : ℕ) : Type 0 where
  pub live : IsTrue (is_live_port c p)
  pub linked : IsTrue (is_linked c p)
  pub settled : IsNoted noted c (owner c p)

pub record MayRemove (noted : ℕ → Bool) (c : Configuration) (n : ℕ) : Type 0 where
  pub settled : IsNoted noted c n
  pub apart : IsTrue (is_apart c n)

-- an event that a change may do
abbrev pub MayStep : (ℕ → Bool) → Configuration → Event → Type 0
MayStep noted c (Close p) = IsTrue (is_live_port c p)
MayStep noted c (Reopen p) = IsTrue (is_live_port c p)
MayStep noted c (Make n node from) = CanMake c n node from
MayStep noted c (Link p n x) = MayLink noted c p n x
MayStep noted c (Unlink p) = MayUnlink noted c p
MayStep noted c (Remove n) = MayRemove noted c n
MayStep noted c _ = ⊥

-- events that a change may do one after the other
abbrev pub MayStepAll : (ℕ → Bool) → Configuration → List Event → Type 0
MayStepAll noted c [] = ⊤
MayStepAll noted c (e ∷ es) = MayStep noted c e × MayStepAll noted (change_next c e) es

-- whether an event makes, removes, links or unlinks
abbrev pub is_shaping : Event → Bool
is_shaping (Make n node from) = true
is_shaping (Link p n x) = true
is_shaping (Unlink p) = true
is_shaping (Remove n) = true
is_shaping _ = false

-- the ports of live nodes
abbrev pub live_ports : Configuration → List ℕ
live_ports c = filter (is_live_port c) (range_with_len 0 (length c.gates))
