-- To be believed (definitions.md).
-- A gate in one number: how many roots are under way at its port, and 2^31 more where it is closed. What it tells of the
-- port, and when the number is that of a port in a crowd.
use Rattle.std.specs.Prelude.{◌≡◌, ℕ, ◌-◌, ◌+◌, Bool, true, false, ◌&&◌, nat_le, nat_lt, List, [], ◌∷◌, count_by, filter, IsTrue, if◌then◌else◌}
use Rattle.config_graph.specs.declared.node.Target.{Target}
use Rattle.quiesce_core.specs.Rules.{is_linked, is_live_port}
use Rattle.quiesce_core.specs.State.{Configuration}
use Rattle.crowd_laws.specs.Crowds.{Transaction, Crowd, World, busy, idle, closed, is_busy, is_named, is_root_at}
use Rattle.crowd_laws.specs.Acts.{Act, ends, shuts, says, MayEnd, MayGoOn, world_after}

abbrev pub is_shut_by : ℕ → Bool
is_shut_by word = nat_le 2147483648 word

abbrev pub roots_by : ℕ → ℕ
roots_by word = if is_shut_by word then word - 2147483648 else word

-- how many roots are under way at a port
abbrev pub roots_at : Crowd → ℕ → ℕ
roots_at w p = count_by (is_root_at p) w.opened

-- The number is that of port p. Of an open gate nothing was told; of a closed one that it is, and busy stands as long as a
-- root is under way.
pub record IsGateOf (w : Crowd) (p word : ℕ) : Type 0 where
  pub roots : roots_at w p ≡ roots_by word
  pub shut : w.is_shut p ≡ is_shut_by word
  pub said : w.is_said p ≡ is_shut_by word
  pub up : w.is_up p ≡ (is_shut_by word && nat_lt 0 (roots_by word))

-- just this root ends, and it was begun at port p
pub record EndsRoot (w : Crowd) (name p : ℕ) : Type 0 where
  pub may : MayEnd w name
  pub root : Transaction
  pub alone : filter (is_named name) w.opened ≡ root ∷ []
  pub there : IsTrue (is_root_at p root)

-- what is done and told as the gate is closed, and as a root ends behind which idle is to be told
abbrev pub acts_of_close : ℕ → Bool → List Act
acts_of_close p true = shuts p ∷ says p busy ∷ says p closed ∷ []
acts_of_close p false = shuts p ∷ says p closed ∷ []

abbrev pub acts_of_leave : ℕ → ℕ → Bool → List Act
acts_of_leave name p true = ends name ∷ says p idle ∷ []
acts_of_leave name p false = ends name ∷ []

-- these acts may happen, and behind them the number is that of the port
pub record LeadTo (w : World) (p : ℕ) (acts : List Act) (word : ℕ) : Type 0 where
  pub may : MayGoOn w acts
  pub is_gate : IsGateOf (world_after w acts).crowd p word

-- a live port of which nothing was told so far, and which is linked where a root is under way
pub record IsOpenPort (c : Configuration) (w : Crowd) (p : ℕ) : Type 0 where
  pub live : IsTrue (is_live_port c p)
  pub linked : IsTrue (is_busy w.opened p) → IsTrue (is_linked c p)
