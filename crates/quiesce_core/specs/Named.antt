-- What holds of the nodes after every run: live nodes have different paths, and each node has its argument.
use Rattle.std.specs.Prelude.{◌≡◌, ℕ, true, Some}
use Rattle.config_graph.specs.Sound.{HasItsArgument}
use Rattle.quiesce_core.specs.declared.state.Slot.{Slot}
use Rattle.quiesce_core.specs.State.{Configuration, slot}

pub record AreNamed (c : Configuration) : Type 0 where
  pub paths : (i j : ℕ) (m n : Slot) → slot c i ≡ Some m → slot c j ≡ Some n → m.live ≡ true → n.live ≡ true
      → m.node.path ≡ n.node.path → i ≡ j
  pub arguments : (i : ℕ) (m : Slot) → slot c i ≡ Some m → HasItsArgument m.node
