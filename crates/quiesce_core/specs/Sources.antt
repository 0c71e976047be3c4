-- Whose state a node took over: that of a removed node of its kind, from which no other took it.
use Rattle.std.specs.Prelude.{◌≡◌, ℕ, false, Some, IsTrue}
use Rattle.quiesce_core.specs.declared.state.Slot.{Slot}
use Rattle.quiesce_core.specs.State.{Configuration, slot}
use Rattle.quiesce_core.specs.Rules.{is_kind}

-- slot k has a removed node of the kind of this one
pub record IsGoneSource (c : Configuration) (k : ℕ) (taker : Slot) : Type 0 where
  pub old : Slot
  pub there : slot c k ≡ Some old
  pub removed : old.live ≡ false
  pub kind : IsTrue (is_kind old.node.kind taker.node.kind)

pub record SourcesAreGone (c : Configuration) : Type 0 where
  pub gone : (n k : ℕ) (m : Slot) → slot c n ≡ Some m → m.from ≡ Some k → IsGoneSource c k m
  pub once : (i j k : ℕ) (m n : Slot) → slot c i ≡ Some m → slot c j ≡ Some n → m.from ≡ Some k → n.from ≡ Some k → i ≡ j
