-- Numbers of a state, compared place by place; and what it says that a node wasn't led.
use Rattle.std.proofs.Common.{◌≡◌, Bool, false, Option, None, subst}
use Rattle.component_trait.specs.States.{NodeState}
use Rattle.report_check.specs.Leading.{LedBy}

pub not_led : (o : Option NodeState) (s : NodeState) (b : Bool) → LedBy o s b → b ≡ false → o ≡ None
not_led o s b led is = subst (LedBy o s) is led
