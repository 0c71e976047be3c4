-- What look-ups find, as members of lists.
use Rattle.std.proofs.Common.{◌≡◌, Bool, true, false, [], refl, sym, subst}
use Rattle.std.specs.List.{Contains}
use Rattle.darwin_types.specs.declared.error.TypeError.{TypeError}
use Rattle.darwin_types.specs.Check.{unless}
use Rattle.base.proofs.ContainsLaws.{Contains-here, Contains-nil, Contains-one}

-- the fault that stands where a test fails
pub from_unless : (b : Bool) (f e : TypeError) → Contains (unless b f) e → (b ≡ false) × (e ≡ f)
from_unless true f e h = absurd (Contains-nil e h)
from_unless false f e h = (refl, Contains-one f e h)

pub to_unless : (b : Bool) (f : TypeError) → b ≡ false → Contains (unless b f) f
to_unless b f h = subst (λ d. Contains (unless d f) f) (sym h) (Contains-here f [])
