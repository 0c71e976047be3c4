-- What an answer of a check says of the whole description.
use Rattle.std.proofs.Common.{◌≡◌, ◌⊎◌, inl, inr, List, [], ◌∷◌, subst, sym, refl}
use Rattle.std.specs.List.{Contains}
use Rattle.darwin_parser.specs.Tree.{Tree}
use Rattle.darwin_types.specs.declared.error.TypeError.{TypeError}
use Rattle.darwin_types.specs.Faults.{HasFault, NoFault}
use Rattle.darwin_types.specs.Check.{unit_faults}
use Rattle.darwin_types.proofs.Sound.{unit_sound}
use Rattle.darwin_types.proofs.Complete.{unit_complete}
use Rattle.base.proofs.ContainsLaws.{Contains-here, Contains-nil}

-- a check that found nothing
pub no_fault : (t : Tree) → unit_faults t ≡ [] → NoFault t
no_fault t none e h = Contains-nil e (subst (λ fs. Contains fs e) none (unit_complete t e h))

-- a fault of the list, or none
listed : (t : Tree) (fs : List TypeError) → unit_faults t ≡ fs → NoFault t ⊎ ((e : TypeError) × HasFault t e)
listed t [] none = inl (no_fault t none)
listed t (e ∷ fs) is = inr (e, unit_sound t e (subst (λ gs. Contains gs e) (sym is) (Contains-here e fs)))

pub fault_or_none : (t : Tree) → NoFault t ⊎ ((e : TypeError) × HasFault t e)
fault_or_none t = listed t (unit_faults t) refl
