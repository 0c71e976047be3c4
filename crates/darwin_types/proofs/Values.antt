-- The faults of expressions.
use Rattle.std.proofs.Common.{◌≡◌, List, [], ◌++◌, ap, sym, subst, ◌∙◌}
use Rattle.std.specs.List.{Contains}
use Rattle.std.proofs.lemmas.List.{append-nil}
use Rattle.std.proofs.lemmas.List.Elements.{Contains-append_right}
use Rattle.std.proofs.lemmas.Grind.{flat_map-append}
use Rattle.darwin_parser.specs.declared.tree.Op.{Op}
use Rattle.darwin_parser.specs.Tree.{Name, Component, Expr}
use Rattle.darwin_parser.specs.Tree.Expr.{op}
use Rattle.darwin_types.specs.Scope.{has}
use Rattle.darwin_types.specs.declared.error.TypeError.{TypeError}
use Rattle.darwin_types.specs.declared.error.TypeError.TheVariants.{UnknownName}
use Rattle.darwin_types.specs.NameUses.{names_of}
use Rattle.darwin_types.specs.Check.{value_faults, unless}

pub value_faults-op : (c : Component) (scope : List Name) (o : Op) (a b : Expr) → value_faults c scope (op o a b) ≡ value_faults c scope a ++ value_faults c scope b
value_faults-op c scope o a b = flat_map-append (λ x. unless (has scope x) (UnknownName c.name x)) (names_of a) (names_of b)

-- where the right side has no fault, the left side is left
pub value_faults_left : (c : Component) (scope : List Name) (o : Op) (a b : Expr) → value_faults c scope b ≡ [] → value_faults c scope (op o a b) ≡ value_faults c scope a
value_faults_left c scope o a b none =
    value_faults-op c scope o a b ∙ ap (λ fs. value_faults c scope a ++ fs) none ∙ append-nil (value_faults c scope a)

pub value_faults-right_side : (c : Component) (scope : List Name) (o : Op) (a b : Expr) (e : TypeError) → Contains (value_faults c scope b) e → Contains (value_faults c scope (op o a b)) e
value_faults-right_side c scope o a b e has =
    subst (λ fs. Contains fs e) (sym (value_faults-op c scope o a b)) (Contains-append_right (value_faults c scope a) (value_faults c scope b) e has)
