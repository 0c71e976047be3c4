-- The instances of an instance are no more than what it reaches counts: each is of an entry that is counted.
use Rattle.std.proofs.Common.{◌≤◌, List, [], ◌∷◌, length, length-append, sum_by, Option, Some, None, arith}
use Rattle.std.proofs.Math.Nat.{le_refl}
use Rattle.std.proofs.lemmas.List.Sums.{sum_by-cons}
use Rattle.std.specs.List.{flat_map}
use Rattle.darwin_lexer.specs.declared.token.At.{At}
use Rattle.darwin_parser.specs.Tree.{ArrayDecl, Component, single, element}
use Rattle.darwin_types.specs.Scope.{array_named}
use Rattle.darwin_walk.specs.Instance.{children_of, element_child}
use Rattle.darwin_walk.specs.Reached.{Reached, valued, turn, made, bound, weight}
use Rattle.darwin_walk.specs.Value.{Env, Value, integer, out_of_range, zero_divisor, value}

element_one : (a : Option ArrayDecl) (i : Value) (arguments : ArrayDecl → List Value) (at : At) → length (element_child a i arguments at) ≤ 1
element_one (Some a) (integer i) arguments at = le_refl 1
element_one (Some a) out_of_range arguments at = omega arith
element_one (Some a) zero_divisor arguments at = omega arith
element_one None i arguments at = omega arith

child_one : (c : Component) (p : Env) (r : Reached) → length (children_of c p r) ≤ weight r
child_one c p (valued e env at) = omega arith
child_one c p turn = omega arith
child_one c p (made (single name component args at) env) = le_refl 1
child_one c p (made (element name index args at) env) = element_one (array_named c name) (value index env) _ at
child_one c p (bound b env) = omega arith

pub children_few : (c : Component) (p : Env) (xs : List Reached) → length (flat_map (children_of c p) xs) ≤ sum_by weight xs
children_few c p [] = le_refl 0
children_few c p (x ∷ xs) =
    omega
    (arith, length-append (children_of c p x) (flat_map (children_of c p) xs), sum_by-cons weight x xs, child_one c p x, children_few c p xs)
