-- The definitions on worked rows: each is what the language says, and holds as the definitions compute.
use Rattle.std.specs.Prelude.{◌≡◌, ℕ, ℤ, pos, negsuc, [], ◌∷◌, Some, None, codes, refl, map}
use Rattle.darwin_lexer.specs.declared.token.At.{At}
use Rattle.darwin_parser.specs.declared.tree.Op.TheVariants.{Or, And, Eq, Lt, Add, Sub, Mul, Div, Rem}
use Rattle.darwin_parser.specs.declared.tree.Side.TheVariants.{Require}
use Rattle.darwin_parser.specs.Tree.{Expr, num, var, neg, op, element, inst, bind, forall, when, end, then, Component}
use Rattle.darwin_walk.specs.Value.{Value, integer, out_of_range, zero_divisor, value, parameters}
use Rattle.darwin_walk.specs.Reached.{count}
use Rattle.darwin_walk.specs.Instance.{Child, children, bindings, instance_faults}
use Rattle.darwin_walk.specs.declared.fault.Fault.TheVariants.{ZeroDivisor, BadIndex}

-- ---- values

least : Expr
least = op Sub (neg (num 2147483647)) (num 1)

value_of : Expr → Value
unfolding least
value_of e = value e (record { name = codes "n"; value = negsuc 6 } ∷ [])

by_zero : Expr
by_zero = op Div (num 1) (num 0)

ends :
    map value_of
    (least ∷ op Sub least (num 1) ∷ neg least ∷ op Div least (neg (num 1)) ∷ op Rem least (neg (num 1)) ∷ op Mul least least ∷ [])
    ≡ integer (negsuc 2147483647) ∷ out_of_range ∷ out_of_range ∷ out_of_range ∷ integer (pos 0) ∷ out_of_range ∷ []
unfolding value_of least
ends = refl

-- n is -7
quotients :
    map value_of (op Div (var (codes "n")) (num 2) ∷ op Rem (var (codes "n")) (num 2) ∷ op Rem (num 7) (neg (num 2)) ∷ by_zero ∷ [])
    ≡ integer (negsuc 2) ∷ integer (negsuc 0) ∷ integer (pos 1) ∷ zero_divisor ∷ []
unfolding value_of by_zero
quotients = refl

-- the right side of `and` and `or` is valued where the left one doesn't decide
truths :
    map value_of
    (op And (num 0) by_zero ∷ op Or (num 5) by_zero ∷ op And (num 5) by_zero ∷ op Or (num 0) by_zero ∷ op And (num 2) (num 3) ∷ op Or (num 0) (num 0)
    ∷ op Lt (var (codes "n")) (num 0) ∷ op Eq (num 1) (num 2) ∷ op Add (var (codes "m")) (num 1) ∷ [])
    ≡ integer (pos 0) ∷ integer (pos 1) ∷ zero_divisor ∷ zero_divisor ∷ integer (pos 1) ∷ integer (pos 0)
    ∷ integer (pos 1) ∷ integer (pos 0) ∷ integer (pos 1) ∷ []
unfolding value_of by_zero
truths = refl

-- ---- what an instance gives

place : ℕ → ℕ → At
place line column = record { line = line; column = column }

--   component Row(int n) {
--     array A[n]:sink;
--     forall i:0..n-1 inst A[i];
--     inst A[0];
--   }
Row : Component
Row =
    record {
      name = codes "Row";
      at = place 2 1;
      params = codes "n" ∷ [];
      ports = [];
      arrays = record { name = codes "A"; size = var (codes "n"); component = codes "sink"; args = None; at = place 3 9 } ∷ [];
      body =
          then
          (forall (codes "i") (num 0) (op Sub (var (codes "n")) (num 1))
          (then (inst (element (codes "A") (var (codes "i")) None (place 4 24))) end) (place 4 3))
          (then (inst (element (codes "A") (num 0) None (place 5 8))) end);
    }

element_of : ℤ → At → Child
element_of i at =
    record { segment = record { name = codes "A"; index = Some i }; component = codes "sink"; arguments = Some []; at = at }

-- the range is empty, and the array has no element 0
no_element : instance_faults Row (parameters Row (pos 0 ∷ [])) ≡ BadIndex (place 5 8) ∷ []
unfolding Row
no_element = refl

-- an entry with a bad index makes its instance
no_element_made : children Row (parameters Row (pos 0 ∷ [])) ≡ element_of (pos 0) (place 5 8) ∷ []
unfolding Row element_of
no_element_made = refl

-- two elements, the first of which is made twice; two turns and three entries are counted
two_elements : instance_faults Row (parameters Row (pos 2 ∷ [])) ≡ []
unfolding Row
two_elements = refl

two_elements_made :
    children Row (parameters Row (pos 2 ∷ []))
    ≡ element_of (pos 0) (place 4 24) ∷ element_of (pos 1) (place 4 24) ∷ element_of (pos 0) (place 5 8) ∷ []
unfolding Row element_of
two_elements_made = refl

two_elements_count : count Row (parameters Row (pos 2 ∷ [])) ≡ 5
unfolding Row
two_elements_count = refl

-- a size that nothing uses is valued, turns with an empty body count, and a `when` doesn't
--   component Turns(int n) {
--     require out[1 / (n - 3)];
--     forall i:1..n { }
--     when n == 0 forall i:1..9 { }
--     bind F[n].next -- out[0];
--   }
Turns : Component
Turns =
    record {
      name = codes "Turns";
      at = place 2 1;
      params = codes "n" ∷ [];
      ports =
          record {
            side = Require;
            name = codes "out";
            size = Some (op Div (num 1) (op Sub (var (codes "n")) (num 3)));
            note = None;
            at = place 3 3;
          } ∷ [];
      arrays = [];
      body =
          then (forall (codes "i") (num 1) (var (codes "n")) end (place 4 3))
          (then (when (op Eq (var (codes "n")) (num 0)) (then (forall (codes "i") (num 1) (num 9) end (place 5 15)) end) (place 5 3))
          (then
          (bind
          record {
            left = record { inst = Some (codes "F"); inst_index = Some (var (codes "n")); port = codes "next"; port_index = None };
            right = record { inst = None; inst_index = None; port = codes "out"; port_index = Some (num 0) };
            at = place 6 8;
          })
          end));
    }

four_turns : count Turns (parameters Turns (pos 4 ∷ [])) ≡ 5
unfolding Turns
four_turns = refl

nine_turns : count Turns (parameters Turns (pos 0 ∷ [])) ≡ 10
unfolding Turns
nine_turns = refl

unused_size : instance_faults Turns (parameters Turns (pos 3 ∷ [])) ≡ ZeroDivisor (place 3 3) ∷ []
unfolding Turns
unused_size = refl

bound_ends :
    bindings Turns (parameters Turns (pos 4 ∷ []))
    ≡ record {
      left = record { inner = Some (record { name = codes "F"; index = Some (pos 4) }); port = codes "next"; index = None };
      right = record { inner = None; port = codes "out"; index = Some (pos 0) };
      at = place 6 8;
    } ∷ []
unfolding Turns
bound_ends = refl
