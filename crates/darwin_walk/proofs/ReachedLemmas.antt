-- What is reached in an instance, part by part: the sizes of ports and arrays, and then the body.
use Rattle.std.proofs.Common.{◌≡◌, ◌∙◌, ℕ, List, [], ◌∷◌, ◌++◌, map, length, sum_by, Option, Some, None, refl, sym, ap, append-nil, subst, Contains, arith}
use Rattle.std.proofs.lemmas.List.Elements.{Contains-append_left, Contains-append_right}
use Rattle.std.specs.List.{flat_map}
use Rattle.std.specs.Option.{option_map_or}
use Rattle.std.proofs.lemmas.Grind.{flat_map-append}
use Rattle.std.proofs.lemmas.List.Sums.{sum_by-append, sum_by-cons}
use Rattle.std.proofs.lemmas.List.{length-map}
use Rattle.darwin_lexer.specs.declared.token.At.{At}
use Rattle.darwin_parser.specs.Tree.{Expr, PortDecl, ArrayDecl, Stmts, Component}
use Rattle.darwin_walk.specs.Value.{Env}
use Rattle.darwin_walk.specs.Reached.{Reached, valued, weight, port_size, array_size, reached_in_component, reached_in, count}
use Rattle.darwin_walk.specs.Instance.{children_of, bindings_of, faults_of, instance_faults, children, bindings, port_sizes}
use Rattle.darwin_walk.proofs.ChildCountLaws.{children_few}
use Rattle.darwin_walk.specs.Scope.{port_size_faults, array_size_faults}
use Rattle.darwin_walk.specs.Walked.{Adds, IsWalked, child_of, binding_of}
use Rattle.darwin_walk.specs.declared.fault.Fault.{Fault}
use Rattle.darwin_walk.specs.declared.walked.Walked.{Walked}

-- ---- sizes

port_each :
    {B : Type 0} (f : Reached → List B) (p : Env) (at : At) (size : Option Expr)
    → flat_map f (option_map_or (λ e. valued e p at ∷ []) size []) ≡ option_map_or (λ e. f (valued e p at)) size []
port_each f p at None = refl
port_each f p at (Some e) = append-nil (f (valued e p at))

ports_each :
    {B : Type 0} (f : Reached → List B) (p : Env) (ports : List PortDecl)
    → flat_map f (flat_map (port_size p) ports) ≡ flat_map (λ x. option_map_or (λ e. f (valued e p x.at)) x.size []) ports
ports_each f p [] = refl
ports_each f p (x ∷ ports) =
    flat_map-append f (port_size p x) (flat_map (port_size p) ports)
    ∙ ap (λ ys. ys ++ flat_map f (flat_map (port_size p) ports)) (port_each f p x.at x.size)
    ∙ ap (λ ys. option_map_or (λ e. f (valued e p x.at)) x.size [] ++ ys) (ports_each f p ports)

arrays_each :
    {B : Type 0} (f : Reached → List B) (p : Env) (arrays : List ArrayDecl)
    → flat_map f (map (array_size p) arrays) ≡ flat_map (λ a. f (valued a.size p a.at)) arrays
arrays_each f p [] = refl
arrays_each f p (a ∷ arrays) = ap (λ ys. f (valued a.size p a.at) ++ ys) (arrays_each f p arrays)

-- sizes give nothing but faults, and count for nothing
empty_each : {A B : Type 0} (xs : List A) → flat_map (λ x. let none : List B = [] in none) xs ≡ []
empty_each [] = refl
empty_each (x ∷ xs) = empty_each xs

no_size : {B : Type 0} (size : Option Expr) → option_map_or (λ e. let none : List B = [] in none) size [] ≡ []
no_size None = refl
no_size (Some e) = refl

ports_empty : {B : Type 0} (ports : List PortDecl) → flat_map (λ x. option_map_or (λ e. let none : List B = [] in none) x.size []) ports ≡ []
ports_empty [] = refl
ports_empty (x ∷ ports) = rw (no_size x.size) (ports_empty ports)

port_weight : (p : Env) (at : At) (size : Option Expr) → sum_by weight (option_map_or (λ e. valued e p at ∷ []) size []) ≡ 0
port_weight p at None = refl
port_weight p at (Some e) = refl

ports_weight : (p : Env) (ports : List PortDecl) → sum_by weight (flat_map (port_size p) ports) ≡ 0
ports_weight p [] = refl
ports_weight p (x ∷ ports) =
    omega (arith, sum_by-append weight (port_size p x) (flat_map (port_size p) ports), port_weight p x.at x.size, ports_weight p ports)

arrays_weight : (p : Env) (arrays : List ArrayDecl) → sum_by weight (map (array_size p) arrays) ≡ 0
arrays_weight p [] = refl
arrays_weight p (a ∷ arrays) = omega (arith, sum_by-cons weight (array_size p a) (map (array_size p) arrays), arrays_weight p arrays)

-- ---- an instance

parts :
    {B : Type 0} (f : Reached → List B) (c : Component) (p : Env)
    → flat_map f (reached_in_component c p)
    ≡ (flat_map f (flat_map (port_size p) c.ports) ++ flat_map f (map (array_size p) c.arrays)) ++ flat_map f (reached_in c.body p)
parts f c p =
    flat_map-append f (flat_map (port_size p) c.ports ++ map (array_size p) c.arrays) (reached_in c.body p)
    ∙ ap (λ ys. ys ++ flat_map f (reached_in c.body p)) (flat_map-append f (flat_map (port_size p) c.ports) (map (array_size p) c.arrays))

pub faults-parts :
    (c : Component) (p : Env)
    → instance_faults c p ≡ (port_size_faults p c.ports ++ array_size_faults p c.arrays) ++ flat_map (faults_of c p) (reached_in c.body p)
faults-parts c p =
    parts (faults_of c p) c p
    ∙ ap (λ ys. (ys ++ flat_map (faults_of c p) (map (array_size p) c.arrays)) ++ flat_map (faults_of c p) (reached_in c.body p))
    (ports_each (faults_of c p) p c.ports)
    ∙ ap (λ ys. (port_size_faults p c.ports ++ ys) ++ flat_map (faults_of c p) (reached_in c.body p)) (arrays_each (faults_of c p) p c.arrays)

children-body : (c : Component) (p : Env) → children c p ≡ flat_map (children_of c p) (reached_in c.body p)
children-body c p =
    parts (children_of c p) c p
    ∙ ap (λ ys. (ys ++ flat_map (children_of c p) (map (array_size p) c.arrays)) ++ flat_map (children_of c p) (reached_in c.body p))
    (ports_each (children_of c p) p c.ports ∙ ports_empty c.ports)
    ∙ ap (λ ys. ys ++ flat_map (children_of c p) (reached_in c.body p)) (arrays_each (children_of c p) p c.arrays ∙ empty_each c.arrays)

bindings-body : (c : Component) (p : Env) → bindings c p ≡ flat_map bindings_of (reached_in c.body p)
bindings-body c p =
    parts bindings_of c p
    ∙ ap (λ ys. (ys ++ flat_map bindings_of (map (array_size p) c.arrays)) ++ flat_map bindings_of (reached_in c.body p))
    (ports_each bindings_of p c.ports ∙ ports_empty c.ports)
    ∙ ap (λ ys. ys ++ flat_map bindings_of (reached_in c.body p)) (arrays_each bindings_of p c.arrays ∙ empty_each c.arrays)

pub count-body : (c : Component) (p : Env) → count c p ≡ sum_by weight (reached_in c.body p)
count-body c p =
    omega (
      arith,
      sum_by-append weight (flat_map (port_size p) c.ports ++ map (array_size p) c.arrays) (reached_in c.body p),
      sum_by-append weight (flat_map (port_size p) c.ports) (map (array_size p) c.arrays),
      ports_weight p c.ports,
      arrays_weight p c.arrays,
    )

-- a walk of the body, from nothing but the sizes of the ports
pub IsWalked-body :
    (c : Component) (p : Env) (room : ℕ) (old new : Walked)
    → map (λ s. Some s) old.port_sizes.items ≡ port_sizes c p → old.children.items ≡ [] → old.bindings.items ≡ [] → old.count ≡ 0
    → Adds c p room (reached_in c.body p) old new → IsWalked c p room new
IsWalked-body c p room old new sizes no_children no_bindings no_count adds =
    record {
      sizes = ap (map (λ s. Some s)) adds.sizes ∙ sizes;
      children =
          adds.children ∙ ap (λ xs. map child_of xs ++ flat_map (children_of c p) (reached_in c.body p)) no_children ∙ sym (children-body c p);
      bindings =
          adds.bindings ∙ ap (λ xs. map binding_of xs ++ flat_map bindings_of (reached_in c.body p)) no_bindings ∙ sym (bindings-body c p);
      count = omega (arith, adds.count, no_count, count-body c p);
      within = adds.within (omega (arith, no_count));
      few =
          omega (
            arith,
            length-map new.children.items child_of,
            ap length (adds.children ∙ ap (λ xs. map child_of xs ++ flat_map (children_of c p) (reached_in c.body p)) no_children),
            children_few c p (reached_in c.body p),
            adds.count,
            no_count,
          );
    }

pub faults-none :
    (c : Component) (p : Env)
    → port_size_faults p c.ports ≡ [] → array_size_faults p c.arrays ≡ [] → flat_map (faults_of c p) (reached_in c.body p) ≡ [] → instance_faults c p ≡ []
faults-none c p no_ports no_arrays no_body = rw (faults-parts c p, no_ports, no_arrays, no_body)

-- a fault of a part is one of the instance
pub faults-ports : (c : Component) (p : Env) (ports : List PortDecl) (f : Fault) → ports ≡ c.ports → Contains (port_size_faults p ports) f → Contains (instance_faults c p) f
faults-ports c p ports f is has =
    rw (faults-parts c p) (Contains-append_left _ _ f (Contains-append_left _ _ f (subst (λ xs. Contains (port_size_faults p xs) f) is has)))

pub faults-arrays : (c : Component) (p : Env) (arrays : List ArrayDecl) (f : Fault) → arrays ≡ c.arrays → Contains (array_size_faults p arrays) f → Contains (instance_faults c p) f
faults-arrays c p arrays f is has =
    rw (faults-parts c p)
    (Contains-append_left (port_size_faults p c.ports ++ array_size_faults p c.arrays) _ f (Contains-append_right (port_size_faults p c.ports) _ f (subst (λ xs. Contains (array_size_faults p xs) f) is has)))

pub faults-body :
    (c : Component) (p : Env) (body : Stmts) (f : Fault)
    → body ≡ c.body → Contains (flat_map (faults_of c p) (reached_in body p)) f → Contains (instance_faults c p) f
faults-body c p body f is has =
    rw (faults-parts c p) (Contains-append_right _ _ f (subst (λ b. Contains (flat_map (faults_of c p) (reached_in b p)) f) is has))
