-- An index of things by their names, of which the first of a name counts.
use Rattle.std.proofs.Common.{◌≡◌, pos, ◌∙◌, Bool, true, false, cond, List, [], ◌∷◌, ◌++◌, Option, Some, None, MatchOption, All, map, find, bytes_eq, refl, sym, ap, Bor}
use Rattle.std.specs.Option.{option_or, option_map_or}
use Rattle.std.specs.Map.{lookup}
use Rattle.std.proofs.lemmas.List.Folds.{find-append}
use Rattle.std.proofs.lemmas.List.Elements.{All-head, All-tail}
use Rattle.std.proofs.lemmas.Slice.Eq.{bytes_eq-Decides}
use Rattle.std.specs.Cmp.{both_ways}
use Rattle.darwin_parser.specs.Tree.{Name, array_of}
use Rattle.darwin_walk.specs.Value.{Env, value_of_name}
use Rattle.darwin_walk.specs.Spine.{env_of}
use Rattle.darwin_walk.specs.Finds.{Finds}
use Rattle.darwin_walk.specs.Scope.{HasSize, ArrayAt, IsScope, component_at, parameters_at}
use Rattle.darwin_walk.specs.declared.valuing.Variable as code
use Rattle.darwin_walk.specs.declared.scope.Array.{Array}
use Rattle.darwin_walk.specs.declared.scope.Scope.{Scope}

bytes_eq-sym : (a b : Name) → bytes_eq a b ≡ bytes_eq b a
bytes_eq-sym a b =
    both_ways _ _ (λ h. (bytes_eq-Decides b a).1 (sym ((bytes_eq-Decides a b).0 h)))
    (λ h. (bytes_eq-Decides a b).1 (sym ((bytes_eq-Decides b a).0 h)))

later : {A : Type 0} (o p : Option A) (b : Bool) (x : A) → option_or (option_or o (cond b (Some x) None)) p ≡ option_or o (cond b (Some x) p)
later (Some y) p b x = refl
later None p true x = refl
later None p false x = refl

-- the last of the things goes over to the index
pub found-insert :
    {A : Type 0} (name_of : A → Name) (all things before : List A) (thing : A) (old new : List (Bor Name × A)) (k : Bor Name) (name : Name)
    → find (λ x. bytes_eq name (name_of x)) all
    ≡ option_or (find (λ x. bytes_eq name (name_of x)) things) (lookup (λ k. bytes_eq name k.now) old)
    → things ≡ before ++ thing ∷ [] → k.now ≡ name_of thing
    → lookup (λ k. bytes_eq name k.now) new ≡ cond (bytes_eq k.now name) (Some thing) (lookup (λ k. bytes_eq name k.now) old)
    → find (λ x. bytes_eq name (name_of x)) all
    ≡ option_or (find (λ x. bytes_eq name (name_of x)) before) (lookup (λ k. bytes_eq name k.now) new)
found-insert name_of all things before thing old new k name found parts named updates =
    rw (found, parts, find-append (λ x. bytes_eq name (name_of x)) before (thing ∷ []), updates, bytes_eq-sym k.now name, named)
    (later (find (λ x. bytes_eq name (name_of x)) before) (lookup (λ k. bytes_eq name k.now) old) (bytes_eq name (name_of thing)) thing)

-- ---- parameters

-- a parameter has its value, whatever variables are round a place
pub value-found :
    (ps : List code.Variable) (rest : Env) (name : Name) (v : code.Variable)
    → find (λ x. bytes_eq name x.name.now) ps ≡ Some v → value_of_name (env_of ps ++ rest) name ≡ v.value
value-found [] rest name v is = cc
value-found (p ∷ ps) rest name v is =
    (elim (bytes_eq name p.name.now) as
    (λ b.
    cond b (Some p) (find (λ x. bytes_eq name x.name.now) ps) ≡ Some v
    → option_map_or (λ x. x.value) (cond b (Some (record { name = p.name.now; value = p.value })) (find (λ x. bytes_eq name x.name) (env_of ps ++ rest))) (pos 0)
    ≡ v.value)
    [ true ↦ (λ e. ap (λ o. option_map_or (λ x. x.value) o (pos 0)) e) | false ↦ (λ e. value-found ps rest name v e) ])
    is

-- a name that no parameter has is one of the variables'
pub value-not_found :
    (ps : List code.Variable) (rest : Env) (name : Name)
    → find (λ x. bytes_eq name x.name.now) ps ≡ None → value_of_name (env_of ps ++ rest) name ≡ value_of_name rest name
value-not_found [] rest name is = refl
value-not_found (p ∷ ps) rest name is =
    (elim (bytes_eq name p.name.now) as
    (λ b.
    cond b (Some p) (find (λ x. bytes_eq name x.name.now) ps) ≡ None
    → option_map_or (λ x. x.value) (cond b (Some (record { name = p.name.now; value = p.value })) (find (λ x. bytes_eq name x.name) (env_of ps ++ rest))) (pos 0)
    ≡ value_of_name rest name)
    [ true ↦ (λ e. cc) | false ↦ (λ e. value-not_found ps rest name e) ])
    is

-- ---- arrays

first_array :
    (p : Env) (name : Name) (xs : List Array)
    → All (HasSize p) xs
    → MatchOption (find (λ a. bytes_eq name a.decl.now.name) xs)
    (find (λ a. bytes_eq name a.name) (map (λ a. array_of a.decl.now) xs) ≡ None)
    (λ a. (find (λ x. bytes_eq name x.name) (map (λ x. array_of x.decl.now) xs) ≡ Some (array_of a.decl.now)) × HasSize p a)
first_array p name [] sizes = refl
first_array p name (x ∷ xs) sizes =
    elim (bytes_eq name x.decl.now.name) as
    (λ b.
    MatchOption (cond b (Some x) (find (λ a. bytes_eq name a.decl.now.name) xs))
    (cond b (Some (array_of x.decl.now)) (find (λ a. bytes_eq name a.name) (map (λ a. array_of a.decl.now) xs)) ≡ None)
    (λ a.
    (cond b (Some (array_of x.decl.now)) (find (λ y. bytes_eq name y.name) (map (λ y. array_of y.decl.now) xs)) ≡ Some (array_of a.decl.now))
    × HasSize p a))
    [ true ↦ (refl, All-head (HasSize p) x xs sizes) | false ↦ first_array p name xs (All-tail (HasSize p) x xs sizes) ]

the_array :
    (s : Scope) (name : Name) (xs : List Array) (a : Option Array)
    → map (λ x. array_of x.decl.now) xs ≡ (component_at s).arrays
    → MatchOption a (find (λ x. bytes_eq name x.name) (map (λ x. array_of x.decl.now) xs) ≡ None)
    (λ y. (find (λ x. bytes_eq name x.name) (map (λ x. array_of x.decl.now) xs) ≡ Some (array_of y.decl.now)) × HasSize (parameters_at s) y)
    → ArrayAt s name a
the_array s name xs None is found = ap (find (λ x. bytes_eq name x.name)) (sym is) ∙ found
the_array s name xs (Some a) is found =
    record { is_named = ap (find (λ x. bytes_eq name x.name)) (sym is) ∙ found.0; is_size = found.1 }

-- an index of the arrays of a component, with their sizes
pub IsScope-found :
    (s : Scope) (xs : List Array)
    → map (λ x. array_of x.decl.now) xs ≡ (component_at s).arrays → All (HasSize (parameters_at s)) xs
    → Finds (λ a. a.decl.now.name) s.arrays.now.entries xs → IsScope s
IsScope-found s xs is sizes finds name =
    the_array s name xs _ is (rw (finds name) (first_array (parameters_at s) name xs sizes))
