-- What is found in an instance that is expanded.
use Rattle.std.proofs.Common.{◌≡◌, ◌∙◌, ◌<◌, ℕ, ℤ, Vec, Option, Some, [], map, length, ap, true, false, nat_lt, List, ◌++◌, Contains, sym, subst, arith}
use Rattle.std.specs.List.{flat_map, filter_map, slice_get}
use Rattle.std.specs.Option.{option_flatten}
use Rattle.std.specs.Global.{Global}
use Rattle.std.proofs.lemmas.List.{length-map}
use Rattle.std.proofs.lemmas.Bool.Decides.{nat_tests}
use Rattle.std.proofs.lemmas.List.Elements.{Contains-append_left, Contains-append_right}
use Rattle.darwin_parser.specs.Tree.{Tree, Component, PortDecl, component_of}
use Rattle.darwin_types.specs.Scope.{is_primitive}
use Rattle.darwin_walk.specs.Reached.{count}
use Rattle.darwin_walk.specs.Instance.{Child, instance_faults, children, index_value, port_sizes}
use Rattle.darwin_walk.specs.Value.{Env}
use Rattle.darwin_walk.specs.declared.fault.Fault.{Fault}
use Rattle.elaborator.specs.Instances.{Instance, is_expanded, children_in, instance_of, path_of, count_in}
use Rattle.elaborator.specs.Faults.{own_faults, kind_argument_faults}
use Rattle.elaborator.specs.Expansion.{instance_in}
use Rattle.elaborator.specs.Opening.{AreMade, IsFound}
use Rattle.darwin_walk.specs.Spine.{env_of}
use Rattle.darwin_walk.specs.Walked.{IsWalked, child_of}
use Rattle.darwin_walk.specs.declared.walked.Walked.{Walked}
use Rattle.elaborator.proofs.MakingLemmas.{made_paths}
use Rattle.elaborator.specs.declared.instance.Instance as code
use Rattle.base.proofs.MapLaws.{length-filter_map}
use Rattle.base.proofs.PlaceLaws.{slice_get-map_at, slice_get-map_some}

below : (n m : ℕ) → n < m → nat_lt n m ≡ true
below n m lt = grind (arith, nat_tests)

pub expanded : (i : code.Instance) → i.is_primitive ≡ is_primitive (component_of i.component.now) → i.depth < 33 → i.is_primitive ≡ false → is_expanded (instance_in i) ≡ true
expanded i noted shallow composite = rw (← noted, composite, below i.depth 33 shallow)

pub faults-own : (tree : Tree) (i : Instance) (f : Fault) → is_expanded i ≡ true → Contains (instance_faults i.component i.env) f → Contains (own_faults tree i) f
faults-own tree i f is has = rw is (Contains-append_left _ _ f has)

pub kinds-own :
    (tree : Tree) (i : Instance) (cs : List Child) (f : Fault)
    → is_expanded i ≡ true → cs ≡ children i.component i.env → Contains (flat_map (kind_argument_faults tree) cs) f → Contains (own_faults tree i) f
kinds-own tree i cs f is all has =
    rw is (Contains-append_right (instance_faults i.component i.env) _ f (subst (λ xs. Contains (flat_map (kind_argument_faults tree) xs) f) all has))

pub count-own : (room : ℕ) (i : Instance) → is_expanded i ≡ true → room < count i.component i.env → room < count_in i
count-own room i is many = rw is many

-- the sizes that a walk gives are those of the ports
sizes_walked :
    (c : Component) (env : Env) (sizes : List (Option ℤ)) → map (λ s. Some s) sizes ≡ port_sizes c env → (k : ℕ) (d : PortDecl)
    → slice_get c.ports k ≡ Some d → index_value d.size env ≡ Some (option_flatten (slice_get sizes k))
sizes_walked c env sizes is k d declared =
    let w =
    slice_get-map_some (λ (s : Option ℤ). Some s) sizes k (index_value d.size env)
    (ap (λ xs. slice_get xs k) is ∙ slice_get-map_at (λ p. index_value p.size env) c.ports k d declared) in
    sym w.2 ∙ ap (λ o. Some (option_flatten o)) (sym w.1)

-- what is found in an instance that is expanded
pub found-opened :
    (tree : Tree) (x : code.Instance) (number room : ℕ) (w : Walked) (made : Vec code.Instance Global) → is_expanded (instance_in x) ≡ true
    → instance_faults (component_of x.component.now) (env_of x.env.items) ≡ [] → IsWalked (component_of x.component.now) (env_of x.env.items) room w
    → flat_map (kind_argument_faults tree) (map child_of w.children.items) ≡ [] → AreMade tree (instance_in x) number (map child_of w.children.items) made
    → (own_faults tree (instance_in x) ≡ []) × IsFound tree (instance_in x) number room (record { bindings = w.bindings; port_sizes = w.port_sizes; made = made; count = w.count })
found-opened tree x number room w made is no_fault walked no_kind all =
    let i = instance_in x in
    let listed : children_in i ≡ map child_of w.children.items = rw is (sym walked.children) in (
      rw is (ap (λ fs. fs ++ flat_map (kind_argument_faults tree) (children i.component i.env)) no_fault ∙ ap (flat_map (kind_argument_faults tree)) (sym walked.children) ∙ no_kind),
      record {
        bindings = rw is walked.bindings;
        sizes = sizes_walked (component_of x.component.now) (env_of x.env.items) w.port_sizes.items walked.sizes;
        made = all.instances ∙ ap (filter_map (instance_of tree i)) (sym listed);
        paths =
            ap (filter_map (path_of tree i)) listed ∙ made_paths tree i w.children.items
            ∙ ap (λ cs. map (λ (j : Instance). j.path) (filter_map (instance_of tree i) cs)) (sym listed);
        noted = all.noted;
        few =
            omega (
              arith,
              walked.few,
              length-map made.items instance_in,
              ap length all.instances,
              length-filter_map (instance_of tree i) (map child_of w.children.items),
              length-map w.children.items child_of,
            );
        count = rw is walked.count;
        within = walked.within;
      },
    )
