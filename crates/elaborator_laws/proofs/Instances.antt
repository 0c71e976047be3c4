-- The instances of a description, and those of the same in another order.
use Rattle.std.proofs.Common.{◌≡◌, ◌∙◌, ℕ, zero, suc, ℤ, Bool, true, false, ◌&&◌, not, List, [], ◌∷◌, length, Option, Some, None, refl, ap, sym, subst}
use Rattle.std.specs.Prelude.{◌==◌, option_map, option_and_then}
use Rattle.std.specs.List.{Contains, flat_map}
use Rattle.std.proofs.lemmas.Option.{none-some, same_Some}
use Rattle.darwin_parser.specs.Tree.{Name, Tree, Component}
use Rattle.darwin_types.specs.Scope.{component_named, is_primitive}
use Rattle.darwin_walk.specs.Value.{Env, parameters}
use Rattle.darwin_walk.specs.Reached.{Reached, reached_in_component, weight, count}
use Rattle.darwin_walk.specs.Instance.{Child, children}
use Rattle.elaborator.specs.Paths.{within}
use Rattle.elaborator.specs.Instances.{Instance, top_instance, is_expanded, children_in, child_path, instance_of, made_in, path_of, paths_in, levels, instances, count_in, total, Inst, at_top, below}
use Rattle.elaborator.specs.Graph.{node_of}
use Rattle.elaborator_laws.specs.Reordering.{Reordered, no_elements, kept}
use Rattle.elaborator_laws.proofs.Finding.{Both, neither, both_there, Covers}
use Rattle.elaborator_laws.proofs.Reorders.{reordered-is, reordered-append, reordered-flat_map, reordered-filter_map, sum-same, like_in}
use Rattle.elaborator_laws.proofs.Statements.{SameReached, same_valued, same_turn, same_made, same_bound}
use Rattle.elaborator_laws.proofs.Children.{Alike, AlikeTrees, alike-sym, alike-refl, alike-trans, alike_trees-sym, alike_trees-refl, is_primitive-same, reached-alike, SameChild, same_child-refl, children-same}

-- the same instance, of components that are alike
pub record SameInstance (i j : Instance) : Type 0 where
  pub path : i.path ≡ j.path
  pub depth : i.depth ≡ j.depth
  pub env : i.env ≡ j.env
  pub component : Alike i.component j.component

pub same_instance-sym : (i j : Instance) → SameInstance i j → SameInstance j i
same_instance-sym i j same = record { path = sym same.path; depth = sym same.depth; env = sym same.env; component = alike-sym i.component j.component same.component }

pub same_instance-refl : (i : Instance) → SameInstance i i
same_instance-refl i = record { path = refl; depth = refl; env = refl; component = alike-refl i.component }

pub is_expanded-same : (i j : Instance) → SameInstance i j → is_expanded i ≡ is_expanded j
is_expanded-same i j same = rw (is_primitive-same i.component j.component same.component, same.depth) refl

children_in-expanded : (i : Instance) → is_expanded i ≡ true → children_in i ≡ children i.component i.env
children_in-expanded i is = rw is refl

children_in-closed : (i : Instance) → is_expanded i ≡ false → children_in i ≡ []
children_in-closed i is = rw is refl

children_in-same : (i j : Instance) → SameInstance i j → Reordered SameChild (children_in i) (children_in j)
children_in-same i j same = by (is_expanded i) refl
  where
    by : (b : Bool) → is_expanded i ≡ b → Reordered SameChild (children_in i) (children_in j)
    by true is =
        subst (λ ks. Reordered SameChild ks (children_in j)) (sym (children_in-expanded i is ∙ ap (children i.component) same.env))
        (subst (λ ks. Reordered SameChild (children i.component j.env) ks) (sym (children_in-expanded j (sym (is_expanded-same i j same) ∙ is)))
        (children-same i.component j.component same.component j.env))
    by false is =
        reordered-is SameChild same_child-refl (children_in i) (children_in j) (children_in-closed i is ∙ sym (children_in-closed j (sym (is_expanded-same i j same) ∙ is)))

-- the instance that an entry makes
abbrev pub made_by : Instance → Child → Component → List ℤ → Instance
made_by i child c arguments = record { path = child_path i child; depth = suc i.depth; component = c; env = parameters c arguments }

abbrev LikeInstance : List Instance → Instance → Type 0
LikeInstance others j = (j' : Instance) × Contains others j' × SameInstance j j'

pub parameters-same : (c d : Component) (arguments : List ℤ) → Alike c d → parameters c arguments ≡ parameters d arguments
parameters-same c d arguments same = rw same.params refl

abbrev making : Instance → Child → Option Component → Option (List ℤ) → Option Instance
making i child o q = option_and_then (λ c. option_map (made_by i child c) q) o

making-same :
    (i i' : Instance) (k l : Child) → SameInstance i i' → SameChild k l → (q : Option (List ℤ)) (a b : Option Component) → Both Alike a b
    → Both SameInstance (making i k a q) (making i' l b q)
making-same i i' k l same child q _ _ neither = neither
making-same i i' k l same child None _ _ (both_there c d alike) = neither
making-same i i' k l same child (Some arguments) _ _ (both_there c d alike) =
    both_there (made_by i k c arguments) (made_by i' l d arguments) (record {
      path = ap (λ p. within p k.segment) same.path ∙ ap (within i'.path) child.segment;
      depth = ap suc same.depth;
      env = parameters-same c d arguments alike;
      component = alike;
    })

-- the same child gives the same instance
instance_of-same :
    (t u : Tree) → AlikeTrees t u → (i i' : Instance) → SameInstance i i' → (k l : Child) → SameChild k l → Both SameInstance (instance_of t i k) (instance_of u i' l)
instance_of-same t u trees i i' same k l child =
    subst (λ q. Both SameInstance (instance_of t i k) (making i' l (component_named u l.component) q)) child.arguments
    (making-same i i' k l same child k.arguments (component_named t k.component) (component_named u l.component)
    (subst (λ x. Both Alike (component_named t k.component) (component_named u x)) child.component (trees.component k.component)))

-- the same is made in an instance of the one description as in the same instance of the other
pub made_in-same : (t u : Tree) → AlikeTrees t u → (i i' : Instance) → SameInstance i i' → Reordered SameInstance (made_in t i) (made_in u i')
made_in-same t u trees i i' same =
    reordered-filter_map SameChild SameInstance same_instance-refl (instance_of t i) (instance_of u i')
    (instance_of-same t u trees i i' same) (instance_of-same u u (alike_trees-refl u) i' i' (same_instance-refl i'))
    (children_in i) (children_in i') (children_in-same i i' same)

pub same_instance-trans : (i j k : Instance) → SameInstance i j → SameInstance j k → SameInstance i k
same_instance-trans i j k same other = record {
  path = same.path ∙ other.path;
  depth = same.depth ∙ other.depth;
  env = same.env ∙ other.env;
  component = alike-trans i.component j.component k.component same.component other.component;
}

pub made_in-like : (t u : Tree) → AlikeTrees t u → (i i' : Instance) → SameInstance i i' → (j : Instance) → Contains (made_in t i) j → LikeInstance (made_in u i') j
made_in-like t u trees i i' same j = like_in SameInstance same_instance-trans (made_in t i) (made_in u i') j (made_in-same t u trees i i' same)

pub made_in-covers : (t u : Tree) → AlikeTrees t u → (i i' : Instance) → SameInstance i i' → Covers SameInstance (made_in t i) (made_in u i')
made_in-covers t u trees i i' same = record { like = made_in-like t u trees i i' same }

pub made_in-covered : (t u : Tree) → AlikeTrees t u → (i i' : Instance) → SameInstance i i' → Covers (λ j' j. SameInstance j j') (made_in u i') (made_in t i)
made_in-covered t u trees i i' same = record {
  like = λ j' there.
      let w = made_in-like u t (alike_trees-sym t u trees) i' i (same_instance-sym i i' same) j' there in
      (w.0, w.1, same_instance-sym j' w.0 w.2);
}

-- ---- how much there is

path_of-same : (t u : Tree) → AlikeTrees t u → (i i' : Instance) → SameInstance i i' → (k l : Child) → SameChild k l → Both ◌≡◌ (path_of t i k) (path_of u i' l)
path_of-same t u trees i i' same k l child =
    by (component_named t k.component) (component_named u l.component)
    (subst (λ x. Both Alike (component_named t k.component) (component_named u x)) child.component (trees.component k.component))
  where
    by : (a b : Option Component) → Both Alike a b → Both ◌≡◌ (option_map (λ (c : Component). child_path i k) a) (option_map (λ (c : Component). child_path i' l) b)
    by _ _ neither = neither
    by _ _ (both_there c d alike) = both_there (child_path i k) (child_path i' l) (ap (λ p. within p k.segment) same.path ∙ ap (within i'.path) child.segment)

-- entries make the same paths in the same instance
pub paths_in-same : (t u : Tree) → AlikeTrees t u → (i i' : Instance) → SameInstance i i' → Reordered ◌≡◌ (paths_in t i) (paths_in u i')
paths_in-same t u trees i i' same =
    reordered-filter_map SameChild ◌≡◌ (λ p. refl) (path_of t i) (path_of u i') (path_of-same t u trees i i' same)
    (path_of-same u u (alike_trees-refl u) i' i' (same_instance-refl i')) (children_in i) (children_in i') (children_in-same i i' same)

pub levels-same : (t u : Tree) → AlikeTrees t u → (n : ℕ) (is js : List Instance) → Reordered SameInstance is js → Reordered SameInstance (levels t n is) (levels u n js)
unfolding levels
levels-same t u trees zero is js same = same
levels-same t u trees (suc n) is js same =
    reordered-append SameInstance same_instance-refl is js (levels t n (flat_map (made_in t) is)) (levels u n (flat_map (made_in u) js)) same
    (levels-same t u trees n (flat_map (made_in t) is) (flat_map (made_in u) js)
    (reordered-flat_map SameInstance SameInstance same_instance-refl (made_in t) (made_in u) (made_in-same t u trees) (made_in-same u u (alike_trees-refl u)) is js same))

weight-same : (r r' : Reached) → SameReached r r' → weight r ≡ weight r'
weight-same _ _ (same_valued e env at at') = refl
weight-same _ _ same_turn = refl
weight-same _ _ (same_made e e' env same) = refl
weight-same _ _ (same_bound b b' env same) = refl

count-same : (c d : Component) (env : Env) → Alike c d → count c env ≡ count d env
count-same c d env same = sum-same SameReached weight weight-same (reached_in_component c env) (reached_in_component d env) (reached-alike c d same env)

count_in-same : (i j : Instance) → SameInstance i j → count_in i ≡ count_in j
count_in-same i j same = rw (is_expanded-same i j same, same.env, count-same i.component j.component j.env same.component) refl

-- as much is reached in the elaboration of the one description as in that of the other
pub total-same : (t u : Tree) → AlikeTrees t u → (top top' : Instance) → SameInstance top top' → total t top ≡ total u top'
total-same t u trees top top' same =
    sum-same SameInstance count_in count_in-same (instances t top) (instances u top')
    (levels-same t u trees 33 (top ∷ []) (top' ∷ []) (kept top top' [] [] same no_elements))

-- each instance of the one description is one of the other
pub inst-like : (t u : Tree) (top top' : Instance) → AlikeTrees t u → SameInstance top top' → (i : Instance) → Inst t top i → (i' : Instance) × Inst u top' i' × SameInstance i i'
inst-like t u top top' trees same _ at_top = (top', at_top, same)
inst-like t u top top' trees same _ (below i j inst there) =
    let w = inst-like t u top top' trees same i inst in
    let v = made_in-like t u trees i w.0 w.2 j there in
    (v.0, below w.0 v.0 w.1 v.1, v.2)

-- ---- the top

abbrev pub top_of : Component → List ℤ → Instance
top_of c arguments = record { path = []; depth = 0; component = c; env = parameters c arguments }

-- whether a component can be at the top with so many arguments
abbrev pub may_be_top : Component → List ℤ → Bool
may_be_top c arguments = not (is_primitive c) && (length c.params == length arguments)

may_be_top-same : (c d : Component) (arguments : List ℤ) → Alike c d → may_be_top c arguments ≡ may_be_top d arguments
may_be_top-same c d arguments alike = rw (is_primitive-same c d alike, alike.params) refl

abbrev LikeTop : Tree → Name → List ℤ → Instance → Type 0
LikeTop u name arguments top = (top' : Instance) × (top_instance u name arguments ≡ Some top') × SameInstance top top'

pub top-missing : (t : Tree) (name : Name) (arguments : List ℤ) → component_named t name ≡ None → top_instance t name arguments ≡ None
top-missing t name arguments none = rw none refl

pub top-unfit : (t : Tree) (name : Name) (arguments : List ℤ) (c : Component) → component_named t name ≡ Some c → may_be_top c arguments ≡ false → top_instance t name arguments ≡ None
top-unfit t name arguments c named unfit = rw (named, unfit) refl

pub top-there : (t : Tree) (name : Name) (arguments : List ℤ) (c : Component) → component_named t name ≡ Some c → may_be_top c arguments ≡ true → top_instance t name arguments ≡ Some (top_of c arguments)
top-there t name arguments c named fit = rw (named, fit) refl

top-at :
    (t u : Tree) (name : Name) (arguments : List ℤ) (top : Instance) → top_instance t name arguments ≡ Some top
    → (a b : Option Component) → component_named t name ≡ a → component_named u name ≡ b → Both Alike a b → LikeTop u name arguments top
top-at t u name arguments top is _ _ named named' neither = absurd (none-some top (sym (top-missing t name arguments named) ∙ is))
top-at t u name arguments top is _ _ named named' (both_there c d alike) = by (may_be_top c arguments) refl
  where
    by : (b : Bool) → may_be_top c arguments ≡ b → LikeTop u name arguments top
    by false unfit = absurd (none-some top (sym (top-unfit t name arguments c named unfit) ∙ is))
    by true fit =
        let same : SameInstance (top_of c arguments) (top_of d arguments) = record { path = refl; depth = refl; env = parameters-same c d arguments alike; component = alike } in (
          top_of d arguments,
          top-there u name arguments d named' (sym (may_be_top-same c d arguments alike) ∙ fit),
          subst (λ x. SameInstance x (top_of d arguments)) (same_Some (top_of c arguments) top (sym (top-there t name arguments c named fit) ∙ is)) same,
        )

pub top-like :
    (t u : Tree) (name : Name) (arguments : List ℤ) (top : Instance) → AlikeTrees t u → top_instance t name arguments ≡ Some top
    → (top' : Instance) × (top_instance u name arguments ≡ Some top') × SameInstance top top'
top-like t u name arguments top trees is =
    top-at t u name arguments top is (component_named t name) (component_named u name) refl refl (trees.component name)

-- ---- nodes

pub node_of-same : (i j : Instance) → SameInstance i j → node_of i ≡ node_of j
node_of-same i j same = rw (is_primitive-same i.component j.component same.component, same.component.name, same.path, same.env) refl
