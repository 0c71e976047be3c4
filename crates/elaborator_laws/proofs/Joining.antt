-- What bindings join in a description, and in the same in another order.
use Rattle.std.proofs.Common.{◌≡◌, ◌∙◌, ℕ, ◌<◌, Bool, true, false, List, [], ◌∷◌, map, Option, Some, None, refl, ap, sym, subst, arith}
use Rattle.std.specs.List.{Contains}
use Rattle.std.specs.Option.{is_some}
use Rattle.std.specs.Str.{bytes_eq}
use Rattle.std.proofs.lemmas.Slice.Eq.{bytes_eq-Decides}
use Rattle.config_graph.specs.declared.node.Node.{Node}
use Rattle.config_graph.specs.Graph.{Graph}
use Rattle.config_graph.specs.GraphBy.{AreLinkedAt}
use Rattle.darwin_parser.specs.declared.tree.Side.{Side}
use Rattle.darwin_parser.specs.declared.tree.Side.TheVariants.{Provide, Require}
use Rattle.darwin_parser.specs.Tree.{Name, Tree, PortDecl}
use Rattle.darwin_types.specs.Scope.{port_named}
use Rattle.darwin_walk.specs.Instance.{Segment, End, Binding, bindings}
use Rattle.elaborator.specs.Paths.{within}
use Rattle.elaborator.specs.Instances.{Instance, made_in, is_expanded, Inst, below}
use Rattle.elaborator.specs.Bindings.{Port, instance_at, NamedPort, resolve, named_port, may_lead, Pair, pair_of, bindings_in, Bound, bound, BoundThrough, at_once, through}
use Rattle.elaborator.specs.Graph.{IsNode, port_at, Linked, IsElab}
use Rattle.elaborator.proofs.ChildLaws.{depth-made}
use Rattle.elaborator.proofs.PairLaws.{pair-forward, pair-backward, pair-of_no_form, pair-no_left, pair-no_right}
use Rattle.elaborator_laws.specs.Reordering.{SamePort}
use Rattle.elaborator_laws.proofs.Finding.{Both, neither, both_there, Both-find}
use Rattle.elaborator_laws.proofs.Children.{AlikeTrees, alike_trees-sym, SameBound, bindings-like}
use Rattle.elaborator_laws.proofs.Instances.{SameInstance, same_instance-sym, is_expanded-same, made_in-covers, made_in-covered, inst-like, node_of-same}
use Rattle.base.proofs.ContainsLaws.{Contains-flat_map, Contains-from_flat_map, Contains-from_map, Contains-map, Contains-nil}

-- two descriptions that are alike, with their tops; in the first a path tells an instance
pub record Setting (t u : Tree) (top top' : Instance) : Type 0 where
  pub trees : AlikeTrees t u
  pub tops : SameInstance top top'
  pub one_path : (i j : Instance) → Inst t top i → Inst t top j → 0 < i.depth → 0 < j.depth → i.path ≡ j.path → i ≡ j

-- ---- what ends name

instance_at-same :
    (t u : Tree) (top top' : Instance) → Setting t u top top' → (i i' : Instance) → Inst t top i → SameInstance i i' → (s : Option Segment)
    → Both SameInstance (instance_at t i s) (instance_at u i' s)
instance_at-same t u top top' setting i i' inst same None = both_there i i' same
instance_at-same t u top top' setting i i' inst same (Some s) =
    Both-find SameInstance (λ j. bytes_eq (within i.path s) j.path) (λ j. bytes_eq (within i'.path s) j.path)
    (λ x y alike. ap (λ p. bytes_eq (within p s) y.path) (sym same.path) ∙ ap (bytes_eq (within i.path s)) (sym alike.path))
    (made_in t i) (made_in u i') (made_in-covers t u setting.trees i i' same) (made_in-covered t u setting.trees i i' same)
    (λ x x' there there' is is'.
    setting.one_path x x' (below i x inst there) (below i x' inst there') (omega (arith, depth-made t i x there)) (omega (arith, depth-made t i x' there'))
    (sym ((bytes_eq-Decides (within i.path s) x.path).0 is) ∙ (bytes_eq-Decides (within i.path s) x'.path).0 is'))

-- the same end, named in instances that are the same
pub record SameNamed (x y : NamedPort) : Type 0 where
  pub is_inner : x.is_inner ≡ y.is_inner
  pub instance : SameInstance x.instance y.instance
  pub decl : SamePort x.decl y.decl
  pub index : x.index ≡ y.index

abbrev named_as : End → Instance → PortDecl → NamedPort
named_as e j decl = record { is_inner = is_some e.inner; instance = j; decl = decl; index = e.index }

resolve-nowhere : (t : Tree) (i : Instance) (e : End) → instance_at t i e.inner ≡ None → resolve t i e ≡ None
resolve-nowhere t i e none = rw none refl

resolve-no_port : (t : Tree) (i : Instance) (e : End) (j : Instance) → instance_at t i e.inner ≡ Some j → port_named j.component e.port ≡ None → resolve t i e ≡ None
resolve-no_port t i e j at none = rw (at, none) refl

resolve-there : (t : Tree) (i : Instance) (e : End) (j : Instance) (p : PortDecl) → instance_at t i e.inner ≡ Some j → port_named j.component e.port ≡ Some p → resolve t i e ≡ Some (named_as e j p)
resolve-there t i e j p at there = rw (at, there) refl

named-with_port :
    (t u : Tree) (i i' : Instance) (e : End) (j j' : Instance) → instance_at t i e.inner ≡ Some j → instance_at u i' e.inner ≡ Some j' → SameInstance j j'
    → (a b : Option PortDecl) → port_named j.component e.port ≡ a → port_named j'.component e.port ≡ b → Both SamePort a b → Both SameNamed (resolve t i e) (resolve u i' e)
named-with_port t u i i' e j j' at at' same _ _ is is' neither = rw (resolve-no_port t i e j at is, resolve-no_port u i' e j' at' is') neither
named-with_port t u i i' e j j' at at' same _ _ is is' (both_there p q ports) =
    rw (resolve-there t i e j p at is, resolve-there u i' e j' q at' is')
    (both_there (named_as e j p) (named_as e j' q) (record { is_inner = refl; instance = same; decl = ports; index = refl }))

named-with_instance :
    (t u : Tree) (i i' : Instance) (e : End) (a b : Option Instance) → instance_at t i e.inner ≡ a → instance_at u i' e.inner ≡ b → Both SameInstance a b
    → Both SameNamed (resolve t i e) (resolve u i' e)
named-with_instance t u i i' e _ _ is is' neither = rw (resolve-nowhere t i e is, resolve-nowhere u i' e is') neither
named-with_instance t u i i' e _ _ is is' (both_there j j' same) =
    named-with_port t u i i' e j j' is is' same (port_named j.component e.port) (port_named j'.component e.port) refl refl (same.component.port e.port)

pub resolve-same :
    (t u : Tree) (top top' : Instance) → Setting t u top top' → (i i' : Instance) → Inst t top i → SameInstance i i' → (e : End)
    → Both SameNamed (resolve t i e) (resolve u i' e)
resolve-same t u top top' setting i i' inst same e =
    named-with_instance t u i i' e (instance_at t i e.inner) (instance_at u i' e.inner) refl refl (instance_at-same t u top top' setting i i' inst same e.inner)

port_of-same : (x y : NamedPort) → SameNamed x y → named_port x ≡ named_port y
port_of-same x y same = rw (same.instance.path, same.instance.depth, same.decl.side, same.decl.name, same.index) refl

pub may_lead-same : (x x' y y' : NamedPort) → SameNamed x x' → SameNamed y y' → may_lead x y ≡ may_lead x' y'
may_lead-same x x' y y' same same' =
    rw (same.decl.size, same.index, same.is_inner, same.decl.side, same'.decl.size, same'.index, same'.is_inner, same'.decl.side) refl

-- ---- pairs

-- the ports that a pair binds
abbrev pub ports_of : Pair → Port × Port
ports_of p = (p.source, p.target)

abbrev one_pair : Port → Port → List (Port × Port)
one_pair x y = (x, y) ∷ []

pairs-both :
    (t u : Tree) (i i' : Instance) (b b' : Binding) (x x' y y' : NamedPort) → resolve t i b.left ≡ Some x → resolve u i' b'.left ≡ Some x' → resolve t i b.right ≡ Some y
    → resolve u i' b'.right ≡ Some y' → SameNamed x x' → SameNamed y y' → map ports_of (pair_of t i b) ≡ map ports_of (pair_of u i' b')
pairs-both t u i i' b b' x x' y y' left left' right right' same same' = by (may_lead x y) (may_lead y x) refl refl
  where
    forward' : may_lead x y ≡ may_lead x' y'
    forward' = may_lead-same x x' y y' same same'

    backward' : may_lead y x ≡ may_lead y' x'
    backward' = may_lead-same y y' x x' same' same

    joined : (a b c d : Port) → a ≡ b → c ≡ d → one_pair a c ≡ one_pair b d
    joined a b c d is is' = rw (is, is') refl

    by : (f g : Bool) → may_lead x y ≡ f → may_lead y x ≡ g → map ports_of (pair_of t i b) ≡ map ports_of (pair_of u i' b')
    by true g is is' =
        ap (map ports_of) (pair-forward t i b x y left right is)
        ∙ joined (named_port x) (named_port x') (named_port y) (named_port y') (port_of-same x x' same) (port_of-same y y' same')
        ∙ ap (map ports_of) (sym (pair-forward u i' b' x' y' left' right' (sym forward' ∙ is)))
    by false true is is' =
        ap (map ports_of) (pair-backward t i b x y left right is is')
        ∙ joined (named_port y) (named_port y') (named_port x) (named_port x') (port_of-same y y' same') (port_of-same x x' same)
        ∙ ap (map ports_of) (sym (pair-backward u i' b' x' y' left' right' (sym forward' ∙ is) (sym backward' ∙ is')))
    by false false is is' =
        ap (map ports_of) (pair-of_no_form t i b x y left right is is' ∙ sym (pair-of_no_form u i' b' x' y' left' right' (sym forward' ∙ is) (sym backward' ∙ is')))

pairs-right :
    (t u : Tree) (i i' : Instance) (b b' : Binding) (x x' : NamedPort) → resolve t i b.left ≡ Some x → resolve u i' b'.left ≡ Some x' → SameNamed x x'
    → (c d : Option NamedPort) → resolve t i b.right ≡ c → resolve u i' b'.right ≡ d → Both SameNamed c d → map ports_of (pair_of t i b) ≡ map ports_of (pair_of u i' b')
pairs-right t u i i' b b' x x' left left' same _ _ right right' neither =
    ap (map ports_of) (pair-no_right t i b x left right ∙ sym (pair-no_right u i' b' x' left' right'))
pairs-right t u i i' b b' x x' left left' same _ _ right right' (both_there y y' same') = pairs-both t u i i' b b' x x' y y' left left' right right' same same'

pairs-left :
    (t u : Tree) (i i' : Instance) (b b' : Binding) → (a c : Option NamedPort) → resolve t i b.left ≡ a → resolve u i' b'.left ≡ c → Both SameNamed a c
    → Both SameNamed (resolve t i b.right) (resolve u i' b'.right) → map ports_of (pair_of t i b) ≡ map ports_of (pair_of u i' b')
pairs-left t u i i' b b' _ _ left left' neither rights = ap (map ports_of) (pair-no_left t i b left ∙ sym (pair-no_left u i' b' left'))
pairs-left t u i i' b b' _ _ left left' (both_there x x' same) rights =
    pairs-right t u i i' b b' x x' left left' same (resolve t i b.right) (resolve u i' b'.right) refl refl rights

pub pairs-same :
    (t u : Tree) (top top' : Instance) → Setting t u top top' → (i i' : Instance) → Inst t top i → SameInstance i i' → (b b' : Binding) → SameBound b b'
    → map ports_of (pair_of t i b) ≡ map ports_of (pair_of u i' b')
pairs-same t u top top' setting i i' inst same b b' ends =
    let at = resolve-same t u top top' setting i i' inst same in
    pairs-left t u i i' b b' (resolve t i b.left) (resolve u i' b'.left) refl refl
    (subst (λ e. Both SameNamed (resolve t i b.left) (resolve u i' e)) ends.left (at b.left))
    (subst (λ e. Both SameNamed (resolve t i b.right) (resolve u i' e)) ends.right (at b.right))

bindings_in-expanded : (i : Instance) → is_expanded i ≡ true → bindings_in i ≡ bindings i.component i.env
bindings_in-expanded i is = rw is refl

bindings_in-closed : (i : Instance) → is_expanded i ≡ false → bindings_in i ≡ []
bindings_in-closed i is = rw is refl

pub bindings_in-like : (i j : Instance) → SameInstance i j → (b : Binding) → Contains (bindings_in i) b → (b' : Binding) × Contains (bindings_in j) b' × SameBound b b'
bindings_in-like i j same b there = by (is_expanded i) refl
  where
    by : (is_open : Bool) → is_expanded i ≡ is_open → (b' : Binding) × Contains (bindings_in j) b' × SameBound b b'
    by true is =
        let here = subst (λ bs. Contains bs b) (bindings_in-expanded i is ∙ ap (bindings i.component) same.env) there in
        let w = bindings-like i.component j.component same.component j.env b here in
        (w.0, subst (λ bs. Contains bs w.0) (sym (bindings_in-expanded j (sym (is_expanded-same i j same) ∙ is))) w.1, w.2)
    by false is = absurd (Contains-nil b (subst (λ bs. Contains bs b) (bindings_in-closed i is) there))

-- a pair of a binding binds what a pair of the same binding binds
abbrev pub LikePair : Tree → Instance → Binding → Pair → Type 0
LikePair u i b p = (q : Pair) × Contains (pair_of u i b) q × (ports_of p ≡ ports_of q)

pub pair-like : (t u : Tree) (i i' : Instance) (b b' : Binding) → map ports_of (pair_of t i b) ≡ map ports_of (pair_of u i' b') → (p : Pair) → Contains (pair_of t i b) p → LikePair u i' b' p
pair-like t u i i' b b' is p there =
    Contains-from_map ports_of (pair_of u i' b') (ports_of p) (subst (λ xs. Contains xs (ports_of p)) is (Contains-map ports_of (pair_of t i b) p there))

bound_by : (u : Tree) (top : Instance) (i : Instance) (b : Binding) (p q : Pair) → Inst u top i → Contains (bindings_in i) b → Contains (pair_of u i b) q → ports_of p ≡ ports_of q → Bound u top p.source p.target
bound_by u top i b p q inst is_binding there is =
    let joined = bound i q inst (Contains-flat_map (pair_of u i) (bindings_in i) b q is_binding there) in
    subst (λ x. Bound u top x p.target) (sym (ap (λ (w : Port × Port). w.0) is)) (subst (λ y. Bound u top q.source y) (sym (ap (λ (w : Port × Port). w.1) is)) joined)

pub bound-like : (t u : Tree) (top top' : Instance) → Setting t u top top' → (x y : Port) → Bound t top x y → Bound u top' x y
bound-like t u top top' setting _ _ (bound i p inst there) =
    let from = Contains-from_flat_map (pair_of t i) (bindings_in i) p there in
    let j = inst-like t u top top' setting.trees setting.tops i inst in
    let b' = bindings_in-like i j.0 j.2 from.0 from.1 in
    let q = pair-like t u i j.0 from.0 b'.0 (pairs-same t u top top' setting i j.0 inst j.2 from.0 b'.0 b'.2) p from.2 in
    bound_by u top' j.0 b'.0 p q.0 j.1 b'.1 q.1 q.2

pub bound-back : (t u : Tree) (top top' : Instance) → Setting t u top top' → (x y : Port) → Bound u top' x y → Bound t top x y
bound-back t u top top' setting _ _ (bound j p inst there) =
    let from = Contains-from_flat_map (pair_of u j) (bindings_in j) p there in
    let i = inst-like u t top' top (alike_trees-sym t u setting.trees) (same_instance-sym top top' setting.tops) j inst in
    let same = same_instance-sym j i.0 i.2 in
    let b = bindings_in-like j i.0 i.2 from.0 from.1 in
    let ends : SameBound b.0 from.0 = record { left = sym b.2.left; right = sym b.2.right } in
    let q = pair-like u t j i.0 from.0 b.0 (sym (pairs-same t u top top' setting i.0 j i.1 same b.0 from.0 ends)) p from.2 in
    bound_by t top i.0 b.0 p q.0 i.1 b.1 q.1 q.2

pub leads-by : (t u : Tree) (top top' : Instance) → ((x y : Port) → Bound t top x y → Bound u top' x y) → (x y : Port) → BoundThrough t top x y → BoundThrough u top' x y
leads-by t u top top' turn _ _ (at_once x y joined) = at_once x y (turn x y joined)
leads-by t u top top' turn _ _ (through x y z joined more_) = through x y z (turn x y joined) (leads-by t u top top' turn y z more_)

-- ---- the graph

-- what is needed to take the nodes and links of one description over to another
record Turns (t u : Tree) (top top' : Instance) : Type 0 where
  inst : (i : Instance) → Inst t top i → (j : Instance) × Inst u top' j × SameInstance i j
  leads : (x y : Port) → BoundThrough t top x y → BoundThrough u top' x y

abbrev node-like : (t u : Tree) (top top' : Instance) → Turns t u top top' → (n : Node) → IsNode t top n → IsNode u top' n
node-like t u top top' turns n is =
    let w = turns.inst is.instance is.is_instance in
    record { instance = w.0; is_instance = w.1; is_node = sym (node_of-same is.instance w.0 w.2) ∙ is.is_node }

port_at-same : (i j : Instance) (side : Side) (name : Name) → SameInstance i j → port_at i side name ≡ port_at j side name
port_at-same i j side name same = rw (same.path, same.depth) refl

linked-like :
    (t u : Tree) (top top' : Instance) → Turns t u top top' → (a : Node) (r : ℕ) (b : Node) (p : ℕ) → Linked t top a r b p → Linked u top' a r b p
linked-like t u top top' turns a r b p is =
    let from = turns.inst is.from.instance is.from.is_instance in
    let to = turns.inst is.to.instance is.to.is_instance in
    record {
      from = node-like t u top top' turns a is.from;
      to = node-like t u top top' turns b is.to;
      required = is.required;
      provided = is.provided;
      requires_it = is.requires_it;
      provides_it = is.provides_it;
      leads =
          subst (λ x. BoundThrough u top' x (port_at to.0 Provide is.provided.name)) (port_at-same is.from.instance from.0 Require is.required from.2)
          (subst (λ y. BoundThrough u top' (port_at is.from.instance Require is.required) y) (port_at-same is.to.instance to.0 Provide is.provided.name to.2) (turns.leads _ _ is.leads));
    }

link-like :
    (t u : Tree) (top top' : Instance) → Turns t u top top' → (nodes : List Node) (i r j x : ℕ) → AreLinkedAt (Linked t top) nodes i r j x
    → AreLinkedAt (Linked u top') nodes i r j x
link-like t u top top' turns nodes i r j x is = record {
  from = is.from;
  to = is.to;
  from_there = is.from_there;
  to_there = is.to_there;
  linked = linked-like t u top top' turns is.from r is.to x is.linked;
}

elab-by : (t u : Tree) (top top' : Instance) → Turns t u top top' → Turns u t top' top → (g : Graph) → IsElab t top g → IsElab u top' g
elab-by t u top top' onward back g is = record {
  paths_rise = is.paths_rise;
  nodes_are = λ n. ((λ there. node-like t u top top' onward n ((is.nodes_are n).0 there)), (λ made. (is.nodes_are n).1 (node-like u t top' top back n made)));
  links_are = λ i r j x. (
    (λ there. link-like t u top top' onward g.nodes i r j x ((is.links_are i r j x).0 there)),
    (λ joined. (is.links_are i r j x).1 (link-like u t top' top back g.nodes i r j x joined)),
  );
  in_order = is.in_order;
}

onward : (t u : Tree) (top top' : Instance) → Setting t u top top' → Turns t u top top'
onward t u top top' setting = record { inst = inst-like t u top top' setting.trees setting.tops; leads = leads-by t u top top' (bound-like t u top top' setting) }

back : (t u : Tree) (top top' : Instance) → Setting t u top top' → Turns u t top' top
back t u top top' setting = record {
  inst = inst-like u t top' top (alike_trees-sym t u setting.trees) (same_instance-sym top top' setting.tops);
  leads = leads-by u t top' top (bound-back t u top top' setting);
}

-- the graph of the one description is that of the other
pub elab-like : (t u : Tree) (top top' : Instance) → Setting t u top top' → (g : Graph) → IsElab t top g → IsElab u top' g
elab-like t u top top' setting = elab-by t u top top' (onward t u top top' setting) (back t u top top' setting)

pub elab-back : (t u : Tree) (top top' : Instance) → Setting t u top top' → (g : Graph) → IsElab u top' g → IsElab t top g
elab-back t u top top' setting = elab-by u t top' top (back t u top top' setting) (onward t u top top' setting)
