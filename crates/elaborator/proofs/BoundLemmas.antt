-- What the pairs of an instance bind: in which instance a source is bound, and that ranks fall along pairs.
use Rattle.std.proofs.Common.{◌≡◌, ◌∙◌, ℕ, Bool, true, false, ◌&&◌, Option, Some, None, refl, ap, sym, subst}
use Rattle.std.specs.List.{Contains}
use Rattle.std.specs.Option.{is_some}
use Rattle.std.specs.Str.{bytes_eq}
use Rattle.std.proofs.lemmas.Bool.{false≢true}
use Rattle.std.proofs.lemmas.Option.{same_Some}
use Rattle.darwin_parser.specs.declared.tree.Side.{Side}
use Rattle.darwin_parser.specs.declared.tree.Side.TheVariants.{Provide, Require}
use Rattle.darwin_parser.specs.Tree.{Tree}
use Rattle.darwin_types.specs.Scope.{port_named}
use Rattle.darwin_walk.specs.Instance.{Segment, End, Binding}
use Rattle.elaborator.specs.Paths.{within}
use Rattle.elaborator.specs.Instances.{Instance, made_in}
use Rattle.binding_forms.specs.Forms.{is_form}
use Rattle.elaborator.specs.Bindings.{Port, NamedPort, Pair, instance_at, resolve, named_port, is_indexed, may_lead, pair_of, bindings_in, pairs_in}
use Rattle.elaborator.specs.Numbering.{Expanded, NumberedInstance, Numbered, NumberedIn, IsExpanded}
use Rattle.elaborator.proofs.PairLaws.{pair-forward, pair-backward, pair-of_no_form, pair-no_left, pair-no_right}
use Rattle.base.proofs.ContainsLaws.{Contains-from_flat_map, Contains-nil, Contains-one}
use Rattle.base.proofs.FindLaws.{find-some}
use Rattle.base.proofs.OptionLaws.{made_of_found}

-- ---- the parts of a pair

-- the ports of a pair are those that two ends name
pub record Parts (tree : Tree) (i : Instance) (p : Pair) : Type 0 where
  pub source_end : End
  pub target_end : End
  pub source : NamedPort
  pub target : NamedPort
  pub is_source : resolve tree i source_end ≡ Some source
  pub is_target : resolve tree i target_end ≡ Some target
  pub leads : may_lead source target ≡ true
  pub source_port : p.source ≡ named_port source
  pub target_port : p.target ≡ named_port target

pub parts : (tree : Tree) (i : Instance) (b : Binding) (p : Pair) → Contains (pair_of tree i b) p → Parts tree i p
parts tree i b p there = by_ends (resolve tree i b.left) (resolve tree i b.right) refl refl
  where
    forward : (x y : NamedPort) → resolve tree i b.left ≡ Some x → resolve tree i b.right ≡ Some y → may_lead x y ≡ true → Parts tree i p
    forward x y left right leads =
        let is = Contains-one _ p (subst (λ ps. Contains ps p) (pair-forward tree i b x y left right leads) there) in
        record {
          source_end = b.left;
          target_end = b.right;
          source = x;
          target = y;
          is_source = left;
          is_target = right;
          leads = leads;
          source_port = ap (λ (q : Pair). q.source) is;
          target_port = ap (λ (q : Pair). q.target) is;
        }

    backward : (x y : NamedPort) → resolve tree i b.left ≡ Some x → resolve tree i b.right ≡ Some y → may_lead x y ≡ false → may_lead y x ≡ true → Parts tree i p
    backward x y left right not_forward leads =
        let is = Contains-one _ p (subst (λ ps. Contains ps p) (pair-backward tree i b x y left right not_forward leads) there) in
        record {
          source_end = b.right;
          target_end = b.left;
          source = y;
          target = x;
          is_source = right;
          is_target = left;
          leads = leads;
          source_port = ap (λ (q : Pair). q.source) is;
          target_port = ap (λ (q : Pair). q.target) is;
        }

    by_forms : (x y : NamedPort) → resolve tree i b.left ≡ Some x → resolve tree i b.right ≡ Some y → (f g : Bool) → may_lead x y ≡ f → may_lead y x ≡ g → Parts tree i p
    by_forms x y left right true g is_f is_g = forward x y left right is_f
    by_forms x y left right false true is_f is_g = backward x y left right is_f is_g
    by_forms x y left right false false is_f is_g =
        absurd (Contains-nil p (subst (λ ps. Contains ps p) (pair-of_no_form tree i b x y left right is_f is_g) there))

    by_ends : (l r : Option NamedPort) → resolve tree i b.left ≡ l → resolve tree i b.right ≡ r → Parts tree i p
    by_ends None r left right = absurd (Contains-nil p (subst (λ ps. Contains ps p) (pair-no_left tree i b left) there))
    by_ends (Some x) None left right = absurd (Contains-nil p (subst (λ ps. Contains ps p) (pair-no_right tree i b x left right) there))
    by_ends (Some x) (Some y) left right = by_forms x y left right (may_lead x y) (may_lead y x) refl refl

-- ---- where a port stands

-- where an instance is that an end names one of: right within, or it is the instance itself
pub data Where (tree : Tree) (i : Instance) : Bool → Instance → Type 0 where
  inner : (j : Instance) → Contains (made_in tree i) j → Where tree i true j
  outer : Where tree i false i

where_at : (tree : Tree) (i : Instance) (s : Option Segment) (j : Instance) → instance_at tree i s ≡ Some j → Where tree i (is_some s) j
where_at tree i None j is = subst (Where tree i false) (same_Some i j is) outer
where_at tree i (Some s) j is = inner j (find-some (λ k. bytes_eq (within i.path s) k.path) (made_in tree i) j is).0

pub stands_where : (tree : Tree) (i : Instance) (e : End) (x : NamedPort) → resolve tree i e ≡ Some x → Where tree i x.is_inner x.instance
stands_where tree i e x is =
    let w = made_of_found (λ j decl. record { is_inner = is_some e.inner; instance = j; decl = decl; index = e.index }) (λ j. port_named j.component e.port) (instance_at tree i e.inner) x is in
    subst (λ (y : NamedPort). Where tree i y.is_inner y.instance) w.4 (where_at tree i e.inner w.0 w.2)

-- the forms of a pair
pub data Form : Bool → Side → Bool → Side → Type 0 where
  across : Form true Require true Provide
  outward : Form true Require false Require
  inward : Form false Provide true Provide

form_of : (a : Bool) (s : Side) (b : Bool) (t : Side) → is_form a s b t ≡ true → Form a s b t
form_of true Require true Provide is = across
form_of true Require true Require is = absurd (false≢true is)
form_of true Require false Provide is = absurd (false≢true is)
form_of true Require false Require is = outward
form_of true Provide b t is = absurd (false≢true is)
form_of false Require b t is = absurd (false≢true is)
form_of false Provide true Provide is = inward
form_of false Provide true Require is = absurd (false≢true is)
form_of false Provide false t is = absurd (false≢true is)

last_of_three : (a b c : Bool) → (a && b && c) ≡ true → c ≡ true
last_of_three true true c is = is
last_of_three true false c is = absurd (false≢true is)
last_of_three false b c is = absurd (false≢true is)

pub form : (x y : NamedPort) → may_lead x y ≡ true → Form x.is_inner x.decl.side y.is_inner y.decl.side
form x y leads = form_of x.is_inner x.decl.side y.is_inner y.decl.side (last_of_three (is_indexed x) (is_indexed y) _ leads)

-- ---- the instance in which a source is bound

-- the instance of this number is the one in which the port may be a source
pub data Owner (e : Expanded) (n : ℕ) (x : Port) : Type 0 where
  within_it : (m : ℕ) (j : Instance) → NumberedIn e n m j → x.side ≡ Require → x.path ≡ j.path → x.depth ≡ j.depth → Owner e n x
  its_own : (i : Instance) → Numbered e n i → x.side ≡ Provide → x.path ≡ i.path → x.depth ≡ i.depth → Owner e n x

one_owner : (e : Expanded) → IsExpanded e → (m n : ℕ) (x : Port) → Owner e m x → Owner e n x → m ≡ n
one_owner e expanded m n x (within_it k i at side path depth) (within_it l j at' side' path' depth') =
    let number = expanded.distinct k l i j (record { maker = Some m; is_at = at }) (record { maker = Some n; is_at = at' }) (sym path ∙ path') (sym depth ∙ depth') in
    same_Some m n (ap (λ (y : NumberedInstance). y.maker) (same_Some _ _ (sym (subst (λ a. NumberedIn e m a i) number at) ∙ at')))
one_owner e expanded m n x (within_it k i at side path depth) (its_own j at' side' path' depth') = absurd (both_sides (sym side ∙ side'))
  where
    both_sides : Require ≡ Provide → ⊥
    both_sides same = cc
one_owner e expanded m n x (its_own i at side path depth) (within_it l j at' side' path' depth') = absurd (both_sides (sym side' ∙ side))
  where
    both_sides : Require ≡ Provide → ⊥
    both_sides same = cc
one_owner e expanded m n x (its_own i at side path depth) (its_own j at' side' path' depth') =
    expanded.distinct m n i j at at' (sym path ∙ path') (sym depth ∙ depth')

owner_by_form :
    (e : Expanded) → IsExpanded e → (n : ℕ) (i : Instance) → Numbered e n i → (a b : Bool) (s t : Side) (j : Instance) (x : Port) → Form a s b t → Where e.tree i a j
    → x.side ≡ s → x.path ≡ j.path → x.depth ≡ j.depth → Owner e n x
owner_by_form e expanded n i at _ _ _ _ j x across (inner _ made) side path depth =
    let w = expanded.below_made n i j at made in within_it w.0 j w.1 side path depth
owner_by_form e expanded n i at _ _ _ _ j x outward (inner _ made) side path depth =
    let w = expanded.below_made n i j at made in within_it w.0 j w.1 side path depth
owner_by_form e expanded n i at _ _ _ _ _ x inward outer side path depth = its_own i at side path depth

pub owner : (e : Expanded) → IsExpanded e → (n : ℕ) (i : Instance) (p : Pair) → Numbered e n i → Contains (pairs_in e.tree i) p → Owner e n p.source
owner e expanded n i p at there =
    let from = Contains-from_flat_map (pair_of e.tree i) (bindings_in i) p there in
    let w = parts e.tree i from.0 p from.2 in
    owner_by_form e expanded n i at _ _ _ _ w.source.instance p.source (form w.source w.target w.leads) (stands_where e.tree i w.source_end w.source w.is_source) (ap (λ (x : Port). x.side) w.source_port) (ap (λ (x : Port). x.path) w.source_port) (ap (λ (x : Port). x.depth) w.source_port)

-- pairs of one source stand in one instance
pub one_instance :
    (e : Expanded) → IsExpanded e → (m n : ℕ) (i j : Instance) (p q : Pair) → Numbered e m i → Numbered e n j → Contains (pairs_in e.tree i) p
    → Contains (pairs_in e.tree j) q → p.source ≡ q.source → m ≡ n
one_instance e expanded m n i j p q at at' there there' same =
    one_owner e expanded m n q.source (subst (Owner e m) same (owner e expanded m i p at there)) (owner e expanded n j q at' there')
