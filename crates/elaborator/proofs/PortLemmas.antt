-- The ports that ends of bindings name.
use Rattle.std.proofs.Common.{◌≡◌, ◌∙◌, ℕ, ℤ, zero, suc, ◌<◌, Bool, true, false, not, List, [], ◌∷◌, Option, Some, None, Bor, length, map, position, refl, ap, sym, subst, IsTrue, ◌↔◌, arith}
use Rattle.std.specs.List.{slice_get}
use Rattle.std.specs.Option.{is_some, option_map, option_flatten}
use Rattle.std.specs.Str.{bytes_eq}
use Rattle.std.proofs.lemmas.Bool.{false_from_ne_true, false≢true}
use Rattle.std.proofs.lemmas.Slice.Eq.{bytes_eq-Decides, slice_eq-Decides}
use Rattle.std.proofs.lemmas.Option.{slice_get-map, slice_get_within, same_Some, none-some, get_or_from_slice_get}
use Rattle.std.proofs.lemmas.List.Quantifiers.{position-Some}
use lib.Pointwise.{pointwise}
use Rattle.darwin_parser.specs.Tree.{Name, Tree, Expr, PortDecl, port_of}
use Rattle.darwin_parser.specs.declared.tree.PortDecl as code_port
use Rattle.darwin_lexer.specs.declared.token.At.{At}
use Rattle.darwin_walk.specs.Value.{Value, integer, out_of_range, zero_divisor, value}
use Rattle.darwin_walk.specs.Instance.{End, index_fault, index_value}
use Rattle.darwin_walk.specs.Walked.{segment_of, walked_end}
use Rattle.darwin_walk.specs.declared.walked.End as code_end
use Rattle.elaborator.specs.Instances.{Instance}
use Rattle.elaborator.specs.Bindings.{NamedPort, instance_at, resolve}
use Rattle.elaborator.specs.Numbering.{Expanded, NumberedInstance, Numbered}
use Rattle.elaborator.specs.Expansion.{expanded_of, made_of, instance_in, AreSizes}
use Rattle.elaborator.specs.Faults.{named_index_faults, sized_index_faults}
use Rattle.elaborator.specs.Ports.{place_of, Stands, ResolvesTo, sized_fault, NotesDifferIn}
use Rattle.elaborator.specs.declared.instance.Instance as code_instance
use Rattle.elaborator.specs.declared.instance.Expansion.{Expansion}
use Rattle.base.proofs.FindLaws.{find-at_position, find-no_position}
use Rattle.base.proofs.MapLaws.{position-map}
use Rattle.base.proofs.OptionLaws.{is_some-map}

-- the instance of a number that is within
pub instance_numbered : (e : Expanded) (n : ℕ) → n < length e.made → (i : Instance) × Numbered e n i
instance_numbered e n within = let w = at e.made n within in (w.0, record { maker = w.1; is_at = w.2 })
  where
    at : (xs : List NumberedInstance) (n : ℕ) → n < length xs → (i : Instance) × (maker : Option ℕ) × (slice_get xs n ≡ Some (record { instance = i; maker = maker }))
    at [] n within = absurd (omega arith)
    at (x ∷ xs) zero within = (x.instance, x.maker, refl)
    at (x ∷ xs) (suc n) within = at xs n (omega arith)

-- an end of a name that no port has names nothing
pub resolve-no_port : (tree : Tree) (i j : Instance) (e : End) → instance_at tree i e.inner ≡ Some j → place_of e.port j.component.ports ≡ None → resolve tree i e ≡ None
resolve-no_port tree i j e at no_place = rw (at, find-no_position (λ p. bytes_eq e.port p.name) j.component.ports no_place) refl

-- what an end names
pub named-port :
    (tree : Tree) (i j : Instance) (e : End) (k : ℕ) (d : PortDecl) → instance_at tree i e.inner ≡ Some j → place_of e.port j.component.ports ≡ Some k
    → slice_get j.component.ports k ≡ Some d → resolve tree i e ≡ Some (record { is_inner = is_some e.inner; instance = j; decl = d; index = e.index })
named-port tree i j e k d at place stands =
    rw (at, find-at_position (λ p. bytes_eq e.port p.name) j.component.ports k place ∙ stands) refl

-- notes that stand at both ports differ where the code says so
pub differ_tells :
    (x y : PortDecl) (note others : List Name) (r : Bool) → x.note ≡ Some note → y.note ≡ Some others → r ≡ not (pointwise bytes_eq note others)
    → IsTrue r ↔ NotesDifferIn x y
differ_tells x y note others r is_x is_y told =
    let decides = slice_eq-Decides bytes_eq-Decides note others (pointwise bytes_eq note others) refl in
    rw (is_x, is_y) (λ t same. false≢true (sym (ap not (decides.1 same)) ∙ sym told ∙ t), λ differ. told ∙ ap not (false_from_ne_true (pointwise bytes_eq note others) (λ t. differ (decides.0 t))))

pub stands_numbered : (e : Expanded) (n : ℕ) (inner : Bool) (m : ℕ) (i : Instance) → Stands e n inner m i → Numbered e m i
stands_numbered e n true m i at = record { maker = Some n; is_at = at }
stands_numbered e n false m i at = at.1

pub numbered_within : (e : Expanded) (n : ℕ) (i : Instance) → Numbered e n i → n < length e.made
numbered_within e n i at = slice_get_within e.made n _ at.is_at

-- the instance of a number is that of the code
pub same_instance :
    (e : Expansion) (n : ℕ) (x : code_instance.Instance) (i : Instance) → slice_get (expanded_of e).made n ≡ Some (made_of x) → Numbered (expanded_of e) n i
    → i ≡ instance_in x
same_instance e n x i is at = ap (λ (y : NumberedInstance). y.instance) (same_Some _ _ (sym at.is_at ∙ is))

-- the place of a name that the code found
pub place_found :
    (name bytes : Name) (xs ys : List code_port.PortDecl) (r : Option ℕ) → r ≡ position (λ p. bytes_eq bytes p.name) ys → bytes ≡ name → ys ≡ xs
    → place_of name (map port_of xs) ≡ r
place_found name bytes xs ys r is same_name same_list =
    position-map (λ p. bytes_eq name p.name) port_of xs ∙ subst (λ b. position (λ p. bytes_eq b p.name) xs ≡ r) same_name (subst (λ zs. position (λ p. bytes_eq bytes p.name) zs ≡ r) same_list (sym is))

-- what the code found is what the end names
pub named_found :
    (e : Expansion) (n m k : ℕ) (i j : Instance) (x : code_instance.Instance) (end : code_end.End) (d : Bor code_port.PortDecl) (inner : Bool)
    → instance_at (expanded_of e).tree i (walked_end end).inner ≡ Some j → Stands (expanded_of e) n (is_some (walked_end end).inner) m j
    → slice_get (expanded_of e).made m ≡ Some (made_of x) → place_of end.port.now (instance_in x).component.ports ≡ Some k
    → slice_get x.component.now.ports.items k ≡ Some d.now → inner ≡ is_some end.inner
    → ResolvesTo (expanded_of e) n (resolve (expanded_of e).tree i (walked_end end)) (Some (record { is_inner = inner; id = record { instance = m; port = k; index = end.index }; decl = d }))
named_found e n m k i j x end d inner at stands is place stands_at is_inner =
    let ports = (instance_in x).component.ports in
    let same = same_instance e m x j is (stands_numbered (expanded_of e) n (is_some (walked_end end).inner) m j stands) in
    let declared : slice_get ports k ≡ Some (port_of d.now) = slice_get-map port_of x.component.now.ports.items k ∙ ap (option_map port_of) stands_at in
    let found = named-port (expanded_of e).tree i (instance_in x) (walked_end end) k (port_of d.now) (at ∙ ap Some same) place declared in
    let its = is_some-map segment_of end.inner ∙ sym is_inner in
    let passes = (position-Some (λ p. bytes_eq end.port.now p.name) ports k (port_of d.now) place).1 in
    let name : end.port.now ≡ d.now.name = (bytes_eq-Decides _ _).0 (ap (λ (p : PortDecl). bytes_eq end.port.now p.name) (sym (get_or_from_slice_get ports k (port_of d.now) (port_of d.now) declared)) ∙ passes) in (
      instance_in x,
      found ∙ ap (λ b. Some (record { is_inner = b; instance = instance_in x; decl = port_of d.now; index = end.index })) its,
      record {
        stands = subst (λ b. Stands (expanded_of e) n b m (instance_in x)) its (subst (Stands (expanded_of e) n (is_some (walked_end end).inner) m) same stands);
        declared = declared;
        first = subst (λ b. place_of b ports ≡ Some k) name place;
      },
    )

-- the fault of an index, by the size that is kept of the port
pub bad-sized :
    (i : Instance) (sizes : List (Option ℤ)) (n : NamedPort) (port : ℕ) (size : Option ℤ) → AreSizes i sizes → n.instance ≡ i → slice_get n.instance.component.ports port ≡ Some n.decl
    → size ≡ option_flatten (slice_get sizes port) → (at : At) → named_index_faults at n ≡ sized_fault at size n.index
bad-sized i sizes n port size all same declared kept at =
    by n.decl.size size n.index
    (subst (λ (j : Instance). index_value n.decl.size j.env ≡ Some (option_flatten (slice_get sizes port))) (sym same)
    (all port n.decl (ap (λ (j : Instance). slice_get j.component.ports port) (sym same) ∙ declared)) ∙ ap Some (sym kept))
  where
    some_integer : Value → Option (Option ℤ)
    some_integer (integer w) = Some (Some w)
    some_integer _ = None

    from : (v : Value) (z : ℤ) → some_integer v ≡ Some (Some z) → v ≡ integer z
    from (integer w) z e = ap integer (same_Some w z (same_Some (Some w) (Some z) e))
    from out_of_range z e = absurd (none-some (Some z) e)
    from zero_divisor z e = absurd (none-some (Some z) e)

    nowhere : (v : Value) → some_integer v ≡ Some None → ⊥
    nowhere (integer w) e = none-some w (sym (same_Some (Some w) None e))
    nowhere out_of_range e = none-some None e
    nowhere zero_divisor e = none-some None e

    by : (s : Option Expr) (size index : Option ℤ) → index_value s n.instance.env ≡ Some size → sized_index_faults at n.instance.env s index ≡ sized_fault at size index
    by None None index e = refl
    by None (Some z) index e = absurd (none-some z (same_Some None (Some z) e))
    by (Some s) None index e = absurd (nowhere (value s n.instance.env) e)
    by (Some s) (Some z) None e = refl
    by (Some s) (Some z) (Some index) e = ap (λ v. index_fault at v (integer index)) (from (value s n.instance.env) z e)
