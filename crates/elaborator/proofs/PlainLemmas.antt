-- The ports of a primitive component of a description without faults have no sizes.
use Rattle.std.proofs.Common.{◌≡◌, ℕ, Bool, true, false, ◌&&◌, [], Option, Some, None, refl, ap}
use Rattle.std.specs.List.{Contains, slice_get}
use Rattle.std.specs.Option.{is_none}
use Rattle.std.proofs.lemmas.Bool.{false≢true}
use Rattle.std.specs.Cmp.{first_so, second_so}
use Rattle.config_graph.specs.declared.kind.Kind.{Kind}
use Rattle.config_graph.specs.Kinds.{kind_named}
use Rattle.darwin_parser.specs.declared.tree.Side.TheVariants.{Provide, Require}
use Rattle.darwin_parser.specs.Tree.{Name, Tree, Component, Expr, PortDecl}
use Rattle.darwin_types.specs.Faults.{NoFault, HasFault as types}
use Rattle.darwin_types.specs.Faults.FaultIn.{unknown_kind, kind_ports}
use Rattle.darwin_types.specs.Primitive.{ports_of_kind, is_port_of, has_only_ports_of, has_ports_on, has_ports_of, is_bare, is_like_kind}
use Rattle.darwin_types.specs.Scope.{component_named, is_primitive, has}
use Rattle.darwin_walk.specs.Instance.{index_value}
use Rattle.base.proofs.FindLaws.{Contains-find}
use Rattle.base.proofs.ListLaws.{list_all-at}
use Rattle.elaborator.specs.Instances.{Instance}
use Rattle.elaborator.specs.Expansion.{AreSizes}

is_none-None : (o : Option Expr) → is_none o ≡ true → o ≡ None
is_none-None None is = refl
is_none-None (Some e) is = absurd (false≢true is)

plain_port : (tree : Tree) → NoFault tree → (c : Component) → Contains tree c → is_primitive c ≡ true → (k : ℕ) (d : PortDecl) → slice_get c.ports k ≡ Some d → d.size ≡ None
plain_port tree no_fault c declared primitive k d at = by_kind (kind_named c.name) refl
  where
    by_test : (kind : Kind) (b : Bool) → kind_named c.name ≡ Some kind → is_like_kind kind c ≡ b → d.size ≡ None
    by_test kind false named unlike = absurd (no_fault _ (types.within c _ declared (kind_ports kind primitive named unlike)))
    by_test kind true named like =
        let ports = second_so (is_bare kind c) (has_ports_of kind c) like in
        let only =
        first_so (has_only_ports_of kind c) (has_ports_on Provide kind c)
        (first_so (has_only_ports_of kind c && has_ports_on Provide kind c) (has_ports_on Require kind c) ports) in
        is_none-None d.size (first_so (is_none d.size) (has (ports_of_kind kind d.side) d.name) (list_all-at (is_port_of kind) c.ports k d only at))

    by_kind : (o : Option Kind) → kind_named c.name ≡ o → d.size ≡ None
    by_kind None named = absurd (no_fault _ (types.within c _ declared (unknown_kind primitive named)))
    by_kind (Some kind) named = by_test kind (is_like_kind kind c) named refl

-- so none is kept
pub plain-sizes :
    (tree : Tree) (i : Instance) (name : Name) → NoFault tree → component_named tree name ≡ Some i.component → is_primitive i.component ≡ true → AreSizes i []
plain-sizes tree i name no_fault named primitive k d at =
    ap (λ size. index_value size i.env)
    (plain_port tree no_fault i.component (Contains-find _ tree i.component named) primitive k d at)
