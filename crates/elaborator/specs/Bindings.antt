-- To be believed (definitions.md).
-- The bindings of an elaboration as pairs of ends, the source first, and where lists of them lead. An inner requirement
-- may be bound to an inner provision or to an outer requirement, and an outer provision to an inner provision. So a
-- list of bindings leads outward through requirements, once across, and inward through provisions.
use Rattle.std.specs.Prelude.{ℕ, Bool, true, false, ◌&&◌, ℤ, List, [], ◌∷◌, Option, Some, None, option_map, option_and_then, is_some, if◌then◌else◌, Contains, find, bytes_eq}
use Rattle.std.specs.List.{flat_map}
use Rattle.binding_forms.specs.Forms.{is_form}
use Rattle.darwin_parser.specs.declared.tree.Side.{Side}
use Rattle.darwin_parser.specs.Tree.{Name, Tree, Expr, PortDecl}
use Rattle.darwin_types.specs.Scope.{port_named}
use Rattle.darwin_walk.specs.Instance.{Segment, End, Binding, bindings}
use Rattle.elaborator.specs.Paths.{Path, within}
use Rattle.elaborator.specs.Instances.{Instance, made_in, is_expanded, Inst}

-- a port of an instance; the depth is that of the instance
pub record Port : Type 0 where
  pub path : Path
  pub depth : ℕ
  pub side : Side
  pub name : Name
  pub index : Option ℤ

-- the instance in which the port of an end stands: one right within, where it is made, or the instance itself
abbrev pub instance_at : Tree → Instance → Option Segment → Option Instance
instance_at tree i None = Some i
instance_at tree i (Some segment) = find (λ j. bytes_eq (within i.path segment) j.path) (made_in tree i)

-- what an end names: the instance, and the declaration of the port there
pub record NamedPort : Type 0 where
  pub is_inner : Bool
  pub instance : Instance
  pub decl : PortDecl
  pub index : Option ℤ

abbrev pub resolve : Tree → Instance → End → Option NamedPort
resolve tree i e = option_and_then named_in (instance_at tree i e.inner)
  where
    named_in : Instance → Option NamedPort
    named_in j =
        option_map
        (λ decl. record { is_inner = is_some e.inner; instance = j; decl = decl; index = e.index })
        (port_named j.component e.port)

abbrev pub named_port : NamedPort → Port
named_port x =
    record { path = x.instance.path; depth = x.instance.depth; side = x.decl.side; name = x.decl.name; index = x.index }

-- an index stands exactly where the port has a size
abbrev pub is_indexed : NamedPort → Bool
is_indexed x = both x.decl.size x.index
  where
    both : Option Expr → Option ℤ → Bool
    both None None = true
    both (Some size) (Some index) = true
    both _ _ = false

abbrev pub may_lead : NamedPort → NamedPort → Bool
may_lead x y = is_indexed x && is_indexed y && is_form x.is_inner x.decl.side y.is_inner y.decl.side

-- a pair of ends that are bound in an instance, the source first, with the source as it was written
pub record Pair : Type 0 where
  pub end : End
  pub source : Port
  pub target : Port

-- the pair that a binding gives; a bad one gives none. The ends may stand in either order.
abbrev pub pair_of : Tree → Instance → Binding → List Pair
pair_of tree i b = pair (resolve tree i b.left) (resolve tree i b.right)
  where
    pair : Option NamedPort → Option NamedPort → List Pair
    pair (Some x) (Some y) =
        if may_lead x y
        then record { end = b.left; source = named_port x; target = named_port y } ∷ []
        else (if may_lead y x then record { end = b.right; source = named_port y; target = named_port x } ∷ [] else [])
    pair _ _ = []

-- the bindings that are reached in an instance
abbrev pub bindings_in : Instance → List Binding
bindings_in i = if is_expanded i then bindings i.component i.env else []

abbrev pub pairs_in : Tree → Instance → List Pair
pairs_in tree i = flat_map (pair_of tree i) (bindings_in i)

-- two ports that a reached binding binds, the source first
pub data Bound (tree : Tree) (top : Instance) : Port → Port → Type 0 where
  bound : (i : Instance) (p : Pair) → Inst tree top i → Contains (pairs_in tree i) p → Bound tree top p.source p.target

-- a list of one or more bindings leads from the first port to the second
pub data BoundThrough (tree : Tree) (top : Instance) : Port → Port → Type 0 where
  at_once : (x y : Port) → Bound tree top x y → BoundThrough tree top x y
  through : (x y z : Port) → Bound tree top x y → BoundThrough tree top y z → BoundThrough tree top x z
