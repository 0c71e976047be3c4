-- The ports that ends of bindings name, by numbers and by what they stand for.
use Rattle.std.specs.Prelude.{◌≡◌, ◌≢◌, ℕ, Bool, true, false, ℤ, List, [], Option, Some, None, MatchOption, is_some, slice_get, position, bytes_eq}
use Rattle.darwin_lexer.specs.declared.token.At.{At}
use Rattle.darwin_parser.specs.Tree.{Name, PortDecl, port_of}
use Rattle.darwin_walk.specs.Value.{integer}
use Rattle.darwin_walk.specs.Instance.{Segment, index_fault}
use Rattle.darwin_walk.specs.declared.fault.Fault.{Fault}
use Rattle.elaborator.specs.Instances.{Instance}
use Rattle.elaborator.specs.Bindings.{NamedPort, Port, instance_at}
use Rattle.elaborator.specs.Numbering.{Expanded, Numbered, NumberedIn}
use Rattle.elaborator.specs.declared.chains.PortId.{PortId}
use Rattle.elaborator.specs.declared.ports.Named as code

-- the place of the port of a name
abbrev pub place_of : Name → List PortDecl → Option ℕ
place_of name ports = position (λ p. bytes_eq name p.name) ports

-- a port with its numbers
pub record IsPort (e : Expanded) (id : PortId) (x : Port) : Type 0 where
  pub instance : Instance
  pub decl : PortDecl
  pub numbered : Numbered e id.instance instance
  pub declared : slice_get instance.component.ports id.port ≡ Some decl
  pub first : place_of decl.name instance.component.ports ≡ Some id.port
  pub is_port : x ≡ record { path = instance.path; depth = instance.depth; side = decl.side; name = decl.name; index = id.index }

-- an instance that stands in another, or is it
abbrev pub Stands : Expanded → ℕ → Bool → ℕ → Instance → Type 0
Stands e n true m i = NumberedIn e n m i
Stands e n false m i = (m ≡ n) × Numbered e m i

-- the answer to where the port of an end stands
abbrev pub Standing : Expanded → ℕ → Instance → Option Segment → Option ℕ → Type 0
Standing e n i inner r = MatchOption r (instance_at e.tree i inner ≡ None) (λ m. (j : Instance)
    × (instance_at e.tree i inner ≡ Some j) × Stands e n (is_some inner) m j)

-- what the code's answer names, where the port is one of this instance
abbrev pub named_of : Instance → code.Named → NamedPort
named_of i x = record { is_inner = x.is_inner; instance = i; decl = port_of x.decl.now; index = x.id.index }

pub record IsNamed (e : Expanded) (n : ℕ) (x : code.Named) (i : Instance) : Type 0 where
  pub stands : Stands e n x.is_inner x.id.instance i
  pub declared : slice_get i.component.ports x.id.port ≡ Some (port_of x.decl.now)
  pub first : place_of x.decl.now.name i.component.ports ≡ Some x.id.port

-- the answer to what an end names
abbrev pub ResolvesTo : Expanded → ℕ → Option NamedPort → Option code.Named → Type 0
ResolvesTo e n named r = MatchOption r (named ≡ None) (λ x. (i : Instance) × (named ≡ Some (named_of i x)) × IsNamed e n x i)

-- the fault of an index of a port of this size, where both have a value
abbrev pub sized_fault : At → Option ℤ → Option ℤ → List Fault
sized_fault at (Some size) (Some index) = index_fault at (integer size) (integer index)
sized_fault at _ _ = []

-- both declarations have a note, and the notes differ
abbrev pub NotesDifferIn : PortDecl → PortDecl → Type 0
NotesDifferIn x y = differ x.note y.note
  where
    differ : Option (List Name) → Option (List Name) → Type 0
    differ (Some note) (Some note') = note ≢ note'
    differ _ _ = ⊥
