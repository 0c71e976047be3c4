-- The pairs that bindings give.
use Rattle.std.proofs.Common.{◌≡◌, ◌≢◌, ◌∙◌, ℕ, true, false, List, [], ◌∷◌, ◌++◌, Option, Some, None, refl, ap, sym, subst}
use Rattle.std.proofs.lemmas.Option.{same_Some}
use Rattle.darwin_lexer.specs.declared.token.At.{At}
use Rattle.darwin_parser.specs.declared.tree.Side.{Side}
use Rattle.darwin_parser.specs.Tree.{Name, Tree, Expr}
use Rattle.darwin_walk.specs.Instance.{End, Binding}
use Rattle.elaborator.specs.Instances.{Instance}
use Rattle.elaborator.specs.Bindings.{NamedPort, resolve, named_port, may_lead, Pair, pair_of}
use Rattle.elaborator.specs.Faults.{named_index_faults, port_index_faults, NotesDiffer}
use Rattle.elaborator.specs.Faults.NotesDiffer.{differ}
use Rattle.elaborator.specs.Numbering.{Expanded}
use Rattle.elaborator.specs.Ports.{IsPort, IsNamed, named_of, NotesDifferIn}
use Rattle.darwin_walk.specs.declared.fault.Fault.TheVariants as shown
use Rattle.std.specs.List.{Contains}
use Rattle.std.proofs.lemmas.List.Elements.{Contains-append_left, Contains-append_right}
use Rattle.elaborator.specs.PortIndex.{FaultOf, IsLawful}
use Rattle.elaborator.specs.PortIndex.FaultOf.{bad_binding, annotation}
use Rattle.elaborator.specs.declared.error.ElabError.{ElabError}
use Rattle.elaborator.specs.declared.error.ElabError.TheVariants as error
use Rattle.elaborator.specs.declared.ports.Named as code
use Rattle.elaborator.proofs.PortLemmas.{stands_numbered}
use Rattle.base.proofs.ContainsLaws.{Contains-here}

-- a port that an end names has its numbers
pub port_named_by : (e : Expanded) (n : ℕ) (x : code.Named) (i : Instance) → IsNamed e n x i → IsPort e x.id (named_port (named_of i x))
port_named_by e n x i is = record {
  instance = i;
  decl = (named_of i x).decl;
  numbered = stands_numbered e n x.is_inner x.id.instance i is.stands;
  declared = is.declared;
  first = is.first;
  is_port = refl;
}

-- the first end leads to the second
pub pair-forward :
    (tree : Tree) (i : Instance) (b : Binding) (x y : NamedPort) → resolve tree i b.left ≡ Some x → resolve tree i b.right ≡ Some y → may_lead x y ≡ true
    → pair_of tree i b ≡ record { end = b.left; source = named_port x; target = named_port y } ∷ []
pair-forward tree i b x y left right leads = rw (left, right, leads) refl

-- the second end leads to the first
pub pair-backward :
    (tree : Tree) (i : Instance) (b : Binding) (x y : NamedPort) → resolve tree i b.left ≡ Some x → resolve tree i b.right ≡ Some y → may_lead x y ≡ false
    → may_lead y x ≡ true → pair_of tree i b ≡ record { end = b.right; source = named_port y; target = named_port x } ∷ []
pair-backward tree i b x y left right not_forward leads = rw (left, right, not_forward, leads) refl

-- neither leads to the other
pub pair-of_no_form :
    (tree : Tree) (i : Instance) (b : Binding) (x y : NamedPort) → resolve tree i b.left ≡ Some x → resolve tree i b.right ≡ Some y → may_lead x y ≡ false
    → may_lead y x ≡ false → pair_of tree i b ≡ []
pair-of_no_form tree i b x y left right not_forward not_backward = rw (left, right, not_forward, not_backward) refl

pub pair-no_left : (tree : Tree) (i : Instance) (b : Binding) → resolve tree i b.left ≡ None → pair_of tree i b ≡ []
pair-no_left tree i b left = rw left refl

pub pair-no_right : (tree : Tree) (i : Instance) (b : Binding) (x : NamedPort) → resolve tree i b.left ≡ Some x → resolve tree i b.right ≡ None → pair_of tree i b ≡ []
pair-no_right tree i b x left right = rw (left, right) refl

-- the faults of the index of a port that is named
pub port_faults-named : (tree : Tree) (i : Instance) (at : At) (e : End) (x : NamedPort) → resolve tree i e ≡ Some x → port_index_faults tree i at e ≡ named_index_faults at x
port_faults-named tree i at e x is = rw is refl

-- notes that differ, taken apart
notes_of :
    (side : Side) (name : Name) (size : Option Expr) (note : Option (List Name)) (place : At) (side' : Side) (name' : Name) (size' : Option Expr)
    (note' : Option (List Name)) (place' : At)
    → NotesDifferIn (record { side = side; name = name; size = size; note = note; at = place }) (record { side = side'; name = name'; size = size'; note = note'; at = place' })
    → (a b : List Name) × (note ≡ Some a) × (note' ≡ Some b) × (a ≢ b)
notes_of side name size (Some a) place side' name' size' (Some b) place' h = (a, b, refl, refl, h)
notes_of side name size (Some a) place side' name' size' None place' h = absurd h
notes_of side name size None place side' name' size' note' place' h = absurd h

-- the notes of the ports of two ends differ where those of the declarations do
pub notes_differ : (x y : Option NamedPort) (m n : NamedPort) → x ≡ Some m → y ≡ Some n → NotesDifferIn m.decl n.decl → NotesDiffer x y
notes_differ x y m n is_m is_n h =
    let w = notes_of m.decl.side m.decl.name m.decl.size m.decl.note m.decl.at n.decl.side n.decl.name n.decl.size n.decl.note n.decl.at h in
    differ m n w.0 w.1 is_m is_n w.2 w.3 w.4

pub differ_in_notes : (x y : Option NamedPort) (m n : NamedPort) → x ≡ Some m → y ≡ Some n → NotesDiffer x y → NotesDifferIn m.decl n.decl
differ_in_notes x y m n is_m is_n (differ m' n' a b is_m' is_n' note note' other) =
    let first : m'.decl.note ≡ m.decl.note = ap (λ (z : NamedPort). z.decl.note) (same_Some m' m (sym is_m' ∙ is_m)) in
    let second : n'.decl.note ≡ n.decl.note = ap (λ (z : NamedPort). z.decl.note) (same_Some n' n (sym is_n' ∙ is_n)) in
    rw (sym first ∙ note, sym second ∙ note') other

-- ---- lawful bindings, and faults

pub fault_of_form : (tree : Tree) (i : Instance) (b : Binding) → pair_of tree i b ≡ [] → (f : ElabError) → f ≡ error.BadBinding i.path b.at → FaultOf tree i b f
fault_of_form tree i b none f is = subst (FaultOf tree i b) (sym is) (bad_binding none)

pub fault_of_left_index :
    (tree : Tree) (i : Instance) (b : Binding) (x : NamedPort) → resolve tree i b.left ≡ Some x → (f : ElabError)
    → (named_index_faults b.at x ≡ shown.BadIndex b.at ∷ []) × (f ≡ error.BadIndex i.path b.at) → FaultOf tree i b f
fault_of_left_index tree i b x left f is =
    let there = subst (λ fs. Contains fs (shown.BadIndex b.at)) (sym (port_faults-named tree i b.at b.left x left ∙ is.0)) (Contains-here (shown.BadIndex b.at) []) in
    subst (FaultOf tree i b) (sym is.1) (FaultOf.bad_index b.at (Contains-append_left _ (port_index_faults tree i b.at b.right) _ there))

pub fault_of_right_index :
    (tree : Tree) (i : Instance) (b : Binding) (x : NamedPort) → resolve tree i b.right ≡ Some x → (f : ElabError)
    → (named_index_faults b.at x ≡ shown.BadIndex b.at ∷ []) × (f ≡ error.BadIndex i.path b.at) → FaultOf tree i b f
fault_of_right_index tree i b x right f is =
    let there = subst (λ fs. Contains fs (shown.BadIndex b.at)) (sym (port_faults-named tree i b.at b.right x right ∙ is.0)) (Contains-here (shown.BadIndex b.at) []) in
    subst (FaultOf tree i b) (sym is.1) (FaultOf.bad_index b.at (Contains-append_right (port_index_faults tree i b.at b.left) _ _ there))

pub fault_of_notes :
    (tree : Tree) (i : Instance) (b : Binding) (x y : NamedPort) → resolve tree i b.left ≡ Some x → resolve tree i b.right ≡ Some y → (f : ElabError)
    → NotesDifferIn x.decl y.decl × (f ≡ error.Annotation i.path b.at) → FaultOf tree i b f
fault_of_notes tree i b x y left right f is = subst (FaultOf tree i b) (sym is.1) (annotation (notes_differ _ _ x y left right is.0))

pub lawful :
    (tree : Tree) (i : Instance) (b : Binding) (x y : NamedPort) (p : Pair) → resolve tree i b.left ≡ Some x → resolve tree i b.right ≡ Some y
    → pair_of tree i b ≡ p ∷ [] → named_index_faults b.at x ≡ [] → named_index_faults b.at y ≡ [] → ¬ NotesDifferIn x.decl y.decl → IsLawful tree i b p
lawful tree i b x y p left right is first second notes = record {
  is_pair = is;
  indexes = ap (λ fs. fs ++ port_index_faults tree i b.at b.right) (port_faults-named tree i b.at b.left x left ∙ first) ∙ port_faults-named tree i b.at b.right y right ∙ second;
  notes = λ differ. notes (differ_in_notes _ _ x y left right differ);
}
