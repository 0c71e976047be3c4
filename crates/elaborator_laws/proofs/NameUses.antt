-- The uses of names and the instances of components that are the same.
use Rattle.std.proofs.Common.{◌≡◌, ◌∙◌, List, [], ◌∷◌, ◌++◌, map, Option, refl, ap, subst}
use Rattle.std.specs.List.{Contains, flat_map}
use Rattle.std.specs.Option.{option_to_list}
use Rattle.darwin_parser.specs.Tree.{Name, Expr, PortDecl, ArrayDecl, PortRef, InstEntry, Stmt, Stmts, Component}
use Rattle.darwin_types.specs.Scope.{entries_of, single_of, singles_of, instances_of}
use Rattle.darwin_types.specs.NameUses.{NameUse, value, variable, entry, binding_end, values, args_of, end_uses, entry_uses, stmt_uses, body_uses, port_uses, array_uses, name_uses}
use Rattle.elaborator_laws.specs.Reordering.{Reordered, no_elements, kept, through, SamePort, SameArray, SameEntry, same_single, same_element, SameStmt, same_inst, same_bind, same_forall, same_when, SameStmts, no_stmts, kept_stmt, swapped_stmts, through_stmts, SameComponent}
use Rattle.elaborator_laws.proofs.Reorders.{reordered-is, reordered-append, swapped_likes, reordered-map, reordered-flat_map, like_in}
use Rattle.elaborator_laws.proofs.Statements.{entries-same}

-- the same use, but for entries, which may be any
pub data SameUse : NameUse → NameUse → Type 0 where
  is_value : (scope : List Name) (e : Expr) → SameUse (value scope e) (value scope e)
  is_variable : (scope : List Name) (x : Name) → SameUse (variable scope x) (variable scope x)
  is_entry : (e e' : InstEntry) → SameUse (entry e) (entry e')
  is_end : (e : PortRef) → SameUse (binding_end e) (binding_end e)

same_use-refl : (p : NameUse) → SameUse p p
same_use-refl (value scope e) = is_value scope e
same_use-refl (variable scope x) = is_variable scope x
same_use-refl (entry e) = is_entry e e
same_use-refl (binding_end e) = is_end e

entry_after : (d e : InstEntry) (p : NameUse) → SameUse (entry e) p → SameUse (entry d) p
entry_after d e _ (is_entry _ f) = is_entry d f

same_use-trans : (x y z : NameUse) → SameUse x y → SameUse y z → SameUse x z
same_use-trans _ _ z (is_value scope e) other = other
same_use-trans _ _ z (is_variable scope x) other = other
same_use-trans _ _ z (is_entry d e) other = entry_after d e z other
same_use-trans _ _ z (is_end e) other = other

abbrev SameUses : List NameUse → List NameUse → Type 0
SameUses ps others = Reordered SameUse ps others

equal : (ps others : List NameUse) → ps ≡ others → SameUses ps others
equal ps others is = reordered-is SameUse same_use-refl ps others is

entry_uses-same : (scope : List Name) (e e' : InstEntry) → SameEntry e e' → SameUses (entry_uses scope e) (entry_uses scope e')
entry_uses-same scope _ _ (same_single name component args at at') = kept _ _ _ _ (is_entry _ _) (equal _ _ refl)
entry_uses-same scope _ _ (same_element array index args at at') = kept _ _ _ _ (is_entry _ _) (equal _ _ refl)

mutual
  stmt_uses-same : (scope : List Name) (s s' : Stmt) → SameStmt s s' → SameUses (stmt_uses scope s) (stmt_uses scope s')
  stmt_uses-same scope _ _ (same_inst e e' same) = entry_uses-same scope e e' same
  stmt_uses-same scope _ _ (same_bind b b' same) =
      equal (end_uses scope b.left ++ end_uses scope b.right) (end_uses scope b'.left ++ end_uses scope b'.right)
      (ap (λ e. end_uses scope e ++ end_uses scope b.right) same.left ∙ ap (λ e. end_uses scope b'.left ++ end_uses scope e) same.right)
  stmt_uses-same scope _ _ (same_forall x low high body body' at at' same) =
      kept _ _ _ _ (is_value scope low) (kept _ _ _ _ (is_value scope high) (kept _ _ _ _ (is_variable scope x) (body_uses-same (scope ++ x ∷ []) body body' same)))
  stmt_uses-same scope _ _ (same_when test body body' at at' same) = kept _ _ _ _ (is_value scope test) (body_uses-same scope body body' same)

  body_uses-same : (scope : List Name) (a b : Stmts) → SameStmts a b → SameUses (body_uses scope a) (body_uses scope b)
  body_uses-same scope _ _ no_stmts = no_elements
  body_uses-same scope _ _ (kept_stmt s s' rest rest' same later) =
      reordered-append SameUse same_use-refl (stmt_uses scope s) (stmt_uses scope s') (body_uses scope rest) (body_uses scope rest')
      (stmt_uses-same scope s s' same) (body_uses-same scope rest rest' later)
  body_uses-same scope _ _ (swapped_stmts s t s' t' rest rest' same same' later) =
      swapped_likes SameUse same_use-refl (stmt_uses scope s) (stmt_uses scope t) (body_uses scope rest) (stmt_uses scope s') (stmt_uses scope t') (body_uses scope rest')
      (stmt_uses-same scope s s' same) (stmt_uses-same scope t t' same') (body_uses-same scope rest rest' later)
  body_uses-same scope _ _ (through_stmts a b c first then_) =
      through (body_uses scope a) (body_uses scope b) (body_uses scope c) (body_uses-same scope a b first) (body_uses-same scope b c then_)

port_uses-same : (params : List Name) (p q : PortDecl) → SamePort p q → SameUses (port_uses params p) (port_uses params q)
port_uses-same params p q same = equal _ _ (ap (λ (o : Option Expr). values params (option_to_list o)) same.size)

array_uses-same : (params : List Name) (a b : ArrayDecl) → SameArray a b → SameUses (array_uses params a) (array_uses params b)
array_uses-same params a b same =
    equal (array_uses params a) (array_uses params b)
    (ap (λ e. value params e ∷ values params (args_of a.args)) same.size ∙ ap (λ (o : Option (List Expr)). value params b.size ∷ values params (args_of o)) same.args)

uses-with : (params : List Name) (c d : Component) → SameComponent c d
    → SameUses (flat_map (port_uses params) c.ports ++ flat_map (array_uses params) c.arrays ++ body_uses params c.body)
    (flat_map (port_uses params) d.ports ++ flat_map (array_uses params) d.arrays ++ body_uses params d.body)
uses-with params c d same =
    reordered-append SameUse same_use-refl _ _ (body_uses params c.body) (body_uses params d.body)
    (reordered-append SameUse same_use-refl (flat_map (port_uses params) c.ports) (flat_map (port_uses params) d.ports) (flat_map (array_uses params) c.arrays) (flat_map (array_uses params) d.arrays)
    (reordered-flat_map SamePort SameUse same_use-refl (port_uses params) (port_uses params) (port_uses-same params) (port_uses-same params) c.ports d.ports same.ports)
    (reordered-flat_map SameArray SameUse same_use-refl (array_uses params) (array_uses params) (array_uses-same params) (array_uses-same params) c.arrays d.arrays same.arrays))
    (body_uses-same params c.body d.body same.body)

pub uses-same : (c d : Component) → SameComponent c d → SameUses (name_uses c) (name_uses d)
uses-same c d same =
    subst (λ params. SameUses (name_uses c) (flat_map (port_uses params) d.ports ++ flat_map (array_uses params) d.arrays ++ body_uses params d.body)) same.params
    (uses-with c.params c d same)

-- the use is one of the same component
abbrev use-like : (c d : Component) → SameComponent c d → (p : NameUse) → Contains (name_uses c) p → (q : NameUse) × Contains (name_uses d) q × SameUse p q
use-like c d same p there = like_in SameUse same_use-trans (name_uses c) (name_uses d) p (uses-same c d same) there

value_only : (scope : List Name) (e : Expr) (p : NameUse) → SameUse (value scope e) p → p ≡ value scope e
value_only scope e _ (is_value _ _) = refl

variable_only : (scope : List Name) (x : Name) (p : NameUse) → SameUse (variable scope x) p → p ≡ variable scope x
variable_only scope x _ (is_variable _ _) = refl

end_only : (e : PortRef) (p : NameUse) → SameUse (binding_end e) p → p ≡ binding_end e
end_only e _ (is_end _) = refl

pub value-there : (c d : Component) → SameComponent c d → (scope : List Name) (e : Expr) → Contains (name_uses c) (value scope e) → Contains (name_uses d) (value scope e)
value-there c d same scope e there = let w = use-like c d same (value scope e) there in subst (λ p. Contains (name_uses d) p) (value_only scope e w.0 w.2) w.1

pub variable-there : (c d : Component) → SameComponent c d → (scope : List Name) (x : Name) → Contains (name_uses c) (variable scope x) → Contains (name_uses d) (variable scope x)
variable-there c d same scope x there = let w = use-like c d same (variable scope x) there in subst (λ p. Contains (name_uses d) p) (variable_only scope x w.0 w.2) w.1

pub end-there : (c d : Component) → SameComponent c d → (e : PortRef) → Contains (name_uses c) (binding_end e) → Contains (name_uses d) (binding_end e)
end-there c d same e there = let w = use-like c d same (binding_end e) there in subst (λ p. Contains (name_uses d) p) (end_only e w.0 w.2) w.1

-- ---- instances

single_of-same : (e e' : InstEntry) → SameEntry e e' → Reordered ◌≡◌ (single_of e) (single_of e')
single_of-same _ _ (same_single name component args at at') = kept _ _ [] [] refl no_elements
single_of-same _ _ (same_element array index args at at') = no_elements

pub singles-same : (c d : Component) → SameComponent c d → Reordered ◌≡◌ (singles_of c) (singles_of d)
singles-same c d same =
    reordered-flat_map SameEntry ◌≡◌ (λ x. refl) single_of single_of single_of-same single_of-same (entries_of c.body) (entries_of d.body) (entries-same c.body d.body same.body)

abbrev pub declared : ArrayDecl → Name × Name
declared a = (a.name, a.component)

declared-same : (a b : ArrayDecl) → SameArray a b → declared a ≡ declared b
declared-same a b same = rw (same.name, same.component) refl

pub instances-same : (c d : Component) → SameComponent c d → Reordered ◌≡◌ (instances_of c) (instances_of d)
instances-same c d same =
    reordered-append ◌≡◌ (λ x. refl) (map declared c.arrays) (map declared d.arrays) (singles_of c) (singles_of d)
    (reordered-map SameArray ◌≡◌ declared declared-same c.arrays d.arrays same.arrays) (singles-same c d same)
