-- The entries of a component are those among the uses of its names.
use Rattle.std.proofs.Common.{◌≡◌, List, [], ◌∷◌, ◌++◌, refl, ap, sym, subst, ◌∙◌}
use Rattle.std.specs.List.{Contains, flat_map}
use Rattle.std.specs.Option.{option_to_list}
use Rattle.std.proofs.lemmas.Grind.{flat_map-append}
use Rattle.darwin_parser.specs.Tree.{Name, Component, PortDecl, ArrayDecl, InstEntry, PortRef, Expr, Stmt, Stmts}
use Rattle.darwin_parser.specs.Tree.InstEntry.{single, element}
use Rattle.darwin_parser.specs.Tree.Stmt.{inst, bind, forall, when}
use Rattle.darwin_parser.specs.Tree.Stmts.{end, then}
use Rattle.darwin_types.specs.Scope.{entries_of, entries_of_stmt}
use Rattle.darwin_types.specs.NameUses.{NameUse, value, variable, entry, binding_end, values, args_of, entry_uses, end_uses, stmt_uses, body_uses, port_uses, array_uses, name_uses}
use Rattle.base.proofs.ContainsLaws.{Contains-flat_map, Contains-from_flat_map, Contains-here, Contains-nil, Contains-one}

-- the entry of a use
abbrev entry_at : NameUse → List InstEntry
entry_at (value scope e) = []
entry_at (variable scope x) = []
entry_at (entry e) = e ∷ []
entry_at (binding_end e) = []

-- those of some uses
abbrev entries_at : List NameUse → List InstEntry
entries_at ps = flat_map entry_at ps

entries_at-append : (ps qs : List NameUse) → entries_at (ps ++ qs) ≡ entries_at ps ++ entries_at qs
entries_at-append ps qs = flat_map-append entry_at ps qs

entries_at-values : (scope : List Name) (es : List Expr) → entries_at (values scope es) ≡ []
entries_at-values scope [] = refl
entries_at-values scope (e ∷ es) = entries_at-values scope es

entries_at-entry : (scope : List Name) (e : InstEntry) → entries_at (entry_uses scope e) ≡ e ∷ []
entries_at-entry scope (single name component args at) = ap (λ es. single name component args at ∷ es) (entries_at-values scope args)
entries_at-entry scope (element array index args at) = ap (λ es. element array index args at ∷ es) (entries_at-values scope (args_of args))

entries_at-end : (scope : List Name) (e : PortRef) → entries_at (end_uses scope e) ≡ []
entries_at-end scope e =
    entries_at-append (values scope (option_to_list e.inst_index)) (values scope (option_to_list e.port_index)) ∙ ap (λ es. es ++ entries_at (values scope (option_to_list e.port_index))) (entries_at-values scope (option_to_list e.inst_index)) ∙ entries_at-values scope (option_to_list e.port_index)

mutual
  entries_at-stmt : (scope : List Name) (s : Stmt) → entries_at (stmt_uses scope s) ≡ entries_of_stmt s
  entries_at-stmt scope (inst e) = entries_at-entry scope e
  entries_at-stmt scope (bind b) =
      entries_at-append (end_uses scope b.left) (end_uses scope b.right) ∙ ap (λ es. es ++ entries_at (end_uses scope b.right)) (entries_at-end scope b.left) ∙ entries_at-end scope b.right
  entries_at-stmt scope (forall x low high body at) = entries_at-body (scope ++ x ∷ []) body
  entries_at-stmt scope (when test body at) = entries_at-body scope body

  entries_at-body : (scope : List Name) (body : Stmts) → entries_at (body_uses scope body) ≡ entries_of body
  entries_at-body scope end = refl
  entries_at-body scope (then s rest) =
      entries_at-append (stmt_uses scope s) (body_uses scope rest) ∙ ap (λ es. es ++ entries_at (body_uses scope rest)) (entries_at-stmt scope s) ∙ ap (λ es. entries_of_stmt s ++ es) (entries_at-body scope rest)

entries_at-ports : (params : List Name) (ports : List PortDecl) → entries_at (flat_map (port_uses params) ports) ≡ []
entries_at-ports params [] = refl
entries_at-ports params (p ∷ ports) =
    entries_at-append (port_uses params p) (flat_map (port_uses params) ports) ∙ ap (λ es. es ++ entries_at (flat_map (port_uses params) ports)) (entries_at-values params (option_to_list p.size)) ∙ entries_at-ports params ports

entries_at-arrays : (params : List Name) (arrays : List ArrayDecl) → entries_at (flat_map (array_uses params) arrays) ≡ []
entries_at-arrays params [] = refl
entries_at-arrays params (a ∷ arrays) =
    entries_at-append (array_uses params a) (flat_map (array_uses params) arrays) ∙ ap (λ es. es ++ entries_at (flat_map (array_uses params) arrays)) (entries_at-values params (args_of a.args)) ∙ entries_at-arrays params arrays

entries_at-uses : (c : Component) → entries_at (name_uses c) ≡ entries_of c.body
entries_at-uses c =
    let ports = flat_map (port_uses c.params) c.ports in
    let arrays = flat_map (array_uses c.params) c.arrays in
    let body = body_uses c.params c.body in
    entries_at-append (ports ++ arrays) body ∙ ap (λ es. es ++ entries_at body) (entries_at-append ports arrays ∙ ap (λ es. es ++ entries_at arrays) (entries_at-ports c.params c.ports) ∙ entries_at-arrays c.params c.arrays) ∙ entries_at-body c.params c.body

at_itself : (p : NameUse) (e : InstEntry) → Contains (entry_at p) e → p ≡ entry e
at_itself (value scope x) e h = absurd (Contains-nil e h)
at_itself (variable scope x) e h = absurd (Contains-nil e h)
at_itself (entry d) e h = ap entry (sym (Contains-one d e h))
at_itself (binding_end r) e h = absurd (Contains-nil e h)

pub use_of_entry : (c : Component) (e : InstEntry) → Contains (entries_of c.body) e → Contains (name_uses c) (entry e)
use_of_entry c e h =
    let w = Contains-from_flat_map entry_at (name_uses c) e (subst (λ es. Contains es e) (sym (entries_at-uses c)) h) in
    subst (λ p. Contains (name_uses c) p) (at_itself w.0 e w.2) w.1

pub entry_of_use : (c : Component) (e : InstEntry) → Contains (name_uses c) (entry e) → Contains (entries_of c.body) e
entry_of_use c e h = subst (λ es. Contains es e) (entries_at-uses c) (Contains-flat_map entry_at (name_uses c) (entry e) e h (Contains-here e []))
