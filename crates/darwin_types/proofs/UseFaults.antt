-- The faults of uses of names, part by part.
use Rattle.std.proofs.Common.{◌≡◌, ℕ, ◌+◌, ◌<◌, List, [], ◌∷◌, ◌++◌, length, get_or, drop, refl, ap, sym, ◌∙◌}
use Rattle.std.specs.List.{flat_map}
use Rattle.std.specs.Option.{option_to_list}
use Rattle.std.proofs.lemmas.List.{drop_more}
use Rattle.std.proofs.lemmas.Grind.{flat_map-append}
use Rattle.darwin_parser.specs.declared.tree.Stmt as code
use Rattle.darwin_parser.specs.Tree.{Name, Tree, Component, PortRef, stmt_of, stmts_of}
use Rattle.darwin_types.specs.NameUses.{NameUse, values, end_uses, stmt_uses, body_uses}
use Rattle.darwin_types.specs.Check.{uses_faults, use_faults, end_faults}

pub uses_faults-append : (t : Tree) (c : Component) (ps qs : List NameUse) → uses_faults t c (ps ++ qs) ≡ uses_faults t c ps ++ uses_faults t c qs
uses_faults-append t c ps qs = flat_map-append (use_faults t c) ps qs

pub uses_faults-flat_map : {A : Type 0} (t : Tree) (c : Component) (g : A → List NameUse) (xs : List A) → uses_faults t c (flat_map g xs) ≡ flat_map (λ x. uses_faults t c (g x)) xs
uses_faults-flat_map t c g [] = refl
uses_faults-flat_map t c g (x ∷ xs) =
    uses_faults-append t c (g x) (flat_map g xs) ∙ ap (λ fs. uses_faults t c (g x) ++ fs) (uses_faults-flat_map t c g xs)

pub uses_faults-end : (t : Tree) (c : Component) (scope : List Name) (e : PortRef) → uses_faults t c (end_uses scope e) ≡ end_faults t c e ++ (uses_faults t c (values scope (option_to_list e.inst_index)) ++ uses_faults t c (values scope (option_to_list e.port_index)))
uses_faults-end t c scope e =
    ap (λ fs. end_faults t c e ++ fs) (uses_faults-append t c (values scope (option_to_list e.inst_index)) (values scope (option_to_list e.port_index)))

-- a statement of a body, and what is left of the body
pub body_faults-drop : (t : Tree) (c : Component) (scope : List Name) (body : List code.Stmt) (i : ℕ) (s : code.Stmt) → i < length body → s ≡ get_or body i s → uses_faults t c (body_uses scope (stmts_of (drop i body))) ≡ uses_faults t c (stmt_uses scope (stmt_of s)) ++ uses_faults t c (body_uses scope (stmts_of (drop (i + 1) body)))
body_faults-drop t c scope body i s within is =
    ap (λ b. uses_faults t c (body_uses scope (stmts_of b))) (drop_more body i s within ∙ ap (λ x. x ∷ drop (i + 1) body) (sym is)) ∙ uses_faults-append t c (stmt_uses scope (stmt_of s)) (body_uses scope (stmts_of (drop (i + 1) body)))
