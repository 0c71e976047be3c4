-- The faults of a description are among those that the parts of a check find.
use Rattle.std.proofs.Common.{◌≡◌, ◌≢◌, ℕ, Bool, true, false, not, ◌&&◌, ◌==◌, cond, List, [], ◌∷◌, ◌++◌, map, length, Option, Some, None, option_map, is_some, is_none, bytes_eq, refl, ap, sym, subst, ◌∙◌, inl, inr, ◌⊎◌, unwrap_or}
use Rattle.std.specs.List.{Contains, flat_map}
use Rattle.std.specs.Option.{option_map_or, option_or}
use Rattle.std.proofs.lemmas.Bool.{false≢true, ne_eqb}
use Rattle.std.proofs.lemmas.List.Elements.{Contains-append_left, Contains-append_right, Contains-append_cases}
use Rattle.darwin_lexer.specs.declared.token.At.{At}
use Rattle.darwin_parser.specs.Tree.{Name, Tree, Component, ArrayDecl, InstEntry, PortRef, Expr}
use Rattle.darwin_parser.specs.Tree.InstEntry.{single, element}
use Rattle.darwin_types.specs.declared.error.TypeError.{TypeError}
use Rattle.darwin_types.specs.declared.error.TypeError.TheVariants.{TwoComponents, TwoNames, UnknownName, UnknownComponent, ArgCount, UnknownKind, KindPorts}
use Rattle.darwin_types.specs.Scope.{has, component_named, entries_of, port_named, array_named, single_of, singles_of, instances_of, instance_component, Instantiation, made_by, lacks_port}
use Rattle.darwin_types.specs.NameUses.{NameUse, value, variable, entry, binding_end, names_of, name_uses, port_uses, array_uses, body_uses}
use Rattle.darwin_types.specs.Primitive.{is_like_kind}
use Rattle.darwin_types.specs.Faults.{carried, FaultIn, HasFault}
use Rattle.darwin_types.specs.Faults.FaultIn.{two_params, two_ports, two_arrays, array_and_single, two_singles, two_values, unknown_value, unknown_array, unknown_instance, unknown_inner_port, unknown_outer_port, unknown_component, arg_count, unknown_kind, kind_ports}
use Rattle.darwin_types.specs.Faults.HasFault.{two_components, within}
use Rattle.darwin_types.specs.Check.{unless, clash_faults, call_faults, element_faults, entry_faults, inner_end_faults, outer_end_faults, is_first_like, use_faults, uses_faults, array_faults, arrays_faults, repeat_faults, port_faults, param_faults, array_name_faults, primitive_faults, kind_faults, declared_faults, component_faults, unit_faults}
use Rattle.darwin_types.proofs.Repeats.{repeated_there}
use Rattle.darwin_types.proofs.Judged.{repeat_faults-there}
use Rattle.darwin_types.proofs.EntryUses.{use_of_entry}
use Rattle.darwin_types.proofs.Found.{to_unless}
use Rattle.base.proofs.BytesLaws.{same_bytes}
use Rattle.base.proofs.ContainsLaws.{Contains-flat_map, Contains-from_flat_map, Contains-from_map, Contains-here, Contains-nil, Contains-one}

module _ (t : Tree) (c : Component) where
  in_declared : (e : TypeError) → Contains (declared_faults t c) e → Contains (component_faults t c) e
  in_declared e h =
      Contains-append_right (param_faults c) (array_name_faults c ++ declared_faults t c) e (Contains-append_right (array_name_faults c) (declared_faults t c) e h)

  in_array : (a : ArrayDecl) (e : TypeError) → Contains c.arrays a → Contains (array_faults t c c.params a) e → Contains (component_faults t c) e
  in_array a e there h =
      let ports = uses_faults t c (flat_map (port_uses c.params) c.ports) in
      let arrays = arrays_faults t c c.params c.arrays in
      let rest = uses_faults t c (body_uses c.params c.body) ++ kind_faults c in
      in_declared e (Contains-append_right ports (arrays ++ rest) e (Contains-append_left arrays rest e (Contains-flat_map (array_faults t c c.params) c.arrays a e there h)))

  in_kind : (e : TypeError) → Contains (kind_faults c) e → Contains (component_faults t c) e
  in_kind e h =
      let ports = uses_faults t c (flat_map (port_uses c.params) c.ports) in
      let arrays = arrays_faults t c c.params c.arrays in
      let body = uses_faults t c (body_uses c.params c.body) in
      in_declared e (Contains-append_right ports (arrays ++ (body ++ kind_faults c)) e (Contains-append_right arrays (body ++ kind_faults c) e (Contains-append_right body (kind_faults c) e h)))

  -- the faults of a use
  at_use : (p : NameUse) (e : TypeError) → Contains (name_uses c) p → Contains (use_faults t c p) e → Contains (component_faults t c) e
  at_use p e there h =
      let port_list = flat_map (port_uses c.params) c.ports in
      let array_list = flat_map (array_uses c.params) c.arrays in
      let body_list = body_uses c.params c.body in
      let rest = arrays_faults t c c.params c.arrays ++ (uses_faults t c body_list ++ kind_faults c) in
      elim (Contains-append_cases (port_list ++ array_list) body_list p there) [
        | inl l ↦
            elim (Contains-append_cases port_list array_list p l) [
              | inl a ↦ in_declared e (Contains-append_left (uses_faults t c port_list) rest e (Contains-flat_map (use_faults t c) port_list p e a h))
              | inr b ↦
                  let w = Contains-from_flat_map (array_uses c.params) c.arrays p b in
                  let known = unless (is_some (option_map (λ (k : Component). length k.params) (component_named t (w.0).component))) (UnknownComponent c.name (w.0).component) in
                  in_array w.0 e w.1 (Contains-append_right known (uses_faults t c (array_uses c.params w.0)) e (Contains-flat_map (use_faults t c) (array_uses c.params w.0) p e w.2 h))
            ]
        | inr b ↦
            in_declared e (Contains-append_right (uses_faults t c port_list) rest e (Contains-append_right (arrays_faults t c c.params c.arrays) (uses_faults t c body_list ++ kind_faults c) e (Contains-append_left (uses_faults t c body_list) (kind_faults c) e (Contains-flat_map (use_faults t c) body_list p e b h))))
      ]

  at_entry : (d : InstEntry) (e : TypeError) → Contains (entries_of c.body) d → Contains (entry_faults t c d) e → Contains (component_faults t c) e
  at_entry d e there h = at_use (entry d) e (use_of_entry c d there) h

  -- the faults of the entry of a single instance
  of_single : (d : InstEntry) (x k : Name) (e : TypeError) → Contains (entries_of c.body) d → Contains (single_of d) (x, k) → ((args : List Expr) → Contains (clash_faults c x k ++ call_faults t c x k (length args)) e) → Contains (component_faults t c) e
  of_single (single y l args at) x k e there h f =
      let same : (x, k) ≡ (y, l) = Contains-one (y, l) (x, k) h in
      at_entry (single y l args at) e there (subst (λ (p : Name × Name). Contains (clash_faults c p.0 p.1 ++ call_faults t c p.0 p.1 (length args)) e) same (f args))
  of_single (element y index args at) x k e there h f = absurd (Contains-nil (x, k) h)

  at_single : (x k : Name) (e : TypeError) → Contains (singles_of c) (x, k) → ((args : List Expr) → Contains (clash_faults c x k ++ call_faults t c x k (length args)) e) → Contains (component_faults t c) e
  at_single x k e h f = let w = Contains-from_flat_map single_of (entries_of c.body) (x, k) h in of_single w.0 x k e w.1 w.2 f

  clash : (x k : Name) → Contains (singles_of c) (x, k) → (not (is_some (array_named c x)) && is_first_like c x k) ≡ false → Contains (component_faults t c) (TwoNames c.name x)
  clash x k there h =
      at_single x k (TwoNames c.name x) there (λ args. Contains-append_left (clash_faults c x k) (call_faults t c x k (length args)) (TwoNames c.name x) (to_unless (not (is_some (array_named c x)) && is_first_like c x k) (TwoNames c.name x) h))

  not_and : (b d : Bool) → d ≡ false → (b && d) ≡ false
  not_and true d h = h
  not_and false d h = refl

  -- two instances of one name can't both be like the first
  first_like : (x k l : Name) (o : Option Name) → option_map_or (bytes_eq k) o false ≡ true → option_map_or (bytes_eq l) o false ≡ true → k ≡ l
  first_like x k l None p q = absurd (false≢true p)
  first_like x k l (Some m) p q = same_bytes k m p ∙ sym (same_bytes l m q)

  one_unlike : (x k l : Name) (b d : Bool) → is_first_like c x k ≡ b → is_first_like c x l ≡ d → Contains (singles_of c) (x, k) → Contains (singles_of c) (x, l) → k ≢ l → Contains (component_faults t c) (TwoNames c.name x)
  one_unlike x k l false d p q hk hl differ = clash x k hk (not_and (not (is_some (array_named c x))) (is_first_like c x k) p)
  one_unlike x k l true false p q hk hl differ = clash x l hl (not_and (not (is_some (array_named c x))) (is_first_like c x l) q)
  one_unlike x k l true true p q hk hl differ = absurd (differ (first_like x k l (instance_component c x) p q))

  -- of an instance whose component isn't there
  unknown_call : (x k : Name) (given : ℕ) → component_named t k ≡ None → Contains (call_faults t c x k given) (UnknownComponent c.name k)
  unknown_call x k given none =
      subst (λ o. Contains (option_map_or (λ wanted. unless (given == wanted) (ArgCount c.name x (carried wanted) (carried given))) (option_map (λ (d : Component). length d.params) o) (UnknownComponent c.name k ∷ [])) (UnknownComponent c.name k)) (sym none) (Contains-here (UnknownComponent c.name k) [])

  wrong_call : (x k : Name) (given : ℕ) (d : Component) → component_named t k ≡ Some d → given ≢ length d.params → Contains (call_faults t c x k given) (ArgCount c.name x (carried (length d.params)) (carried given))
  wrong_call x k given d found differ =
      let fault = ArgCount c.name x (carried (length d.params)) (carried given) in
      subst (λ o. Contains (option_map_or (λ wanted. unless (given == wanted) (ArgCount c.name x (carried wanted) (carried given))) (option_map (λ (d : Component). length d.params) o) (UnknownComponent c.name k ∷ [])) fault) (sym found) (to_unless (given == length d.params) fault (ne_eqb given (length d.params) differ))

  element_call : (x : Name) (index : Expr) (args : Option (List Expr)) (at : At) (o : Option ArrayDecl) (m : Instantiation) (e : TypeError) → array_named c x ≡ o → option_map (λ a. record { name = x; component = a.component; args = unwrap_or (option_or args a.args) [] }) o ≡ Some m → Contains (call_faults t c m.name m.component (length m.args)) e → Contains (element_faults t c x args) e
  element_call x index args at None m e found made h = cc
  element_call x index args at (Some a) m e found made h =
      let same : record { name = x; component = a.component; args = unwrap_or (option_or args a.args) [] } ≡ m = cc in
      subst (λ o. Contains (option_map_or (λ b. call_faults t c x b.component (length (unwrap_or (option_or args b.args) []))) o (UnknownName c.name x ∷ [])) e) (sym found) (subst (λ (n : Instantiation). Contains (call_faults t c n.name n.component (length n.args)) e) (sym same) h)

  made_call : (d : InstEntry) (m : Instantiation) (e : TypeError) → made_by c d ≡ Some m → Contains (call_faults t c m.name m.component (length m.args)) e → Contains (entry_faults t c d) e
  made_call (single x k args at) m e made h =
      let one : Instantiation = record { name = x; component = k; args = args } in
      let same : one ≡ m = cc in
      Contains-append_right (clash_faults c x k) (call_faults t c x k (length args)) e (subst (λ (n : Instantiation). Contains (call_faults t c n.name n.component (length n.args)) e) (sym same) h)
  made_call (element x index args at) m e made h = element_call x index args at (array_named c x) m e refl made h

  unknown_instance_of : (x k : Name) → Contains (instances_of c) (x, k) → component_named t k ≡ None → Contains (component_faults t c) (UnknownComponent c.name k)
  unknown_instance_of x k there none =
      elim (Contains-append_cases (map (λ a. (a.name, a.component)) c.arrays) (singles_of c) (x, k) there) [
        | inl l ↦
            let w = Contains-from_map (λ (a : ArrayDecl). (a.name, a.component)) c.arrays (x, k) l in
            let same : k ≡ (w.0).component = ap (λ p. p.1) w.2 in
            let missing = is_some (option_map (λ (d : Component). length d.params) (component_named t (w.0).component)) in
            let fault = UnknownComponent c.name (w.0).component in
            let known : missing ≡ false = ap (λ o. is_some (option_map (λ (d : Component). length d.params) o)) (subst (λ y. component_named t y ≡ None) same none) in
            subst (λ y. Contains (component_faults t c) (UnknownComponent c.name y)) (sym same) (in_array w.0 fault w.1 (Contains-append_left (unless missing fault) (uses_faults t c (array_uses c.params w.0)) fault (to_unless missing fault known)))
        | inr r ↦
            at_single x k (UnknownComponent c.name k) r (λ args. Contains-append_right (clash_faults c x k) (call_faults t c x k (length args)) (UnknownComponent c.name k) (unknown_call x k (length args) none))
      ]

  -- of the ends of bindings
  at_end : (r : PortRef) (o : Option Name) (e : TypeError) → Contains (name_uses c) (binding_end r) → r.inst ≡ o → Contains (option_map_or (λ x. inner_end_faults t c x r.port) o (outer_end_faults c r.port)) e → Contains (component_faults t c) e
  at_end r o e there is h =
      at_use (binding_end r) e there (subst (λ i. Contains (option_map_or (λ x. inner_end_faults t c x r.port) i (outer_end_faults c r.port)) e) (sym is) h)

  inner_faults : (x port : Name) (o : Option Name) (e : TypeError) → instance_component c x ≡ o → Contains (option_map_or (λ k. unless (not (lacks_port t k port)) (UnknownName c.name port)) o (UnknownName c.name x ∷ [])) e → Contains (inner_end_faults t c x port) e
  inner_faults x port o e found h =
      subst (λ i. Contains (option_map_or (λ k. unless (not (lacks_port t k port)) (UnknownName c.name port)) i (UnknownName c.name x ∷ [])) e) (sym found) h

  lacks : (k port : Name) (d : Component) → component_named t k ≡ Some d → port_named d port ≡ None → lacks_port t k port ≡ true
  lacks k port d found none = ap (λ o. option_map_or (λ x. is_none (port_named x port)) o false) found ∙ ap is_none none

  component_complete : (e : TypeError) → FaultIn t c e → Contains (component_faults t c) e ⊎ Contains (port_faults c) e
  component_complete _ (two_params x h) =
      inl (Contains-append_left (param_faults c) (array_name_faults c ++ declared_faults t c) (TwoNames c.name x) (repeat_faults-there (TwoNames c.name) c.params x (repeated_there c.params x h) h))
  component_complete _ (two_ports x h) =
      inr (repeat_faults-there (TwoNames c.name) (map (λ p. p.name) c.ports) x (repeated_there (map (λ p. p.name) c.ports) x h) h)
  component_complete _ (two_arrays x h) =
      let names = map (λ a. a.name) c.arrays in
      inl (Contains-append_right (param_faults c) (array_name_faults c ++ declared_faults t c) (TwoNames c.name x) (Contains-append_left (array_name_faults c) (declared_faults t c) (TwoNames c.name x) (repeat_faults-there (TwoNames c.name) names x (repeated_there names x h) h)))
  component_complete _ (array_and_single x k there h) = inl (clash x k there (ap (λ b. not b && is_first_like c x k) h))
  component_complete _ (two_singles x k l hk hl differ) =
      inl (one_unlike x k l (is_first_like c x k) (is_first_like c x l) refl refl hk hl differ)
  component_complete _ (two_values scope x there h) =
      inl (at_use (variable scope x) (TwoNames c.name x) there (to_unless (not (has scope x)) (TwoNames c.name x) (ap not h)))
  component_complete _ (unknown_value scope ex x there used h) =
      inl (at_use (value scope ex) (UnknownName c.name x) there (Contains-flat_map (λ y. unless (has scope y) (UnknownName c.name y)) (names_of ex) x (UnknownName c.name x) used (to_unless (has scope x) (UnknownName c.name x) h)))
  component_complete _ (unknown_array x index args at there none) =
      inl (at_entry (element x index args at) (UnknownName c.name x) there (subst (λ o. Contains (option_map_or (λ b. call_faults t c x b.component (length (unwrap_or (option_or args b.args) []))) o (UnknownName c.name x ∷ [])) (UnknownName c.name x)) (sym none) (Contains-here (UnknownName c.name x) [])))
  component_complete _ (unknown_instance r x there is none) =
      inl (at_end r (Some x) (UnknownName c.name x) there is (inner_faults x r.port None (UnknownName c.name x) none (Contains-here (UnknownName c.name x) [])))
  component_complete _ (unknown_inner_port r x k d there is found named none) =
      inl (at_end r (Some x) (UnknownName c.name r.port) there is (inner_faults x r.port (Some k) (UnknownName c.name r.port) found (to_unless (not (lacks_port t k r.port)) (UnknownName c.name r.port) (ap not (lacks k r.port d named none)))))
  component_complete _ (unknown_outer_port r there is none) =
      inl (at_end r None (UnknownName c.name r.port) there is (to_unless (is_some (port_named c r.port)) (UnknownName c.name r.port) (ap is_some none)))
  component_complete _ (unknown_component x k there none) = inl (unknown_instance_of x k there none)
  component_complete _ (arg_count d m k there made found differ) =
      let fault = ArgCount c.name m.name (carried (length k.params)) (carried (length m.args)) in
      inl (at_entry d fault there (made_call d m fault made (wrong_call m.name m.component (length m.args) k found differ)))
  component_complete _ (unknown_kind primitive none) =
      let fault = UnknownKind c.name in
      inl (in_kind fault (subst (λ b. Contains (cond b (primitive_faults c) []) fault) (sym primitive) (subst (λ o. Contains (option_map_or (λ k. unless (is_like_kind k c) (KindPorts c.name)) o (UnknownKind c.name ∷ [])) fault) (sym none) (Contains-here fault []))))
  component_complete _ (kind_ports k primitive named h) =
      let fault = KindPorts c.name in
      inl (in_kind fault (subst (λ b. Contains (cond b (primitive_faults c) []) fault) (sym primitive) (subst (λ o. Contains (option_map_or (λ k. unless (is_like_kind k c) (KindPorts c.name)) o (UnknownKind c.name ∷ [])) fault) (sym named) (to_unless (is_like_kind k c) fault h))))

-- each fault of the description is one that a check may find
pub unit_complete : (t : Tree) (e : TypeError) → HasFault t e → Contains (unit_faults t) e
unit_complete t _ (two_components x h) =
    let names = map (λ c. c.name) t in
    let repeats = repeat_faults TwoComponents names in
    let ports = flat_map port_faults t in
    Contains-append_left (repeats ++ ports) (flat_map (component_faults t) t) (TwoComponents x) (Contains-append_left repeats ports (TwoComponents x) (repeat_faults-there TwoComponents names x (repeated_there names x h) h))
unit_complete t _ (within c e there h) =
    let repeats = repeat_faults TwoComponents (map (λ c. c.name) t) in
    let ports = flat_map port_faults t in
    elim (component_complete t c e h) [
      | inl a ↦ Contains-append_right (repeats ++ ports) (flat_map (component_faults t) t) e (Contains-flat_map (component_faults t) t c e there a)
      | inr b ↦
          Contains-append_left (repeats ++ ports) (flat_map (component_faults t) t) e (Contains-append_right repeats ports e (Contains-flat_map port_faults t c e there b))
    ]
