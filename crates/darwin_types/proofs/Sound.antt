-- What the parts of a check find are faults of the description.
use Rattle.std.proofs.Common.{◌≡◌, Bool, true, false, not, ◌&&◌, ◌==◌, cond, List, [], ◌∷◌, ◌++◌, map, length, Option, Some, None, option_map, is_some, is_none, bytes_eq, refl, ap, sym, subst, ◌∙◌, inl, inr, unwrap_or}
use Rattle.std.specs.List.{Contains, flat_map, filter}
use Rattle.std.specs.Option.{option_map_or, option_or}
use Rattle.std.proofs.lemmas.Bool.{false≢true, true≢false, eqb-false, not-false}
use Rattle.std.proofs.lemmas.List.Elements.{Contains-append_left, Contains-append_right, Contains-append_cases}
use Rattle.std.proofs.lemmas.Map.Views.{Contains-from_lookup}
use Rattle.darwin_lexer.specs.declared.token.At.{At}
use Rattle.config_graph.specs.declared.kind.Kind.{Kind}
use Rattle.config_graph.specs.Kinds.{kind_named}
use Rattle.darwin_parser.specs.Tree.{Name, Tree, Component, ArrayDecl, InstEntry, PortRef, Expr}
use Rattle.darwin_parser.specs.Tree.InstEntry.{single, element}
use Rattle.darwin_types.specs.declared.error.TypeError.{TypeError}
use Rattle.darwin_types.specs.declared.error.TypeError.TheVariants.{TwoComponents, TwoNames, UnknownName, UnknownComponent, ArgCount, UnknownKind, KindPorts}
use Rattle.darwin_types.specs.Scope.{has, component_named, entries_of, is_primitive, port_named, array_named, single_of, singles_of, instances_of, instance_component, Instantiation, made_by, lacks_port}
use Rattle.darwin_types.specs.NameUses.{NameUse, value, variable, entry, binding_end, names_of, name_uses, port_uses, array_uses, body_uses}
use Rattle.darwin_types.specs.Primitive.{is_like_kind}
use Rattle.darwin_types.specs.Faults.{is_repeated, carried, FaultIn, HasFault}
use Rattle.darwin_types.specs.Faults.FaultIn.{two_params, two_ports, two_arrays, array_and_single, two_singles, two_values, unknown_value, unknown_array, unknown_instance, unknown_inner_port, unknown_outer_port, unknown_component, arg_count, unknown_kind, kind_ports}
use Rattle.darwin_types.specs.Faults.HasFault.{two_components, within}
use Rattle.darwin_types.specs.Check.{unless, value_faults, variable_faults, clash_faults, call_faults, entry_faults, inner_end_faults, outer_end_faults, is_first_like, use_faults, uses_faults, array_faults, arrays_faults, repeat_faults, port_faults, param_faults, array_name_faults, primitive_faults, kind_faults, declared_faults, component_faults, directory_faults, unit_faults}
use Rattle.darwin_types.proofs.EntryUses.{entry_of_use}
use Rattle.darwin_types.proofs.Found.{from_unless}
use Rattle.base.proofs.BytesLaws.{bytes_eq_self, different_bytes, is_some-lookup_from, same_bytes}
use Rattle.base.proofs.ContainsLaws.{Contains-flat_map, Contains-from_filter, Contains-from_flat_map, Contains-from_map, Contains-here, Contains-map, Contains-nil, Contains-one}
use Rattle.base.proofs.FindLaws.{find-some, is_some-find_from}
use Rattle.base.proofs.OptionLaws.{None-from_is_none, None-from_is_some}

-- names that stand twice
repeated_from : (g : Name → TypeError) (names : List Name) (e : TypeError) → Contains (repeat_faults g names) e → (x : Name) × (is_repeated names x ≡ true) × (e ≡ g x)
repeated_from g names e h =
    let w = Contains-from_map g (filter (is_repeated names) names) e h in
    (w.0, (Contains-from_filter (is_repeated names) names w.0 w.1).1, w.2)

module _ (t : Tree) (c : Component) where
  value_sound : (scope : List Name) (ex : Expr) (e : TypeError) → Contains (name_uses c) (value scope ex) → Contains (value_faults c scope ex) e → FaultIn t c e
  value_sound scope ex e there h =
      let w = Contains-from_flat_map (λ x. unless (has scope x) (UnknownName c.name x)) (names_of ex) e h in
      let u = from_unless (has scope w.0) (UnknownName c.name w.0) e w.2 in
      subst (FaultIn t c) (sym u.1) (unknown_value scope ex w.0 there w.1 u.0)

  variable_sound : (scope : List Name) (x : Name) (e : TypeError) → Contains (name_uses c) (variable scope x) → Contains (variable_faults c scope x) e → FaultIn t c e
  variable_sound scope x e there h =
      let u = from_unless (not (has scope x)) (TwoNames c.name x) e h in
      subst (FaultIn t c) (sym u.1) (two_values scope x there (not-false (has scope x) u.0))

  -- of what an entry makes, whose component is o
  call_of : (d : InstEntry) (m : Instantiation) (o : Option Component) (e : TypeError) → Contains (entries_of c.body) d → made_by c d ≡ Some m → Contains (instances_of c) (m.name, m.component) → component_named t m.component ≡ o → Contains (option_map_or (λ wanted. unless (length m.args == wanted) (ArgCount c.name m.name (carried wanted) (carried (length m.args)))) (option_map (λ k. length k.params) o) (UnknownComponent c.name m.component ∷ [])) e → FaultIn t c e
  call_of d m None e there made declared named h =
      subst (FaultIn t c) (sym (Contains-one (UnknownComponent c.name m.component) e h)) (unknown_component m.name m.component declared named)
  call_of d m (Some k) e there made declared named h =
      let u = from_unless (length m.args == length k.params) (ArgCount c.name m.name (carried (length k.params)) (carried (length m.args))) e h in
      subst (FaultIn t c) (sym u.1) (arg_count d m k there made named (eqb-false (length m.args) (length k.params) u.0))

  call_sound : (d : InstEntry) (m : Instantiation) (e : TypeError) → Contains (entries_of c.body) d → made_by c d ≡ Some m → Contains (instances_of c) (m.name, m.component) → Contains (call_faults t c m.name m.component (length m.args)) e → FaultIn t c e
  call_sound d m e there made declared h = call_of d m (component_named t m.component) e there made declared refl h

  -- of a single instance whose name an index of instances has with the component o
  first_of : (x k : Name) (o : Option Name) (e : TypeError) → Contains (singles_of c) (x, k) → array_named c x ≡ None → instance_component c x ≡ o → is_first_like c x k ≡ false → FaultIn t c (TwoNames c.name x)
  first_of x k None e there alone found h =
      absurd (false≢true (sym (ap is_some found) ∙ is_some-lookup_from (instances_of c) x k (Contains-append_right (map (λ a. (a.name, a.component)) c.arrays) (singles_of c) (x, k) there)))
  first_of x k (Some l) e there alone found h =
      let differ : bytes_eq k l ≡ false = sym (ap (λ o. option_map_or (bytes_eq k) o false) found) ∙ h in
      elim (Contains-append_cases (map (λ a. (a.name, a.component)) c.arrays) (singles_of c) (x, l) (Contains-from_lookup same_bytes x l (instances_of c) found)) [
        | inl a ↦
            let w = Contains-from_map (λ (a : ArrayDecl). (a.name, a.component)) c.arrays (x, l) a in
            let named : bytes_eq x (w.0).name ≡ true = subst (λ y. bytes_eq x y ≡ true) (ap (λ p. p.0) w.2) (bytes_eq_self x) in
            absurd (false≢true (sym (ap is_some alone) ∙ is_some-find_from (λ (a : ArrayDecl). bytes_eq x a.name) c.arrays w.0 w.1 named))
        | inr s ↦ two_singles x k l there s (different_bytes k l differ)
      ]

  clash_by : (x k : Name) (b : Bool) → Contains (singles_of c) (x, k) → is_some (array_named c x) ≡ b → (not b && is_first_like c x k) ≡ false → FaultIn t c (TwoNames c.name x)
  clash_by x k true there named h = array_and_single x k there named
  clash_by x k false there named h = first_of x k (instance_component c x) (TwoNames c.name x) there (None-from_is_some (array_named c x) named) refl h

  clash_sound : (x k : Name) (e : TypeError) → Contains (singles_of c) (x, k) → Contains (clash_faults c x k) e → FaultIn t c e
  clash_sound x k e there h =
      let u = from_unless (not (is_some (array_named c x)) && is_first_like c x k) (TwoNames c.name x) e h in
      subst (FaultIn t c) (sym u.1) (clash_by x k (is_some (array_named c x)) there refl u.0)

  single_there : (x k : Name) (args : List Expr) (at : At) → Contains (entries_of c.body) (single x k args at) → Contains (singles_of c) (x, k)
  single_there x k args at h = Contains-flat_map single_of (entries_of c.body) (single x k args at) (x, k) h (Contains-here (x, k) [])

  single_sound : (x k : Name) (args : List Expr) (at : At) (e : TypeError) → Contains (entries_of c.body) (single x k args at) → Contains (entry_faults t c (single x k args at)) e → FaultIn t c e
  single_sound x k args at e there h =
      let declared = single_there x k args at there in
      elim (Contains-append_cases (clash_faults c x k) (call_faults t c x k (length args)) e h) [
        | inl a ↦ clash_sound x k e declared a
        | inr b ↦ call_sound (single x k args at) (record { name = x; component = k; args = args }) e there refl (Contains-append_right (map (λ a. (a.name, a.component)) c.arrays) (singles_of c) (x, k) declared) b
      ]

  -- an array with a name is one of the instances
  array_there : (x : Name) (a : ArrayDecl) → array_named c x ≡ Some a → Contains (instances_of c) (x, a.component)
  array_there x a found =
      let w = find-some (λ (b : ArrayDecl). bytes_eq x b.name) c.arrays a found in
      let pair = Contains-map (λ (b : ArrayDecl). (b.name, b.component)) c.arrays a w.0 in
      Contains-append_left (map (λ b. (b.name, b.component)) c.arrays) (singles_of c) (x, a.component) (subst (λ y. Contains {X = Name × Name} (map (λ b. (b.name, b.component)) c.arrays) (y, a.component)) (sym (same_bytes x a.name w.1)) pair)

  element_of : (x : Name) (index : Expr) (args : Option (List Expr)) (at : At) (o : Option ArrayDecl) (e : TypeError) → Contains (entries_of c.body) (element x index args at) → array_named c x ≡ o → Contains (option_map_or (λ a. call_faults t c x a.component (length (unwrap_or (option_or args a.args) []))) o (UnknownName c.name x ∷ [])) e → FaultIn t c e
  element_of x index args at None e there found h =
      subst (FaultIn t c) (sym (Contains-one (UnknownName c.name x) e h)) (unknown_array x index args at there found)
  element_of x index args at (Some a) e there found h =
      let m : Instantiation = record { name = x; component = a.component; args = unwrap_or (option_or args a.args) [] } in
      call_sound (element x index args at) m e there (ap (option_map (λ b. record { name = x; component = b.component; args = unwrap_or (option_or args b.args) [] })) found) (array_there x a found) h

  entry_sound : (d : InstEntry) (e : TypeError) → Contains (name_uses c) (entry d) → Contains (entry_faults t c d) e → FaultIn t c e
  entry_sound (single x k args at) e there h = single_sound x k args at e (entry_of_use c (single x k args at) there) h
  entry_sound (element x index args at) e there h =
      element_of x index args at (array_named c x) e (entry_of_use c (element x index args at) there) refl h

  outer_sound : (r : PortRef) (e : TypeError) → Contains (name_uses c) (binding_end r) → r.inst ≡ None → Contains (outer_end_faults c r.port) e → FaultIn t c e
  outer_sound r e there outer h =
      let u = from_unless (is_some (port_named c r.port)) (UnknownName c.name r.port) e h in
      subst (FaultIn t c) (sym u.1) (unknown_outer_port r there outer (None-from_is_some (port_named c r.port) u.0))

  lacking : (r : PortRef) (x k : Name) (o : Option Component) → Contains (name_uses c) (binding_end r) → r.inst ≡ Some x → instance_component c x ≡ Some k → component_named t k ≡ o → option_map_or (λ d. is_none (port_named d r.port)) o false ≡ true → FaultIn t c (UnknownName c.name r.port)
  lacking r x k None there inner found named h = absurd (false≢true h)
  lacking r x k (Some d) there inner found named h = unknown_inner_port r x k d there inner found named (None-from_is_none (port_named d r.port) h)

  inner_of : (r : PortRef) (x : Name) (o : Option Name) (e : TypeError) → Contains (name_uses c) (binding_end r) → r.inst ≡ Some x → instance_component c x ≡ o → Contains (option_map_or (λ k. unless (not (lacks_port t k r.port)) (UnknownName c.name r.port)) o (UnknownName c.name x ∷ [])) e → FaultIn t c e
  inner_of r x None e there inner found h =
      subst (FaultIn t c) (sym (Contains-one (UnknownName c.name x) e h)) (unknown_instance r x there inner found)
  inner_of r x (Some k) e there inner found h =
      let u = from_unless (not (lacks_port t k r.port)) (UnknownName c.name r.port) e h in
      subst (FaultIn t c) (sym u.1) (lacking r x k (component_named t k) there inner found refl (not-false (lacks_port t k r.port) u.0))

  end_of : (r : PortRef) (o : Option Name) (e : TypeError) → Contains (name_uses c) (binding_end r) → r.inst ≡ o → Contains (option_map_or (λ x. inner_end_faults t c x r.port) o (outer_end_faults c r.port)) e → FaultIn t c e
  end_of r None e there at h = outer_sound r e there at h
  end_of r (Some x) e there at h = inner_of r x (instance_component c x) e there at refl h

  use_sound : (p : NameUse) (e : TypeError) → Contains (name_uses c) p → Contains (use_faults t c p) e → FaultIn t c e
  use_sound (value scope ex) e there h = value_sound scope ex e there h
  use_sound (variable scope x) e there h = variable_sound scope x e there h
  use_sound (entry d) e there h = entry_sound d e there h
  use_sound (binding_end r) e there h = end_of r r.inst e there refl h

  -- of uses that are among those of the component
  uses_sound : (ps : List NameUse) (e : TypeError) → ((p : NameUse) → Contains ps p → Contains (name_uses c) p) → Contains (uses_faults t c ps) e → FaultIn t c e
  uses_sound ps e among h = let w = Contains-from_flat_map (use_faults t c) ps e h in use_sound w.0 e (among w.0 w.1) w.2

  port_use_there : (p : NameUse) → Contains (flat_map (port_uses c.params) c.ports) p → Contains (name_uses c) p
  port_use_there p h =
      let ports = flat_map (port_uses c.params) c.ports in
      let arrays = flat_map (array_uses c.params) c.arrays in
      Contains-append_left (ports ++ arrays) (body_uses c.params c.body) p (Contains-append_left ports arrays p h)

  array_use_there : (p : NameUse) → Contains (flat_map (array_uses c.params) c.arrays) p → Contains (name_uses c) p
  array_use_there p h =
      let ports = flat_map (port_uses c.params) c.ports in
      let arrays = flat_map (array_uses c.params) c.arrays in
      Contains-append_left (ports ++ arrays) (body_uses c.params c.body) p (Contains-append_right ports arrays p h)

  body_use_there : (p : NameUse) → Contains (body_uses c.params c.body) p → Contains (name_uses c) p
  body_use_there p h =
      let ports = flat_map (port_uses c.params) c.ports in
      let arrays = flat_map (array_uses c.params) c.arrays in
      Contains-append_right (ports ++ arrays) (body_uses c.params c.body) p h

  array_sound : (a : ArrayDecl) (e : TypeError) → Contains c.arrays a → Contains (array_faults t c c.params a) e → FaultIn t c e
  array_sound a e there h =
      let known = is_some (option_map (λ (k : Component). length k.params) (component_named t a.component)) in
      elim (Contains-append_cases (unless known (UnknownComponent c.name a.component)) (uses_faults t c (array_uses c.params a)) e h) [
        | inl l ↦
            let u = from_unless known (UnknownComponent c.name a.component) e l in
            subst (FaultIn t c) (sym u.1) (unknown_component a.name a.component (Contains-append_left (map (λ b. (b.name, b.component)) c.arrays) (singles_of c) (a.name, a.component) (Contains-map (λ (b : ArrayDecl). (b.name, b.component)) c.arrays a there)) (none_under (component_named t a.component) u.0))
        | inr r ↦
            uses_sound (array_uses c.params a) e (λ p q. array_use_there p (Contains-flat_map (array_uses c.params) c.arrays a p there q)) r
      ]
    where
      none_under : (o : Option Component) → is_some (option_map (λ (k : Component). length k.params) o) ≡ false → o ≡ None
      none_under None h = refl
      none_under (Some k) h = absurd (true≢false h)

  kind_of : (o : Option Kind) (e : TypeError) → is_primitive c ≡ true → kind_named c.name ≡ o → Contains (option_map_or (λ k. unless (is_like_kind k c) (KindPorts c.name)) o (UnknownKind c.name ∷ [])) e → FaultIn t c e
  kind_of None e primitive named h = subst (FaultIn t c) (sym (Contains-one (UnknownKind c.name) e h)) (unknown_kind primitive named)
  kind_of (Some k) e primitive named h =
      let u = from_unless (is_like_kind k c) (KindPorts c.name) e h in
      subst (FaultIn t c) (sym u.1) (kind_ports k primitive named u.0)

  kind_by : (b : Bool) (e : TypeError) → is_primitive c ≡ b → Contains (cond b (primitive_faults c) []) e → FaultIn t c e
  kind_by true e primitive h = kind_of (kind_named c.name) e primitive refl h
  kind_by false e primitive h = absurd (Contains-nil e h)

  component_sound : (e : TypeError) → Contains (component_faults t c) e → FaultIn t c e
  component_sound e h =
      let ports = uses_faults t c (flat_map (port_uses c.params) c.ports) in
      let arrays = arrays_faults t c c.params c.arrays in
      let body = uses_faults t c (body_uses c.params c.body) in
      elim (Contains-append_cases (param_faults c) (array_name_faults c ++ declared_faults t c) e h) [
        | inl a ↦ let w = repeated_from (TwoNames c.name) c.params e a in subst (FaultIn t c) (sym w.2) (two_params w.0 w.1)
        | inr b ↦
            elim (Contains-append_cases (array_name_faults c) (declared_faults t c) e b) [
              | inl a ↦ let w = repeated_from (TwoNames c.name) (map (λ a. a.name) c.arrays) e a in subst (FaultIn t c) (sym w.2) (two_arrays w.0 w.1)
              | inr b ↦
                  elim (Contains-append_cases ports (arrays ++ (body ++ kind_faults c)) e b) [
                    | inl a ↦ uses_sound (flat_map (port_uses c.params) c.ports) e port_use_there a
                    | inr b ↦
                        elim (Contains-append_cases arrays (body ++ kind_faults c) e b) [
                          | inl a ↦ let w = Contains-from_flat_map (array_faults t c c.params) c.arrays e a in array_sound w.0 e w.1 w.2
                          | inr b ↦
                              elim (Contains-append_cases body (kind_faults c) e b) [
                                | inl a ↦ uses_sound (body_uses c.params c.body) e body_use_there a
                                | inr b ↦ kind_by (is_primitive c) e refl b
                              ]
                        ]
                  ]
            ]
      ]

-- each fault that a check may find stands in the description
pub unit_sound : (t : Tree) (e : TypeError) → Contains (unit_faults t) e → HasFault t e
unit_sound t e h =
    elim (Contains-append_cases (directory_faults t) (flat_map (component_faults t) t) e h) [
      | inl a ↦
          elim (Contains-append_cases (repeat_faults TwoComponents (map (λ c. c.name) t)) (flat_map port_faults t) e a) [
            | inl b ↦ let w = repeated_from TwoComponents (map (λ c. c.name) t) e b in subst (HasFault t) (sym w.2) (two_components w.0 w.1)
            | inr b ↦
                let w = Contains-from_flat_map port_faults t e b in
                let r = repeated_from (TwoNames (w.0).name) (map (λ p. p.name) (w.0).ports) e w.2 in
                within w.0 e w.1 (subst (FaultIn t w.0) (sym r.2) (two_ports r.0 r.1))
          ]
      | inr b ↦ let w = Contains-from_flat_map (component_faults t) t e b in within w.0 e w.1 (component_sound t w.0 e w.2)
    ]
