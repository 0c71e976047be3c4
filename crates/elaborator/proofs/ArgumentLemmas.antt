-- The argument of a node: it is there exactly where the kind has one, since an entry that makes an instance has as many
-- arguments as the component has parameters.
use Rattle.std.proofs.Common.{◌≡◌, ◌∙◌, suc, Bool, true, false, cond, ℤ, List, [], ◌∷◌, ◌++◌, Option, Some, None, length, map, refl, ap, sym, subst, inl, inr, arith}
use Rattle.std.specs.List.{Contains, flat_map, zip}
use Rattle.std.specs.Option.{option_map, option_or, option_map_or, unwrap_or}
use Rattle.std.proofs.lemmas.List.{length-map}
use Rattle.std.proofs.lemmas.Option.{none-some, same_Some}
use Rattle.std.proofs.lemmas.Slice.Zip.{length-zip}
use Rattle.std.proofs.lemmas.List.Elements.{Contains-append_left, Contains-append_right, Contains-append_cases}
use Rattle.darwin_lexer.specs.declared.token.At.{At}
use Rattle.darwin_parser.specs.Tree.{Name, Component, Expr, PortDecl, ArrayDecl, InstEntry, Stmt, Stmts}
use Rattle.darwin_parser.specs.Tree.InstEntry.{single, element}
use Rattle.darwin_parser.specs.Tree.Stmt.{inst, bind, forall, when}
use Rattle.darwin_parser.specs.Tree.Stmts.{end, then}
use Rattle.darwin_types.specs.Scope.{array_named, entries_of, entries_of_stmt, Instantiation, made_by}
use Rattle.darwin_walk.specs.Value.{Value, integer, out_of_range, zero_divisor, Variable, Env, parameters, value}
use Rattle.darwin_walk.specs.Reached.{Reached, valued, turn, made, bound, range, holds, with_variable, reached_by, reached_in, port_size, array_size, reached_in_component}
use Rattle.darwin_walk.specs.Instance.{Child, integers, values, element_arguments, element_child, children_of, children}
use Rattle.base.proofs.ContainsLaws.{Contains-cons_cases, Contains-from_flat_map, Contains-from_map, Contains-here, Contains-nil, Contains-one}
use Rattle.base.proofs.OptionLaws.{option_map_some}

-- ---- an entry that is reached stands in the body

-- the entry of what is reached, if it is one
abbrev entry_in : Reached → Option InstEntry
entry_in (made e env) = Some e
entry_in (valued e env at) = None
entry_in turn = None
entry_in (bound b env) = None

not_an_entry : (r : Reached) (e : InstEntry) (env : Env) → entry_in r ≡ None → made e env ≡ r → ⊥
not_an_entry r e env other same = none-some e (sym other ∙ ap entry_in (sym same))

where_true : (b : Bool) (rs : List Reached) (r : Reached) → Contains (cond b rs []) r → Contains rs r
where_true true rs r there = there
where_true false rs r there = absurd (Contains-nil r there)

-- what the turns of a `forall` reach
abbrev turns : Name → Expr → Expr → Stmts → Env → List Reached
turns x low high body env = flat_map (λ i. turn ∷ reached_in body (with_variable env x i)) (range (value low env) (value high env))

mutual
  entry_of_stmt : (s : Stmt) (env : Env) (e : InstEntry) (at : Env) → Contains (reached_by s env) (made e at) → Contains (entries_of_stmt s) e
  entry_of_stmt (inst entry) env e at there =
      subst (Contains (entry ∷ [])) (sym (same_Some e entry (ap entry_in (Contains-one (made entry env) (made e at) there)))) (Contains-here entry [])
  entry_of_stmt (bind b) env e at there = absurd (not_an_entry (bound b env) e at refl (Contains-one (bound b env) (made e at) there))
  entry_of_stmt (forall x low high body place) env e at there =
      elim (Contains-cons_cases (valued low env place) (valued high env place ∷ turns x low high body env) (made e at) there) [
        | inl same ↦ absurd (not_an_entry (valued low env place) e at refl same)
        | inr rest ↦
            elim (Contains-cons_cases (valued high env place) (turns x low high body env) (made e at) rest) [
              | inl same ↦ absurd (not_an_entry (valued high env place) e at refl same)
              | inr within_turns ↦
                  let w = Contains-from_flat_map (λ i. turn ∷ reached_in body (with_variable env x i)) (range (value low env) (value high env)) (made e at) within_turns in
                  elim (Contains-cons_cases turn (reached_in body (with_variable env x w.0)) (made e at) w.2) [
                    | inl same ↦ absurd (not_an_entry turn e at refl same)
                    | inr within ↦ entry_of body (with_variable env x w.0) e at within
                  ]
            ]
      ]
  entry_of_stmt (when test body place) env e at there =
      elim (Contains-cons_cases (valued test env place) (cond (holds (value test env)) (reached_in body env) []) (made e at) there) [
        | inl same ↦ absurd (not_an_entry (valued test env place) e at refl same)
        | inr rest ↦ entry_of body env e at (where_true (holds (value test env)) (reached_in body env) (made e at) rest)
      ]

  entry_of : (ss : Stmts) (env : Env) (e : InstEntry) (at : Env) → Contains (reached_in ss env) (made e at) → Contains (entries_of ss) e
  entry_of end env e at there = absurd (Contains-nil (made e at) there)
  entry_of (then s rest) env e at there =
      elim (Contains-append_cases (reached_by s env) (reached_in rest env) (made e at) there) [
        | inl here ↦ Contains-append_left (entries_of_stmt s) (entries_of rest) e (entry_of_stmt s env e at here)
        | inr later ↦ Contains-append_right (entries_of_stmt s) (entries_of rest) e (entry_of rest env e at later)
      ]

port_size_only : (env : Env) (p : PortDecl) (r : Reached) → Contains (port_size env p) r → entry_in r ≡ None
port_size_only env p r there = by p.size there
  where
    by : (o : Option Expr) → Contains (option_map_or (λ size. valued size env p.at ∷ []) o []) r → entry_in r ≡ None
    by None there = absurd (Contains-nil r there)
    by (Some size) there = ap entry_in (Contains-one (valued size env p.at) r there)

pub reached_entry : (c : Component) (env : Env) (e : InstEntry) (at : Env) → Contains (reached_in_component c env) (made e at) → Contains (entries_of c.body) e
reached_entry c env e at there =
    elim (Contains-append_cases (flat_map (port_size env) c.ports ++ map (array_size env) c.arrays) (reached_in c.body env) (made e at) there) [
      | inl size ↦
          elim (Contains-append_cases (flat_map (port_size env) c.ports) (map (array_size env) c.arrays) (made e at) size) [
            | inl port ↦
                let w = Contains-from_flat_map (port_size env) c.ports (made e at) port in
                absurd (none-some e (sym (port_size_only env w.0 (made e at) w.2)))
            | inr array ↦ let w = Contains-from_map (array_size env) c.arrays (made e at) array in absurd (not_an_entry (array_size env w.0) e at refl w.2)
          ]
      | inr body ↦ entry_of c.body env e at body
    ]

-- ---- what an entry makes has as many arguments as the entry

length-integers : (vs : List Value) (zs : List ℤ) → integers vs ≡ Some zs → length zs ≡ length vs
length-integers [] zs is = ap length (sym (same_Some [] zs is))
length-integers (integer z ∷ vs) zs is =
    let w = option_map_some (λ (ys : List ℤ). z ∷ ys) (integers vs) zs is in
    ap length (sym w.2) ∙ ap suc (length-integers vs w.0 w.1)
length-integers (out_of_range ∷ vs) zs is = absurd (none-some zs is)
length-integers (zero_divisor ∷ vs) zs is = absurd (none-some zs is)

length-values : (es : List Expr) (env : Env) (zs : List ℤ) → integers (values es env) ≡ Some zs → length zs ≡ length es
length-values es env zs is = length-integers (values es env) zs is ∙ length-map es (λ e. value e env)

-- the entry by which a child is made, and what it makes
pub record IsMadeBy (c : Component) (child : Child) (zs : List ℤ) : Type 0 where
  pub entry : InstEntry
  pub made_ : Instantiation
  pub stands : Contains (entries_of c.body) entry
  pub makes : made_by c entry ≡ Some made_
  pub component : child.component ≡ made_.component
  pub arguments : length zs ≡ length made_.args

length-element : (parameters : Env) (array : ArrayDecl) (args : Option (List Expr)) (env : Env) (zs : List ℤ) → integers (element_arguments parameters array args env) ≡ Some zs → length zs ≡ length (unwrap_or (option_or args array.args) [])
length-element parameters array (Some args) env zs is = length-values args env zs is
length-element parameters array None env zs is = by array.args is
  where
    by : (o : Option (List Expr)) → integers (option_map_or (λ args. values args parameters) o []) ≡ Some zs → length zs ≡ length (unwrap_or o [])
    by None is = length-integers [] zs is
    by (Some args) is = length-values args parameters zs is

pub made_by_entry : (c : Component) (env : Env) (child : Child) (zs : List ℤ) → Contains (children c env) child → child.arguments ≡ Some zs → IsMadeBy c child zs
made_by_entry c env child zs there is =
    let w = Contains-from_flat_map (children_of c env) (reached_in_component c env) child there in by w.0 w.1 w.2
  where
    by_single : (name component : Name) (args : List Expr) (place : At) (at : Env) → Contains (reached_in_component c env) (made (single name component args place) at) → Contains (children_of c env (made (single name component args place) at)) child → IsMadeBy c child zs
    by_single name component args place at reached_ there =
        let same = Contains-one _ child there in
        record {
          entry = single name component args place;
          made_ = record { name = name; component = component; args = args };
          stands = reached_entry c env (single name component args place) at reached_;
          makes = refl;
          component = ap (λ (x : Child). x.component) same;
          arguments = length-values args at zs (sym (ap (λ (x : Child). x.arguments) same) ∙ is);
        }

    by_element : (name : Name) (index : Expr) (args : Option (List Expr)) (place : At) (at : Env) → Contains (reached_in_component c env) (made (element name index args place) at) → (o : Option ArrayDecl) (v : Value) → array_named c name ≡ o → Contains (element_child o v (λ array. element_arguments env array args at) place) child → IsMadeBy c child zs
    by_element name index args place at reached_ None v named there = absurd (Contains-nil child there)
    by_element name index args place at reached_ (Some array) out_of_range named there = absurd (Contains-nil child there)
    by_element name index args place at reached_ (Some array) zero_divisor named there = absurd (Contains-nil child there)
    by_element name index args place at reached_ (Some array) (integer i) named there =
        let same = Contains-one _ child there in
        record {
          entry = element name index args place;
          made_ = record { name = name; component = array.component; args = unwrap_or (option_or args array.args) [] };
          stands = reached_entry c env (element name index args place) at reached_;
          makes = ap (option_map (λ (a : ArrayDecl). record { name = name; component = a.component; args = unwrap_or (option_or args a.args) [] })) named;
          component = ap (λ (x : Child). x.component) same;
          arguments = length-element env array args at zs (sym (ap (λ (x : Child). x.arguments) same) ∙ is);
        }

    by : (r : Reached) → Contains (reached_in_component c env) r → Contains (children_of c env r) child → IsMadeBy c child zs
    by (made (single name component args place) at) reached_ there = by_single name component args place at reached_ there
    by (made (element name index args place) at) reached_ there = by_element name index args place at reached_ (array_named c name) (value index at) refl there
    by (valued e at place) reached_ there = absurd (Contains-nil child there)
    by turn reached_ there = absurd (Contains-nil child there)
    by (bound b at) reached_ there = absurd (Contains-nil child there)

-- ---- the parameters of an instance

pub length-parameters : (c : Component) (zs : List ℤ) → length zs ≡ length c.params → length (parameters c zs) ≡ length c.params
length-parameters c zs same = length-map (zip c.params zs) variable ∙ grind (arith, length-zip c.params zs, same)
  where
    variable : Name × ℤ → Variable
    variable p = record { name = p.0; value = p.1 }
