-- The paths of the nodes of a text's graph are paths of scripts.
use Rattle.std.proofs.Common.{◌≡◌, ◌⊎◌, ◌<◌, ◌^◌, ◌≤◌, ◌+◌, ◌-◌, ◌==◌, ◌&&◌, ℕ, suc, ℤ, pos, negsuc, Bool, true, false, not, nat_eq, inl, inr, List, [], ◌∷◌, ◌++◌, map, All, Option, Some, None, take, drop, length, get_or, refl, sym, ap, subst, ◌∙◌, arith}
use Rattle.std.specs.Prelude.{◌≤ℤ◌, ◌+ℤ◌, ◌-ℤ◌, ◌*ℤ◌, int_le, int_lt, int_div, int_rem, nat_le, if◌then◌else◌, slice_get, slice_index, option_map, option_and_then, find, bytes_eq}
use Rattle.std.specs.List.{AllByRecursion, AllPass, Contains, flat_map, list_all, starts_with, zip}
use Rattle.std.specs.Option.{option_map_or}
use Rattle.std.specs.Ordering.{int_eq}
use Rattle.std.proofs.lemmas.Int.{ints}
use Rattle.config_graph.specs.declared.kind.Kind.{Kind}
use Rattle.config_graph.specs.Kinds.{kind_named}
use Rattle.std.proofs.lemmas.Bool.{and_parts, false≢true}
use Rattle.std.proofs.lemmas.Bool.Decides.{nat_tests}
use Rattle.std.proofs.lemmas.List.{length-take, take_all}
use Rattle.std.proofs.lemmas.List.Elements.{Contains-append_left, Contains-append_right, Contains-append_cases}
use Rattle.std.proofs.lemmas.List.Sums.{list_all-from_AllPass}
use Rattle.std.proofs.lemmas.Option.{none-some, same_Some, slice_get-get_or}
use Rattle.base.proofs.ContainsLaws.{Contains-at, Contains-cons_cases, Contains-flat_map, Contains-from_filter_map, Contains-from_flat_map, Contains-from_map, Contains-here, Contains-map, Contains-nil, Contains-one}
use Rattle.base.proofs.FindLaws.{Contains-find}
use Rattle.base.proofs.OptionLaws.{made_of_two, option_map_some}
use Rattle.config_graph.specs.Graph.{Graph}
use Rattle.config_graph.specs.declared.node.Node.{Node}
use Rattle.darwin_lexer.specs.declared.front.Front.{Front}
use Rattle.darwin_lexer.specs.declared.front.Front.TheVariants.{Lexeme}
use Rattle.darwin_lexer.specs.declared.token.Token.{Token}
use Rattle.darwin_lexer.specs.declared.token.TokenKind.{TokenKind}
use Rattle.darwin_lexer.specs.declared.token.TokenKind.TheVariants as kinds
use Rattle.darwin_lexer.specs.declared.token.At.{At}
use Rattle.darwin_lexer.specs.Fronts.{front_of}
use Rattle.darwin_lexer.specs.Keywords.{begins_name, continues_name}
use Rattle.darwin_lexer.specs.Naming.{IsName}
use Rattle.darwin_lexer.specs.Spelling.{IsToken, IsLongest, Means, SpellsName}
use Rattle.darwin_lexer.specs.Tokens.{bytes_of, token_at, Tokenizes, ended, gap, token, IsTokens}
use Rattle.darwin_parser.specs.Grammar.{IsUnit}
use Rattle.darwin_parser.specs.Tree as trees
use Rattle.darwin_parser.specs.Tree.{Name, Expr, num, var, neg, op, PortDecl, ArrayDecl, single, element, Stmt, Stmts, Component, Tree}
use Rattle.darwin_types.specs.Scope.{array_named, component_named, is_primitive}
use Rattle.darwin_walk.specs.declared.fault.Fault.{Fault}
use Rattle.darwin_walk.specs.declared.fault.Fault.TheVariants as shown
use Rattle.darwin_walk.specs.Instance.{values, integers, element_arguments, Child, children, children_of, element_child, index_fault, value_fault, element_index_faults, faults_of, instance_faults}
use Rattle.darwin_walk.specs.Reached.{Reached, valued, turn, made, bound, range, port_size, array_size, reached_in, reached_in_component, with_variable}
use Rattle.darwin_walk.specs.Value.{Value, integer, out_of_range, zero_divisor, Variable, Env, exact, truth, is_true, integer_operation, is_decided, on_integer, operation, parameters, value}
use Rattle.darwin_parser.specs.declared.tree.Op.{Op}
use Rattle.darwin_parser.specs.declared.tree.Op.TheVariants.{Or, And, Eq, Ne, Lt, Le, Gt, Ge, Add, Sub, Mul, Div, Rem}
use Rattle.darwin_walk.specs.Reaches as steps
use Rattle.darwin_walk.specs.Reaches.{Reaches, ReachedIn, reached_at}
use Rattle.elaborator.specs.PathBytes.{is_path_byte}
use Rattle.elaborator.specs.Instances.{Instance, Inst, at_top, below, child_path, children_in, instance_of, is_expanded, made_in, top_instance}
use Rattle.elaborator.specs.Faults.{faults_in, own_faults, kind_argument_faults}
use Rattle.elaborator.specs.Faults.Faults.{out_of_range as out_of_range_holds, zero_divisor as zero_divisor_holds, bad_index as bad_index_holds}
use Rattle.elaborator.specs.Elaboration.{ElaboratesTo, HasNoFault}
use Rattle.elaborator.specs.Graph.{natural, node_of}
use Rattle.elaborator.specs.declared.error.ElabError.TheVariants as error
use Rattle.elaborator.proofs.NameLaws.{AreSpelled, IsComponentSpelled, child_named, tree_spelled}
use Rattle.change_script.specs.Paths.{is_name}
use Rattle.change_script.specs.StatementTexts.{IsInteger, IsWrittenPath}
use Rattle.change_script_laws.proofs.SegmentLemmas.{IsGood, IsIndex, name_plain, path_bytes_word, within_good}

-- ---- names among tokens are names by themselves

no_comment : (name : List ℕ) (second : ℕ) → begins_name (slice_index name 0) ≡ true → starts_with nat_eq name (47 ∷ second ∷ []) ≡ false
no_comment [] second begins = refl
no_comment (b ∷ bytes) second begins = let other : nat_eq 47 b ≡ false = grind (arith, nat_tests) in ap (λ x. x && starts_with nat_eq bytes (second ∷ [])) other

module _ (spelled : (text : List ℕ) → Means text (front_of text)) (one_meaning : (text : List ℕ) (front : Front) → Means text front → front ≡ front_of text) where
  name_alone : (rest : List ℕ) (n : ℕ) → front_of rest ≡ Lexeme kinds.Name n → IsName (take n rest)
  name_alone rest n is =
      let name : List ℕ = take n rest in
      let here : IsToken rest kinds.Name n = subst (Means rest) is (spelled rest) in
      let len : length name ≡ n = let low = here.0.within in omega (arith, length-take n rest) in
      let spells : SpellsName name = here.0.spelled in
      let all : take (length name) name ≡ name = take_all (length name) name (omega arith) in
      let longest : IsLongest name kinds.Name (length name) = record {
        no_line_comment = no_comment name 47 spells.begins;
        no_block_comment = no_comment name 42 spells.begins;
        within = omega arith;
        spelled = subst SpellsName (sym all) spells;
        longest = λ other more low high. absurd (omega arith);
      } in
      sym (one_meaning name (Lexeme kinds.Name (length name)) (longest, subst (λ m. m ≤ 64) (sym len) here.1))

  token_alone : (text : List ℕ) (offset n : ℕ) (kind : TokenKind) → front_of (drop offset text) ≡ Lexeme kind n → kind ≡ kinds.Name → IsName (bytes_of text (token_at text offset kind n))
  token_alone text offset n kind is named =
      let here = name_alone (drop offset text) n (is ∙ ap (λ k. Lexeme k n) named) in
      let span : n ≡ offset + n - offset = omega arith in
      subst (λ m. IsName (take m (drop offset text))) span here

  tokens_alone : (text : List ℕ) (from to : ℕ) (tokens : List Token) → Tokenizes text from to tokens → AreSpelled IsName text tokens
  tokens_alone text _ _ _ (ended from) t there named = absurd (Contains-nil t there)
  tokens_alone text _ _ _ (gap from n to tokens is rest) t there named = tokens_alone text (from + n) to tokens rest t there named
  tokens_alone text _ _ _ (token from n to kind tokens is rest) t there named =
      elim (Contains-cons_cases (token_at text from kind n) tokens t there) [
        | inl same ↦ subst (λ u. IsName (bytes_of text u)) (sym same) (token_alone text from n kind is (sym (ap (λ (u : Token). u.kind) same) ∙ named))
        | inr later ↦ tokens_alone text (from + n) to tokens rest t later named
      ]

  -- a name is written in letters, digits and `_`
  name_letters : (name : List ℕ) → IsName name → list_all continues_name name ≡ true
  name_letters name is =
      let here : IsToken name kinds.Name (length name) = subst (Means name) is (spelled name) in
      let goes_on : AllPass continues_name name = subst (AllPass continues_name) (take_all (length name) name (omega arith)) here.0.spelled.goes_on in
      list_all-from_AllPass continues_name name goes_on

-- ---- values are integers of the language, where the variables are

abbrev IsSmall : Value → Type 0
IsSmall (integer z) = IsInteger z
IsSmall _ = Unit {0}

abbrev InRange : Env → Type 0
InRange env = (v : Variable) → Contains env v → IsInteger v.value

low_enough : (n : ℕ) → nat_le n 2147483647 ≡ true → n < 2 ^ 31
low_enough n h = grind (arith, nat_tests)

exact_small : (z : ℤ) → IsSmall (exact z)
exact_small (pos n) = by (int_le (negsuc 2147483647) (pos n) && int_le (pos n) (pos 2147483647)) refl
  where
    by : (b : Bool) → (int_le (negsuc 2147483647) (pos n) && int_le (pos n) (pos 2147483647)) ≡ b → IsSmall (if b then integer (pos n) else out_of_range)
    by true is = low_enough n (and_parts (int_le (negsuc 2147483647) (pos n)) (int_le (pos n) (pos 2147483647)) is).1
    by false is = tt
exact_small (negsuc n) = by (int_le (negsuc 2147483647) (negsuc n) && int_le (negsuc n) (pos 2147483647)) refl
  where
    by : (b : Bool) → (int_le (negsuc 2147483647) (negsuc n) && int_le (negsuc n) (pos 2147483647)) ≡ b → IsSmall (if b then integer (negsuc n) else out_of_range)
    by true is = low_enough n (and_parts (int_le (negsuc 2147483647) (negsuc n)) (int_le (negsuc n) (pos 2147483647)) is).0
    by false is = tt

truth_small : (b : Bool) → IsSmall (truth b)
truth_small true = omega arith
truth_small false = omega arith

divided : (b : Bool) (z : ℤ) → IsSmall (if b then zero_divisor else exact z)
divided true z = tt
divided false z = exact_small z

integers_small : (o : Op) (x y : ℤ) → IsSmall (integer_operation o x y)
integers_small Or x y = truth_small (is_true y)
integers_small And x y = truth_small (is_true y)
integers_small Eq x y = truth_small (int_eq x y)
integers_small Ne x y = truth_small (not (int_eq x y))
integers_small Lt x y = truth_small (int_lt x y)
integers_small Le x y = truth_small (int_le x y)
integers_small Gt x y = truth_small (int_lt y x)
integers_small Ge x y = truth_small (int_le y x)
integers_small Add x y = exact_small (x +ℤ y)
integers_small Sub x y = exact_small (x -ℤ y)
integers_small Mul x y = exact_small (x *ℤ y)
integers_small Div x y = divided (int_eq y (pos 0)) (int_div x y)
integers_small Rem x y = divided (int_eq y (pos 0)) (int_rem x y)

on_small : (v : Value) (f : ℤ → Value) → ((z : ℤ) → IsSmall (f z)) → IsSmall (on_integer v f)
on_small (integer z) f small = small z
on_small out_of_range f small = tt
on_small zero_divisor f small = tt

operation_small : (o : Op) (left right : Value) → IsSmall (operation o left right)
operation_small o left right = on_small left (λ x. if is_decided o x then truth (is_true x) else on_integer right (integer_operation o x)) (λ x. by x (is_decided o x))
  where
    by : (x : ℤ) (b : Bool) → IsSmall (if b then truth (is_true x) else on_integer right (integer_operation o x))
    by x true = truth_small (is_true x)
    by x false = on_small right (integer_operation o x) (λ y. integers_small o x y)

value_small : (e : Expr) (env : Env) → InRange env → IsSmall (value e env)
value_small (num n) env all = exact_small (pos n)
value_small (var name) env all = by (find (λ v. bytes_eq name v.name) env) refl
  where
    by : (o : Option Variable) → find (λ v. bytes_eq name v.name) env ≡ o → IsInteger (option_map_or (λ v. v.value) o (pos 0))
    by None is = omega arith
    by (Some v) is = all v (Contains-find (λ v. bytes_eq name v.name) env v is)
value_small (neg e) env all = on_small (value e env) (λ z. exact (pos 0 -ℤ z)) (λ z. exact_small (pos 0 -ℤ z))
value_small (op o left right) env all = operation_small o (value left env) (value right env)

is_small : (v : Value) (z : ℤ) → v ≡ integer z → IsSmall v → IsInteger z
is_small v z is small = subst IsSmall is small

-- ---- the variables of what is reached

between : (a z b : ℤ) → IsInteger a → IsInteger b → a ≤ℤ z → z ≤ℤ b → IsInteger z
between a (pos n) (pos b) low high from to = omega (arith, ints)
between a (pos n) (negsuc b) low high from to = absurd (omega (arith, ints))
between (pos a) (negsuc n) b low high from to = absurd (omega (arith, ints))
between (negsuc a) (negsuc n) b low high from to = omega (arith, ints)

with_small : (env : Env) (name : Name) (z : ℤ) → InRange env → IsInteger z → InRange (with_variable env name z)
with_small env name z all small v there =
    elim (Contains-append_cases env (record { name = name; value = z } ∷ []) v there) [
      | inl before ↦ all v before
      | inr last ↦ subst (λ (w : Variable). IsInteger w.value) (sym (Contains-one _ v last)) small
    ]

reaches_small : (s : Stmt) (at : Env) (body : Stmts) (env : Env) → Reaches s at body env → InRange env → InRange at
reaches_small s at _ _ (steps.here rest) all = all
reaches_small s at _ _ (steps.later first rest env more) all = reaches_small s at rest env more all
reaches_small s at _ _ (steps.in_turn name low high body place rest env a b i is_low is_high from to inner) all =
    let small = between a i b (is_small (value low env) a is_low (value_small low env all)) (is_small (value high env) b is_high (value_small high env all)) from to in
    reaches_small s at body (with_variable env name i) inner (with_small env name i all small)
reaches_small s at _ _ (steps.in_when test body place rest env z is other inner) all = reaches_small s at body env inner all

abbrev variables_of : Reached → Env
variables_of (made entry env) = env
variables_of _ = []

none_in_range : InRange []
none_in_range v there = absurd (Contains-nil v there)

module _ (reached : (c : Component) (env : Env) (r : Reached) → Contains (reached_in_component c env) r
    → ((p : PortDecl) × Contains c.ports p × Contains (port_size env p) r) ⊎ ((a : ArrayDecl) × Contains c.arrays a × (r ≡ array_size env a)) ⊎ ReachedIn c.body env r) where
  statement_small : (s : Stmt) (at : Env) (r : Reached) → Contains (reached_at s at) r → InRange at → InRange (variables_of r)
  statement_small (trees.inst entry) at r there all = subst (λ x. InRange (variables_of x)) (sym (Contains-one _ r there)) all
  statement_small (trees.bind entry) at r there all = subst (λ x. InRange (variables_of x)) (sym (Contains-one _ r there)) none_in_range
  statement_small (trees.forall name low high body place) at r there all =
      elim (Contains-cons_cases (valued low at place) (valued high at place ∷ map (λ i. turn) (range (value low at) (value high at))) r there) [
        | inl first ↦ subst (λ x. InRange (variables_of x)) (sym first) none_in_range
        | inr rest ↦ elim (Contains-cons_cases (valued high at place) (map (λ i. turn) (range (value low at) (value high at))) r rest) [
          | inl second ↦ subst (λ x. InRange (variables_of x)) (sym second) none_in_range
          | inr turns ↦
              let w = Contains-from_map (λ (i : ℤ). turn) (range (value low at) (value high at)) r turns in
              subst (λ x. InRange (variables_of x)) (sym w.2) none_in_range
        ]
      ]
  statement_small (trees.when test body place) at r there all = subst (λ x. InRange (variables_of x)) (sym (Contains-one _ r there)) none_in_range

  port_none : (env : Env) (p : PortDecl) (r : Reached) → Contains (port_size env p) r → InRange (variables_of r)
  port_none env p r there = by p.size there
    where
      by : (o : Option Expr) → Contains (option_map_or (λ size. valued size env p.at ∷ []) o []) r → InRange (variables_of r)
      by None there = absurd (Contains-nil r there)
      by (Some size) there = subst (λ x. InRange (variables_of x)) (sym (Contains-one _ r there)) none_in_range

  reached_small : (c : Component) (env : Env) (r : Reached) → InRange env → Contains (reached_in_component c env) r → InRange (variables_of r)
  reached_small c env r all there =
      elim (reached c env r there) [
        | inl port ↦ port_none env port.0 r port.2
        | inr other ↦ elim other [
          | inl array ↦ subst (λ x. InRange (variables_of x)) (sym array.2) none_in_range
          | inr body ↦ statement_small body.statement body.variables r body.there (reaches_small body.statement body.variables c.body env body.reaches all)
        ]
      ]

  -- ---- arguments, and what an entry makes

  values_small : (es : List Expr) (env : Env) → InRange env → AllByRecursion IsSmall (values es env)
  values_small [] env all = tt
  values_small (e ∷ es) env all = (value_small e env all, values_small es env all)

  some_small : (vs : List Value) (zs : List ℤ) → AllByRecursion IsSmall vs → integers vs ≡ Some zs → AllByRecursion IsInteger zs
  some_small [] zs all is = subst (AllByRecursion IsInteger) (same_Some [] zs is) tt
  some_small (integer z ∷ vs) zs all is =
      let w = option_map_some (λ (ys : List ℤ). z ∷ ys) (integers vs) zs is in
      subst (AllByRecursion IsInteger) w.2 (all.0, some_small vs w.0 all.1 w.1)
  some_small (out_of_range ∷ vs) zs all is = absurd (none-some zs is)
  some_small (zero_divisor ∷ vs) zs all is = absurd (none-some zs is)

  element_small : (env : Env) (array : ArrayDecl) (args : Option (List Expr)) (at : Env) → InRange env → InRange at → AllByRecursion IsSmall (element_arguments env array args at)
  element_small env array (Some args) at all here = values_small args at here
  element_small env array None at all here = by array.args
    where
      by : (o : Option (List Expr)) → AllByRecursion IsSmall (option_map_or (λ args. values args env) o [])
      by None = tt
      by (Some args) = values_small args env all

  child_small : (c : Component) (env : Env) (child : Child) (zs : List ℤ) → InRange env → Contains (children c env) child → child.arguments ≡ Some zs → AllByRecursion IsInteger zs
  child_small c env child zs all there is =
      let w = Contains-from_flat_map (children_of c env) (reached_in_component c env) child there in
      by w.0 (reached_small c env w.0 all w.1) w.2
    where
      by_element : (place : At) (args : Option (List Expr)) (at : Env) (o : Option ArrayDecl) (v : Value) → InRange at → Contains (element_child o v (λ array. element_arguments env array args at) place) child → AllByRecursion IsInteger zs
      by_element place args at None v here there = absurd (Contains-nil child there)
      by_element place args at (Some array) out_of_range here there = absurd (Contains-nil child there)
      by_element place args at (Some array) zero_divisor here there = absurd (Contains-nil child there)
      by_element place args at (Some array) (integer i) here there =
          some_small (element_arguments env array args at) zs (element_small env array args at all here) (sym (ap (λ (x : Child). x.arguments) (Contains-one _ child there)) ∙ is)

      by : (r : Reached) → InRange (variables_of r) → Contains (children_of c env r) child → AllByRecursion IsInteger zs
      by (made (single name component args place) at) here there =
          some_small (values args at) zs (values_small args at here) (sym (ap (λ (x : Child). x.arguments) (Contains-one _ child there)) ∙ is)
      by (made (element name index args place) at) here there = by_element place args at (array_named c name) (value index at) here there
      by (valued e at place) here there = absurd (Contains-nil child there)
      by turn here there = absurd (Contains-nil child there)
      by (bound b at) here there = absurd (Contains-nil child there)

  parameters_small : (names : List Name) (zs : List ℤ) → AllByRecursion IsInteger zs → InRange (map (λ p. record { name = p.0; value = p.1 }) (zip names zs))
  parameters_small [] zs all v there = absurd (Contains-nil v there)
  parameters_small (name ∷ names) [] all v there = absurd (Contains-nil v there)
  parameters_small (name ∷ names) (z ∷ zs) all v there =
      elim (Contains-cons_cases (record { name = name; value = z }) (map (λ p. record { name = p.0; value = p.1 }) (zip names zs)) v there) [
        | inl first ↦ subst (λ (w : Variable). IsInteger w.value) (sym first) all.0
        | inr rest ↦ parameters_small names zs all.1 v rest
      ]

  -- ---- an index that is no fault

  small_index : (z s : ℤ) → IsInteger s → (int_le (pos 0) z && int_lt z s) ≡ true → IsIndex (Some z)
  small_index (negsuc n) s small is = cc
  small_index (pos n) (pos s) small is = let low = and_parts (int_le (pos 0) (pos n)) (int_lt (pos n) (pos s)) is in grind (arith, nat_tests)
  small_index (pos n) (negsuc s) small is = let low = and_parts (int_le (pos 0) (pos n)) (int_lt (pos n) (negsuc s)) is in let none : false ≡ true = low.1 in cc

  module _ (c : Component) (env : Env) (all : InRange env) (clear : (f : Fault) → Contains (instance_faults c env) f → ⊥) where
    -- what a reached entry or size shows is a fault of the instance
    shown_there : (r : Reached) (f : Fault) → Contains (reached_in_component c env) r → Contains (faults_of c env r) f → ⊥
    shown_there r f there fault = clear f (Contains-flat_map (faults_of c env) (reached_in_component c env) r f there fault)

    size_there : (array : ArrayDecl) → Contains c.arrays array → Contains (reached_in_component c env) (array_size env array)
    size_there array there =
        Contains-append_left (flat_map (port_size env) c.ports ++ map (array_size env) c.arrays) (reached_in c.body env) (array_size env array)
        (Contains-append_right (flat_map (port_size env) c.ports) (map (array_size env) c.arrays) (array_size env array) (Contains-map (array_size env) c.arrays array there))

    index_is : (array : ArrayDecl) (place : At) (z : ℤ) → Contains c.arrays array → ((f : Fault) → Contains (index_fault place (value array.size env) (integer z)) f → ⊥) → IsIndex (Some z)
    index_is array place z there none = by (value array.size env) refl none
      where
        tested : (s : ℤ) (b : Bool) → (int_le (pos 0) z && int_lt z s) ≡ b → IsInteger s → ((f : Fault) → Contains (if b then [] else shown.BadIndex place ∷ []) f → ⊥) → IsIndex (Some z)
        tested s true is small none = small_index z s small is
        tested s false is small none = absurd (none (shown.BadIndex place) (Contains-here (shown.BadIndex place) []))

        by : (v : Value) → value array.size env ≡ v → ((f : Fault) → Contains (index_fault place v (integer z)) f → ⊥) → IsIndex (Some z)
        by (integer s) is none = tested s (int_le (pos 0) z && int_lt z s) refl (is_small (value array.size env) s is (value_small array.size env all)) none
        by out_of_range is none =
            absurd (shown_there (array_size env array) (shown.OutOfRange array.at) (size_there array there) (subst (λ v. Contains (value_fault array.at v) (shown.OutOfRange array.at)) (sym is) (Contains-here (shown.OutOfRange array.at) [])))
        by zero_divisor is none =
            absurd (shown_there (array_size env array) (shown.ZeroDivisor array.at) (size_there array there) (subst (λ v. Contains (value_fault array.at v) (shown.ZeroDivisor array.at)) (sym is) (Contains-here (shown.ZeroDivisor array.at) [])))

    child_index : (child : Child) → Contains (children c env) child → IsIndex child.segment.index
    child_index child there =
        let w = Contains-from_flat_map (children_of c env) (reached_in_component c env) child there in by w.0 w.1 w.2
      where
        by_element :
            (name : Name) (index : Expr) (args : Option (List Expr)) (place : At) (at : Env) (o : Option ArrayDecl) (v : Value)
            → array_named c name ≡ o → ((f : Fault) → Contains (value_fault place v ++ option_map_or (λ array. index_fault place (value array.size env) v) o []) f → ⊥)
            → Contains (element_child o v (λ array. element_arguments env array args at) place) child → IsIndex child.segment.index
        by_element name index args place at None v is none there = absurd (Contains-nil child there)
        by_element name index args place at (Some array) out_of_range is none there = absurd (Contains-nil child there)
        by_element name index args place at (Some array) zero_divisor is none there = absurd (Contains-nil child there)
        by_element name index args place at (Some array) (integer z) is none there =
            subst (λ (x : Child). IsIndex x.segment.index) (sym (Contains-one _ child there))
            (index_is array place z (Contains-find (λ a. bytes_eq name a.name) c.arrays array is) none)

        by : (r : Reached) → Contains (reached_in_component c env) r → Contains (children_of c env r) child → IsIndex child.segment.index
        by (made (single name component args place) at) reached_ there = subst (λ (x : Child). IsIndex x.segment.index) (sym (Contains-one _ child there)) tt
        by (made (element name index args place) at) reached_ there =
            by_element name index args place at (array_named c name) (value index at) refl
            (λ f fault. shown_there (made (element name index args place) at) f reached_ (Contains-append_left (element_index_faults c env name place (value index at)) _ f fault)) there
        by (valued e at place) reached_ there = absurd (Contains-nil child there)
        by turn reached_ there = absurd (Contains-nil child there)
        by (bound b at) reached_ there = absurd (Contains-nil child there)

  -- ---- instances

  children_there : (i : Instance) (child : Child) → Contains (children_in i) child → (is_expanded i ≡ true) × Contains (children i.component i.env) child
  children_there i child there = by (is_expanded i) refl there
    where
      by : (b : Bool) → is_expanded i ≡ b → Contains (if b then children i.component i.env else []) child → (is_expanded i ≡ true) × Contains (children i.component i.env) child
      by true is there = (is, there)
      by false is there = absurd (Contains-nil child there)

  record IsRight (tree : Tree) (i : Instance) : Type 0 where
    component : Contains tree i.component
    path : (i.path ≡ []) ⊎ IsGood i.path
    env : InRange i.env

  abbrev instance_by : Instance → Child → Component → List ℤ → Instance
  instance_by i child c arguments = record { path = child_path i child; depth = suc i.depth; component = c; env = parameters c arguments }

  module _
      (text : List ℕ) (tree : Tree) (name : Name) (arguments : List ℤ) (top : Instance)
      (letters : (word : List ℕ) → IsName word → list_all continues_name word ≡ true)
      (named : (word : List ℕ) → IsName word → is_name word ≡ true)
      (spelled : (c : Component) → Contains tree c → IsComponentSpelled IsName text c)
      (is_top : top_instance tree name arguments ≡ Some top) (clear : HasNoFault tree name arguments)
    where
      no_fault : (i : Instance) → Inst tree top i → is_expanded i ≡ true → (f : Fault) → Contains (instance_faults i.component i.env) f → ⊥
      no_fault i inst expanded f there = by f (Contains-append_left (own_faults tree i) _ f own)
        where
          own : Contains (own_faults tree i) f
          own = subst (λ b. Contains (if b then instance_faults i.component i.env ++ flat_map (kind_argument_faults tree) (children i.component i.env) else []) f) (sym expanded)
              (Contains-append_left (instance_faults i.component i.env) _ f there)

          by : (g : Fault) → Contains (faults_in tree i) g → ⊥
          by (shown.OutOfRange at) there = clear (error.OutOfRange i.path at) (out_of_range_holds i at (record { top = top; is_top = is_top; inst = inst }) there)
          by (shown.ZeroDivisor at) there = clear (error.ZeroDivisor i.path at) (zero_divisor_holds i at (record { top = top; is_top = is_top; inst = inst }) there)
          by (shown.BadIndex at) there = clear (error.BadIndex i.path at) (bad_index_holds i at (record { top = top; is_top = is_top; inst = inst }) there)

      -- the path of what is made is a path
      right_below : (i j : Instance) → Inst tree top i → IsRight tree i → Contains (made_in tree i) j → IsRight tree j × IsGood j.path
      right_below i j inst before there =
          let w = Contains-from_filter_map (instance_of tree i) (children_in i) j there in
          let child : Child = w.0 in
          let parts = made_of_two (instance_by i child) (component_named tree child.component) child.arguments j w.2 in
          let here = children_there i child w.1 in
          let is_named = child_named IsName text i.component i.env child (spelled i.component before.component) here.1 in
          let index = child_index i.component i.env before.env (no_fault i inst here.0) child here.1 in
          let good = subst (λ (x : Instance). IsGood x.path) parts.4 (within_good i.path child.segment before.path (named child.segment.name is_named) (name_plain child.segment.name (letters child.segment.name is_named)) index) in (
            record {
              component = subst (λ (x : Instance). Contains tree x.component) parts.4 (Contains-find (λ c. bytes_eq child.component c.name) tree parts.0 parts.2);
              path = inr good;
              env = subst (λ (x : Instance). InRange x.env) parts.4 (parameters_small parts.0.params parts.1 (child_small i.component i.env child parts.1 before.env here.1 parts.3));
            },
            good,
          )

      right : IsRight tree top → (i : Instance) → Inst tree top i → IsRight tree i
      right first _ at_top = first
      right first _ (below i j inst there) = (right_below i j inst (right first i inst) there).0

      good : IsRight tree top → (i : Instance) → Inst tree top i → (i ≡ top) ⊎ IsGood i.path
      good first _ at_top = inl refl
      good first _ (below i j inst there) = inr (right_below i j inst (right first i inst) there).1

      -- ---- nodes

      record IsStart : Type 0 where
        component : Component
        found : component_named tree name ≡ Some component
        composite : is_primitive component ≡ false
        is : top ≡ record { path = []; depth = 0; component = component; env = parameters component arguments }

      start : IsStart
      start = by (component_named tree name) refl is_top
        where
          at_start : Component → Instance
          at_start c = record { path = []; depth = 0; component = c; env = parameters c arguments }

          instance : Component → Option Instance
          instance c = if not (is_primitive c) && (length c.params == length arguments) then Some (at_start c) else None

          by_tests : (c : Component) → component_named tree name ≡ Some c → (p q : Bool) → is_primitive c ≡ p → (if not p && q then Some (at_start c) else None) ≡ Some top → IsStart
          by_tests c found false true composite same = record { component = c; found = found; composite = composite; is = sym (same_Some (at_start c) top same) }
          by_tests c found false false composite same = absurd (none-some top same)
          by_tests c found true q composite same = absurd (none-some top same)

          by : (o : Option Component) → component_named tree name ≡ o → option_and_then instance o ≡ Some top → IsStart
          by None found same = absurd (none-some top same)
          by (Some c) found same = by_tests c found (is_primitive c) (length c.params == length arguments) refl same

      node_parts : (i : Instance) (n : Node) → node_of i ≡ Some n → (is_primitive i.component ≡ true) × (n.path ≡ i.path)
      node_parts i n is = by (is_primitive i.component) (kind_named i.component.name) refl is
        where
          node : Kind → Node
          node kind = record { path = i.path; kind = kind; arg = option_map (λ v. natural v.value) (slice_get i.env 0) }

          by : (b : Bool) (o : Option Kind) → is_primitive i.component ≡ b → (if b then option_map node o else None) ≡ Some n → (is_primitive i.component ≡ true) × (n.path ≡ i.path)
          by true (Some kind) primitive is = (primitive, ap (λ (m : Node). m.path) (sym (same_Some (node kind) n is)))
          by true None primitive is = absurd (none-some n is)
          by false o primitive is = absurd (none-some n is)

      first_right : AllByRecursion IsInteger arguments → IsRight tree top
      first_right small = subst (IsRight tree) (sym start.is) (record {
        component = Contains-find (λ c. bytes_eq name c.name) tree start.component start.found;
        path = inl refl;
        env = parameters_small start.component.params arguments small;
      })

      node_good : AllByRecursion IsInteger arguments → (i : Instance) (n : Node) → Inst tree top i → node_of i ≡ Some n → IsGood n.path
      node_good small i n inst is =
          let parts = node_parts i n is in
          elim (good (first_right small) i inst) [
            | inl same ↦
                let composite : is_primitive i.component ≡ false = ap (λ (x : Instance). is_primitive x.component) (same ∙ start.is) ∙ start.composite in
                absurd (false≢true (sym composite ∙ parts.0))
            | inr path ↦ subst IsGood (sym parts.1) path
          ]

  pub paths_of_nodes :
      (spelled : (text : List ℕ) → Means text (front_of text)) (one_meaning : (text : List ℕ) (front : Front) → Means text front → front ≡ front_of text)
      → ((bytes : List ℕ) → IsName bytes → is_name bytes ≡ true)
      → ((text : List ℕ) (tokens : List Token) (tree : Tree) (name : Name) (arguments : List ℤ) (g : Graph) → IsTokens text tokens → IsUnit text tokens tree → ElaboratesTo tree name arguments g → All (λ n. AllPass is_path_byte n.path) g.nodes)
      → (text : List ℕ) (tokens : List Token) (tree : Tree) (name : Name) (arguments : List ℤ) (g : Graph) → IsTokens text tokens → IsUnit text tokens tree → AllByRecursion IsInteger arguments
      → HasNoFault tree name arguments → ElaboratesTo tree name arguments g → All (λ n. IsWrittenPath n.path) g.nodes
  paths_of_nodes spelled one_meaning named words text tokens tree name arguments g parted unit small clear elab k d low =
      let n : Node = get_or g.nodes k d in
      let is = (elab.is_elab.nodes_are n).0 (Contains-at g.nodes k n (slice_get-get_or g.nodes k d low)) in
      let alone = tree_spelled IsName text tokens tree (tokens_alone spelled one_meaning text 0 (length text) tokens parted) unit in
      let path = node_good text tree name arguments elab.top (name_letters spelled one_meaning) named alone elab.is_top clear small is.instance n is.is_instance is.is_node in
      let bytes = words text tokens tree name arguments g parted unit elab k d low in
      (path_bytes_word n.path (list_all-from_AllPass is_path_byte n.path bytes), path.is, path.fits)
