-- What holds of each name among the tokens of a text holds of the names that its description gives to arrays and instances.
use Rattle.std.proofs.Common.{◌≡◌, ℕ, zero, suc, List, [], ◌∷◌, ◌++◌, fold, Option, Some, None, refl, sym, subst, inl, inr}
use Rattle.std.specs.Prelude.{⊤}
use Rattle.std.specs.List.{Contains, flat_map}
use Rattle.std.proofs.lemmas.List.Elements.{Contains-append_left, Contains-append_right, Contains-append_cases}
use Rattle.std.specs.Str.{bytes_eq}
use Rattle.base.proofs.ContainsLaws.{Contains-from_flat_map, Contains-here, Contains-nil, Contains-one, Contains-cons_cases}
use Rattle.base.proofs.FindLaws.{Contains-find}
use Rattle.darwin_lexer.specs.declared.token.At.{At}
use Rattle.darwin_lexer.specs.declared.token.Token.{Token}
use Rattle.darwin_lexer.specs.declared.token.TokenKind.TheVariants as kinds
use Rattle.darwin_lexer.specs.Tokens.{bytes_of}
use Rattle.darwin_parser.specs.Tree.{Name, ArrayDecl, InstEntry, single, element, Stmt, inst, bind, Component, Tree}
use Rattle.darwin_parser.specs.Language as lang
use Rattle.darwin_parser.specs.Language.{Lang, ◌>>=◌, ◌or◌}
use Rattle.darwin_parser.specs.Grammar as grammar
use Rattle.darwin_parser.specs.Grammar.{Item, ports, arrays, statements, ComponentParts, no_parts, with_item, body_of, IsUnit, IsUnitWithin}
use Rattle.darwin_types.specs.Scope.{array_named, entries_of, entries_of_stmt}
use Rattle.darwin_walk.specs.Value.{Value, integer, out_of_range, zero_divisor, Env, value}
use Rattle.darwin_walk.specs.Reached.{Reached, valued, turn, made as made_entry, bound, reached_in_component}
use Rattle.darwin_walk.specs.Instance.{Child, children, children_of, element_child}
use Rattle.elaborator.proofs.ArgumentLemmas.{reached_entry}

-- the names, and a text
module _ (Q : Name → Type 0) (text : List ℕ) where
  -- each name among these tokens is one
  abbrev pub AreSpelled : List Token → Type 0
  AreSpelled tokens = (t : Token) → Contains tokens t → t.kind ≡ kinds.Name → Q (bytes_of text t)

  -- ---- what a language makes of such tokens

  abbrev Makes : {A : Type 0} → Lang A → (A → Type 0) → Type 0
  Makes {A} L Q = (tokens : List Token) (a : A) → AreSpelled tokens → L tokens a → Q a

  abbrev AllOf : {A : Type 0} → (A → Type 0) → List A → Type 0
  AllOf {A} Q xs = (x : A) → Contains xs x → Q x

  anything : {A : Type 0} (L : Lang A) → Makes L (λ _. ⊤)
  anything L tokens a spelled made = tt

  made : {A : Type 0} (Q : A → Type 0) (a : A) → Q a → Makes (lang.give a) Q
  made Q a holds tokens b spelled (none, same) = subst Q (sym same) holds

  next : {A B : Type 0} {L : Lang A} {M : A → Lang B} (Q : A → Type 0) {R : B → Type 0} → Makes L Q → ((a : A) → Q a → Makes (M a) R) → Makes (L >>= M) R
  next Q first second tokens b spelled j =
      let whole : AreSpelled (j.front ++ j.rest) = subst AreSpelled j.whole spelled in
      let holds = first j.front j.value (λ t there. whole t (Contains-append_left j.front j.rest t there)) j.begins in
      second j.value holds j.rest b (λ t there. whole t (Contains-append_right j.front j.rest t there)) j.goes_on

  -- the same, where nothing is wanted of what comes first
  after : {A B : Type 0} {L : Lang A} {M : A → Lang B} {R : B → Type 0} → ((a : A) → Makes (M a) R) → Makes (L >>= M) R
  after second = next (λ _. ⊤) (anything _) (λ a _. second a)

  either : {A : Type 0} {L M : Lang A} {Q : A → Type 0} → Makes L Q → Makes M Q → Makes (L or M) Q
  either first second tokens a spelled (inl l) = first tokens a spelled l
  either first second tokens a spelled (inr m) = second tokens a spelled m

  cons_all : {A : Type 0} (Q : A → Type 0) (x : A) (xs : List A) → Q x → AllOf Q xs → AllOf Q (x ∷ xs)
  cons_all Q x xs here later y there = elim (Contains-cons_cases x xs y there) [ inl same ↦ subst Q (sym same) here | inr rest ↦ later y rest ]

  append_all : {A : Type 0} (Q : A → Type 0) (xs ys : List A) → AllOf Q xs → AllOf Q ys → AllOf Q (xs ++ ys)
  append_all Q xs ys first second y there = elim (Contains-append_cases xs ys y there) [ inl here ↦ first y here | inr later ↦ second y later ]

  many_of : {A : Type 0} {L : Lang A} (Q : A → Type 0) → Makes L Q → Makes (lang.many L) (AllOf Q)
  many_of Q each tokens [] spelled l = λ x there. absurd (Contains-nil x there)
  many_of {L = L} Q each tokens (a ∷ others) spelled j =
      let whole : AreSpelled (j.front ++ j.rest) = subst AreSpelled j.whole spelled in
      let here = each j.front j.value (λ t there. whole t (Contains-append_left j.front j.rest t there)) j.begins in
      let later = many_of {L = L} Q each j.rest others (λ t there. whole t (Contains-append_right j.front j.rest t there)) j.goes_on.1 in
      cons_all Q a others (subst Q j.goes_on.0 here) later

  some_of : {A : Type 0} {L : Lang A} (Q : A → Type 0) → Makes L Q → Makes (lang.some L) (AllOf Q)
  some_of Q each = next Q each (λ first here. next (AllOf Q) (many_of Q each) (λ others later. made (AllOf Q) (first ∷ others) (cons_all Q first others here later)))

  named : Makes (lang.token kinds.Name) (λ t. Q (bytes_of text t))
  named tokens t spelled (whole, kind) = spelled t (subst (λ ts. Contains ts t) (sym whole) (Contains-here t [])) kind

  -- ---- productions

  abbrev pub IsEntrySpelled : InstEntry → Type 0
  IsEntrySpelled (single x component args at) = Q x
  IsEntrySpelled (element x index args at) = ⊤

  abbrev IsStmtSpelled : Stmt → Type 0
  IsStmtSpelled s = AllOf IsEntrySpelled (entries_of_stmt s)

  abbrev IsArraySpelled : ArrayDecl → Type 0
  IsArraySpelled a = Q a.name

  -- the names of a component's arrays and single instances are written so
  pub record IsComponentSpelled (c : Component) : Type 0 where
    pub arrays : AllOf IsArraySpelled c.arrays
    pub entries : AllOf IsEntrySpelled (entries_of c.body)

  body_spelled : (ss : List Stmt) → AllOf IsStmtSpelled ss → AllOf IsEntrySpelled (entries_of (body_of ss))
  body_spelled [] all = λ e there. absurd (Contains-nil e there)
  body_spelled (s ∷ ss) all =
      append_all IsEntrySpelled (entries_of_stmt s) (entries_of (body_of ss)) (all s (Contains-here s ss))
      (body_spelled ss (λ x there. all x (Contains-append_right (s ∷ []) ss x there)))

  one_statement : (s : Stmt) → IsStmtSpelled s → AllOf IsStmtSpelled (s ∷ [])
  one_statement s holds x there = subst IsStmtSpelled (sym (Contains-one s x there)) holds

  module _ (operands : ℕ) where
    entry_made : Makes (grammar.instentry text operands) IsEntrySpelled
    unfolding grammar.instentry
    entry_made = either
        (next (λ t. Q (bytes_of text t)) named (λ t holds. after (λ _. after (λ component. after (λ given. after (λ _. made IsEntrySpelled _ holds))))))
        (after (λ t. after (λ index. after (λ given. after (λ _. made IsEntrySpelled _ tt)))))

    instances_made : Makes (grammar.instances text operands) (AllOf IsStmtSpelled)
    unfolding grammar.instances
    instances_made = after (λ _. some_of IsStmtSpelled (next IsEntrySpelled entry_made (λ e holds. made IsStmtSpelled (inst e) (λ x there. subst IsEntrySpelled (sym (Contains-one e x there)) holds))))

    bindings_made : Makes (grammar.bindings text operands) (AllOf IsStmtSpelled)
    unfolding grammar.bindings
    bindings_made = after (λ _. some_of IsStmtSpelled (after (λ b. made IsStmtSpelled (bind b) (λ x there. absurd (Contains-nil x there)))))

    body_made : (statement : Lang (List Stmt)) → Makes statement (AllOf IsStmtSpelled) → Makes (grammar.body_over statement) (AllOf IsStmtSpelled)
    unfolding grammar.body_over grammar.block_body
    body_made statement each = either
        (after (λ _. next (AllOf (AllOf IsStmtSpelled)) (many_of (AllOf IsStmtSpelled) each) (λ all holds. after (λ _. made (AllOf IsStmtSpelled) _ (flat all holds)))))
        each
      where
        flat : (all : List (List Stmt)) → AllOf (AllOf IsStmtSpelled) all → AllOf IsStmtSpelled (flat_map (λ list. list) all)
        flat all holds s there = let w = Contains-from_flat_map (λ (list : List Stmt). list) all s there in holds w.0 w.1 s w.2

    block_made : (statement : Lang (List Stmt)) → Makes statement (AllOf IsStmtSpelled) → Makes (grammar.block_over text operands statement) (AllOf IsStmtSpelled)
    unfolding grammar.block_over grammar.forall_over grammar.when_over
    block_made statement each = next IsStmtSpelled (either
        (after (λ t. after (λ x. after (λ _. after (λ low. after (λ _. after (λ high. next (AllOf IsStmtSpelled) (body_made statement each) (λ inner holds. made IsStmtSpelled _ (body_spelled inner holds)))))))))
        (after (λ t. after (λ test. next (AllOf IsStmtSpelled) (body_made statement each) (λ inner holds. made IsStmtSpelled _ (body_spelled inner holds))))))
        (λ s holds. made (AllOf IsStmtSpelled) (s ∷ []) (one_statement s holds))

    statement_made : (nesting : ℕ) → Makes (grammar.statement text operands nesting) (AllOf IsStmtSpelled)
    unfolding grammar.statement
    statement_made zero = either instances_made bindings_made
    statement_made (suc nesting) = either (either instances_made bindings_made) (block_made (grammar.statement text operands nesting) (statement_made nesting))

    array_made : Makes (grammar.arrayentry text operands) IsArraySpelled
    unfolding grammar.arrayentry
    array_made = next (λ t. Q (bytes_of text t)) named (λ t holds. after (λ size. after (λ _. after (λ component. after (λ given. after (λ _. made IsArraySpelled _ holds))))))

    arrays_made : Makes (grammar.array_list text operands) (AllOf IsArraySpelled)
    unfolding grammar.array_list
    arrays_made = after (λ _. some_of IsArraySpelled array_made)

    abbrev IsItemSpelled : Item → Type 0
    IsItemSpelled (ports all) = ⊤
    IsItemSpelled (arrays all) = AllOf IsArraySpelled all
    IsItemSpelled (statements all) = AllOf IsStmtSpelled all

    item_made : (nesting : ℕ) → Makes (grammar.item text operands nesting) IsItemSpelled
    unfolding grammar.item
    item_made nesting = either (after (λ all. made IsItemSpelled (ports all) tt))
        (either (after (λ all. made IsItemSpelled (ports all) tt))
        (either (next (AllOf IsArraySpelled) arrays_made (λ all holds. made IsItemSpelled (arrays all) holds))
        (next (AllOf IsStmtSpelled) (statement_made nesting) (λ all holds. made IsItemSpelled (statements all) holds))))

    abbrev ArePartsSpelled : ComponentParts → Type 0
    ArePartsSpelled p = AllOf IsArraySpelled p.arrays × AllOf IsStmtSpelled p.body

    item_added : (p : ComponentParts) (i : Item) → ArePartsSpelled p → IsItemSpelled i → ArePartsSpelled (with_item p i)
    item_added p (ports all) so_far more = so_far
    item_added p (arrays all) so_far more = (append_all IsArraySpelled p.arrays all so_far.0 more, so_far.1)
    item_added p (statements all) so_far more = (so_far.0, append_all IsStmtSpelled p.body all so_far.1 more)

    items_added : (items : List Item) (p : ComponentParts) → ArePartsSpelled p → AllOf IsItemSpelled items → ArePartsSpelled (fold with_item p items)
    items_added [] p so_far all = so_far
    items_added (i ∷ items) p so_far all =
        items_added items (with_item p i) (item_added p i so_far (all i (Contains-here i items))) (λ x there. all x (Contains-append_right (i ∷ []) items x there))

    parts_made : (nesting : ℕ) → Makes (grammar.parts text operands nesting) ArePartsSpelled
    unfolding grammar.parts
    parts_made nesting = next (AllOf IsItemSpelled) (many_of IsItemSpelled (item_made nesting)) (λ items holds. after (λ _.
        made ArePartsSpelled _ (items_added items no_parts (λ x there. absurd (Contains-nil x there), λ x there. absurd (Contains-nil x there)) holds)))

    component_made : (nesting : ℕ) → Makes (grammar.component text operands nesting) IsComponentSpelled
    unfolding grammar.component
    component_made nesting = after (λ t. after (λ x. after (λ parameters. after (λ _. next ArePartsSpelled (parts_made nesting) (λ inside holds.
        made IsComponentSpelled _ (record { arrays = holds.0; entries = body_spelled inside.body holds.1 }))))))

  unit_made : (operands nesting : ℕ) → Makes (IsUnitWithin operands nesting text) (AllOf IsComponentSpelled)
  unfolding IsUnitWithin
  unit_made operands nesting = many_of IsComponentSpelled (component_made operands nesting)

  -- the names of arrays and instances in the components of a text's tree
  pub tree_spelled : (tokens : List Token) (tree : Tree) → AreSpelled tokens → IsUnit text tokens tree → (c : Component) → Contains tree c → IsComponentSpelled c
  tree_spelled tokens tree spelled unit = unit_made 32 16 tokens tree spelled unit

  -- the name of an instance that a reached entry makes
  pub child_named : (c : Component) (env : Env) (child : Child) → IsComponentSpelled c → Contains (children c env) child → Q child.segment.name
  child_named c env child spelled there =
      let w = Contains-from_flat_map (children_of c env) (reached_in_component c env) child there in by w.0 w.1 w.2
    where
      by_element : (name : Name) (arguments : ArrayDecl → List Value) (place : At) (o : Option ArrayDecl) (v : Value) → array_named c name ≡ o → Contains (element_child o v arguments place) child → Q child.segment.name
      by_element name arguments place None v is there = absurd (Contains-nil child there)
      by_element name arguments place (Some array) out_of_range is there = absurd (Contains-nil child there)
      by_element name arguments place (Some array) zero_divisor is there = absurd (Contains-nil child there)
      by_element name arguments place (Some array) (integer i) is there =
          subst (λ (x : Child). Q x.segment.name) (sym (Contains-one _ child there)) (spelled.arrays array (Contains-find (λ a. bytes_eq name a.name) c.arrays array is))

      by : (r : Reached) → Contains (reached_in_component c env) r → Contains (children_of c env r) child → Q child.segment.name
      by (made_entry (single name component args place) at) reached_ there =
          subst (λ (x : Child). Q x.segment.name) (sym (Contains-one _ child there)) (spelled.entries (single name component args place) (reached_entry c env (single name component args place) at reached_))
      by (made_entry (element name index args place) at) reached_ there = by_element name _ place (array_named c name) (value index at) refl there
      by (valued e at place) reached_ there = absurd (Contains-nil child there)
      by turn reached_ there = absurd (Contains-nil child there)
      by (bound b at) reached_ there = absurd (Contains-nil child there)
