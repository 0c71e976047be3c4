-- A fault of an elaboration holds, or there is a graph: each fault can be told.
use Rattle.std.proofs.Common.{◌≡◌, ◌≢◌, ◌∙◌, ◌⊎◌, inl, inr, ℕ, ℤ, zero, suc, ◌<◌, ◌≤◌, Bool, true, false, ◌&&◌, not, cond, eqb, List, [], ◌∷◌, length, get_or, drop, Option, Some, None, refl, sym, ap, subst, arith}
use Rattle.std.specs.List.{Contains, slice_get}
use Rattle.std.specs.Ordering.{int_eq}
use Rattle.std.proofs.lemmas.Bool.{cases_Bool, cases_lt, false≢true}
use Rattle.std.proofs.lemmas.Bool.Decides.{Decides-int_eq}
use Rattle.std.proofs.lemmas.Option.{none-some, same_Some, slice_get_cases}
use Rattle.std.proofs.lemmas.List.Elements.{Contains-get_or}
use Rattle.config_graph.specs.Graph.{Graph, IsLinkWithin}
use Rattle.config_graph.specs.Sound.{Sound}
use Rattle.config_graph.proofs.SearchLaws.{first_or_none}
use Rattle.darwin_parser.specs.Tree.{Name, Tree, Component}
use Rattle.darwin_types.specs.Scope.{component_named, is_primitive}
use Rattle.darwin_types.specs.Faults.{NoFault}
use Rattle.darwin_walk.specs.Value.{Variable}
use Rattle.darwin_walk.specs.Instance.{Binding}
use Rattle.darwin_walk.specs.declared.fault.Fault as walk
use Rattle.darwin_walk.specs.declared.fault.Fault.TheVariants as shown
use Rattle.elaborator.specs.Paths.{Path, end_bytes}
use Rattle.elaborator.specs.Instances.{Instance, top_instance, instances, Inst, at_top, below, total, paths_in}
use Rattle.elaborator.specs.Bindings.{NamedPort, resolve, Pair, pair_of, bindings_in, pairs_in}
use Rattle.elaborator.specs.Graph.{IsElab}
use Rattle.elaborator.specs.Faults.{faults_in, CountsMore, Faults, Faults as fault, NotesDiffer, differ, Twice}
use Rattle.elaborator.specs.Elaboration.{HasNoFault, ElaboratesTo}
use Rattle.elaborator.specs.declared.error.ElabError.{ElabError}
use Rattle.elaborator.specs.declared.error.ElabError.TheVariants as error
use Rattle.elaborator.proofs.AllLinksLemmas.{begins_within, ends_within}
use Rattle.elaborator.proofs.ElaborationLemmas.{top_parts}
use Rattle.elaborator.proofs.CountLaws.{counted-within, counted-all}
use Rattle.elaborator.proofs.InstanceLaws.{instances-listed, top_depth, twice_front}
use Rattle.elaborator.proofs.NamingLemmas.{made_named}
use Rattle.elaborator.proofs.TwiceLaws.{twice_at, twice_there, twice_places}
use Rattle.elaborator.proofs.SingleLemmas.{IsBoundOnce}
use Rattle.std.specs.Option.{option_and_then}
use Rattle.std.proofs.lemmas.Bool.{eq-eqb}
use Rattle.darwin_walk.specs.Value.{parameters}
use Rattle.config_graph.specs.Cycles.{graph_wiring}
use Rattle.config_graph.specs.Wiring.{HasNoCycle}
use Rattle.elaborator.proofs.ElaborationLemmas.{IsTopOf}
use Rattle.elaborator.proofs.BuildLemmas.{on_cycle_within}
use Rattle.elaborator.specs.Faults.{own_faults}
use Rattle.elaborator.specs.ExpansionFaults.{IsClear}
use Rattle.elaborator.proofs.ChildLaws.{depth-made}
use Rattle.elaborator.proofs.SpreadLemmas.{shallow-maker}
use Rattle.elaborator.proofs.SoundLemmas.{sound_graph}
use Rattle.elaborator.proofs.SingleLemmas.{one_maker_of}
use Rattle.elaborator.proofs.ElaborationLemmas.{is_own}
use Rattle.elaborator.proofs.ExistenceLemmas.{one_bytes, one_number, one_port, elab_there}
use Rattle.elaborator.proofs.UniqueLaws.{links_listed, one_graph}
use Rattle.std.proofs.lemmas.Slice.Eq.{bytes_eq-Decides}
use Rattle.base.proofs.ContainsLaws.{Contains-at, Contains-cons_cases, Contains-here, Contains-nil, Contains-there}
use Rattle.base.proofs.FindLaws.{find-some}

-- some element of a list gives this, or all have that
all_or : {A : Type 0} (F : Type 0) (P : A → Type 0) (xs : List A) → ((x : A) → Contains xs x → F ⊎ P x) → F ⊎ ((x : A) → Contains xs x → P x)
all_or F P [] tell = inr (λ x there. absurd (Contains-nil x there))
all_or F P (x ∷ xs) tell = by (tell x (Contains-here x xs)) (all_or F P xs (λ y there. tell y (Contains-there x y xs there)))
  where
    by : F ⊎ P x → F ⊎ ((y : _) → Contains xs y → P y) → F ⊎ ((y : _) → Contains (x ∷ xs) y → P y)
    by (inl f) rest = inl f
    by (inr has) (inl f) = inl f
    by (inr has) (inr all) = inr (λ y there. elim (Contains-cons_cases x xs y there) [ inl same ↦ subst P (sym same) has | inr later ↦ all y later ])

-- ---- what can be told to be the same

one_list : {A : Type 0} → ((x y : A) → (x ≡ y) ⊎ (x ≡ y → ⊥)) → (xs ys : List A) → (xs ≡ ys) ⊎ (xs ≡ ys → ⊥)
one_list one [] [] = inl refl
one_list one [] (y ∷ ys) = inr (λ same. absurd (cc))
one_list one (x ∷ xs) [] = inr (λ same. absurd (cc))
one_list one (x ∷ xs) (y ∷ ys) = by (one x y) (one_list one xs ys)
  where
    by : (x ≡ y) ⊎ (x ≡ y → ⊥) → (xs ≡ ys) ⊎ (xs ≡ ys → ⊥) → (x ∷ xs ≡ y ∷ ys) ⊎ (x ∷ xs ≡ y ∷ ys → ⊥)
    by (inl first) (inl rest) = inl (λ k. first k ∷ rest k)
    by (inr apart) rest = inr (λ same. apart (ap (λ zs. get_or zs 0 x) same))
    by (inl first) (inr apart) = inr (λ same. apart (ap (λ zs. drop 1 zs) same))

one_variable : (x y : Variable) → (x ≡ y) ⊎ (x ≡ y → ⊥)
one_variable x y = by (one_bytes x.name y.name) (cases_Bool (int_eq x.value y.value))
  where
    by : (x.name ≡ y.name) ⊎ (x.name ≡ y.name → ⊥) → (int_eq x.value y.value ≡ true) ⊎ (int_eq x.value y.value ≡ false) → (x ≡ y) ⊎ (x ≡ y → ⊥)
    by (inr apart) v = inr (λ same. apart (ap (λ (z : Variable). z.name) same))
    by (inl n) (inl is) = let v = (Decides-int_eq x.value y.value).0 is in inl (λ k. record { name = n k; value = v k })
    by (inl n) (inr apart) = inr (λ same. false≢true (sym apart ∙ (Decides-int_eq x.value y.value).1 (ap (λ (z : Variable). z.value) same)))

-- two instances whose components are told by their names
one_instance : (i j : Instance) → (i.component.name ≡ j.component.name → i.component ≡ j.component) → (i ≡ j) ⊎ (i ≡ j → ⊥)
one_instance i j told = by (one_bytes i.path j.path) (one_number i.depth j.depth) (one_bytes i.component.name j.component.name) (one_list one_variable i.env j.env)
  where
    by :
        (i.path ≡ j.path) ⊎ (i.path ≡ j.path → ⊥) → (i.depth ≡ j.depth) ⊎ (i.depth ≡ j.depth → ⊥)
        → (i.component.name ≡ j.component.name) ⊎ (i.component.name ≡ j.component.name → ⊥) → (i.env ≡ j.env) ⊎ (i.env ≡ j.env → ⊥) → (i ≡ j) ⊎ (i ≡ j → ⊥)
    by (inl p) (inl d) (inl n) (inl e) = let c = told n in inl (λ k. record { path = p k; depth = d k; component = c k; env = e k })
    by (inr apart) d n e = inr (λ same. apart (ap (λ (z : Instance). z.path) same))
    by (inl p) (inr apart) n e = inr (λ same. apart (ap (λ (z : Instance). z.depth) same))
    by (inl p) (inl d) (inr apart) e = inr (λ same. apart (ap (λ (z : Instance). z.component.name) same))
    by (inl p) (inl d) (inl n) (inr apart) = inr (λ same. apart (ap (λ (z : Instance). z.env) same))

-- a path that stands twice, or none does
twice_or_not : (xs : List Path) → ((x : Path) × Twice xs x) ⊎ ((x : Path) → Twice xs x → ⊥)
twice_or_not [] = inr (λ x two. let w = twice_places [] x two in none-some x w.3)
twice_or_not (y ∷ xs) = by (all_or ((x : Path) × Twice (y ∷ xs) x) (λ x. x ≡ y → ⊥) xs front) (twice_or_not xs)
  where
    front : (x : Path) → Contains xs x → ((z : Path) × Twice (y ∷ xs) z) ⊎ (x ≡ y → ⊥)
    front x there = elim (one_bytes x y) [ inl same ↦ inl (y, twice_front y xs (subst (Contains xs) same there)) | inr apart ↦ inr apart ]

    by :
        ((x : Path) × Twice (y ∷ xs) x) ⊎ ((x : Path) → Contains xs x → x ≡ y → ⊥) → ((x : Path) × Twice xs x) ⊎ ((x : Path) → Twice xs x → ⊥)
        → ((x : Path) × Twice (y ∷ xs) x) ⊎ ((x : Path) → Twice (y ∷ xs) x → ⊥)
    by (inl two) rest = inl two
    by (inr other) (inl two) = inl (two.0, twice_there y xs two.0 two.1)
    by (inr other) (inr none) = inr (λ x two. let w = twice_places (y ∷ xs) x two in at x w.0 w.1 w.2 w.3 w.4)
      where
        at : (x : Path) (a b : ℕ) → a < b → slice_get (y ∷ xs) a ≡ Some x → slice_get (y ∷ xs) b ≡ Some x → ⊥
        at x a zero low one two = absurd (omega (arith, low))
        at x zero (suc b) low one two = other x (Contains-at xs b x two) (sym (same_Some y x one))
        at x (suc a) (suc b) low one two = none x (twice_at xs a b x (omega (arith, low)) one two)

notes_or_not : (x y : Option NamedPort) → NotesDiffer x y ⊎ (NotesDiffer x y → ⊥)
notes_or_not None y = inr (λ d. parts None y d)
  where
    parts : (x y : Option NamedPort) → NotesDiffer None y → ⊥
    parts x y (differ m n a b is is' na nb apart) = none-some m is
notes_or_not (Some m) None = inr (λ d. parts d)
  where
    parts : NotesDiffer (Some m) None → ⊥
    parts (differ p q a b is is' na nb apart) = none-some q is'
notes_or_not (Some m) (Some n) = by m.decl.note refl n.decl.note refl
  where
    same_named : (p q : NamedPort) → Some p ≡ Some q → p ≡ q
    same_named p q e = same_Some p q e

    by : (a : Option (List Name)) → m.decl.note ≡ a → (b : Option (List Name)) → n.decl.note ≡ b → NotesDiffer (Some m) (Some n) ⊎ (NotesDiffer (Some m) (Some n) → ⊥)
    by None none b at = inr parts
      where
        parts : NotesDiffer (Some m) (Some n) → ⊥
        parts (differ p q c d is is' nc nd apart) = none-some c (sym none ∙ ap (λ (z : NamedPort). z.decl.note) (same_named m p is) ∙ nc)
    by (Some a) at None none = inr parts
      where
        parts : NotesDiffer (Some m) (Some n) → ⊥
        parts (differ p q c d is is' nc nd apart) = none-some d (sym none ∙ ap (λ (z : NamedPort). z.decl.note) (same_named n q is') ∙ nd)
    by (Some a) at (Some b) at' =
        elim (one_list one_bytes a b) [ inr apart ↦ inl (differ m n a b refl refl at at' apart) | inl same ↦ inr (parts same) ]
      where
        parts : a ≡ b → NotesDiffer (Some m) (Some n) → ⊥
        parts same (differ p q c d is is' nc nd apart) =
            apart (same_Some c a (sym nc ∙ ap (λ (z : NamedPort). z.decl.note) (sym (same_named m p is)) ∙ at) ∙ same ∙ sym (same_Some d b (sym nd ∙ ap (λ (z : NamedPort). z.decl.note) (sym (same_named n q is')) ∙ at')))

-- ---- the faults of an instance

-- none of the faults of an instance holds
record IsFaultless (tree : Tree) (top i : Instance) : Type 0 where
  pub values : faults_in tree i ≡ []
  pub once : (path : Path) → Twice (paths_in tree i) path → ⊥
  pub apart : (j : Instance) → Contains (instances tree top) j → i ≢ j → (path : Path) → Contains (paths_in tree i) path → Contains (paths_in tree j) path → ⊥
  pub bound : (p : Pair) → Contains (pairs_in tree i) p → (q : Pair) → Contains (pairs_in tree i) q → p.source ≡ q.source → p.target ≢ q.target → ⊥
  pub formed : (b : Binding) → Contains (bindings_in i) b → pair_of tree i b ≡ [] → ⊥
  pub noted : (b : Binding) → Contains (bindings_in i) b → NotesDiffer (resolve tree i b.left) (resolve tree i b.right) → ⊥
  pub shallow : i.depth ≡ 33 → ⊥

module _ (tree : Tree) (name : Name) (arguments : List ℤ) where
  abbrev Some_fault : Type 0
  Some_fault = (f : ElabError) × Faults tree name arguments f

  abbrev Graph_there : Type 0
  Graph_there = (g : Graph) × HasNoFault tree name arguments × ElaboratesTo tree name arguments g × Sound g

  module _ (top : Instance) (is_top : top_instance tree name arguments ≡ Some top) where
    depth : top.depth ≡ 0
    depth = top_depth tree name arguments top is_top

    all_instances : List Instance
    all_instances = instances tree top

    inst : (i : Instance) → Contains all_instances i → Inst tree top i
    unfolding all_instances
    inst i there = (instances-listed tree top i depth).1 there

    named_by : (i : Instance) → Inst tree top i → component_named tree i.component.name ≡ Some i.component
    named_by _ at_top =
        let t = top_parts tree name arguments top is_top in
        let same : name ≡ t.component.name = (bytes_eq-Decides name t.component.name).0 (find-some _ tree t.component t.named).1 in
        subst (λ c. component_named tree c.name ≡ Some c) (sym (ap (λ (i : Instance). i.component) t.is_top)) (subst (λ n. component_named tree n ≡ Some t.component) same t.named)
    named_by _ (below i j there made) = made_named tree i j made

    tell_instance : (i j : Instance) → Inst tree top i → Inst tree top j → (i ≡ j) ⊎ (i ≡ j → ⊥)
    tell_instance i j here there = one_instance i j (λ same. same_Some i.component j.component (sym (named_by i here) ∙ ap (component_named tree) same ∙ named_by j there))

    module _ (i : Instance) (here : Inst tree top i) where
      tell_values : Some_fault ⊎ (faults_in tree i ≡ [])
      tell_values = by (faults_in tree i) refl
        where
          by : (fs : List walk.Fault) → faults_in tree i ≡ fs → Some_fault ⊎ (faults_in tree i ≡ [])
          by [] is = inr is
          by (shown.OutOfRange at ∷ fs) is = inl (error.OutOfRange i.path at, fault.out_of_range i at (record { top = top; is_top = is_top; inst = here }) (subst (λ gs. Contains gs (shown.OutOfRange at)) (sym is) (Contains-here (shown.OutOfRange at) fs)))
          by (shown.ZeroDivisor at ∷ fs) is = inl (error.ZeroDivisor i.path at, fault.zero_divisor i at (record { top = top; is_top = is_top; inst = here }) (subst (λ gs. Contains gs (shown.ZeroDivisor at)) (sym is) (Contains-here (shown.ZeroDivisor at) fs)))
          by (shown.BadIndex at ∷ fs) is = inl (error.BadIndex i.path at, fault.bad_index i at (record { top = top; is_top = is_top; inst = here }) (subst (λ gs. Contains gs (shown.BadIndex at)) (sym is) (Contains-here (shown.BadIndex at) fs)))

      tell_once : Some_fault ⊎ ((path : Path) → Twice (paths_in tree i) path → ⊥)
      tell_once = elim (twice_or_not (paths_in tree i)) [ inl two ↦ inl (error.TwoInstances two.0, fault.two_instances i two.0 (record { top = top; is_top = is_top; inst = here }) two.1) | inr none ↦ inr none ]

      tell_apart : Some_fault ⊎ ((j : Instance) → Contains (instances tree top) j → i ≢ j → (path : Path) → Contains (paths_in tree i) path → Contains (paths_in tree j) path → ⊥)
      tell_apart = all_or Some_fault (λ j. i ≢ j → (path : Path) → Contains (paths_in tree i) path → Contains (paths_in tree j) path → ⊥) (instances tree top) (λ j there. other j ((instances-listed tree top j depth).1 there))
        where
          other : (j : Instance) → Inst tree top j → Some_fault ⊎ (i ≢ j → (path : Path) → Contains (paths_in tree i) path → Contains (paths_in tree j) path → ⊥)
          other j there =
              elim (tell_instance i j here there) [
                | inl same ↦ inr (λ differs. absurd (differs same))
                | inr differs ↦
                    elim (all_or Some_fault (λ path. (z : Path) → Contains (paths_in tree j) z → z ≡ path → ⊥) (paths_in tree i) (λ path has. all_or Some_fault (λ z. z ≡ path → ⊥) (paths_in tree j) (λ z has'.
                    elim (one_bytes z path) [
                      | inr apart ↦ inr apart
                      | inl same ↦ inl (error.TwoInstances path, fault.two_apart i j path (record { top = top; is_top = is_top; inst = here }) (record { top = top; is_top = is_top; inst = there }) differs has (subst (Contains (paths_in tree j)) same has'))
                    ]))) [
                      | inl f ↦ inl f
                      | inr none ↦ inr (λ _ path has has'. none path has path has' refl)
                    ]
              ]

      tell_bound : Some_fault ⊎ ((p : Pair) → Contains (pairs_in tree i) p → (q : Pair) → Contains (pairs_in tree i) q → p.source ≡ q.source → p.target ≢ q.target → ⊥)
      tell_bound =
          all_or Some_fault (λ p. (q : Pair) → Contains (pairs_in tree i) q → p.source ≡ q.source → p.target ≢ q.target → ⊥) (pairs_in tree i) (λ p there.
          all_or Some_fault (λ q. p.source ≡ q.source → p.target ≢ q.target → ⊥) (pairs_in tree i) (λ q there'. by p q there there' (one_port p.source q.source) (one_port p.target q.target)))
        where
          by :
              (p q : Pair) → Contains (pairs_in tree i) p → Contains (pairs_in tree i) q → (p.source ≡ q.source) ⊎ (p.source ≡ q.source → ⊥)
              → (p.target ≡ q.target) ⊎ (p.target ≡ q.target → ⊥) → Some_fault ⊎ (p.source ≡ q.source → p.target ≢ q.target → ⊥)
          by p q there there' (inr apart) target = inr (λ same differs. apart same)
          by p q there there' (inl same) (inl is) = inr (λ _ differs. differs is)
          by p q there there' (inl same) (inr differs) = inl (error.BoundTwice i.path (end_bytes p.end), fault.bound_twice i p q (record { top = top; is_top = is_top; inst = here }) there there' same differs)

      tell_formed : Some_fault ⊎ ((b : Binding) → Contains (bindings_in i) b → pair_of tree i b ≡ [] → ⊥)
      tell_formed = all_or Some_fault (λ b. pair_of tree i b ≡ [] → ⊥) (bindings_in i) (λ b there. by b there (pair_of tree i b) refl)
        where
          by : (b : Binding) → Contains (bindings_in i) b → (ps : List Pair) → pair_of tree i b ≡ ps → Some_fault ⊎ (pair_of tree i b ≡ [] → ⊥)
          by b there [] is = inl (error.BadBinding i.path b.at, fault.bad_binding i b (record { top = top; is_top = is_top; inst = here }) there is)
          by b there (p ∷ ps) is = inr (λ none. Contains-nil p (subst (λ qs. Contains qs p) (sym is ∙ none) (Contains-here p ps)))

      tell_noted : Some_fault ⊎ ((b : Binding) → Contains (bindings_in i) b → NotesDiffer (resolve tree i b.left) (resolve tree i b.right) → ⊥)
      tell_noted = all_or Some_fault (λ b. NotesDiffer (resolve tree i b.left) (resolve tree i b.right) → ⊥) (bindings_in i) (λ b there.
          elim (notes_or_not (resolve tree i b.left) (resolve tree i b.right)) [
            | inl notes ↦ inl (error.Annotation i.path b.at, fault.annotation i b (record { top = top; is_top = is_top; inst = here }) there notes)
            | inr same ↦ inr same
          ])

      tell_shallow : Some_fault ⊎ (i.depth ≡ 33 → ⊥)
      tell_shallow = elim (one_number i.depth 33) [ inl deep ↦ inl (error.TooDeep i.path, fault.too_deep i (record { top = top; is_top = is_top; inst = here }) deep) | inr less ↦ inr less ]

      tell_faultless : Some_fault ⊎ IsFaultless tree top i
      tell_faultless = by tell_values tell_once tell_apart tell_bound tell_formed tell_noted tell_shallow
        where
          by :
              Some_fault ⊎ (faults_in tree i ≡ []) → Some_fault ⊎ ((path : Path) → Twice (paths_in tree i) path → ⊥)
              → Some_fault ⊎ ((j : Instance) → Contains (instances tree top) j → i ≢ j → (path : Path) → Contains (paths_in tree i) path → Contains (paths_in tree j) path → ⊥)
              → Some_fault ⊎ ((p : Pair) → Contains (pairs_in tree i) p → (q : Pair) → Contains (pairs_in tree i) q → p.source ≡ q.source → p.target ≢ q.target → ⊥)
              → Some_fault ⊎ ((b : Binding) → Contains (bindings_in i) b → pair_of tree i b ≡ [] → ⊥)
              → Some_fault ⊎ ((b : Binding) → Contains (bindings_in i) b → NotesDiffer (resolve tree i b.left) (resolve tree i b.right) → ⊥)
              → Some_fault ⊎ (i.depth ≡ 33 → ⊥) → Some_fault ⊎ IsFaultless tree top i
          by (inr values) (inr once) (inr apart) (inr bound) (inr formed) (inr noted) (inr shallow) =
              inr (record { values = values; once = once; apart = apart; bound = bound; formed = formed; noted = noted; shallow = shallow })
          by (inl f) b c d e g h = inl f
          by (inr a) (inl f) c d e g h = inl f
          by (inr a) (inr b) (inl f) d e g h = inl f
          by (inr a) (inr b) (inr c) (inl f) e g h = inl f
          by (inr a) (inr b) (inr c) (inr d) (inl f) g h = inl f
          by (inr a) (inr b) (inr c) (inr d) (inr e) (inl f) h = inl f
          by (inr a) (inr b) (inr c) (inr d) (inr e) (inr g) (inl f) = inl f

    -- ---- the whole

    module _ (all : (i : Instance) → Contains (instances tree top) i → IsFaultless tree top i) where
      listed : (i : Instance) → Inst tree top i → Contains (instances tree top) i
      listed i there = (instances-listed tree top i depth).0 there

      parts : IsTopOf tree name arguments top
      parts = top_parts tree name arguments top is_top

      bound_once : IsBoundOnce tree top
      bound_once = record {
        depth = depth;
        composite = ap (λ (i : Instance). is_primitive i.component) parts.is_top ∙ parts.composite;
        single = record {
          once = λ i path there two. (all i (listed i there)).once path two;
          apart = λ i j path there there' differs has has'. (all i (listed i there)).apart j (listed j there') differs path has has';
        };
        once = λ i p q there h h' same differs. (all i (listed i there)).bound p h q h' same differs;
      }

      elab : (g : Graph) × IsElab tree top g
      elab = elab_there tree top bound_once

      within : (g : Graph) → IsElab tree top g → (i : ℕ) (d : _) → i < length g.links → IsLinkWithin g.nodes (get_or g.links i d)
      within g is i d low =
          let l = (links_listed tree top g is (get_or g.links i d)).0 (Contains-get_or g.links i d low) in
          record { begins = begins_within tree top g.nodes (get_or g.links i d) l; ends = ends_within tree top g.nodes (get_or g.links i d) l }

      cycle_or_none : Some_fault ⊎ HasNoCycle (graph_wiring elab.0)
      cycle_or_none =
          elim (first_or_none elab.0 (λ i d low. within elab.0 elab.1 i d low)) [
            | inr none ↦ inr none
            | inl (i, first) ↦
                elim (slice_get_cases elab.0.nodes i).1 [
                  | inl (n, low, at, read) ↦ inl (error.DependsCycle n.path, fault.depends_cycle top elab.0 i n is_top elab.1 first at)
                  | inr (past, none) ↦ absurd (omega (arith, past, on_cycle_within elab.0 i first))
                ]
          ]

      one : (t : Instance) → top_instance tree name arguments ≡ Some t → t ≡ top
      one t is = same_Some t top (sym is ∙ is_top)

      there_too : (t i : Instance) → top_instance tree name arguments ≡ Some t → Inst tree t i → Contains (instances tree top) i
      there_too t i is there = listed i (subst (λ s. Inst tree s i) (one t is) there)

      faultless : (t i : Instance) → top_instance tree name arguments ≡ Some t → Inst tree t i → IsFaultless tree top i
      faultless t i is there = all i (there_too t i is there)

      no_value : (t i : Instance) (f : walk.Fault) → top_instance tree name arguments ≡ Some t → Inst tree t i → Contains (faults_in tree i) f → ⊥
      no_value t i f is there has = Contains-nil f (subst (λ fs. Contains fs f) (faultless t i is there).values has)

      none_holds : ¬ (65536 < total tree top) → HasNoCycle (graph_wiring elab.0) → HasNoFault tree name arguments
      none_holds few acyclic = refuted
        where
          refuted : (f : ElabError) → ¬ Faults tree name arguments f
          refuted _ (fault.no_top missing) = none-some parts.component (sym missing ∙ parts.named)
          refuted _ (fault.top_is_kind c is primitive) = false≢true (sym parts.composite ∙ ap is_primitive (same_Some parts.component c (sym parts.named ∙ is)) ∙ primitive)
          refuted _ (fault.top_args c is differs) = differs (ap (λ (d : Component). length d.params) (same_Some c parts.component (sym is ∙ parts.named)) ∙ parts.params)
          refuted _ (fault.out_of_range i at m has) = no_value m.top i (shown.OutOfRange at) m.is_top m.inst has
          refuted _ (fault.zero_divisor i at m has) = no_value m.top i (shown.ZeroDivisor at) m.is_top m.inst has
          refuted _ (fault.bad_index i at m has) = no_value m.top i (shown.BadIndex at) m.is_top m.inst has
          refuted _ (fault.two_instances i path m two) = (faultless m.top i m.is_top m.inst).once path two
          refuted _ (fault.two_apart i j path m m' differs has has') = (faultless m.top i m.is_top m.inst).apart j (there_too m'.top j m'.is_top m'.inst) differs path has has'
          refuted _ (fault.bound_twice i p q m h h' same differs) = (faultless m.top i m.is_top m.inst).bound p h q h' same differs
          refuted _ (fault.bad_binding i b m h none) = (faultless m.top i m.is_top m.inst).formed b h none
          refuted _ (fault.annotation i b m h notes) = (faultless m.top i m.is_top m.inst).noted b h notes
          refuted _ (fault.too_deep i m deep) = (faultless m.top i m.is_top m.inst).shallow deep
          refuted _ (fault.too_many t is many) = few (counted-within tree top 65536 depth (subst (λ s. CountsMore tree s 65536) (one t is) many))
          refuted _ (fault.depends_cycle t g i n is is_elab first at) =
              subst (λ g. HasNoCycle (graph_wiring g)) (one_graph tree top elab.0 g elab.1 (subst (λ s. IsElab tree s g) (one t is) is_elab)) acyclic i first.on_cycle

      not_deeper : (i : Instance) → Inst tree top i → i.depth ≤ 33
      not_deeper _ at_top = omega (arith, depth)
      not_deeper _ (below i j there made) = omega (arith, depth-made tree i j made, shallow-maker tree i j made)

      no_own : (i : Instance) → Inst tree top i → own_faults tree i ≡ []
      no_own i there = by (own_faults tree i) refl
        where
          by : (fs : List walk.Fault) → own_faults tree i ≡ fs → own_faults tree i ≡ []
          by [] is = is
          by (f ∷ fs) is = absurd (no_value top i f is_top there (is_own tree i f (subst (λ gs. Contains gs f) (sym is) (Contains-here f fs))))

      clear : ¬ (65536 < total tree top) → IsClear tree top
      clear few = record {
        no_fault = no_own;
        once = λ i path there two. (all i (listed i there)).once path two;
        apart = λ i j path there there' has has'. one_maker_of tree top bound_once i j path there there' has has';
        shallow = λ i there. less i.depth (not_deeper i there) (all i (listed i there)).shallow;
        few = elim (cases_lt 65536 (total tree top)) [ inl many ↦ absurd (few many) | inr fits ↦ omega (arith, fits) ];
      }
        where
          less : (n : ℕ) → n ≤ 33 → (n ≡ 33 → ⊥) → n < 33
          less n low other = elim (cases_lt n 33) [ inl is ↦ is | inr past ↦ absurd (other (omega (arith, low, past))) ]

      many_or_few : Some_fault ⊎ (¬ (65536 < total tree top))
      many_or_few =
          elim (cases_lt 65536 (total tree top)) [
            | inl many ↦ inl (error.TooMany, fault.too_many top is_top (counted-all tree top 65536 bound_once.single depth many))
            | inr few ↦ inr (λ many. omega (arith, many, few))
          ]

      fault_or_none : NoFault tree → Some_fault ⊎ Graph_there
      fault_or_none no_fault = by many_or_few cycle_or_none
        where
          by : Some_fault ⊎ (¬ (65536 < total tree top)) → Some_fault ⊎ HasNoCycle (graph_wiring elab.0) → Some_fault ⊎ Graph_there
          by (inl f) cycle = inl f
          by (inr few) (inl f) = inl f
          by (inr few) (inr acyclic) =
              inr (
                elab.0,
                none_holds few acyclic,
                record { top = top; is_top = is_top; is_elab = elab.1 },
                sound_graph tree name arguments top elab.0 no_fault is_top (clear few) elab.1 acyclic,
              )

    below_top : NoFault tree → Some_fault ⊎ Graph_there
    below_top no_fault =
        elim (all_or Some_fault (IsFaultless tree top) (instances tree top) (λ i there. tell_faultless i ((instances-listed tree top i depth).1 there))) [
          | inl f ↦ inl f
          | inr all ↦ fault_or_none all no_fault
        ]

  top_or_fault : Some_fault ⊎ ((top : Instance) × (top_instance tree name arguments ≡ Some top))
  top_or_fault = by (component_named tree name) refl
    where
      at_top_of : Component → Instance
      at_top_of c = record { path = []; depth = 0; component = c; env = parameters c arguments }

      instance : Component → Option Instance
      instance c = cond (not (is_primitive c) && eqb (length c.params) (length arguments)) (Some (at_top_of c)) None

      tested :
          (c : Component) (p q : Bool) → component_named tree name ≡ Some c → is_primitive c ≡ p → eqb (length c.params) (length arguments) ≡ q
          → Some_fault ⊎ ((top : Instance) × (top_instance tree name arguments ≡ Some top))
      tested c true q is primitive same = inl (_, fault.top_is_kind c is primitive)
      tested c false false is composite differs = inl (_, fault.top_args c is (λ same. false≢true (sym differs ∙ eq-eqb (length c.params) (length arguments) same)))
      tested c false true is composite same =
          inr (
            at_top_of c,
            ap (option_and_then instance) is
                ∙ ap (λ p. cond (not p && eqb (length c.params) (length arguments)) (Some (at_top_of c)) None) composite
                ∙ ap (λ q. cond q (Some (at_top_of c)) None) same,
          )

      by : (o : Option Component) → component_named tree name ≡ o → Some_fault ⊎ ((top : Instance) × (top_instance tree name arguments ≡ Some top))
      by None is = inl (_, fault.no_top is)
      by (Some c) is = tested c (is_primitive c) (eqb (length c.params) (length arguments)) is refl refl

  fault_or_graph : NoFault tree → Some_fault ⊎ Graph_there
  fault_or_graph no_fault = elim top_or_fault [ inl f ↦ inl f | inr (top, is_top) ↦ below_top top is_top no_fault ]

pub a_fault_or_a_graph :
    (tree : Tree) (name : Name) (arguments : List ℤ) → NoFault tree
    → ((f : ElabError) × Faults tree name arguments f) ⊎ ((g : Graph) × HasNoFault tree name arguments × ElaboratesTo tree name arguments g × Sound g)
a_fault_or_a_graph tree name arguments no_fault = fault_or_graph tree name arguments no_fault
