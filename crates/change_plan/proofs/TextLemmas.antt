-- Equal texts of plans come from equal steps: the lines are parted again, and each tells its step.
use Rattle.std.proofs.Common.{◌≡◌, ℕ, ◌<◌, List, [], ◌∷◌, ◌++◌, length, map, get_or, Option, Some, None, slice_get, refl, sym, ◌∙◌, ap, subst, arith, append_assoc, append-nil, filter_map, All}
use Rattle.std.specs.Prelude.{codes, flat_map}
use Rattle.std.specs.List.{cons_option}
use Rattle.std.specs.Option.{option_map_or}
use Rattle.std.proofs.lemmas.Grind.{flat_map-append}
use Rattle.std.proofs.lemmas.List.{append_cancel_left}
use Rattle.std.proofs.lemmas.List.Elements.{All-append, All-contains, All-head, All-map, All-tail, filter_map-append}
use Rattle.std.proofs.lemmas.List.Folds.{flat_map-map}
use Rattle.config_graph.specs.Graph.{Graph, IsGraph, IsLinkWithin, provides_at, provides_of, requires_at, requires_of}
use Rattle.config_graph.specs.GraphText.{IsOneWord, kind_text, provide_name, require_name}
use Rattle.config_graph.specs.Kinds.{row}
use Rattle.config_graph.specs.declared.node.Link.{Link}
use Rattle.config_graph.specs.declared.node.Node.{Node}
use Rattle.config_graph.specs.declared.node.Port.{Port}
use Rattle.config_graph.proofs.NumberingLaws.{provides_at-le, within_list}
use Rattle.config_graph.proofs.TextLaws.{Free, one_requirement, provide_name_dot, provide_name_line, require_name_dot, require_name_line, require_name_space, split_first, split_last}
use Rattle.change_plan.specs.PlanText.{at_node, create_line, link_line, step_line, plan_text, port_text, provision_text, unlink_line}
use Rattle.change_plan.specs.PlanWithin.{IsPlanWithin}
use Rattle.change_plan.specs.Plans.{HasSameSteps}
use Rattle.change_plan.specs.declared.plan_data.Plan.{Plan}
use Rattle.base.proofs.PlaceLaws.{slice_get-there}
use Rattle.change_plan.proofs.DifferenceLemmas.{one_node}
use Rattle.change_plan.proofs.NodeLaws.{one_path}
use Rattle.base.proofs.ContainsLaws.{Contains-at}

-- ---- parts of lines

-- one byte that isn't c
one_free : (c b : ℕ) → ¬ (b ≡ c) → Free c (b ∷ [])
one_free c b apart k d low = let here : k ≡ 0 = omega (arith, low) in subst (λ j. ¬ (get_or (b ∷ []) j d ≡ c)) (sym here) apart

-- the texts of a graph's places, whose paths are words
module _ (g : Graph) (graph : IsGraph g) (words : All (λ n. IsOneWord n.path) g.nodes) where
  word_at : (i : ℕ) (n : Node) → slice_get g.nodes i ≡ Some n → IsOneWord n.path
  word_at i n at = All-contains (λ (m : Node). IsOneWord m.path) g.nodes n words (Contains-at g.nodes i n at)

  path_space : (i : ℕ) (n : Node) → slice_get g.nodes i ≡ Some n → Free 32 n.path
  path_space i n at k d low = (word_at i n at k d low).0

  path_line : (i : ℕ) (n : Node) → slice_get g.nodes i ≡ Some n → Free 10 n.path
  path_line i n at k d low = (word_at i n at k d low).1

  text_at : (text : Node → List ℕ) (i : ℕ) (n : Node) → slice_get g.nodes i ≡ Some n → at_node text g i ≡ text n
  text_at text i n at = ap (λ o. option_map_or text o []) at

  -- `PATH.NAME` holds what neither part holds
  end_free : (c : ℕ) (path name : List ℕ) → ¬ (46 ≡ c) → Free c path → Free c name → Free c (path ++ codes "." ++ name)
  end_free c path name dot path_free name_free =
      All-append (λ b. ¬ (b ≡ c)) (path ++ codes ".") name (All-append (λ b. ¬ (b ≡ c)) path (codes ".") path_free (one_free c 46 dot)) name_free

  one_place : (i j : ℕ) (m n : Node) → slice_get g.nodes i ≡ Some m → slice_get g.nodes j ≡ Some n → m.path ≡ n.path → i ≡ j
  one_place i j m n at_i at_j same = one_path g.nodes graph.paths_rise i j m n at_i at_j same

  -- ports
  module _ (i r : ℕ) (low : r < requires_at g.nodes i) where
    owner : (n : Node) × (slice_get g.nodes i ≡ Some n)
    owner = slice_get-there g.nodes i (within_list requires_of g.nodes i r low)

    port_is : port_text g i r ≡ owner.0.path ++ codes "." ++ require_name owner.0.kind r
    port_is = text_at (λ n. n.path ++ codes "." ++ require_name n.kind r) i owner.0 owner.1

    port_line : Free 10 (port_text g i r)
    port_line = subst (Free 10) (sym port_is) (end_free 10 owner.0.path (require_name owner.0.kind r) (λ e. omega (arith, e)) (path_line i owner.0 owner.1) (require_name_line owner.0.kind r))

    port_space : Free 32 (port_text g i r)
    port_space = subst (Free 32) (sym port_is) (end_free 32 owner.0.path (require_name owner.0.kind r) (λ e. omega (arith, e)) (path_space i owner.0 owner.1) (require_name_space owner.0.kind r))

    own_requirement : r < length (row owner.0.kind).requires_
    own_requirement = let count : requires_at g.nodes i ≡ requires_of owner.0 = ap (λ o. option_map_or requires_of o 0) owner.1 in omega (arith, low, count)

  same_port : (i r j s : ℕ) → r < requires_at g.nodes i → s < requires_at g.nodes j → port_text g i r ≡ port_text g j s → (i ≡ j) × (r ≡ s)
  same_port i r j s r_low s_low e =
      let m = owner i r r_low in
      let n = owner j s s_low in
      let form = append_assoc m.0.path (codes ".") (require_name m.0.kind r) in
      let form' = append_assoc n.0.path (codes ".") (require_name n.0.kind s) in
      let parted = split_last 46 m.0.path n.0.path (require_name m.0.kind r) (require_name n.0.kind s) (require_name_dot m.0.kind r) (require_name_dot n.0.kind s) (sym form ∙ sym (port_is i r r_low) ∙ e ∙ port_is j s s_low ∙ form') in
      let place = one_place i j m.0 n.0 m.1 n.1 parted.0 in
      let node = one_node g.nodes j m.0 n.0 (ap (slice_get g.nodes) (sym place) ∙ m.1) n.1 in
      let kind : m.0.kind ≡ n.0.kind = ap (λ (x : Node). x.kind) node in
      let low : s < length (row m.0.kind).requires_ = subst (λ k. s < length (row k).requires_) (sym kind) (own_requirement j s s_low) in
      let names : require_name m.0.kind r ≡ require_name m.0.kind s = parted.1 ∙ ap (λ k. require_name k s) (sym kind) in
      (place, one_requirement m.0.kind r s (own_requirement i r r_low) low names)

  -- provisions
  module _ (i x : ℕ) (low : x < provides_at g.nodes i) where
    server : (n : Node) × (slice_get g.nodes i ≡ Some n)
    server = slice_get-there g.nodes i (within_list provides_of g.nodes i x low)

    provision_is : provision_text g i x ≡ server.0.path ++ codes "." ++ provide_name server.0.kind x
    provision_is = text_at (λ n. n.path ++ codes "." ++ provide_name n.kind x) i server.0 server.1

    provision_line : Free 10 (provision_text g i x)
    provision_line = subst (Free 10) (sym provision_is) (end_free 10 server.0.path (provide_name server.0.kind x) (λ e. omega (arith, e)) (path_line i server.0 server.1) (provide_name_line server.0.kind x))

  same_provision : (i x j y : ℕ) → x < provides_at g.nodes i → y < provides_at g.nodes j → provision_text g i x ≡ provision_text g j y → (i ≡ j) × (x ≡ y)
  same_provision i x j y x_low y_low e =
      let m = server i x x_low in
      let n = server j y y_low in
      let form = append_assoc m.0.path (codes ".") (provide_name m.0.kind x) in
      let form' = append_assoc n.0.path (codes ".") (provide_name n.0.kind y) in
      let parted = split_last 46 m.0.path n.0.path (provide_name m.0.kind x) (provide_name n.0.kind y) (provide_name_dot m.0.kind x) (provide_name_dot n.0.kind y) (sym form ∙ sym (provision_is i x x_low) ∙ e ∙ provision_is j y y_low ∙ form') in
      (one_place i j m.0 n.0 m.1 n.1 parted.0, omega (arith, x_low, y_low, provides_at-le g.nodes i, provides_at-le g.nodes j))

  -- ---- lines: equal fronts of texts come from equal steps, and the rest is equal

  same_node_line : (word : List ℕ) (i j : ℕ) → i < length g.nodes → j < length g.nodes → (rest rest' : List ℕ) → step_line word g i ++ rest ≡ step_line word g j ++ rest' → (i ≡ j) × (rest ≡ rest')
  same_node_line word i j i_low j_low rest rest' e =
      let m = slice_get-there g.nodes i i_low in
      let n = slice_get-there g.nodes j j_low in
      let form : (k : ℕ) (a : Node) (after : List ℕ) → slice_get g.nodes k ≡ Some a → step_line word g k ++ after ≡ word ++ (a.path ++ 10 ∷ after) =
      λ k a after at.
      append_assoc (word ++ at_node (λ n. n.path) g k) (codes "\n") after ∙ append_assoc word (at_node (λ n. n.path) g k) (codes "\n" ++ after) ∙ ap (λ t. word ++ (t ++ 10 ∷ after)) (text_at (λ n. n.path) k a at) in
      let parted = split_first 10 m.0.path n.0.path rest rest' (path_line i m.0 m.1) (path_line j n.0 n.1) (append_cancel_left word _ _ (sym (form i m.0 rest m.1) ∙ e ∙ form j n.0 rest' n.1)) in
      (one_place i j m.0 n.0 m.1 n.1 parted.0, parted.1)

  same_unlink_line : (p q : Port) → p.require < requires_at g.nodes p.node → q.require < requires_at g.nodes q.node → (rest rest' : List ℕ) → unlink_line g p ++ rest ≡ unlink_line g q ++ rest' → (p ≡ q) × (rest ≡ rest')
  same_unlink_line p q p_low q_low rest rest' e =
      let form : (o : Port) (after : List ℕ) → unlink_line g o ++ after ≡ codes "unlink " ++ (port_text g o.node o.require ++ 10 ∷ after) =
      λ o after.
      append_assoc (codes "unlink " ++ port_text g o.node o.require) (codes "\n") after ∙ append_assoc (codes "unlink ") (port_text g o.node o.require) (codes "\n" ++ after) in
      let parted = split_first 10 (port_text g p.node p.require) (port_text g q.node q.require) rest rest' (port_line p.node p.require p_low) (port_line q.node q.require q_low) (append_cancel_left (codes "unlink ") _ _ (sym (form p rest) ∙ e ∙ form q rest')) in
      let same = same_port p.node p.require q.node q.require p_low q_low parted.0 in
      (λ k. record { node = same.0 k; require = same.1 k }, parted.1)

  same_create_line : (i j : ℕ) → i < length g.nodes → j < length g.nodes → (rest rest' : List ℕ) → create_line g i ++ rest ≡ create_line g j ++ rest' → (i ≡ j) × (rest ≡ rest')
  same_create_line i j i_low j_low rest rest' e =
      let m = slice_get-there g.nodes i i_low in
      let n = slice_get-there g.nodes j j_low in
      let text : Node → List ℕ = λ a. a.path ++ codes " " ++ kind_text a.kind a.arg in
      let form : (k : ℕ) (a : Node) (after : List ℕ) → slice_get g.nodes k ≡ Some a → create_line g k ++ after ≡ codes "create " ++ (a.path ++ 32 ∷ (kind_text a.kind a.arg ++ 10 ∷ after)) =
      λ k a after at.
      append_assoc (codes "create " ++ at_node text g k) (codes "\n") after ∙ append_assoc (codes "create ") (at_node text g k) (codes "\n" ++ after) ∙ ap (λ t. codes "create " ++ (t ++ 10 ∷ after)) (text_at text k a at)
      ∙ ap (λ t. codes "create " ++ t) (append_assoc (a.path ++ codes " ") (kind_text a.kind a.arg) (10 ∷ after) ∙ append_assoc a.path (codes " ") (kind_text a.kind a.arg ++ 10 ∷ after)) in
      let parted = split_first 32 m.0.path n.0.path _ _ (path_space i m.0 m.1) (path_space j n.0 n.1) (append_cancel_left (codes "create ") _ _ (sym (form i m.0 rest m.1) ∙ e ∙ form j n.0 rest' n.1)) in
      let place = one_place i j m.0 n.0 m.1 n.1 parted.0 in
      let node = one_node g.nodes j m.0 n.0 (ap (slice_get g.nodes) (sym place) ∙ m.1) n.1 in
      let ends : 10 ∷ rest ≡ 10 ∷ rest' = append_cancel_left (kind_text m.0.kind m.0.arg) _ _ (parted.1 ∙ ap (λ (a : Node). kind_text a.kind a.arg ++ 10 ∷ rest') (sym node)) in
      (place, cc)

  same_link_line : (l k : Link) → IsLinkWithin g.nodes l → IsLinkWithin g.nodes k → (rest rest' : List ℕ) → link_line g l ++ rest ≡ link_line g k ++ rest' → (l ≡ k) × (rest ≡ rest')
  same_link_line l k l_low k_low rest rest' e =
      let from = λ (o : Link). port_text g o.from o.require in
      let to = λ (o : Link). provision_text g o.to o.provide in
      let form : (o : Link) (after : List ℕ) → link_line g o ++ after ≡ codes "link " ++ (from o ++ 32 ∷ (to o ++ 10 ∷ after)) = λ o after. regroup (codes "link ") (from o) (codes " ") (to o) (codes "\n") after in
      let first = split_first 32 (from l) (from k) _ _ (port_space l.from l.require l_low.begins) (port_space k.from k.require k_low.begins) (append_cancel_left (codes "link ") _ _ (sym (form l rest) ∙ e ∙ form k rest')) in
      let second = split_first 10 (to l) (to k) rest rest' (provision_line l.to l.provide l_low.ends) (provision_line k.to k.provide k_low.ends) first.1 in
      let port = same_port l.from l.require k.from k.require l_low.begins k_low.begins first.0 in
      let provision = same_provision l.to l.provide k.to k.provide l_low.ends k_low.ends second.0 in
      (λ j. record { from = port.0 j; require = port.1 j; to = provision.0 j; provide = provision.1 j }, second.1)
    where
      regroup : (a b c d f rest : List ℕ) → ((((a ++ b) ++ c) ++ d) ++ f) ++ rest ≡ a ++ (b ++ (c ++ (d ++ (f ++ rest))))
      regroup a b c d f rest = simp append_assoc

-- ---- texts

-- a step of a plan
data Step : Type 0 where
  freezes : ℕ → Step
  unlinks : Port → Step
  removes : ℕ → Step
  creates : ℕ → Step
  links : Link → Step

abbrev line : Graph → Graph → Step → List ℕ
line old new (freezes i) = step_line (codes "freeze ") old i
line old new (unlinks p) = unlink_line old p
line old new (removes i) = step_line (codes "remove ") old i
line old new (creates i) = create_line new i
line old new (links l) = link_line new l

abbrev IsStepWithin : Graph → Graph → Step → Type 0
IsStepWithin old new (freezes i) = i < length old.nodes
IsStepWithin old new (unlinks p) = p.require < requires_at old.nodes p.node
IsStepWithin old new (removes i) = i < length old.nodes
IsStepWithin old new (creates i) = i < length new.nodes
IsStepWithin old new (links l) = IsLinkWithin new.nodes l

abbrev steps_of : Plan → List Step
steps_of p = map freezes p.freeze ++ map unlinks p.unlink ++ map removes p.remove ++ map creates p.create ++ map links p.link

-- the first bytes of lines of different words differ
apart : (a b : ℕ) (xs ys : List ℕ) → ¬ (a ≡ b) → a ∷ xs ≡ b ∷ ys → ⊥
apart a b xs ys differ e = differ (ap (λ zs. get_or zs 0 0) e)

module _ (old new : Graph) (old_graph : IsGraph old) (new_graph : IsGraph new) (old_words : All (λ n. IsOneWord n.path) old.nodes) (new_words : All (λ n. IsOneWord n.path) new.nodes) where
  same_line : (s t : Step) → IsStepWithin old new s → IsStepWithin old new t → (rest rest' : List ℕ) → line old new s ++ rest ≡ line old new t ++ rest' → (s ≡ t) × (rest ≡ rest')
  same_line (freezes i) (freezes j) low high rest rest' e =
      let both = same_node_line old old_graph old_words (codes "freeze ") i j low high rest rest' e in (ap freezes both.0, both.1)
  same_line (unlinks p) (unlinks q) low high rest rest' e =
      let both = same_unlink_line old old_graph old_words p q low high rest rest' e in (ap unlinks both.0, both.1)
  same_line (removes i) (removes j) low high rest rest' e =
      let both = same_node_line old old_graph old_words (codes "remove ") i j low high rest rest' e in (ap removes both.0, both.1)
  same_line (creates i) (creates j) low high rest rest' e =
      let both = same_create_line new new_graph new_words i j low high rest rest' e in (ap creates both.0, both.1)
  same_line (links l) (links k) low high rest rest' e =
      let both = same_link_line new new_graph new_words l k low high rest rest' e in (ap links both.0, both.1)
  same_line (freezes x) (unlinks y) low high rest rest' e = absurd (apart 102 117 _ _ (λ same. omega (arith, same)) e)
  same_line (freezes x) (removes y) low high rest rest' e = absurd (apart 102 114 _ _ (λ same. omega (arith, same)) e)
  same_line (freezes x) (creates y) low high rest rest' e = absurd (apart 102 99 _ _ (λ same. omega (arith, same)) e)
  same_line (freezes x) (links y) low high rest rest' e = absurd (apart 102 108 _ _ (λ same. omega (arith, same)) e)
  same_line (unlinks x) (freezes y) low high rest rest' e = absurd (apart 117 102 _ _ (λ same. omega (arith, same)) e)
  same_line (unlinks x) (removes y) low high rest rest' e = absurd (apart 117 114 _ _ (λ same. omega (arith, same)) e)
  same_line (unlinks x) (creates y) low high rest rest' e = absurd (apart 117 99 _ _ (λ same. omega (arith, same)) e)
  same_line (unlinks x) (links y) low high rest rest' e = absurd (apart 117 108 _ _ (λ same. omega (arith, same)) e)
  same_line (removes x) (freezes y) low high rest rest' e = absurd (apart 114 102 _ _ (λ same. omega (arith, same)) e)
  same_line (removes x) (unlinks y) low high rest rest' e = absurd (apart 114 117 _ _ (λ same. omega (arith, same)) e)
  same_line (removes x) (creates y) low high rest rest' e = absurd (apart 114 99 _ _ (λ same. omega (arith, same)) e)
  same_line (removes x) (links y) low high rest rest' e = absurd (apart 114 108 _ _ (λ same. omega (arith, same)) e)
  same_line (creates x) (freezes y) low high rest rest' e = absurd (apart 99 102 _ _ (λ same. omega (arith, same)) e)
  same_line (creates x) (unlinks y) low high rest rest' e = absurd (apart 99 117 _ _ (λ same. omega (arith, same)) e)
  same_line (creates x) (removes y) low high rest rest' e = absurd (apart 99 114 _ _ (λ same. omega (arith, same)) e)
  same_line (creates x) (links y) low high rest rest' e = absurd (apart 99 108 _ _ (λ same. omega (arith, same)) e)
  same_line (links x) (freezes y) low high rest rest' e = absurd (apart 108 102 _ _ (λ same. omega (arith, same)) e)
  same_line (links x) (unlinks y) low high rest rest' e = absurd (apart 108 117 _ _ (λ same. omega (arith, same)) e)
  same_line (links x) (removes y) low high rest rest' e = absurd (apart 108 114 _ _ (λ same. omega (arith, same)) e)
  same_line (links x) (creates y) low high rest rest' e = absurd (apart 108 99 _ _ (λ same. omega (arith, same)) e)

  same_lines : (ss ts : List Step) → All (IsStepWithin old new) ss → All (IsStepWithin old new) ts → flat_map (line old new) ss ≡ flat_map (line old new) ts → ss ≡ ts
  same_lines [] [] low high e = refl
  same_lines [] (t ∷ ts) low high e = absurd (no_line t (flat_map (line old new) ts) e)
    where
      no_line : (t : Step) (rest : List ℕ) → [] ≡ line old new t ++ rest → ⊥
      no_line (freezes i) rest e = cc
      no_line (unlinks p) rest e = cc
      no_line (removes i) rest e = cc
      no_line (creates i) rest e = cc
      no_line (links l) rest e = cc
  same_lines (s ∷ ss) [] low high e = absurd (no_line s (flat_map (line old new) ss) (sym e))
    where
      no_line : (t : Step) (rest : List ℕ) → [] ≡ line old new t ++ rest → ⊥
      no_line (freezes i) rest e = cc
      no_line (unlinks p) rest e = cc
      no_line (removes i) rest e = cc
      no_line (creates i) rest e = cc
      no_line (links l) rest e = cc
  same_lines (s ∷ ss) (t ∷ ts) low high e =
      let first = same_line s t (All-head (IsStepWithin old new) s ss low) (All-head (IsStepWithin old new) t ts high) (flat_map (line old new) ss) (flat_map (line old new) ts) e in
      let rest = same_lines ss ts (All-tail (IsStepWithin old new) s ss low) (All-tail (IsStepWithin old new) t ts high) first.1 in
      λ j. first.0 j ∷ rest j

-- the lines of a plan's text
lines_of : (old new : Graph) (p : Plan) → plan_text old new p ≡ flat_map (line old new) (steps_of p)
lines_of old new p =
    let f = line old new in
    let form : (a b c d e : List Step) → flat_map f ((((a ++ b) ++ c) ++ d) ++ e) ≡ (((flat_map f a ++ flat_map f b) ++ flat_map f c) ++ flat_map f d) ++ flat_map f e = λ a b c d e. simp flat_map-append in
    let freeze = flat_map-map f freezes p.freeze in
    let unlink = flat_map-map f unlinks p.unlink in
    let remove = flat_map-map f removes p.remove in
    let create = flat_map-map f creates p.create in
    let link = flat_map-map f links p.link in
    sym (form (map freezes p.freeze) (map unlinks p.unlink) (map removes p.remove) (map creates p.create) (map links p.link) ∙ (λ j. (((freeze j ++ unlink j) ++ remove j) ++ create j) ++ link j))

all_within : (old new : Graph) (p : Plan) → IsPlanWithin old new p → All (IsStepWithin old new) (steps_of p)
all_within old new p low =
    let P = IsStepWithin old new in
    let both : (xs ys : List Step) → All P xs → All P ys → All P (xs ++ ys) = All-append P in
    both (((map freezes p.freeze ++ map unlinks p.unlink) ++ map removes p.remove) ++ map creates p.create) (map links p.link)
    (both ((map freezes p.freeze ++ map unlinks p.unlink) ++ map removes p.remove) (map creates p.create)
    (both (map freezes p.freeze ++ map unlinks p.unlink) (map removes p.remove)
    (both (map freezes p.freeze) (map unlinks p.unlink) (All-map P freezes p.freeze low.freeze) (All-map P unlinks p.unlink low.unlink))
    (All-map P removes p.remove low.remove))
    (All-map P creates p.create low.create))
    (All-map P links p.link low.link)

-- ---- each kind of steps is read off again

abbrev frozen : Step → Option ℕ
frozen (freezes i) = Some i
frozen (unlinks p) = None
frozen (removes i) = None
frozen (creates i) = None
frozen (links l) = None

abbrev unlinked : Step → Option Port
unlinked (freezes i) = None
unlinked (unlinks p) = Some p
unlinked (removes i) = None
unlinked (creates i) = None
unlinked (links l) = None

abbrev removed : Step → Option ℕ
removed (freezes i) = None
removed (unlinks p) = None
removed (removes i) = Some i
removed (creates i) = None
removed (links l) = None

abbrev created : Step → Option ℕ
created (freezes i) = None
created (unlinks p) = None
created (removes i) = None
created (creates i) = Some i
created (links l) = None

abbrev linked : Step → Option Link
linked (freezes i) = None
linked (unlinks p) = None
linked (removes i) = None
linked (creates i) = None
linked (links l) = Some l

pick_all : {A : Type 0} (pick : Step → Option A) (step : A → Step) → ((x : A) → pick (step x) ≡ Some x) → (xs : List A) → filter_map pick (map step xs) ≡ xs
pick_all pick step is [] = refl
pick_all pick step is (x ∷ xs) = ap (λ o. cons_option o (filter_map pick (map step xs))) (is x) ∙ ap (λ ys. x ∷ ys) (pick_all pick step is xs)

pick_none : {A B : Type 0} (pick : Step → Option A) (step : B → Step) → ((x : B) → pick (step x) ≡ None) → (xs : List B) → filter_map pick (map step xs) ≡ []
pick_none pick step is [] = refl
pick_none pick step is (x ∷ xs) = ap (λ o. cons_option o (filter_map pick (map step xs))) (is x) ∙ pick_none pick step is xs

module _ (p : Plan) where
  parts : {A : Type 0} (pick : Step → Option A) (fs us rs cs ls : List A) → filter_map pick (map freezes p.freeze) ≡ fs → filter_map pick (map unlinks p.unlink) ≡ us → filter_map pick (map removes p.remove) ≡ rs → filter_map pick (map creates p.create) ≡ cs → filter_map pick (map links p.link) ≡ ls → filter_map pick (steps_of p) ≡ (((fs ++ us) ++ rs) ++ cs) ++ ls
  parts pick fs us rs cs ls f u r c l =
      let form : (a b c d e : List Step) → filter_map pick ((((a ++ b) ++ c) ++ d) ++ e) ≡ (((filter_map pick a ++ filter_map pick b) ++ filter_map pick c) ++ filter_map pick d) ++ filter_map pick e = λ a b c d e. simp filter_map-append in
      form (map freezes p.freeze) (map unlinks p.unlink) (map removes p.remove) (map creates p.create) (map links p.link) ∙ (λ j. (((f j ++ u j) ++ r j) ++ c j) ++ l j)

  freeze_is : filter_map frozen (steps_of p) ≡ p.freeze
  freeze_is =
      parts frozen p.freeze [] [] [] [] (pick_all frozen freezes (λ x. refl) p.freeze) (pick_none frozen unlinks (λ x. refl) p.unlink) (pick_none frozen removes (λ x. refl) p.remove) (pick_none frozen creates (λ x. refl) p.create) (pick_none frozen links (λ x. refl) p.link) ∙ simp append-nil

  unlink_is : filter_map unlinked (steps_of p) ≡ p.unlink
  unlink_is =
      parts unlinked [] p.unlink [] [] [] (pick_none unlinked freezes (λ x. refl) p.freeze) (pick_all unlinked unlinks (λ x. refl) p.unlink) (pick_none unlinked removes (λ x. refl) p.remove) (pick_none unlinked creates (λ x. refl) p.create) (pick_none unlinked links (λ x. refl) p.link) ∙ simp append-nil

  remove_is : filter_map removed (steps_of p) ≡ p.remove
  remove_is =
      parts removed [] [] p.remove [] [] (pick_none removed freezes (λ x. refl) p.freeze) (pick_none removed unlinks (λ x. refl) p.unlink) (pick_all removed removes (λ x. refl) p.remove) (pick_none removed creates (λ x. refl) p.create) (pick_none removed links (λ x. refl) p.link) ∙ simp append-nil

  create_is : filter_map created (steps_of p) ≡ p.create
  create_is =
      parts created [] [] [] p.create [] (pick_none created freezes (λ x. refl) p.freeze) (pick_none created unlinks (λ x. refl) p.unlink) (pick_none created removes (λ x. refl) p.remove) (pick_all created creates (λ x. refl) p.create) (pick_none created links (λ x. refl) p.link) ∙ simp append-nil

  link_is : filter_map linked (steps_of p) ≡ p.link
  link_is =
      parts linked [] [] [] [] p.link (pick_none linked freezes (λ x. refl) p.freeze) (pick_none linked unlinks (λ x. refl) p.unlink) (pick_none linked removes (λ x. refl) p.remove) (pick_none linked creates (λ x. refl) p.create) (pick_all linked links (λ x. refl) p.link)

pub texts_tell :
    (old new : Graph) (p q : Plan) → IsGraph old → IsGraph new → All (λ n. IsOneWord n.path) old.nodes → All (λ n. IsOneWord n.path) new.nodes → IsPlanWithin old new p → IsPlanWithin old new q
    → plan_text old new p ≡ plan_text old new q → HasSameSteps p q
texts_tell old new p q old_graph new_graph old_words new_words p_low q_low e =
    let steps = same_lines old new old_graph new_graph old_words new_words (steps_of p) (steps_of q) (all_within old new p p_low) (all_within old new q q_low) (sym (lines_of old new p) ∙ e ∙ lines_of old new q) in
    record {
      freeze = sym (freeze_is p) ∙ ap (filter_map frozen) steps ∙ freeze_is q;
      unlink = sym (unlink_is p) ∙ ap (filter_map unlinked) steps ∙ unlink_is q;
      remove = sym (remove_is p) ∙ ap (filter_map removed) steps ∙ remove_is q;
      create = sym (create_is p) ∙ ap (filter_map created) steps ∙ create_is q;
      link = sym (link_is p) ∙ ap (filter_map linked) steps ∙ link_is q;
    }
