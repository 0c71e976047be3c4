-- Equal texts come from equal graphs: the lines are parted again at the signs that their parts don't hold.
use Rattle.std.proofs.Common.{inl, inr, ◌⊎◌, ◌≡◌, ◌≢◌, ◌+◌, ◌%◌, ◌<◌, ◌≤◌, ◌^◌, ℕ, zero, suc, Bool, true, not, ◌&&◌, eqb, List, [], ◌∷◌, ◌++◌, Option, Some, None, is_some, slice_get, length, get_or, IfSome, refl, sym, ◌∙◌, ap, subst, arith, append_assoc, zero-add}
use Rattle.std.specs.Prelude.{All, codes, decimal, flat_map, unwrap_or}
use Rattle.std.specs.List.{enumerate_from, list_all, range_with_len}
use Rattle.std.specs.Option.{option_map_or}
use Rattle.std.proofs.lemmas.Bool.{cases_lt, false≢true, true≢false, eq-eqb, and_parts}
use Rattle.std.proofs.lemmas.Fmt.{decimal_by_steps, decimal_injective}
use Rattle.std.proofs.lemmas.List.{append_cancel_left}
use Rattle.std.proofs.lemmas.List.Elements.{All-append, All-push}
use Rattle.std.proofs.lemmas.List.Sums.{AllPass-from_list_all}
use Rattle.std.proofs.lemmas.Option.{get_or_from_slice_get, slice_get_within}
use Rattle.config_graph.specs.Kinds.{Provision, kind_named, row}
use Rattle.config_graph.specs.Graph.{Graph, IsLinkWithin, PathsRise, in_port_order, ports, provides_at, provides_of, requires_at, requires_of, target_of}
use Rattle.config_graph.specs.GraphText.{IsOneWord, end_text, graph_text, node_line, node_lines, port_line, port_lines, provide_name, require_name, target_text}
use Rattle.config_graph.specs.Sound.{HasItsArgument, Sound}
use Rattle.config_graph.specs.declared.kind.Kind.{Kind}
use Rattle.config_graph.specs.declared.kind.Kind.TheVariants.{Philosopher, Place, Fork, Source, Map, Buffer, Sink, Teller, Branch, Account, Asker, Adder}
use Rattle.config_graph.specs.declared.node.Node.{Node}
use Rattle.config_graph.specs.declared.node.Port.{Port}
use Rattle.config_graph.specs.declared.node.Target.{Target}
use Rattle.std.proofs.Common.{length-append}
use Rattle.std.specs.Ordering.{nat_cmp}
use Rattle.std.specs.Cmp.Lexicographic.{slice_cmp}
use Rattle.std.proofs.lemmas.Slice.Eq.{bytes_eq-Decides}
use Rattle.config_graph.specs.Indexes.{links_in, targets}
use Rattle.config_graph.proofs.LinkLaws.{IfSome-target, require_within}
use Rattle.config_graph.proofs.NumberingLaws.{provides_at-le}
use Rattle.config_graph.proofs.OrderLaws.{links_in-targets}
use Rattle.config_graph.proofs.PathLaws.{bytes_eq-below}
use Rattle.config_graph.proofs.KindLaws.{kind_named-name, two_requires}
use Rattle.base.proofs.MapLaws.{map_same}

-- no element of the list is c
abbrev pub Free : ℕ → List ℕ → Type 0
Free c xs = All (λ b. b ≢ c) xs

Free-tail : (c x : ℕ) (xs : List ℕ) → Free c (x ∷ xs) → Free c xs
Free-tail c x xs h k d low = h (suc k) d (omega arith)

not_free : (c : ℕ) (xs ys : List ℕ) → Free c (xs ++ c ∷ ys) → ⊥
not_free c [] ys h = h 0 c (omega arith) refl
not_free c (x ∷ xs) ys h = not_free c xs ys (Free-tail c x (xs ++ c ∷ ys) h)

-- two texts are parted at the first c, or at the last
pub split_first : (c : ℕ) (xs ys us vs : List ℕ) → Free c xs → Free c ys → xs ++ c ∷ us ≡ ys ++ c ∷ vs → (xs ≡ ys) × (us ≡ vs)
split_first c [] [] us vs f g e = (refl, cc)
split_first c [] (y ∷ ys) us vs f g e = let same : y ≡ c = cc in absurd (g 0 c (omega arith) same)
split_first c (x ∷ xs) [] us vs f g e = let same : x ≡ c = cc in absurd (f 0 c (omega arith) same)
split_first c (x ∷ xs) (y ∷ ys) us vs f g e =
    let head : x ≡ y = cc in
    let tail : xs ++ c ∷ us ≡ ys ++ c ∷ vs = cc in
    let rest = split_first c xs ys us vs (Free-tail c x xs f) (Free-tail c y ys g) tail in
    (λ i. head i ∷ rest.0 i, rest.1)

pub split_last : (c : ℕ) (xs ys us vs : List ℕ) → Free c us → Free c vs → xs ++ c ∷ us ≡ ys ++ c ∷ vs → (xs ≡ ys) × (us ≡ vs)
split_last c [] [] us vs f g e = (refl, cc)
split_last c [] (y ∷ ys) us vs f g e =
    let tail : us ≡ ys ++ c ∷ vs = cc in
    absurd (not_free c ys vs (subst (Free c) tail f))
split_last c (x ∷ xs) [] us vs f g e =
    let tail : xs ++ c ∷ us ≡ vs = cc in
    absurd (not_free c xs us (subst (Free c) (sym tail) g))
split_last c (x ∷ xs) (y ∷ ys) us vs f g e =
    let head : x ≡ y = cc in
    let tail : xs ++ c ∷ us ≡ ys ++ c ∷ vs = cc in
    let rest = split_last c xs ys us vs f g tail in
    (λ i. head i ∷ rest.0 i, rest.1)

-- a test of the same
abbrev lacks : ℕ → List ℕ → Bool
lacks c xs = list_all (λ b. not (eqb b c)) xs

Free-from_lacks : (c : ℕ) (xs : List ℕ) → lacks c xs ≡ true → Free c xs
Free-from_lacks c xs h k d low e =
    let passes : not (eqb (get_or xs k d) c) ≡ true = AllPass-from_list_all (λ b. not (eqb b c)) xs h k d low in
    false≢true (sym (ap not (eq-eqb (get_or xs k d) c e)) ∙ passes)

-- the names of kinds hold no parenthesis, and those of provisions no line feed and no dot
kind_lacks : (k : Kind) → lacks 40 (row k).name ≡ true
kind_lacks Philosopher = refl
kind_lacks Place = refl
kind_lacks Fork = refl
kind_lacks Source = refl
kind_lacks Map = refl
kind_lacks Buffer = refl
kind_lacks Sink = refl
kind_lacks Teller = refl
kind_lacks Branch = refl
kind_lacks Account = refl
kind_lacks Asker = refl
kind_lacks Adder = refl

abbrev plain : Provision → Bool
plain p = lacks 10 p.name && lacks 46 p.name

provisions_plain : (k : Kind) → list_all plain (row k).provides ≡ true
provisions_plain Philosopher = refl
provisions_plain Place = refl
provisions_plain Fork = refl
provisions_plain Source = refl
provisions_plain Map = refl
provisions_plain Buffer = refl
provisions_plain Sink = refl
provisions_plain Teller = refl
provisions_plain Branch = refl
provisions_plain Account = refl
provisions_plain Asker = refl
provisions_plain Adder = refl

provide_name_plain : (k : Kind) (x : ℕ) → (lacks 10 (provide_name k x) && lacks 46 (provide_name k x)) ≡ true
provide_name_plain k x = by (slice_get (row k).provides x) refl
  where
    by : (o : Option Provision) → slice_get (row k).provides x ≡ o → (lacks 10 (option_map_or (λ (p : Provision). p.name) o []) && lacks 46 (option_map_or (λ (p : Provision). p.name) o [])) ≡ true
    by None e = refl
    by (Some p) e =
        let low = slice_get_within (row k).provides x p e in
        let read : get_or (row k).provides x p ≡ p = get_or_from_slice_get (row k).provides x p p e in
        ap plain (sym read) ∙ AllPass-from_list_all plain (row k).provides (provisions_plain k) x p low

pub provide_name_line : (k : Kind) (x : ℕ) → Free 10 (provide_name k x)
provide_name_line k x = Free-from_lacks 10 (provide_name k x) (and_parts _ _ (provide_name_plain k x)).0

pub provide_name_dot : (k : Kind) (x : ℕ) → Free 46 (provide_name k x)
provide_name_dot k x = Free-from_lacks 46 (provide_name k x) (and_parts _ _ (provide_name_plain k x)).1

-- nor do those of requirements, nor a space, and a kind's are apart
abbrev plain_name : List ℕ → Bool
plain_name name = lacks 10 name && (lacks 32 name && lacks 46 name)

requirements_plain : (k : Kind) → list_all plain_name (row k).requires_ ≡ true
requirements_plain Philosopher = refl
requirements_plain Place = refl
requirements_plain Fork = refl
requirements_plain Source = refl
requirements_plain Map = refl
requirements_plain Buffer = refl
requirements_plain Sink = refl
requirements_plain Teller = refl
requirements_plain Branch = refl
requirements_plain Account = refl
requirements_plain Asker = refl
requirements_plain Adder = refl

require_name_plain : (k : Kind) (r : ℕ) → plain_name (require_name k r) ≡ true
require_name_plain k r = by (slice_get (row k).requires_ r) refl
  where
    by : (o : Option (List ℕ)) → slice_get (row k).requires_ r ≡ o → plain_name (unwrap_or o []) ≡ true
    by None e = refl
    by (Some name) e =
        let low = slice_get_within (row k).requires_ r name e in
        let read : get_or (row k).requires_ r name ≡ name = get_or_from_slice_get (row k).requires_ r name name e in
        ap plain_name (sym read) ∙ AllPass-from_list_all plain_name (row k).requires_ (requirements_plain k) r name low

pub require_name_line : (k : Kind) (r : ℕ) → Free 10 (require_name k r)
require_name_line k r = Free-from_lacks 10 (require_name k r) (and_parts _ _ (require_name_plain k r)).0

pub require_name_space : (k : Kind) (r : ℕ) → Free 32 (require_name k r)
require_name_space k r = Free-from_lacks 32 (require_name k r) (and_parts _ _ (and_parts _ _ (require_name_plain k r)).1).0

pub require_name_dot : (k : Kind) (r : ℕ) → Free 46 (require_name k r)
require_name_dot k r = Free-from_lacks 46 (require_name k r) (and_parts _ _ (and_parts _ _ (require_name_plain k r)).1).1

names_apart : (k : Kind) → 1 < length (row k).requires_ → require_name k 0 ≡ require_name k 1 → ⊥
names_apart Philosopher low same = omega (arith, low)
names_apart Place low same = let long = ap length same in omega (arith, long)
names_apart Fork low same = omega (arith, low)
names_apart Source low same = omega (arith, low)
names_apart Map low same = omega (arith, low)
names_apart Buffer low same = omega (arith, low)
names_apart Sink low same = omega (arith, low)
names_apart Teller low same = omega (arith, low)
names_apart Branch low same = let long = ap length same in omega (arith, long)
names_apart Account low same = omega (arith, low)
names_apart Asker low same = omega (arith, low)
names_apart Adder low same = omega (arith, low)

pub one_requirement : (k : Kind) (r s : ℕ) → r < length (row k).requires_ → s < length (row k).requires_ → require_name k r ≡ require_name k s → r ≡ s
one_requirement k zero zero low high same = refl
one_requirement k zero (suc zero) low high same = absurd (names_apart k high same)
one_requirement k (suc zero) zero low high same = absurd (names_apart k low (sym same))
one_requirement k (suc zero) (suc zero) low high same = refl
one_requirement k (suc (suc r)) s low high same = absurd (omega (arith, low, two_requires k))
one_requirement k r (suc (suc s)) low high same = absurd (omega (arith, high, two_requires k))

-- a decimal number holds no closing parenthesis
decimal_free : (n : ℕ) → n < 2 ^ 64 → Free 41 (decimal n)
decimal_free =
    decimal_by_steps (λ n ds. Free 41 ds) (λ n h. All-push (λ b. b ≢ 41) [] (48 + n) (λ k d low. absurd (omega arith)) (λ e. omega (arith, e))) (λ n ds h f. All-push (λ b. b ≢ 41) ds (48 + n % 10) f (λ e. omega (arith, e)))

-- what stands for the target of a port
abbrev target_at : Graph → ℕ → ℕ → List ℕ
target_at g i r = target_text g.nodes (target_of g.links i r)

regroup : (a b c d e f g h rest : List ℕ) → (((a ++ b) ++ c) ++ (((d ++ e) ++ f) ++ g) ++ h) ++ rest ≡ a ++ (b ++ (c ++ (d ++ (e ++ (f ++ (g ++ (h ++ rest)))))))
regroup a b c d e f g h rest = simp append_assoc

-- a text of lines, with the parts in a row
node_form : (n : Node) (rest : List ℕ) → node_line n ++ rest ≡ codes "node " ++ (n.path ++ 32 ∷ ((row n.kind).name ++ 40 ∷ (option_map_or decimal n.arg [] ++ 41 ∷ 10 ∷ rest)))
node_form n rest =
    regroup (codes "node ") n.path (codes " ") (row n.kind).name (codes "(") (option_map_or decimal n.arg []) (codes ")") (codes "\n") rest

abbrev port_front : Node → ℕ → List ℕ
port_front n r = codes "port " ++ end_text n.path (require_name n.kind r) ++ codes " "

port_form : (g : Graph) (i : ℕ) (n : Node) (r : ℕ) (rest : List ℕ) → port_line g i n r ++ rest ≡ port_front n r ++ (target_at g i r ++ 10 ∷ rest)
port_form g i n r rest =
    append_assoc (port_front n r ++ target_at g i r) (codes "\n") rest ∙ append_assoc (port_front n r) (target_at g i r) (codes "\n" ++ rest)

-- equal arguments from equal texts
same_arg : (x y : Option ℕ) → is_some x ≡ is_some y → IfSome x (λ a. a < 2 ^ 24) → IfSome y (λ a. a < 2 ^ 24) → option_map_or decimal x [] ≡ option_map_or decimal y [] → x ≡ y
same_arg None None same p q e = refl
same_arg None (Some y) same p q e = absurd (false≢true same)
same_arg (Some x) None same p q e = absurd (true≢false same)
same_arg (Some x) (Some y) same p q e = ap Some (decimal_injective x y (omega arith) (omega arith) e)

arg_free : (x : Option ℕ) → IfSome x (λ a. a < 2 ^ 24) → Free 41 (option_map_or decimal x [])
arg_free None p = λ k d low. absurd (omega arith)
arg_free (Some x) p = decimal_free x (omega arith)

module _ (g h : Graph) (g_lines : (i r : ℕ) → Free 10 (target_at g i r)) (h_lines : (i r : ℕ) → Free 10 (target_at h i r)) where
  -- equal lines of ports have equal targets, and equal lines after them
  same_ports : (i : ℕ) (n : Node) (a count : ℕ) (rest rest' : List ℕ) → flat_map (port_line g i n) (range_with_len a count) ++ rest ≡ flat_map (port_line h i n) (range_with_len a count) ++ rest' → ((r : ℕ) → a ≤ r → r < a + count → target_at g i r ≡ target_at h i r) × (rest ≡ rest')
  same_ports i n a zero rest rest' e = (λ r low high. absurd (omega arith), e)
  same_ports i n a (suc count) rest rest' e =
      let more = flat_map (port_line g i n) (range_with_len (a + 1) count) in
      let more' = flat_map (port_line h i n) (range_with_len (a + 1) count) in
      let form = append_assoc (port_line g i n a) more rest ∙ port_form g i n a (more ++ rest) in
      let form' = append_assoc (port_line h i n a) more' rest' ∙ port_form h i n a (more' ++ rest') in
      let parted = split_first 10 (target_at g i a) (target_at h i a) (more ++ rest) (more' ++ rest') (g_lines i a) (h_lines i a) (append_cancel_left (port_front n a) _ _ (sym form ∙ e ∙ form')) in
      let later = same_ports i n (a + 1) count rest rest' parted.1 in
      (λ r low high. by r low high (cases_lt a r) parted.0 later.0, later.1)
    where
      by : (r : ℕ) → a ≤ r → r < a + suc count → (a < r) ⊎ (r ≤ a) → target_at g i a ≡ target_at h i a → ((r : ℕ) → a + 1 ≤ r → r < a + 1 + count → target_at g i r ≡ target_at h i r) → target_at g i r ≡ target_at h i r
      by r low high (inl above) here later = later r (omega arith) (omega arith)
      by r low high (inr last) here later = let same : a ≡ r = omega arith in subst (λ q. target_at g i q ≡ target_at h i q) same here

  -- equal lines of nodes come from equal nodes, with equal targets
  same_lines : (i : ℕ) (ns ms : List Node) → All (λ n. IsOneWord n.path) ns → All (λ n. IsOneWord n.path) ms → All HasItsArgument ns → All HasItsArgument ms → flat_map (λ p. node_lines g p.0 p.1) (enumerate_from i ns) ≡ flat_map (λ p. node_lines h p.0 p.1) (enumerate_from i ms) → (ns ≡ ms) × ((j r : ℕ) → r < requires_at ns j → target_at g (i + j) r ≡ target_at h (i + j) r)
  same_lines i [] [] ns_words ms_words ns_args ms_args e = (refl, λ j r low. absurd (omega arith))
  same_lines i [] (m ∷ ms) ns_words ms_words ns_args ms_args e = cc
  same_lines i (n ∷ ns) [] ns_words ms_words ns_args ms_args e = cc
  same_lines i (n ∷ ns) (m ∷ ms) ns_words ms_words ns_args ms_args e =
      let ports_n = port_lines g i n (requires_of n) in
      let ports_m = port_lines h i m (requires_of m) in
      let rest_n = flat_map (λ p. node_lines g p.0 p.1) (enumerate_from (i + 1) ns) in
      let rest_m = flat_map (λ p. node_lines h p.0 p.1) (enumerate_from (i + 1) ms) in
      let form_n = append_assoc (node_line n) ports_n rest_n ∙ node_form n (ports_n ++ rest_n) in
      let form_m = append_assoc (node_line m) ports_m rest_m ∙ node_form m (ports_m ++ rest_m) in
      let path = split_first 32 n.path m.path _ _ (free_of_space n ns ns_words) (free_of_space m ms ms_words) (append_cancel_left (codes "node ") _ _ (sym form_n ∙ e ∙ form_m)) in
      let name = split_first 40 (row n.kind).name (row m.kind).name _ _ (Free-from_lacks 40 (row n.kind).name (kind_lacks n.kind)) (Free-from_lacks 40 (row m.kind).name (kind_lacks m.kind)) path.1 in
      let kinds : Some n.kind ≡ Some m.kind = sym (kind_named-name n.kind) ∙ ap kind_named name.0 ∙ kind_named-name m.kind in
      let kind : n.kind ≡ m.kind = cc in
      let has_n = ns_args 0 n (omega arith) in
      let has_m = ms_args 0 m (omega arith) in
      let arg = split_first 41 (option_map_or decimal n.arg []) (option_map_or decimal m.arg []) _ _ (arg_free n.arg has_n.below) (arg_free m.arg has_m.below) name.1 in
      let args = same_arg n.arg m.arg (has_n.present ∙ ap (λ k. is_some (row k).arg) kind ∙ sym has_m.present) has_n.below has_m.below arg.0 in
      let node : n ≡ m = λ j. record { path = path.0 j; kind = kind j; arg = args j } in
      let lines : ports_n ++ rest_n ≡ ports_m ++ rest_m = cc in
      let same = same_ports i n 0 (requires_of n) rest_n rest_m (lines ∙ ap (λ x. port_lines h i x (requires_of x) ++ rest_m) (sym node)) in
      let later = same_lines (i + 1) ns ms (λ k d low. ns_words (suc k) d (omega arith)) (λ k d low. ms_words (suc k) d (omega arith)) (λ k d low. ns_args (suc k) d (omega arith)) (λ k d low. ms_args (suc k) d (omega arith)) same.1 in
      (λ j. node j ∷ later.0 j, by same.0 later.1)
    where
      free_of_space : (x : Node) (xs : List Node) → All (λ n. IsOneWord n.path) (x ∷ xs) → Free 32 x.path
      free_of_space x xs words k d low = (words 0 x (omega arith) k d low).0

      by : ((r : ℕ) → 0 ≤ r → r < 0 + requires_of n → target_at g i r ≡ target_at h i r) → ((j r : ℕ) → r < requires_at ns j → target_at g (i + 1 + j) r ≡ target_at h (i + 1 + j) r) → (j r : ℕ) → r < requires_at (n ∷ ns) j → target_at g (i + j) r ≡ target_at h (i + j) r
      by here later zero r low =
          let at : i ≡ i + 0 = omega arith in
          subst (λ k. target_at g k r ≡ target_at h k r) at (here r (omega arith) (omega arith))
      by here later (suc j) r low =
          let at : i + 1 + j ≡ i + suc j = omega arith in
          subst (λ k. target_at g k r ≡ target_at h k r) at (later j r low)

-- `PATH.NAME` is never `-`
not_dash : (path name : List ℕ) → codes "-" ≡ path ++ 46 ∷ name → ⊥
not_dash [] name e = let same : 45 ≡ 46 = ap (λ xs. get_or xs 0 0) e in omega (arith, same)
not_dash (x ∷ path) name e =
    let long = ap length e in
    omega (arith, long, length-append path (46 ∷ name))

-- the node that a target names
node_of : (nodes : List Node) (t : Target) → t.provide < provides_at nodes t.node → (n : Node) × (slice_get nodes t.node ≡ Some n)
node_of nodes t low = by (slice_get nodes t.node) refl low
  where
    by : (o : Option Node) → slice_get nodes t.node ≡ o → t.provide < option_map_or provides_of o 0 → (n : Node) × (slice_get nodes t.node ≡ Some n)
    by None e f = absurd (omega arith)
    by (Some n) e f = (n, e)

text_of_target : (nodes : List Node) (t : Target) (n : Node) → slice_get nodes t.node ≡ Some n → target_text nodes (Some t) ≡ n.path ++ 46 ∷ provide_name n.kind t.provide
text_of_target nodes t n e =
    ap (λ o. option_map_or (λ (n : Node). end_text n.path (provide_name n.kind t.provide)) o []) e ∙ append_assoc n.path (codes ".") (provide_name n.kind t.provide)

-- in a list of rising paths two places with one path are one
same_place : (nodes : List Node) (i j : ℕ) (m n : Node) → PathsRise nodes → slice_get nodes i ≡ Some m → slice_get nodes j ≡ Some n → m.path ≡ n.path → i ≡ j
same_place nodes i j m n rise at_i at_j same =
    elim (cases_lt i j) [
      | inl below ↦ absurd (apart i j m n at_i at_j below same)
      | inr above ↦
          elim (cases_lt j i) [
            | inl below ↦ absurd (apart j i n m at_j at_i below (sym same))
            | inr not_below ↦ omega arith
          ]
    ]
  where
    apart : (i j : ℕ) (m n : Node) → slice_get nodes i ≡ Some m → slice_get nodes j ≡ Some n → i < j → m.path ≡ n.path → ⊥
    apart i j m n at_i at_j below same =
        let order = rise i j m below (slice_get_within nodes j n at_j) in
        let here : get_or nodes i m ≡ m = get_or_from_slice_get nodes i m m at_i in
        let there : get_or nodes j m ≡ n = get_or_from_slice_get nodes j n m at_j in
        let less = (λ x. slice_cmp nat_cmp (sym here x).path (sym there x).path) ∙ order in
        false≢true (sym (bytes_eq-below m.path n.path less) ∙ (bytes_eq-Decides n.path m.path).1 (sym same))

-- equal texts of targets come from equal targets
same_target : (nodes : List Node) (t u : Option Target) → PathsRise nodes → IfSome t (λ t. t.provide < provides_at nodes t.node) → IfSome u (λ t. t.provide < provides_at nodes t.node) → target_text nodes t ≡ target_text nodes u → t ≡ u
same_target nodes None None rise p q e = refl
same_target nodes None (Some u) rise p q e =
    let n = node_of nodes u q in
    absurd (not_dash n.0.path (provide_name n.0.kind u.provide) (e ∙ text_of_target nodes u n.0 n.1))
same_target nodes (Some t) None rise p q e =
    let n = node_of nodes t p in
    absurd (not_dash n.0.path (provide_name n.0.kind t.provide) (sym e ∙ text_of_target nodes t n.0 n.1))
same_target nodes (Some t) (Some u) rise p q e =
    let m = node_of nodes t p in
    let n = node_of nodes u q in
    let parted = split_last 46 m.0.path n.0.path _ _ (provide_name_dot m.0.kind t.provide) (provide_name_dot n.0.kind u.provide) (sym (text_of_target nodes t m.0 m.1) ∙ e ∙ text_of_target nodes u n.0 n.1) in
    let node : t.node ≡ u.node = same_place nodes t.node u.node m.0 n.0 rise m.1 n.1 parted.0 in
    let provide : t.provide ≡ u.provide = omega (arith, p, q, provides_at-le nodes t.node, provides_at-le nodes u.node) in
    λ j. Some (record { node = node j; provide = provide j })

-- no text of a target holds a line feed
target_line : (g : Graph) → All (λ n. IsOneWord n.path) g.nodes → (i r : ℕ) → Free 10 (target_at g i r)
target_line g words i r = by (target_of g.links i r)
  where
    by : (o : Option Target) → Free 10 (target_text g.nodes o)
    by None = Free-from_lacks 10 (codes "-") refl
    by (Some t) = at (slice_get g.nodes t.node) refl
      where
        at : (o : Option Node) → slice_get g.nodes t.node ≡ o → Free 10 (option_map_or (λ (n : Node). end_text n.path (provide_name n.kind t.provide)) o [])
        at None e = λ k d low. absurd (omega arith)
        at (Some n) e =
            let low = slice_get_within g.nodes t.node n e in
            let read : get_or g.nodes t.node n ≡ n = get_or_from_slice_get g.nodes t.node n n e in
            let word : IsOneWord n.path = subst (λ m. IsOneWord m.path) read (words t.node n low) in
            let path : Free 10 n.path = λ k d l. (word k d l).1 in
            let dot : Free 10 (codes ".") = Free-from_lacks 10 (codes ".") refl in
            All-append (λ b. b ≢ 10) (n.path ++ codes ".") (provide_name n.kind t.provide) (All-append (λ b. b ≢ 10) n.path (codes ".") path dot) (provide_name_line n.kind t.provide)

pub same_from_text : (a b : Graph) → Sound a → Sound b → All (λ n. IsOneWord n.path) a.nodes → All (λ n. IsOneWord n.path) b.nodes → graph_text a ≡ graph_text b → a ≡ b
same_from_text a b a_sound b_sound a_words b_words e =
    let lines = same_lines a b (target_line a a_words) (target_line b b_words) 0 a.nodes b.nodes a_words b_words a_sound.arguments b_sound.arguments e in
    let nodes = lines.0 in
    let b_within : All (IsLinkWithin a.nodes) b.links = subst (λ ns. All (IsLinkWithin ns) b.links) (sym nodes) b_sound.within in
    let b_ordered : in_port_order a.nodes b.links ≡ b.links = subst (λ ns. in_port_order ns b.links ≡ b.links) (sym nodes) b_sound.in_order in
    let each : (q : ℕ) (p : Port) → slice_get (ports a.nodes) q ≡ Some p → target_of a.links p.node p.require ≡ target_of b.links p.node p.require =
    λ q p h.
    let here : 0 + p.node ≡ p.node = zero-add p.node in
    let texts = subst (λ i. target_at a i p.require ≡ target_at b i p.require) here (lines.1 p.node p.require (require_within a.nodes q p h)) in
    let same_nodes = ap (λ ns. target_text ns (target_of b.links p.node p.require)) (sym nodes) in
    same_target a.nodes (target_of a.links p.node p.require) (target_of b.links p.node p.require) a_sound.paths_rise (IfSome-target a.nodes a.links p.node p.require (target_of a.links p.node p.require) a_sound.within refl) (IfSome-target a.nodes b.links p.node p.require (target_of b.links p.node p.require) b_within refl) (texts ∙ same_nodes) in
    let same_targets : targets a.nodes a.links ≡ targets a.nodes b.links =
    map_same (λ p. target_of a.links p.node p.require) (λ p. target_of b.links p.node p.require) (ports a.nodes) each in
    let links : a.links ≡ b.links =
    sym a_sound.in_order ∙ sym (links_in-targets a.nodes a.links) ∙ ap (links_in (ports a.nodes)) same_targets ∙ links_in-targets a.nodes b.links ∙ b_ordered in
    λ j. record { nodes = nodes j; links = links j }
