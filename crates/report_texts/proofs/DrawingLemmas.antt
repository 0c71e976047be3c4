-- The graph that is built from lines: its nodes rise, its links are within, and no two begin at one port.
use Rattle.std.proofs.Common.{◌≡◌, ◌==◌, ◌+◌, ◌*◌, ◌<◌, ◌≤◌, ◌&&◌, ℕ, suc, Bool, true, false, not, inl, inr, List, [], ◌∷◌, ◌++◌, drop, length, get_or, Option, Some, None, IfSome, bytes_eq, refl, sym, ap, subst, ◌∙◌, append_assoc, arith, All, is_some}
use Rattle.std.specs.Prelude.{flat_map, nat_lt, slice_get}
use Rattle.std.specs.Cmp.Lexicographic.{nat_list_cmp_total, slice_cmp}
use Rattle.std.specs.List.{list_all}
use Rattle.std.specs.Option.{option_and_then}
use Rattle.std.specs.Ordering.{is_lt, nat_cmp}
use Rattle.std.specs.declared.cmp.Ordering.{Ordering}
use Rattle.std.specs.declared.cmp.Ordering.TheVariants.{Less, Equal, Greater}
use Rattle.std.proofs.Math.Seq.{drop-cons}
use Rattle.std.proofs.lemmas.Bool.{and_from, and_parts, cases_Bool, cond-true, cond-false, false≢true, not-true}
use Rattle.std.proofs.lemmas.Bool.Decides.{nat_tests}
use Rattle.std.proofs.lemmas.List.{append-nil}
use Rattle.std.proofs.lemmas.List.Elements.{All-append, All-cons}
use Rattle.std.proofs.lemmas.List.Kept.{AllPairs-cons}
use Rattle.std.proofs.lemmas.Option.{get_or_from_slice_get, same_Some, slice_get_within}
use Rattle.base.proofs.BytesLaws.{same_bytes}
use Rattle.base.proofs.MapLaws.{length-filter_map}
use Rattle.config_graph.specs.Graph.{Graph, IsLinkWithin, OneLinkAPort, PathsRise, begins_at, graph_of, index_of, port_number, ports, provides_at, requires_at}
use Rattle.config_graph.specs.GraphText.{graph_text}
use Rattle.config_graph.specs.Kinds.{row}
use Rattle.config_graph.specs.Sound.{HasItsArgument}
use Rattle.config_graph.specs.declared.TheConstants.{VALUE_LIMIT}
use Rattle.config_graph.specs.declared.node.Link.{Link}
use Rattle.config_graph.specs.declared.node.Node.{Node}
use Rattle.config_graph.specs.declared.node.Port.{Port}
use Rattle.config_graph.specs.declared.node.Target.{Target}
use Rattle.config_graph.proofs.LinkLaws.{begins_there, port_number-place, require_within}
use Rattle.config_graph.proofs.NumberingLaws.{ports_from}
use Rattle.config_graph.proofs.OrderLaws.{All-ordered, in_port_order-twice}
use Rattle.report_writing.specs.Reports.{ended}
use Rattle.report_lines.specs.GraphLines.{node_in, target_in}
use Rattle.report_lines.specs.Parts.{words}
use Rattle.report_lines.specs.ReportLines.{lacks}
use Rattle.report_texts.specs.GraphTexts.{comes_before, drawn, fits_kind, graph_in, has_no_cycle, is_sound_node, is_one_piece, link_from, links_by, nodes_in, path_of, paths_rise, provision_of, shows, target_named, targets_in}
use Rattle.report_texts.specs.ReportTexts.{CanBeShown, IsWord}
use Rattle.report_texts.specs.TextLines.{lines, onto_line}
use Rattle.report_texts.proofs.CycleLemmas.{acyclic}
use Rattle.report_texts.proofs.HistoryLemmas.{none_some}

-- ---- nodes

less : (o : Ordering) → is_lt o ≡ true → o ≡ Less
less Less h = refl
less Equal h = absurd (false≢true h)
less Greater h = absurd (false≢true h)

abbrev Before : Node → Node → Type 0
Before m n = slice_cmp nat_cmp m.path n.path ≡ Less

before_all : (n next : Node) (more : List Node) → Before n next → All (Before next) more → All (Before n) (next ∷ more)
before_all n next more here later =
    All-cons (Before n) next more here (λ k d low. nat_list_cmp_total.trans n.path next.path (get_or more k d).path here (later k d low))

first_before : (n : Node) (more : List Node) → paths_rise (n ∷ more) ≡ true → All (Before n) more
first_before n [] is = λ k d low. absurd (omega arith)
first_before n (next ∷ more) is =
    let parts = and_parts (comes_before n next) (paths_rise (next ∷ more)) is in
    before_all n next more (less _ parts.0) (first_before next more parts.1)

rest_rises : (n : Node) (more : List Node) → paths_rise (n ∷ more) ≡ true → paths_rise more ≡ true
rest_rises n [] is = refl
rest_rises n (next ∷ more) is = (and_parts (comes_before n next) (paths_rise (next ∷ more)) is).1

pub rise : (nodes : List Node) → paths_rise nodes ≡ true → PathsRise nodes
rise [] is = λ i j d low high. absurd (omega arith)
rise (n ∷ nodes) is = AllPairs-cons Before n nodes (first_before n nodes is) (rise nodes (rest_rises n nodes is))

pub rise_end : (nodes : List Node) → length nodes ≤ 1 → paths_rise nodes ≡ true
rise_end [] short = refl
rise_end (n ∷ []) short = refl
rise_end (n ∷ next ∷ more) short = absurd (omega arith)

few_onto : (byte : ℕ) (ls : List (List ℕ)) → length (onto_line byte ls) ≡ length ls
few_onto byte [] = refl
few_onto byte (l ∷ ls) = refl

pub few_lines : (text : List ℕ) → length (lines text) ≤ length text
few_lines [] = omega arith
few_lines (b ∷ bs) =
    elim (cases_Bool (b == 10)) [
      | inl is ↦
          let step : lines (b ∷ bs) ≡ [] ∷ lines bs = cond-true _ _ _ is in
          let long = ap length step in
          omega (arith, long, few_lines bs)
      | inr other ↦
          let step : lines (b ∷ bs) ≡ onto_line b (lines bs) = cond-false _ _ _ other in
          let long = ap length step ∙ few_onto b (lines bs) in
          omega (arith, long, few_lines bs)
    ]

pub few_nodes : (text : List ℕ) → length (nodes_in (lines text)) ≤ length text
few_nodes text = omega (arith, length-filter_map (λ line. node_in (words line)) (lines text), few_lines text)

pub few_ports : (nodes : List Node) → length (ports nodes) ≤ 2 * length nodes
few_ports nodes = ports_from 0 nodes

-- ---- links

low_test : (n : ℕ) → nat_lt 0 n ≡ true → 0 < n
low_test n is = grind (arith, nat_tests)

provided_at : (nodes : List Node) (i : ℕ) (t : Target) → provision_of nodes i ≡ Some t → t.provide < provides_at nodes t.node
provided_at nodes i t e =
    elim (cases_Bool (nat_lt 0 (provides_at nodes i))) [
      | inl some ↦
          let is : record { node = i; provide = 0 } ≡ t = same_Some (record { node = i; provide = 0 }) t (sym (cond-true _ _ _ some) ∙ e) in
          subst (λ (u : Target). u.provide < provides_at nodes u.node) is (low_test (provides_at nodes i) some)
      | inr none ↦ none_some t (sym (cond-false _ _ _ none) ∙ e)
    ]

provided : (nodes : List Node) (word : List ℕ) (t : Target) → target_named nodes word ≡ Some t → t.provide < provides_at nodes t.node
provided nodes word t e = by (index_of nodes (path_of word)) e
  where
    by : (o : Option ℕ) → option_and_then (provision_of nodes) o ≡ Some t → t.provide < provides_at nodes t.node
    by None f = none_some t f
    by (Some i) f = provided_at nodes i t f

-- a link that begins at one of these ports
record BeginsIn (nodes : List Node) (ps : List Port) (l : Link) : Type 0 where
  place : ℕ
  port : Port
  there : slice_get ps place ≡ Some port
  from : l.from ≡ port.node
  require : l.require ≡ port.require
  ends : l.provide < provides_at nodes l.to

begins_later : (nodes : List Node) (p : Port) (ps : List Port) (l : Link) → BeginsIn nodes ps l → BeginsIn nodes (p ∷ ps) l
begins_later nodes p ps l b = record { place = suc b.place; port = b.port; there = b.there; from = b.from; require = b.require; ends = b.ends }

one_begins : (nodes : List Node) (p : Port) (ps : List Port) (word : List ℕ) (o : Option Target) → target_named nodes word ≡ o → All (BeginsIn nodes (p ∷ ps)) (link_from p o)
one_begins nodes p ps word None is = λ k d low. absurd (omega arith)
one_begins nodes p ps word (Some t) is =
    All-cons (BeginsIn nodes (p ∷ ps)) _ [] (record { place = 0; port = p; there = refl; from = refl; require = refl; ends = provided nodes word t is }) (λ k d low. absurd (omega arith))

all_begin : (nodes : List Node) (ps : List Port) (ws : List (List ℕ)) → All (BeginsIn nodes ps) (links_by nodes ps ws)
all_begin nodes [] ws = λ k d low. absurd (omega arith)
all_begin nodes (p ∷ ps) [] = λ k d low. absurd (omega arith)
all_begin nodes (p ∷ ps) (w ∷ ws) =
    All-append (BeginsIn nodes (p ∷ ps)) (link_from p (target_named nodes w)) (links_by nodes ps ws) (one_begins nodes p ps w (target_named nodes w) refl)
    (λ k d low. begins_later nodes p ps (get_or (links_by nodes ps ws) k d) (all_begin nodes ps ws k d low))

pub links_within : (nodes : List Node) (ws : List (List ℕ)) → All (IsLinkWithin nodes) (links_by nodes (ports nodes) ws)
links_within nodes ws k d low =
    let l = get_or (links_by nodes (ports nodes) ws) k d in
    let b = all_begin nodes (ports nodes) ws k d low in
    let within = require_within nodes b.place b.port b.there in
    record {
      begins = subst (λ i. l.require < requires_at nodes i) (sym b.from) (subst (λ r. r < requires_at nodes b.port.node) (sym b.require) within);
      ends = b.ends;
    }

-- no port stands twice in a list
abbrev Apart : List Port → Type 0
Apart ps = (j k : ℕ) (p q : Port) → slice_get ps j ≡ Some p → slice_get ps k ≡ Some q → p.node ≡ q.node → p.require ≡ q.require → j ≡ k

apart_later : (p : Port) (ps : List Port) → Apart (p ∷ ps) → Apart ps
apart_later p ps apart j k a b e f s t = let same : suc j ≡ suc k = apart (suc j) (suc k) a b e f s t in omega (arith, same)

begins_no : (nodes : List Node) (p : Port) (ps : List Port) (l m : Link) → Apart (p ∷ ps) → l.from ≡ p.node → l.require ≡ p.require → BeginsIn nodes ps m → begins_at l.from l.require m ≡ false
begins_no nodes p ps l m apart from require b =
    elim (cases_Bool (begins_at l.from l.require m)) [
      | inl here ↦
          let there = begins_there l.from l.require m here in
          let same : 0 ≡ suc b.place = apart 0 (suc b.place) p b.port refl b.there (sym from ∙ sym there.0 ∙ b.from) (sym require ∙ sym there.1 ∙ b.require) in
          absurd (omega (arith, same))
      | inr other ↦ other
    ]

one_more : (nodes : List Node) (p : Port) (ps : List Port) (ws : List (List ℕ)) (o : Option Target) → Apart (p ∷ ps) → OneLinkAPort (links_by nodes ps ws) → OneLinkAPort (link_from p o ++ links_by nodes ps ws)
one_more nodes p ps ws None apart rest = rest
one_more nodes p ps ws (Some t) apart rest =
    let l : Link = record { from = p.node; require = p.require; to = t.node; provide = t.provide } in
    AllPairs-cons (λ k m. begins_at k.from k.require m ≡ false) l (links_by nodes ps ws)
    (λ k d low. begins_no nodes p ps l (get_or (links_by nodes ps ws) k d) apart refl refl (all_begin nodes ps ws k d low)) rest

one_link : (nodes : List Node) (ps : List Port) (ws : List (List ℕ)) → Apart ps → OneLinkAPort (links_by nodes ps ws)
one_link nodes [] ws apart = λ i j d low high. absurd (omega arith)
one_link nodes (p ∷ ps) [] apart = λ i j d low high. absurd (omega arith)
one_link nodes (p ∷ ps) (w ∷ ws) apart = one_more nodes p ps ws (target_named nodes w) apart (one_link nodes ps ws (apart_later p ps apart))

pub one_link_a_port : (nodes : List Node) (ws : List (List ℕ)) → OneLinkAPort (links_by nodes (ports nodes) ws)
one_link_a_port nodes ws =
    one_link nodes (ports nodes) ws (λ j k p q e f s t. port_number-place nodes j p e ∙ (λ i. port_number nodes (s i) (t i)) ∙ sym (port_number-place nodes k q f))

pub no_links : (nodes : List Node) (ps : List Port) → links_by nodes ps [] ≡ []
no_links nodes [] = refl
no_links nodes (p ∷ ps) = refl

-- the links of a graph that is drawn
pub drawn_within : (shown : List (List ℕ)) → All (IsLinkWithin (drawn shown).nodes) (drawn shown).links
drawn_within shown =
    let nodes = nodes_in shown in
    All-ordered (links_by nodes (ports nodes) (targets_in shown)) (IsLinkWithin nodes) (links_within nodes (targets_in shown)) (ports nodes)

-- ---- what is shown is sound

no_byte : (at : ℕ) (test : ℕ → Bool) → ((b : ℕ) → test b ≡ true → not (b == at) ≡ true) → (text : List ℕ) → list_all test text ≡ true → lacks at text ≡ true
no_byte at test says [] is = refl
no_byte at test says (b ∷ bs) is =
    let parts = and_parts (test b) (list_all test bs) is in
    and_from (not (b == at)) (lacks at bs) (says b parts.0) (no_byte at test says bs parts.1)

pub word_is : (text : List ℕ) → is_one_piece text ≡ true → IsWord text
word_is text is =
    let parts = and_parts (nat_lt 0 (length text)) (list_all (λ byte. not (byte == 32) && not (byte == 10)) text) is in (
      low_test (length text) parts.0,
      no_byte 32 (λ byte. not (byte == 32) && not (byte == 10)) (λ b h. (and_parts (not (b == 32)) (not (b == 10)) h).0) text parts.1,
      no_byte 10 (λ byte. not (byte == 32) && not (byte == 10)) (λ b h. (and_parts (not (b == 32)) (not (b == 10)) h).1) text parts.1,
    )

below_limit : (a : ℕ) → nat_lt a VALUE_LIMIT ≡ true → a < VALUE_LIMIT
below_limit a is = grind (arith, nat_tests)

argument_is : (has : Bool) (arg : Option ℕ) → fits_kind has arg ≡ true → (is_some arg ≡ has) × IfSome arg (λ a. a < VALUE_LIMIT)
argument_is has None is = (sym (not-true has is), tt)
argument_is has (Some a) is = let parts = and_parts has (nat_lt a VALUE_LIMIT) is in (sym parts.0, below_limit a parts.1)

sound_node : (n : Node) → is_sound_node n ≡ true → HasItsArgument n × IsWord n.path
sound_node n is =
    let parts = and_parts (is_one_piece n.path) (fits_kind (is_some (row n.kind).arg) n.arg) is in
    let arg = argument_is (is_some (row n.kind).arg) n.arg parts.1 in
    (record { present = arg.0; below = arg.1 }, word_is n.path parts.0)

pub sound_nodes : (nodes : List Node) → list_all is_sound_node nodes ≡ true → All HasItsArgument nodes × All (λ (n : Node). IsWord n.path) nodes
sound_nodes [] is = (λ k d low. absurd (omega arith), λ k d low. absurd (omega arith))
sound_nodes (n ∷ nodes) is =
    let parts = and_parts (is_sound_node n) (list_all is_sound_node nodes) is in
    let here = sound_node n parts.0 in
    let rest = sound_nodes nodes parts.1 in
    (All-cons HasItsArgument n nodes here.0 rest.0, All-cons (λ (n : Node). IsWord n.path) n nodes here.1 rest.1)

-- Lines that show a graph are its text, and it can be shown.
pub shown_so : (shown : List (List ℕ)) (graph : Graph) → graph_in shown ≡ Some graph → (flat_map ended shown ≡ graph_text graph) × CanBeShown graph
shown_so shown graph e =
    elim (cases_Bool (shows shown (drawn shown))) [
      | inr fails ↦ none_some graph (sym (cond-false _ _ _ fails) ∙ e)
      | inl holds ↦
          let g : Graph = drawn shown in
          let is : g ≡ graph = same_Some g graph (sym (cond-true _ _ _ holds) ∙ e) in
          let first = and_parts (paths_rise g.nodes && list_all is_sound_node g.nodes && bytes_eq (graph_text g) (flat_map ended shown)) (has_no_cycle g) holds in
          let second = and_parts (paths_rise g.nodes && list_all is_sound_node g.nodes) (bytes_eq (graph_text g) (flat_map ended shown)) first.0 in
          let third = and_parts (paths_rise g.nodes) (list_all is_sound_node g.nodes) second.0 in
          let nodes = sound_nodes g.nodes third.1 in
          let can : CanBeShown g = record {
            sound = record {
              paths_rise = rise g.nodes third.0;
              arguments = nodes.0;
              within = drawn_within shown;
              in_order = in_port_order-twice (nodes_in shown) (links_by (nodes_in shown) (ports (nodes_in shown)) (targets_in shown));
              no_cycle = acyclic g (drawn_within shown) first.1;
            };
            paths = nodes.1;
          } in
          (sym (same_bytes (graph_text g) (flat_map ended shown) second.1) ∙ ap graph_text is, subst CanBeShown is can)
    ]

-- ---- the links as the code finds them

targets_first : (line word : List ℕ) (more : List (List ℕ)) → target_in (words line) ≡ Some word → targets_in (line ∷ more) ≡ word ∷ targets_in more
targets_first line word more is = rw is refl

pub links_on : (nodes : List Node) (ps : List Port) (k : ℕ) (port : Port) (target : Option Target) (old new : List Link) (left line behind word : List ℕ) (all : List Link) → slice_get ps k ≡ Some port
    → lines left ≡ line ∷ lines behind → target_in (words line) ≡ Some word → target ≡ target_named nodes word → new ≡ old ++ link_from port target
    → old ++ links_by nodes (drop k ps) (targets_in (lines left)) ≡ all → new ++ links_by nodes (drop (k + 1) ps) (targets_in (lines behind)) ≡ all
links_on nodes ps k port target old new left line behind word all at ls named target_is new_is same =
    let low = slice_get_within ps k port at in
    let next : k + 1 ≡ suc k = omega arith in
    let dropped : drop k ps ≡ port ∷ drop (k + 1) ps
    = drop-cons ps k port low ∙ (λ i. get_or_from_slice_get ps k port port at i ∷ drop (sym next i) ps) in
    let names : targets_in (lines left) ≡ word ∷ targets_in (lines behind) = ap targets_in ls ∙ targets_first line word (lines behind) named in
    ap (λ ls. ls ++ links_by nodes (drop (k + 1) ps) (targets_in (lines behind))) (new_is ∙ ap (λ t. old ++ link_from port t) target_is)
    ∙ append_assoc old (link_from port (target_named nodes word)) (links_by nodes (drop (k + 1) ps) (targets_in (lines behind)))
    ∙ (λ i. old ++ links_by nodes (sym dropped i) (sym names i)) ∙ same

pub links_end : (nodes : List Node) (ps : List Port) (old : List Link) (left : List ℕ) (all : List Link) → lines left ≡ [] → old ++ links_by nodes ps (targets_in (lines left)) ≡ all → old ≡ all
links_end nodes ps old left all none same =
    sym (append-nil old) ∙ ap (λ ls. old ++ ls) (sym (no_links nodes ps)) ∙ ap (λ ls. old ++ links_by nodes ps (targets_in ls)) (sym none) ∙ same

same_links : (shown : List (List ℕ)) (first second : List Node) (bare : Graph) (none links : List Link) → first ≡ nodes_in shown → bare ≡ graph_of first none → second ≡ nodes_in shown
    → links ≡ links_by bare.nodes (ports bare.nodes) (targets_in shown) → links ≡ links_by second (ports second) (targets_in shown)
same_links shown first second bare none links first_is bare_is second_is links_are =
    let nodes : bare.nodes ≡ second = ap (λ (g : Graph). g.nodes) bare_is ∙ first_is ∙ sym second_is in
    links_are ∙ ap (λ ns. links_by ns (ports ns) (targets_in shown)) nodes

pub links_so : (shown : List (List ℕ)) (first second : List Node) (bare : Graph) (none links : List Link) → first ≡ nodes_in shown → bare ≡ graph_of first none → second ≡ nodes_in shown
    → links ≡ links_by bare.nodes (ports bare.nodes) (targets_in shown) → All (IsLinkWithin second) links
links_so shown first second bare none links first_is bare_is second_is links_are =
    subst (All (IsLinkWithin second)) (sym (same_links shown first second bare none links first_is bare_is second_is links_are)) (links_within second (targets_in shown))

pub links_apart : (shown : List (List ℕ)) (first second : List Node) (bare : Graph) (none links : List Link) → first ≡ nodes_in shown → bare ≡ graph_of first none → second ≡ nodes_in shown
    → links ≡ links_by bare.nodes (ports bare.nodes) (targets_in shown) → OneLinkAPort links
links_apart shown first second bare none links first_is bare_is second_is links_are =
    subst OneLinkAPort (sym (same_links shown first second bare none links first_is bare_is second_is links_are)) (one_link_a_port second (targets_in shown))

not_zero : (n : ℕ) → (n == 0) ≡ false → nat_lt 0 n ≡ true
not_zero n some = grind (arith, nat_tests)

-- a word, where there is a byte
pub word_by : (text : List ℕ) → (length text == 0) ≡ false → is_one_piece text ≡ list_all (λ byte. not (byte == 32) && not (byte == 10)) text
word_by text some = ap (λ b. b && list_all (λ byte. not (byte == 32) && not (byte == 10)) text) (not_zero (length text) some)
