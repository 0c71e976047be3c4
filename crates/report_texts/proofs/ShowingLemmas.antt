-- The text of a graph that can be shown is read as this graph.
use Rattle.std.proofs.Common.{◌≡◌, ◌≢◌, ◌==◌, ◌+◌, ◌-◌, ◌<◌, ◌≤◌, ◌&&◌, ◌||◌, ℕ, zero, suc, Bool, true, false, not, List, [], ◌∷◌, ◌++◌, take, length, length-append, get_or, map, Option, Some, None, IfSome, bytes_eq, codes, decimal, refl, sym, ap, subst, ◌∙◌, append_assoc, arith, All, is_some}
use Rattle.std.specs.Prelude.{filter_map, flat_map, nat_lt, slice_get}
use Rattle.std.specs.Cmp.Lexicographic.{slice_cmp}
use Rattle.std.specs.List.{cons_option, enumerate_from, list_all, list_any, range_with_len}
use Rattle.std.specs.Option.{option_and_then, option_map_or}
use Rattle.std.specs.Ordering.{is_eq, is_lt, nat_cmp}
use Rattle.std.specs.declared.cmp.Ordering.{Ordering}
use Rattle.std.specs.declared.cmp.Ordering.TheVariants.{Less, Equal, Greater}
use Rattle.std.proofs.Math.Seq.{take-append_seam}
use Rattle.std.proofs.lemmas.Bool.{and_from, and_parts, cond-true, false≢true}
use Rattle.std.proofs.lemmas.Bool.Decides.{nat_tests}
use Rattle.std.proofs.lemmas.List.{append-nil, map-append}
use Rattle.std.proofs.lemmas.List.Elements.{filter_map-append}
use Rattle.std.proofs.lemmas.List.Sums.{AllPass-from_list_all, suffix_len_is}
use Rattle.std.proofs.lemmas.Map.Text.{is_eq-slice_cmp}
use Rattle.std.proofs.lemmas.Option.{get_or_from_slice_get, slice_get_within}
use Rattle.base.proofs.BytesLaws.{bytes_eq_self}
use Rattle.base.proofs.FindLaws.{is_some-position}
use Rattle.base.proofs.MapLaws.{map-map, map_same}
use Rattle.base.proofs.OptionLaws.{None-from_is_some}
use Rattle.config_graph.specs.Graph.{Graph, PathsRise, graph_of, index_of, ports, ports_of, provides_at, provides_of, requires_of, target_of}
use Rattle.config_graph.specs.GraphText.{end_text, graph_text, kind_text, node_line, node_lines, port_line, port_lines, provide_name, require_name, target_text}
use Rattle.config_graph.specs.Indexes.{link_to, links_in, targets}
use Rattle.config_graph.specs.Kinds.{Provision, row}
use Rattle.config_graph.specs.Sound.{HasItsArgument}
use Rattle.config_graph.specs.declared.TheConstants.{VALUE_LIMIT}
use Rattle.config_graph.specs.declared.kind.Kind.{Kind}
use Rattle.config_graph.specs.declared.node.Link.{Link}
use Rattle.config_graph.specs.declared.node.Node.{Node}
use Rattle.config_graph.specs.declared.node.Port.{Port}
use Rattle.config_graph.specs.declared.node.Target.{Target}
use Rattle.config_graph.proofs.LinkLaws.{IfSome-target}
use Rattle.config_graph.proofs.NumberingLaws.{provides_at-le}
use Rattle.config_graph.proofs.OrderLaws.{links_in-targets}
use Rattle.config_graph.proofs.PathLaws.{found_path}
use Rattle.config_graph.proofs.TextLaws.{Free, provide_name_dot, provide_name_line, require_name_line, require_name_space}
use Rattle.config_graph.proofs.KindLaws.{is_letter, provision_names_are_letters}
use Rattle.report_writing.specs.Reports.{ended}
use Rattle.report_writing.specs.Writing.{spaced}
use Rattle.change_script.specs.Written.{IsNumber}
use Rattle.report_lines.proofs.TextLaws.{lacks_append, kind_name_lacks, letters_lack}
use Rattle.report_lines.specs.GraphLines.{is_graph_line, node_in, target_in}
use Rattle.report_lines.specs.Parts.{words}
use Rattle.report_lines.specs.ReportLines.{lacks}
use Rattle.report_lines.proofs.GraphLineLaws.{node_said, node_words, port_words}
use Rattle.report_texts.specs.GraphTexts.{behind_dot, comes_before, drawn, fits_kind, has_form, has_no_cycle, is_sound_node, is_one_piece, link_from, links_by, nodes_in, path_of, paths_rise, provision_of, shows, target_named, targets_in}
use Rattle.report_texts.specs.ReportTexts.{CanBeShown, IsWord}
use Rattle.report_texts.specs.TextLines.{lines, tail}
use Rattle.report_texts.proofs.CycleLemmas.{has_none}
use Rattle.report_texts.proofs.HistoryLemmas.{AllGraph, IsTold}
use Rattle.report_texts.proofs.LineLemmas.{all_lines, joined, one_line}
use Rattle.report_texts.proofs.LogLemmas.{decimal_lacks}

-- ---- texts of nodes and ports, side by side

record Shown (text : List ℕ) (ns : List Node) (ws : List (List ℕ)) : Type 0 where
  nodes : nodes_in (lines text) ≡ ns
  names : targets_in (lines text) ≡ ws
  all : AllGraph (lines text)
  forms : list_all has_form (lines text) ≡ true
  ends : tail text ≡ []

shown_none : Shown [] [] []
shown_none = record { nodes = refl; names = refl; all = tt; forms = refl; ends = refl }

all_both : (ls ms : List (List ℕ)) → AllGraph ls → AllGraph ms → AllGraph (ls ++ ms)
all_both [] ms first second = second
all_both (l ∷ ls) ms first second = (first.0, all_both ls ms first.1 second)

forms_both : (ls ms : List (List ℕ)) → list_all has_form ls ≡ true → list_all has_form ms ≡ true → list_all has_form (ls ++ ms) ≡ true
forms_both [] ms first second = second
forms_both (l ∷ ls) ms first second =
    let parts = and_parts (has_form l) (list_all has_form ls) first in
    and_from (has_form l) (list_all has_form (ls ++ ms)) parts.0 (forms_both ls ms parts.1 second)

shown_both : (a b : List ℕ) (ns ms : List Node) (ws vs : List (List ℕ)) → Shown a ns ws → Shown b ms vs → Shown (a ++ b) (ns ++ ms) (ws ++ vs)
shown_both a b ns ms ws vs s t =
    let both = joined a b s.ends in
    record {
      nodes = ap nodes_in both.ls ∙ filter_map-append (λ line. node_in (words line)) (lines a) (lines b) ∙ (λ i. s.nodes i ++ t.nodes i);
      names = ap targets_in both.ls ∙ filter_map-append (λ line. target_in (words line)) (lines a) (lines b) ∙ (λ i. s.names i ++ t.names i);
      all = subst AllGraph (sym both.ls) (all_both (lines a) (lines b) s.all t.all);
      forms = ap (list_all has_form) both.ls ∙ forms_both (lines a) (lines b) s.forms t.forms;
      ends = both.end ∙ t.ends;
    }

of_one : {A B : Type 0} (f : A → Option B) (a : A) (b : B) → f a ≡ Some b → filter_map f (a ∷ []) ≡ b ∷ []
of_one f a b is = rw is refl

of_none : {A B : Type 0} (f : A → Option B) (a : A) → f a ≡ None → filter_map f (a ∷ []) ≡ []
of_none f a is = rw is refl

node_form : (line : List ℕ) (n : Node) → node_in (words line) ≡ Some n → has_form line ≡ true
node_form line n is = rw is refl

port_form : (line word : List ℕ) → node_in (words line) ≡ None → target_in (words line) ≡ Some word → has_form line ≡ true
port_form line word none is = rw none (rw is refl)

single_form : (line : List ℕ) (ls : List (List ℕ)) → ls ≡ line ∷ [] → has_form line ≡ true → list_all has_form ls ≡ true
single_form line ls is form = ap (list_all has_form) is ∙ and_from (has_form line) true form refl

shown_node : (line : List ℕ) (n : Node) → lacks 10 line ≡ true → is_graph_line (words line) ≡ true → node_in (words line) ≡ Some n → target_in (words line) ≡ None → Shown (ended line) (n ∷ []) []
shown_node line n lack graph node target =
    let one = one_line line lack in
    record {
      nodes = ap nodes_in one.0 ∙ of_one (λ l. node_in (words l)) line n node;
      names = ap targets_in one.0 ∙ of_none (λ l. target_in (words l)) line target;
      all = subst AllGraph (sym one.0) (graph, tt);
      forms = single_form line (lines (ended line)) one.0 (node_form line n node);
      ends = one.1;
    }

shown_port : (line word : List ℕ) → lacks 10 line ≡ true → is_graph_line (words line) ≡ true → node_in (words line) ≡ None → target_in (words line) ≡ Some word → Shown (ended line) [] (word ∷ [])
shown_port line word lack graph node target =
    let one = one_line line lack in
    record {
      nodes = ap nodes_in one.0 ∙ of_none (λ l. node_in (words l)) line node;
      names = ap targets_in one.0 ∙ of_one (λ l. target_in (words l)) line word target;
      all = subst AllGraph (sym one.0) (graph, tt);
      forms = single_form line (lines (ended line)) one.0 (port_form line word node target);
      ends = one.1;
    }

-- ---- bytes that names don't hold

not_feed : (b at : ℕ) → b ≢ at → not (b == at) ≡ true
not_feed b at other = grind (arith, nat_tests, other)

lacks_free : (at : ℕ) (text : List ℕ) → Free at text → lacks at text ≡ true
lacks_free at [] free = refl
lacks_free at (b ∷ bs) free = and_from (not (b == at)) (lacks at bs) (not_feed b at (free 0 b (omega arith))) (lacks_free at bs (λ k d low. free (suc k) d (omega arith)))

arg_lacks : (arg : Option ℕ) → IfSome arg IsNumber → lacks 10 (option_map_or decimal arg []) ≡ true
arg_lacks None small = refl
arg_lacks (Some a) small = decimal_lacks a (omega (arith, small))

kind_text_lacks : (kind : Kind) (arg : Option ℕ) → IfSome arg IsNumber → lacks 10 (kind_text kind arg) ≡ true
kind_text_lacks kind arg small =
    lacks_append 10 (((row kind).name ++ codes "(") ++ option_map_or decimal arg []) (codes ")")
    (lacks_append 10 ((row kind).name ++ codes "(") (option_map_or decimal arg []) (lacks_append 10 (row kind).name (codes "(") (kind_name_lacks 10 (omega arith) kind) refl) (arg_lacks arg small)) refl

provide_name_word : (k : Kind) (x : ℕ) → lacks 32 (provide_name k x) ≡ true
provide_name_word k x = by (slice_get (row k).provides x) refl
  where
    by : (o : Option Provision) → slice_get (row k).provides x ≡ o → lacks 32 (option_map_or (λ (p : Provision). p.name) o []) ≡ true
    by None e = refl
    by (Some p) e =
        let low = slice_get_within (row k).provides x p e in
        let read : get_or (row k).provides x p ≡ p = get_or_from_slice_get (row k).provides x p p e in
        ap (λ (q : Provision). lacks 32 q.name) (sym read) ∙ letters_lack 32 (omega arith) (get_or (row k).provides x p).name (AllPass-from_list_all (λ (q : Provision). list_all is_letter q.name) (row k).provides (provision_names_are_letters k) x p low)

-- a text of two parts at a dot has neither byte where they haven't
end_lacks : (at : ℕ) (path name : List ℕ) → not (46 == at) ≡ true → lacks at path ≡ true → lacks at name ≡ true → lacks at (end_text path name) ≡ true
end_lacks at path name dot first second =
    lacks_append at (path ++ codes ".") name (lacks_append at path (codes ".") first (and_from (not (46 == at)) true dot refl)) second

-- ---- the lines of a node and of its ports

two_words : (verb a b : List ℕ) → (((verb ++ codes " ") ++ a) ++ codes " ") ++ b ≡ verb ++ spaced (a ∷ b ∷ [])
two_words verb a b =
    append_assoc ((verb ++ codes " ") ++ a) (codes " ") b ∙ append_assoc (verb ++ codes " ") a (32 ∷ b) ∙ append_assoc verb (codes " ") (a ++ 32 ∷ b)
    ∙ ap (λ t. verb ++ (32 ∷ (a ++ 32 ∷ t))) (sym (append-nil b))

two_lack : (verb a b : List ℕ) → lacks 10 verb ≡ true → lacks 10 a ≡ true → lacks 10 b ≡ true → lacks 10 (verb ++ spaced (a ∷ b ∷ [])) ≡ true
two_lack verb a b v p q =
    lacks_append 10 verb (spaced (a ∷ b ∷ [])) v (lacks_append 10 (32 ∷ a) (spaced (b ∷ [])) p (lacks_append 10 (32 ∷ b) [] q refl))

node_is_shown : (n : Node) → IsWord n.path → IfSome n.arg IsNumber → Shown (node_line n) (n ∷ []) []
node_is_shown n word small =
    let kind : List ℕ = kind_text n.kind n.arg in
    let line : List ℕ = codes "node" ++ spaced (n.path ∷ kind ∷ []) in
    let ws = node_words n.path n.kind n.arg word.1 small in
    let same : node_line n ≡ ended line = ap (λ t. t ++ codes "\n") (two_words (codes "node") n.path kind) in
    subst (λ t. Shown t (n ∷ []) []) (sym same)
    (shown_node line n (two_lack (codes "node") n.path kind refl word.2 (kind_text_lacks n.kind n.arg small)) (ap is_graph_line ws) (node_said n word.1 small) (ap target_in ws))

module _ (g : Graph) (paths : All (λ (n : Node). IsWord n.path) g.nodes) where
  abbrev name_of : ℕ → ℕ → List ℕ
  name_of i r = target_text g.nodes (target_of g.links i r)

  word_at : (i : ℕ) (n : Node) → slice_get g.nodes i ≡ Some n → IsWord n.path
  word_at i n at =
      let low = slice_get_within g.nodes i n at in
      subst (λ (m : Node). IsWord m.path) (get_or_from_slice_get g.nodes i n n at) (paths i n low)

  names_lack : (o : Option Target) → (lacks 32 (target_text g.nodes o) ≡ true) × (lacks 10 (target_text g.nodes o) ≡ true)
  names_lack None = (refl, refl)
  names_lack (Some t) = by (slice_get g.nodes t.node) refl
    where
      by : (o : Option Node) → slice_get g.nodes t.node ≡ o
          → (lacks 32 (option_map_or (λ (n : Node). end_text n.path (provide_name n.kind t.provide)) o []) ≡ true) × (lacks 10 (option_map_or (λ (n : Node). end_text n.path (provide_name n.kind t.provide)) o []) ≡ true)
      by None at = (refl, refl)
      by (Some n) at =
          let word = word_at t.node n at in (
            end_lacks 32 n.path (provide_name n.kind t.provide) refl word.1 (provide_name_word n.kind t.provide),
            end_lacks 10 n.path (provide_name n.kind t.provide) refl word.2 (lacks_free 10 (provide_name n.kind t.provide) (provide_name_line n.kind t.provide)),
          )

  port_is_shown : (i r : ℕ) (n : Node) → IsWord n.path → Shown (port_line g i n r) [] (name_of i r ∷ [])
  port_is_shown i r n word =
      let port : List ℕ = end_text n.path (require_name n.kind r) in
      let name : List ℕ = name_of i r in
      let line : List ℕ = codes "port" ++ spaced (port ∷ name ∷ []) in
      let names = names_lack (target_of g.links i r) in
      let port_word = end_lacks 32 n.path (require_name n.kind r) refl word.1 (lacks_free 32 (require_name n.kind r) (require_name_space n.kind r)) in
      let port_line_ = end_lacks 10 n.path (require_name n.kind r) refl word.2 (lacks_free 10 (require_name n.kind r) (require_name_line n.kind r)) in
      let ws = port_words port name port_word names.0 in
      let same : port_line g i n r ≡ ended line = ap (λ t. t ++ codes "\n") (two_words (codes "port") port name) in
      subst (λ t. Shown t [] (name ∷ [])) (sym same)
      (shown_port line name (two_lack (codes "port") port name refl port_line_ names.1) (ap is_graph_line ws) (ap node_in ws) (ap target_in ws))

  ports_are_shown : (i : ℕ) (n : Node) (a count : ℕ) → IsWord n.path → Shown (flat_map (port_line g i n) (range_with_len a count)) [] (map (name_of i) (range_with_len a count))
  ports_are_shown i n a zero word = shown_none
  ports_are_shown i n a (suc count) word =
      shown_both (port_line g i n a) (flat_map (port_line g i n) (range_with_len (a + 1) count)) [] [] (name_of i a ∷ []) (map (name_of i) (range_with_len (a + 1) count))
      (port_is_shown i a n word) (ports_are_shown i n (a + 1) count word)

  abbrev name_at : Port → List ℕ
  name_at p = name_of p.node p.require

  nodes_are_shown : (i : ℕ) (ns : List Node) → All (λ (n : Node). IsWord n.path) ns → All (λ (n : Node). IfSome n.arg IsNumber) ns
      → Shown (flat_map (λ p. node_lines g p.0 p.1) (enumerate_from i ns)) ns (map name_at (flat_map (λ p. ports_of p.0 (requires_of p.1)) (enumerate_from i ns)))
  nodes_are_shown i [] ns_words ns_small = shown_none
  nodes_are_shown i (n ∷ ns) ns_words ns_small =
      let word = ns_words 0 n (omega arith) in
      let rest_text : List ℕ = flat_map (λ p. node_lines g p.0 p.1) (enumerate_from (i + 1) ns) in
      let rest_ports : List Port = flat_map (λ p. ports_of p.0 (requires_of p.1)) (enumerate_from (i + 1) ns) in
      let own : List (List ℕ) = map (name_of i) (range_with_len 0 (requires_of n)) in
      let here = shown_both (node_line n) (port_lines g i n (requires_of n)) (n ∷ []) [] [] own (node_is_shown n word (ns_small 0 n (omega arith))) (ports_are_shown i n 0 (requires_of n) word) in
      let rest = nodes_are_shown (i + 1) ns (λ k d low. ns_words (suc k) d (omega arith)) (λ k d low. ns_small (suc k) d (omega arith)) in
      let both = shown_both (node_lines g i n) rest_text (n ∷ []) ns own (map name_at rest_ports) here rest in
      let names : own ++ map name_at rest_ports ≡ map name_at (ports_of i (requires_of n) ++ rest_ports)
      = ap (λ ws. ws ++ map name_at rest_ports) (sym (map-map name_at (λ r. record { node = i; require = r }) (range_with_len 0 (requires_of n)))) ∙ sym (map-append name_at (ports_of i (requires_of n)) rest_ports) in
      subst (λ ws. Shown (node_lines g i n ++ rest_text) (n ∷ ns) ws) names both

-- ---- what a word for a target names

path_before : (path name : List ℕ) → Free 46 name → path_of (end_text path name) ≡ path
path_before path name free =
    let word : List ℕ = path ++ 46 ∷ name in
    let same : end_text path name ≡ word = append_assoc path (codes ".") name in
    let long : length word ≡ length path + (length name + 1) = length-append path (46 ∷ name) ∙ (let e : length path + length (46 ∷ name) ≡ length path + (length name + 1) = omega arith in e) in
    let behind : behind_dot word ≡ length word - (length path + 1) = suffix_len_is (λ byte. not (byte == 46)) word (length path + 1) 0 (omega (arith, long)) (later long) (dot long) in
    let count : length word - behind_dot word - 1 ≡ length path = omega (arith, long, behind) in
    ap path_of same ∙ ap (λ k. take k word) count ∙ take-append_seam path (46 ∷ name)
  where
    later : length (path ++ 46 ∷ name) ≡ length path + (length name + 1) → (k : ℕ) → length path + 1 ≤ k → k < length (path ++ 46 ∷ name) → not (get_or (path ++ 46 ∷ name) k 0 == 46) ≡ true
    later long k high low = at path k high (omega (arith, long, low))
      where
        at : (xs : List ℕ) (k : ℕ) → length xs + 1 ≤ k → k < length xs + (length name + 1) → not (get_or (xs ++ 46 ∷ name) k 0 == 46) ≡ true
        at [] zero high low = absurd (omega (arith, high))
        at [] (suc k) high low = not_feed (get_or name k 0) 46 (free k 0 (omega (arith, low)))
        at (x ∷ xs) zero high low = absurd (omega (arith, high))
        at (x ∷ xs) (suc k) high low = at xs k (omega (arith, high)) (omega (arith, low))

    dot : length (path ++ 46 ∷ name) ≡ length path + (length name + 1) → 0 < length path + 1 → not (get_or (path ++ 46 ∷ name) (length path + 1 - 1) 0 == 46) ≡ false
    dot long some = let at_dot : length path + 1 - 1 ≡ length path = omega arith in ap (λ k. not (get_or (path ++ 46 ∷ name) k 0 == 46)) at_dot ∙ at path
      where
        at : (xs : List ℕ) → not (get_or (xs ++ 46 ∷ name) (length xs) 0 == 46) ≡ false
        at [] = refl
        at (x ∷ xs) = at xs

no_empty : (text : List ℕ) → 0 < length text → bytes_eq [] text ≡ false
no_empty [] some = absurd (omega (arith, some))
no_empty (b ∷ bs) some = refl

none_empty : (nodes : List Node) → All (λ (n : Node). IsWord n.path) nodes → list_any (λ (n : Node). bytes_eq [] n.path) nodes ≡ false
none_empty [] paths = refl
none_empty (n ∷ nodes) paths =
    ap (λ b. b || list_any (λ (n : Node). bytes_eq [] n.path) nodes) (no_empty n.path (paths 0 n (omega arith)).0) ∙ none_empty nodes (λ k d low. paths (suc k) d (omega arith))

-- no node has no path
no_path : (nodes : List Node) → All (λ (n : Node). IsWord n.path) nodes → index_of nodes [] ≡ None
no_path nodes paths =
    None-from_is_some (index_of nodes []) (is_some-position (λ (n : Node). bytes_eq [] n.path) nodes ∙ none_empty nodes paths)

equal_self : (o : Ordering) → is_eq o ≡ true → o ≡ Equal
equal_self Less e = absurd (false≢true e)
equal_self Equal e = refl
equal_self Greater e = absurd (false≢true e)

same_path : (p : List ℕ) → slice_cmp nat_cmp p p ≡ Equal
same_path p = equal_self (slice_cmp nat_cmp p p) (is_eq-slice_cmp p p ∙ bytes_eq_self p)

-- a node is found by its path
found_node : (nodes : List Node) (i : ℕ) (n : Node) → PathsRise nodes → slice_get nodes i ≡ Some n → index_of nodes n.path ≡ Some i
found_node nodes i n rise at =
    let low = slice_get_within nodes i n at in
    found_path nodes n.path rise i low (λ d. ap (λ (m : Node). slice_cmp nat_cmp m.path n.path) (get_or_from_slice_get nodes i n d at) ∙ same_path n.path)

high_test : (n : ℕ) → 0 < n → nat_lt 0 n ≡ true
high_test n some = grind (arith, nat_tests)

the_provision : (nodes : List Node) (t : Target) → t.provide < provides_at nodes t.node → provision_of nodes t.node ≡ Some t
the_provision nodes t low =
    let few = provides_at-le nodes t.node in
    let zero_is : 0 ≡ t.provide = omega (arith, low, few) in
    cond-true _ _ _ (high_test (provides_at nodes t.node) (omega (arith, low))) ∙ ap (λ x. Some (record { node = t.node; provide = x })) zero_is

-- what is written for a target names it
named_back : (nodes : List Node) → PathsRise nodes → All (λ (n : Node). IsWord n.path) nodes → (o : Option Target) → IfSome o (λ t. t.provide < provides_at nodes t.node) → target_named nodes (target_text nodes o) ≡ o
named_back nodes rise paths None within = ap (option_and_then (provision_of nodes)) (no_path nodes paths)
named_back nodes rise paths (Some t) within = by (slice_get nodes t.node) refl within
  where
    by : (o : Option Node) → slice_get nodes t.node ≡ o → t.provide < option_map_or provides_of (slice_get nodes t.node) 0 → target_named nodes (target_text nodes (Some t)) ≡ Some t
    by None at low = let none : option_map_or provides_of (slice_get nodes t.node) 0 ≡ 0 = ap (λ o. option_map_or provides_of o 0) at in absurd (omega (arith, low, none))
    by (Some n) at low =
        let name : List ℕ = provide_name n.kind t.provide in
        let text : target_text nodes (Some t) ≡ end_text n.path name = ap (λ o. option_map_or (λ (n : Node). end_text n.path (provide_name n.kind t.provide)) o []) at in
        ap (target_named nodes) text ∙ ap (λ p. option_and_then (provision_of nodes) (index_of nodes p)) (path_before n.path name (provide_name_dot n.kind t.provide))
        ∙ ap (option_and_then (provision_of nodes)) (found_node nodes t.node n rise at) ∙ the_provision nodes t low

-- links by ports and words are those of the ports' targets
link_of : (p : Port) (o : Option Target) (links : List Link) → link_from p o ++ links ≡ cons_option (link_to (p, o)) links
link_of p None links = refl
link_of p (Some t) links = refl

links_of_words : (nodes : List Node) (ps : List Port) (word : Port → List ℕ) → links_by nodes ps (map word ps) ≡ links_in ps (map (λ p. target_named nodes (word p)) ps)
links_of_words nodes [] word = refl
links_of_words nodes (p ∷ ps) word =
    ap (λ ls. link_from p (target_named nodes (word p)) ++ ls) (links_of_words nodes ps word)
    ∙ link_of p (target_named nodes (word p)) (links_in ps (map (λ p. target_named nodes (word p)) ps))

-- ---- the tests of a graph that can be shown

less_test : (n next : Node) → slice_cmp nat_cmp n.path next.path ≡ Less → comes_before n next ≡ true
less_test n next is = ap is_lt is

rises : (nodes : List Node) → PathsRise nodes → paths_rise nodes ≡ true
rises [] rise = refl
rises (n ∷ []) rise = refl
rises (n ∷ next ∷ more) rise =
    and_from (comes_before n next) (paths_rise (next ∷ more)) (less_test n next (rise 0 1 n (omega arith) (omega arith)))
    (rises (next ∷ more) (λ i j d low high. rise (suc i) (suc j) d (omega arith) (omega arith)))

word_bytes : (text : List ℕ) → lacks 32 text ≡ true → lacks 10 text ≡ true → list_all (λ byte. not (byte == 32) && not (byte == 10)) text ≡ true
word_bytes [] p q = refl
word_bytes (b ∷ bs) p q =
    let space = and_parts (not (b == 32)) (lacks 32 bs) p in
    let feed = and_parts (not (b == 10)) (lacks 10 bs) q in
    and_from (not (b == 32) && not (b == 10)) (list_all (λ byte. not (byte == 32) && not (byte == 10)) bs) (and_from (not (b == 32)) (not (b == 10)) space.0 feed.0) (word_bytes bs space.1 feed.1)

word_test : (text : List ℕ) → IsWord text → is_one_piece text ≡ true
word_test text word = and_from (nat_lt 0 (length text)) (list_all (λ byte. not (byte == 32) && not (byte == 10)) text) (high_test (length text) word.0) (word_bytes text word.1 word.2)

limit_test : (a : ℕ) → a < VALUE_LIMIT → nat_lt a VALUE_LIMIT ≡ true
limit_test a low = grind (arith, nat_tests)

argument_test : (has : Bool) (arg : Option ℕ) → is_some arg ≡ has → IfSome arg (λ a. a < VALUE_LIMIT) → fits_kind has arg ≡ true
argument_test has None same low = ap not (sym same)
argument_test has (Some a) same low = and_from has (nat_lt a VALUE_LIMIT) (sym same) (limit_test a low)

node_test : (n : Node) → HasItsArgument n → IsWord n.path → is_sound_node n ≡ true
node_test n has word =
    and_from (is_one_piece n.path) (fits_kind (is_some (row n.kind).arg) n.arg) (word_test n.path word) (argument_test (is_some (row n.kind).arg) n.arg has.present has.below)

nodes_test : (nodes : List Node) → All HasItsArgument nodes → All (λ (n : Node). IsWord n.path) nodes → list_all is_sound_node nodes ≡ true
nodes_test [] has words = refl
nodes_test (n ∷ nodes) has words =
    and_from (is_sound_node n) (list_all is_sound_node nodes) (node_test n (has 0 n (omega arith)) (words 0 n (omega arith)))
    (nodes_test nodes (λ k d low. has (suc k) d (omega arith)) (λ k d low. words (suc k) d (omega arith)))

small_arg : (arg : Option ℕ) → IfSome arg (λ a. a < VALUE_LIMIT) → IfSome arg IsNumber
small_arg None low = tt
small_arg (Some a) low = omega (arith, low)

-- The text of a graph that can be shown is read as this graph.
pub is_told : (g : Graph) → CanBeShown g → IsTold g
is_told g can =
    let sound = can.sound in
    let shown = nodes_are_shown g can.paths 0 g.nodes can.paths (λ k d low. small_arg (get_or g.nodes k d).arg (sound.arguments k d low).below) in
    let name : Port → List ℕ = λ p. target_text g.nodes (target_of g.links p.node p.require) in
    let ls : List (List ℕ) = lines (graph_text g) in
    let back : map (λ p. target_named g.nodes (name p)) (ports g.nodes) ≡ targets g.nodes g.links
    = map_same (λ p. target_named g.nodes (name p)) (λ p. target_of g.links p.node p.require) (ports g.nodes)
    (λ k p at. named_back g.nodes sound.paths_rise can.paths (target_of g.links p.node p.require) (IfSome-target g.nodes g.links p.node p.require (target_of g.links p.node p.require) sound.within refl)) in
    let links : links_by g.nodes (ports g.nodes) (map name (ports g.nodes)) ≡ g.links
    = links_of_words g.nodes (ports g.nodes) name ∙ ap (links_in (ports g.nodes)) back ∙ links_in-targets g.nodes g.links ∙ sound.in_order in
    let graph : graph_of g.nodes g.links ≡ g = λ i. record { nodes = g.nodes; links = sound.in_order i } in
    let drawn_is : drawn ls ≡ g
    = (λ i. graph_of (shown.nodes i) (links_by (shown.nodes i) (ports (shown.nodes i)) (shown.names i))) ∙ ap (graph_of g.nodes) links ∙ graph in
    let text : flat_map ended ls ≡ graph_text g = all_lines (graph_text g) shown.ends in
    let tested : shows ls g ≡ true
    = and_from (paths_rise g.nodes && list_all is_sound_node g.nodes && bytes_eq (graph_text g) (flat_map ended ls)) (has_no_cycle g)
    (and_from (paths_rise g.nodes && list_all is_sound_node g.nodes) (bytes_eq (graph_text g) (flat_map ended ls))
    (and_from (paths_rise g.nodes) (list_all is_sound_node g.nodes) (rises g.nodes sound.paths_rise) (nodes_test g.nodes sound.arguments can.paths))
    (ap (bytes_eq (graph_text g)) text ∙ bytes_eq_self (graph_text g)))
    (has_none g sound.within sound.no_cycle) in
    record {
      told = cond-true _ _ _ (ap (shows ls) drawn_is ∙ tested) ∙ ap Some drawn_is;
      all = shown.all;
      ends = shown.ends;
    }

-- Each line of that text has a form, and its nodes are sound and rise.
pub record HasLines (g : Graph) : Type 0 where
  pub forms : list_all has_form (lines (graph_text g)) ≡ true
  pub nodes : nodes_in (lines (graph_text g)) ≡ g.nodes
  pub sound : list_all is_sound_node g.nodes ≡ true
  pub rise : paths_rise g.nodes ≡ true

pub has_lines : (g : Graph) → CanBeShown g → HasLines g
has_lines g can =
    let sound = can.sound in
    let shown = nodes_are_shown g can.paths 0 g.nodes can.paths (λ k d low. small_arg (get_or g.nodes k d).arg (sound.arguments k d low).below) in
    record { forms = shown.forms; nodes = shown.nodes; sound = nodes_test g.nodes sound.arguments can.paths; rise = rises g.nodes sound.paths_rise }

-- And the text of whatever nodes with such paths and arguments ends with a line feed.
pub text_ends : (g : Graph) → All HasItsArgument g.nodes → All (λ (n : Node). IsWord n.path) g.nodes → tail (graph_text g) ≡ []
text_ends g has words = (nodes_are_shown g words 0 g.nodes words (λ k d low. small_arg (get_or g.nodes k d).arg (has k d low).below)).ends
