-- Lemmas on the text of a graph, as it is written line by line.
use Rattle.std.proofs.Common.{◌≡◌, ℕ, ◌+◌, ◌<◌, ◌≤◌, List, [], ◌++◌, length, take, get_or, sym, ◌∙◌, ap, arith, append_assoc}
use Rattle.std.specs.Prelude.{flat_map}
use Rattle.std.specs.List.{enumerate_from}
use Rattle.std.proofs.lemmas.List.{take_all}
use Rattle.std.proofs.lemmas.List.FromFn.{length-enumerate_from, get_or-enumerate_from}
use Rattle.config_graph.specs.Graph.{Graph, requires_of}
use Rattle.config_graph.specs.GraphText.{graph_text, node_line, node_lines, port_line, port_lines}
use Rattle.config_graph.specs.declared.node.Node.{Node}
use Rattle.base.proofs.LinesLaws.{lines_more}
use Rattle.base.proofs.RangeLaws.{flat_map_range_more}

-- a text after one port more
pub port_lines_more : (g : Graph) (i : ℕ) (n : Node) (r : ℕ) (old so_far new : List ℕ) → so_far ≡ old ++ port_lines g i n r → new ≡ so_far ++ port_line g i n r → new ≡ old ++ port_lines g i n (r + 1)
port_lines_more g i n r old so_far new so_far_is new_is =
    new_is ∙ ap (λ t. t ++ port_line g i n r) so_far_is ∙ append_assoc old (port_lines g i n r) (port_line g i n r) ∙ ap (λ t. old ++ t) (sym (flat_map_range_more (port_line g i n) r))

abbrev lines_at : Graph → ℕ × Node → List ℕ
lines_at g p = node_lines g p.0 p.1

-- a text after one node more
pub node_lines_more : (g : Graph) (i : ℕ) (n : Node) (so_far node_text new : List ℕ) → i < length g.nodes → n ≡ get_or g.nodes i n → so_far ≡ flat_map (λ p. node_lines g p.0 p.1) (take i (enumerate_from 0 g.nodes)) → node_text ≡ so_far ++ node_line n → new ≡ node_text ++ port_lines g i n (requires_of n) → new ≡ flat_map (λ p. node_lines g p.0 p.1) (take (i + 1) (enumerate_from 0 g.nodes))
node_lines_more g i n so_far node_text new low n_is so_far_is node_is new_is =
    let all = enumerate_from 0 g.nodes in
    let long : i < length all = rw length-enumerate_from low in
    let here : 0 + i ≡ i = omega arith in
    let at : get_or all i (0, n) ≡ (i, n) = get_or-enumerate_from 0 g.nodes i (0, n) low ∙ (λ j. (here j, sym n_is j)) in
    let written : new ≡ so_far ++ node_lines g i n =
    new_is ∙ ap (λ t. t ++ port_lines g i n (requires_of n)) node_is ∙ append_assoc so_far (node_line n) (port_lines g i n (requires_of n)) in
    lines_more (lines_at g) all [] so_far new i (0, n) long so_far_is (written ∙ ap (λ p. so_far ++ lines_at g p) (sym at))

-- the text after the last node
pub all_lines : (g : Graph) (i : ℕ) → length g.nodes ≤ i → flat_map (λ p. node_lines g p.0 p.1) (take i (enumerate_from 0 g.nodes)) ≡ graph_text g
all_lines g i h =
    let long : length (enumerate_from 0 g.nodes) ≤ i = rw length-enumerate_from h in
    ap (flat_map (lines_at g)) (take_all i (enumerate_from 0 g.nodes) long)
