-- Where each line of a text fits and it is the text of the graph that its lines draw, it is a graph's; and the other way
-- round.
use Rattle.std.proofs.Common.{◌≡◌, ◌⊎◌, ◌==◌, ◌+◌, ◌<◌, ◌^◌, ℕ, zero, suc, true, false, inl, inr, List, [], ◌∷◌, ◌++◌, length, Option, Some, None, bytes_eq, refl, sym, ap, subst, ◌∙◌, arith, is_some}
use Rattle.std.specs.Prelude.{flat_map, nat_lt, slice_get}
use Rattle.std.specs.List.{cons_option, list_all}
use Rattle.std.specs.Option.{option_map_or, option_or}
use Rattle.std.proofs.lemmas.Bool.{and_from, and_parts, cases_Bool, cond-true, cond-false, false≢true}
use Rattle.std.proofs.lemmas.Option.{same_Some}
use Rattle.base.proofs.BytesLaws.{bytes_eq_self, same_bytes}
use Rattle.config_graph.specs.Cycles.{FirstOnCycle, OnCycle, graph_wiring}
use Rattle.config_graph.specs.Graph.{Graph, IsGraph, ports}
use Rattle.config_graph.specs.GraphText.{graph_text}
use Rattle.config_graph.specs.Wiring.{HasNoCycle}
use Rattle.config_graph.specs.declared.node.Node.{Node}
use Rattle.config_graph.proofs.CycleLaws.{CallPath-within}
use Rattle.config_graph.proofs.OrderLaws.{in_port_order-twice}
use Rattle.report_writing.specs.Reports.{ended}
use Rattle.report_lines.specs.GraphLines.{node_in, target_in}
use Rattle.report_lines.specs.Parts.{words}
use Rattle.report_texts.specs.GraphFaults.{IsFirstCycle, IsGraphFault, by_cycle, by_line, first_bad, first_cycle, first_unlike, last_after, line_at_fault, line_fits, node_fits, open_end}
use Rattle.report_texts.specs.GraphTexts.{comes_before, drawn, graph_in, has_form, is_sound_node, links_by, nodes_in, paths_rise, shows, targets_in}
use Rattle.report_texts.specs.ReportTexts.{CanBeShown, IsGraphText}
use Rattle.report_texts.specs.TextLines.{lines, tail}
use Rattle.report_texts.specs.declared.graph_texts.GraphFault.{GraphFault}
use Rattle.report_texts.specs.declared.graph_texts.GraphFault.TheVariants as faults
use Rattle.report_texts.proofs.CycleLemmas.{below, not_below}
use Rattle.report_texts.proofs.DrawingLemmas.{drawn_within, few_nodes, few_ports, rise, sound_nodes}
use Rattle.report_texts.proofs.HistoryLemmas.{none_some}
use Rattle.report_texts.proofs.LineLemmas.{all_lines, whole}
use Rattle.report_texts.proofs.ShowingLemmas.{has_lines, is_told, text_ends}

-- ---- lines that fit

no_number : (number : ℕ) → Some number ≡ None → ⊥
no_number number is = none_some number (sym is)

-- Lines that fit behind a node have forms, and their nodes are sound and rise from it.
pub record Fit (before : Option Node) (ls : List (List ℕ)) : Type 0 where
  pub forms : list_all has_form ls ≡ true
  pub sound : list_all is_sound_node (nodes_in ls) ≡ true
  pub rise : paths_rise (cons_option before (nodes_in ls)) ≡ true

rises_behind : (before : Option Node) (node : Node) (more : List Node) → option_map_or (λ last. comes_before last node) before true ≡ true → paths_rise (node ∷ more) ≡ true → paths_rise (cons_option before (node ∷ more)) ≡ true
rises_behind None node more after rises = rises
rises_behind (Some last) node more after rises = and_from (comes_before last node) (paths_rise (node ∷ more)) after rises

rises_alone : (before : Option Node) → paths_rise (cons_option before []) ≡ true
rises_alone None = refl
rises_alone (Some last) = refl

module _ (before : Option Node) (line : List ℕ) (ls : List (List ℕ)) where
  fit_node : (node : Node) → node_in (words line) ≡ Some node → line_fits before line ≡ true → Fit (last_after before line) ls → Fit before (line ∷ ls)
  fit_node node is fits rest =
      let test : node_fits before node ≡ true = sym (ap (λ o. option_map_or (node_fits before) o (is_some (target_in (words line)))) is) ∙ fits in
      let last : last_after before line ≡ Some node = ap (λ o. option_map_or Some o before) is in
      let more : Fit (Some node) ls = subst (λ b. Fit b ls) last rest in
      let parts = and_parts (is_sound_node node) (option_map_or (λ b. comes_before b node) before true) test in
      let names : nodes_in (line ∷ ls) ≡ node ∷ nodes_in ls = rw is refl in
      let form : has_form line ≡ true = rw is refl in
      record {
        forms = and_from (has_form line) (list_all has_form ls) form more.forms;
        sound = ap (list_all is_sound_node) names ∙ and_from (is_sound_node node) (list_all is_sound_node (nodes_in ls)) parts.0 more.sound;
        rise = ap (λ ns. paths_rise (cons_option before ns)) names ∙ rises_behind before node (nodes_in ls) parts.1 more.rise;
      }

  fit_port : node_in (words line) ≡ None → line_fits before line ≡ true → Fit (last_after before line) ls → Fit before (line ∷ ls)
  fit_port none fits rest =
      let test : is_some (target_in (words line)) ≡ true = sym (ap (λ o. option_map_or (node_fits before) o (is_some (target_in (words line)))) none) ∙ fits in
      let more : Fit before ls = subst (λ b. Fit b ls) (ap (λ o. option_map_or Some o before) none) rest in
      let names : nodes_in (line ∷ ls) ≡ nodes_in ls = rw none refl in
      let form : has_form line ≡ true = rw none (rw test refl) in
      record {
        forms = and_from (has_form line) (list_all has_form ls) form more.forms;
        sound = ap (list_all is_sound_node) names ∙ more.sound;
        rise = ap (λ ns. paths_rise (cons_option before ns)) names ∙ more.rise;
      }

  fit_line : line_fits before line ≡ true → Fit (last_after before line) ls → Fit before (line ∷ ls)
  fit_line fits rest = by (node_in (words line)) refl
    where
      by : (o : Option Node) → node_in (words line) ≡ o → Fit before (line ∷ ls)
      by None is = fit_port is fits rest
      by (Some node) is = fit_node node is fits rest

  -- and the other way round
  fits_node : (node : Node) → node_in (words line) ≡ Some node → Fit before (line ∷ ls) → (line_fits before line ≡ true) × Fit (last_after before line) ls
  fits_node node is fit =
      let names : nodes_in (line ∷ ls) ≡ node ∷ nodes_in ls = rw is refl in
      let last : Some node ≡ last_after before line = sym (ap (λ o. option_map_or Some o before) is) in
      let sound = and_parts (is_sound_node node) (list_all is_sound_node (nodes_in ls)) (sym (ap (list_all is_sound_node) names) ∙ fit.sound) in
      let rises : paths_rise (cons_option before (node ∷ nodes_in ls)) ≡ true = sym (ap (λ ns. paths_rise (cons_option before ns)) names) ∙ fit.rise in
      let apart = parted before node (nodes_in ls) rises in
      let rest : Fit (Some node) ls = record { forms = (and_parts (has_form line) (list_all has_form ls) fit.forms).1; sound = sound.1; rise = apart.1 } in (
        ap (λ o. option_map_or (node_fits before) o (is_some (target_in (words line)))) is ∙ and_from (is_sound_node node) (option_map_or (λ b. comes_before b node) before true) sound.0 apart.0,
        subst (λ b. Fit b ls) last rest,
      )
    where
      parted : (b : Option Node) (n : Node) (more : List Node) → paths_rise (cons_option b (n ∷ more)) ≡ true → (option_map_or (λ last. comes_before last n) b true ≡ true) × (paths_rise (n ∷ more) ≡ true)
      parted None n more rises = (refl, rises)
      parted (Some last) n more rises = and_parts (comes_before last n) (paths_rise (n ∷ more)) rises

  fits_port : node_in (words line) ≡ None → Fit before (line ∷ ls) → (line_fits before line ≡ true) × Fit (last_after before line) ls
  fits_port none fit =
      let names : nodes_in (line ∷ ls) ≡ nodes_in ls = rw none refl in
      let last : before ≡ last_after before line = sym (ap (λ o. option_map_or Some o before) none) in
      let forms = and_parts (has_form line) (list_all has_form ls) fit.forms in
      let test : is_some (target_in (words line)) ≡ true = sym (targeted (node_in (words line)) none) ∙ forms.0 in
      let rest : Fit before ls = record {
        forms = forms.1;
        sound = sym (ap (list_all is_sound_node) names) ∙ fit.sound;
        rise = sym (ap (λ ns. paths_rise (cons_option before ns)) names) ∙ fit.rise;
      } in (
        ap (λ o. option_map_or (node_fits before) o (is_some (target_in (words line)))) none ∙ test,
        subst (λ b. Fit b ls) last rest,
      )
    where
      targeted : (o : Option Node) → node_in (words line) ≡ None → has_form line ≡ is_some (target_in (words line))
      targeted o is = rw is refl

  fits_line : Fit before (line ∷ ls) → (line_fits before line ≡ true) × Fit (last_after before line) ls
  fits_line fit = by (node_in (words line)) refl
    where
      by : (o : Option Node) → node_in (words line) ≡ o → (line_fits before line ≡ true) × Fit (last_after before line) ls
      by None is = fits_port is fit
      by (Some node) is = fits_node node is fit

pub fit_all : (number : ℕ) (before : Option Node) (ls : List (List ℕ)) → first_bad number before ls ≡ None → Fit before ls
fit_all number before [] none = record { forms = refl; sound = refl; rise = rises_alone before }
fit_all number before (line ∷ ls) none =
    elim (cases_Bool (line_fits before line)) [
      | inl fits ↦ fit_line before line ls fits (fit_all (number + 1) (last_after before line) ls (sym (cond-true _ _ _ fits) ∙ none))
      | inr bad ↦ absurd (no_number number (sym (cond-false _ _ _ bad) ∙ none))
    ]

pub all_fit : (number : ℕ) (before : Option Node) (ls : List (List ℕ)) → Fit before ls → first_bad number before ls ≡ None
all_fit number before [] fit = refl
all_fit number before (line ∷ ls) fit =
    let parts = fits_line before line ls fit in
    cond-true _ _ _ parts.0 ∙ all_fit (number + 1) (last_after before line) ls parts.1

-- ---- texts that are alike

pub same_lines : (number : ℕ) (xs ys : List (List ℕ)) → first_unlike number xs ys ≡ None → xs ≡ ys
same_lines number [] [] none = refl
same_lines number [] (y ∷ ys) none = absurd (no_number number none)
same_lines number (x ∷ xs) [] none = absurd (no_number number none)
same_lines number (x ∷ xs) (y ∷ ys) none =
    elim (cases_Bool (bytes_eq x y)) [
      | inl same ↦ λ i. same_bytes x y same i ∷ same_lines (number + 1) xs ys (sym (cond-true _ _ _ same) ∙ none) i
      | inr other ↦ absurd (no_number number (sym (cond-false _ _ _ other) ∙ none))
    ]

pub alike_itself : (number : ℕ) (ls : List (List ℕ)) → first_unlike number ls ls ≡ None
alike_itself number [] = refl
alike_itself number (l ∷ ls) = cond-true _ _ _ (bytes_eq_self l) ∙ alike_itself (number + 1) ls

pub unlike_on : (number : ℕ) (line : List ℕ) (xs ys left right : List (List ℕ)) → left ≡ line ∷ xs → right ≡ line ∷ ys → first_unlike (number + 1) xs ys ≡ first_unlike number left right
unlike_on number line xs ys left right first second =
    sym (cond-true _ _ _ (bytes_eq_self line)) ∙ (λ i. first_unlike number (sym first i) (sym second i))

-- ---- what is at fault

module _ (text : List ℕ) where
  abbrev L : List (List ℕ)
  L = lines text

  pub bad_line : (number : ℕ) → first_bad 1 None L ≡ Some number → IsGraphFault text (faults.BadLine number)
  bad_line number bad = by_line number (ap (λ o. option_or o (option_or (open_end (length L + 1) (tail text)) (first_unlike 1 L (lines (graph_text (drawn L)))))) bad)

  pub open_line : (number : ℕ) → first_bad 1 None L ≡ None → open_end (length L + 1) (tail text) ≡ Some number → IsGraphFault text (faults.BadLine number)
  open_line number fit open_ = by_line number
      (ap (λ o. option_or o (option_or (open_end (length L + 1) (tail text)) (first_unlike 1 L (lines (graph_text (drawn L)))))) fit
      ∙ ap (λ o. option_or o (first_unlike 1 L (lines (graph_text (drawn L))))) open_)

  pub fault_is : first_bad 1 None L ≡ None → tail text ≡ [] → line_at_fault text ≡ first_unlike 1 L (lines (graph_text (drawn L)))
  fault_is fit whole =
      ap (λ o. option_or o (option_or (open_end (length L + 1) (tail text)) (first_unlike 1 L (lines (graph_text (drawn L)))))) fit
      ∙ ap (λ t. option_or (open_end (length L + 1) t) (first_unlike 1 L (lines (graph_text (drawn L))))) whole

  pub unlike_line : (g : Graph) (written : List ℕ) (number : ℕ) → first_bad 1 None L ≡ None → tail text ≡ [] → g ≡ drawn L → written ≡ graph_text g → Some number ≡ first_unlike 1 L (lines written) → IsGraphFault text (faults.BadLine number)
  unlike_line g written number fit whole is drawn_text found =
      by_line number (fault_is fit whole ∙ ap (λ t. first_unlike 1 L (lines t)) (sym (drawn_text ∙ ap graph_text is)) ∙ sym found)

-- what is left where no line is, is all bytes behind the last line feed
pub open_is :
    (text left : List ℕ) (number : ℕ) → lines left ≡ [] → tail left ≡ tail text → number + length (lines left) ≡ length (lines text) + 1 → (length left == 0) ≡ false
    → Some number ≡ open_end (length (lines text) + 1) (tail text)
open_is text left number none same counted some =
    by left (sym (ap (λ ls. flat_map ended ls ++ tail left) none) ∙ whole left) some ∙ ap (open_end (length (lines text) + 1)) same
  where
    count : number ≡ length (lines text) + 1
    count = omega (arith, counted, ap length none)

    by : (rest : List ℕ) → tail left ≡ rest → (length rest == 0) ≡ false → Some number ≡ open_end (length (lines text) + 1) (tail left)
    by [] is empty = absurd (false≢true (sym empty))
    by (byte ∷ rest) is empty = ap Some count ∙ sym (ap (open_end (length (lines text) + 1)) is)

-- Nothing is at fault where each line fits, is ended, and is that of the graph which they draw.
pub record AreRight (text : List ℕ) : Type 0 where
  pub fit : first_bad 1 None (lines text) ≡ None
  pub whole : tail text ≡ []
  pub like : first_unlike 1 (lines text) (lines (graph_text (drawn (lines text)))) ≡ None

pub are_right : (text : List ℕ) → line_at_fault text ≡ None → AreRight text
are_right text none = by (first_bad 1 None (lines text)) (tail text) refl refl
  where
    by : (bad : Option ℕ) (left : List ℕ) → first_bad 1 None (lines text) ≡ bad → tail text ≡ left → AreRight text
    by (Some number) left bad rest =
        absurd (no_number number (sym (ap (λ o. option_or o (option_or (open_end (length (lines text) + 1) (tail text)) (first_unlike 1 (lines text) (lines (graph_text (drawn (lines text))))))) bad) ∙ none))
    by None (byte ∷ left) bad rest =
        absurd (no_number (length (lines text) + 1)
        (sym (ap (λ o. option_or o (option_or (open_end (length (lines text) + 1) (tail text)) (first_unlike 1 (lines text) (lines (graph_text (drawn (lines text))))))) bad
        ∙ ap (λ t. option_or (open_end (length (lines text) + 1) t) (first_unlike 1 (lines text) (lines (graph_text (drawn (lines text)))))) rest) ∙ none))
    by None [] bad rest = record { fit = bad; whole = rest; like = sym (fault_is text bad rest) ∙ none }

-- ---- graphs

pub drawn_rise : (ls : List (List ℕ)) → first_bad 1 None ls ≡ None → paths_rise (nodes_in ls) ≡ true
drawn_rise ls fit = (fit_all 1 None ls fit).rise

pub drawn_is_graph : (text : List ℕ) → length text < 2 ^ 31 → first_bad 1 None (lines text) ≡ None → IsGraph (drawn (lines text))
drawn_is_graph text few fit = record {
  paths_rise = rise (nodes_in (lines text)) (drawn_rise (lines text) fit);
  within = drawn_within (lines text);
  in_order = in_port_order-twice (nodes_in (lines text)) (links_by (nodes_in (lines text)) (ports (nodes_in (lines text))) (targets_in (lines text)));
  few_nodes = omega (arith, few_nodes text, few);
  few_ports = omega (arith, few_ports (nodes_in (lines text)), few_nodes text, few);
}

pub is_text : (text : List ℕ) → line_at_fault text ≡ None → HasNoCycle (graph_wiring (drawn (lines text))) → IsGraphText text (drawn (lines text))
is_text text right none =
    let g : Graph = drawn (lines text) in
    let are = are_right text right in
    let fit = fit_all 1 None (lines text) are.fit in
    let nodes = sound_nodes (nodes_in (lines text)) fit.sound in
    let same : lines text ≡ lines (graph_text g) = same_lines 1 (lines text) (lines (graph_text g)) are.like in
    let text_is : text ≡ graph_text g = sym (all_lines text are.whole) ∙ ap (flat_map ended) same ∙ all_lines (graph_text g) (text_ends g nodes.0 nodes.1) in (
      text_is,
      record {
        sound = record {
          paths_rise = rise (nodes_in (lines text)) fit.rise;
          arguments = nodes.0;
          within = drawn_within (lines text);
          in_order = in_port_order-twice (nodes_in (lines text)) (links_by (nodes_in (lines text)) (ports (nodes_in (lines text))) (targets_in (lines text)));
          no_cycle = none;
        };
        paths = nodes.1;
      },
    )

drawn_so : (shown : List (List ℕ)) (graph : Graph) → graph_in shown ≡ Some graph → drawn shown ≡ graph
drawn_so shown graph e =
    elim (cases_Bool (shows shown (drawn shown))) [
      | inl holds ↦ same_Some (drawn shown) graph (sym (cond-true _ _ _ holds) ∙ e)
      | inr fails ↦ none_some graph (sym (cond-false _ _ _ fails) ∙ e)
    ]

-- the lines of a graph's text draw this graph, and nothing is at fault
pub record IsDrawn (text : List ℕ) (g : Graph) : Type 0 where
  pub right : line_at_fault text ≡ None
  pub drawn_is : drawn (lines text) ≡ g

pub is_drawn : (text : List ℕ) (g : Graph) → IsGraphText text g → IsDrawn text g
is_drawn text g is = subst (λ t. IsDrawn t g) (sym is.0) (of_text g is.1)
  where
    of_text : (h : Graph) → CanBeShown h → IsDrawn (graph_text h) h
    of_text h can =
        let told = is_told h can in
        let has = has_lines h can in
        let ls : List (List ℕ) = lines (graph_text h) in
        let same : drawn ls ≡ h = drawn_so ls h told.told in
        let fit : Fit None ls = record { forms = has.forms; sound = ap (list_all is_sound_node) has.nodes ∙ has.sound; rise = ap paths_rise has.nodes ∙ has.rise } in
        let like : first_unlike 1 ls (lines (graph_text (drawn ls))) ≡ None = ap (λ (k : Graph). first_unlike 1 ls (lines (graph_text k))) same ∙ alike_itself 1 ls in
        record { right = fault_is (graph_text h) (all_fit 1 None ls fit) told.ends ∙ like; drawn_is = same }

-- ---- one of both

pub never_both : (text : List ℕ) (g : Graph) (fault : GraphFault) → IsGraphText text g → IsGraphFault text fault → ⊥
never_both text g _ is (by_line number bad) = none_some number (sym (is_drawn text g is).right ∙ bad)
never_both text g fault is (by_cycle f right cycle) = of_cycle (drawn (lines text)) fault cycle (is_drawn text g is).drawn_is
  where
    of_cycle : (h : Graph) (f : GraphFault) → IsFirstCycle h f → h ≡ g → ⊥
    of_cycle h _ (first_cycle place node first at) same = is.1.sound.no_cycle place (subst (λ (k : Graph). OnCycle k place) same first.on_cycle)

pub one_drawn : (text : List ℕ) (g h : Graph) → IsGraphText text g → IsGraphText text h → g ≡ h
one_drawn text g h first second = sym (is_drawn text g first).drawn_is ∙ (is_drawn text h second).drawn_is

one_first : (g : Graph) (i j : ℕ) → FirstOnCycle g i → FirstOnCycle g j → i ≡ j
one_first g i j first second =
    elim (cases_Bool (nat_lt i j)) [
      | inl less ↦ absurd (second.first i (below i j less) first.on_cycle)
      | inr not_less ↦
          elim (cases_Bool (nat_lt j i)) [
            | inl less ↦ absurd (first.first j (below j i less) second.on_cycle)
            | inr neither ↦ omega (arith, not_below i j not_less, not_below j i neither)
          ]
    ]

one_cycle : (g : Graph) (fault other : GraphFault) → IsFirstCycle g fault → IsFirstCycle g other → fault ≡ other
one_cycle g _ _ (first_cycle i m first at) (first_cycle j n second there) =
    let same : slice_get g.nodes i ≡ slice_get g.nodes j = ap (slice_get g.nodes) (one_first g i j first second) in
    ap (λ (k : Node). faults.DependsCycle k.path) (same_Some m n (sym at ∙ same ∙ there))

pub one_fault : (text : List ℕ) (fault other : GraphFault) → IsGraphFault text fault → IsGraphFault text other → fault ≡ other
one_fault text _ _ (by_line n bad) (by_line m also) = ap faults.BadLine (same_Some n m (sym bad ∙ also))
one_fault text _ other (by_line n bad) (by_cycle f right cycle) = none_some n (sym right ∙ bad)
one_fault text fault _ (by_cycle f right cycle) (by_line n bad) = none_some n (sym right ∙ bad)
one_fault text fault other (by_cycle f right cycle) (by_cycle h too also) = one_cycle (drawn (lines text)) fault other cycle also

pub no_want : (text : List ℕ) → IsGraphFault text faults.NoMemory → ⊥
no_want text (by_cycle f right cycle) = elim cycle [ ]

nothing_there : (k : ℕ) (ns : List Node) → k < length ns → slice_get ns k ≡ None → ⊥
nothing_there k [] low none = absurd (omega (arith, low))
nothing_there zero (n ∷ ns) low none = none_some n (sym none)
nothing_there (suc k) (n ∷ ns) low none = nothing_there k ns (omega (arith, low)) none

first_there : (g : Graph) (place : ℕ) → FirstOnCycle g place → (fault : GraphFault) × IsFirstCycle g fault
first_there g place first = by (slice_get g.nodes place) refl
  where
    by : (o : Option Node) → slice_get g.nodes place ≡ o → (fault : GraphFault) × IsFirstCycle g fault
    by (Some node) at = (faults.DependsCycle node.path, first_cycle place node first at)
    by None none = absurd (nothing_there place g.nodes (CallPath-within g place place first.on_cycle) none)

-- From a law of cycles, as it stands there.
pub always_one :
    ((g : Graph) → IsGraph g → ((i : ℕ) × FirstOnCycle g i) ⊎ HasNoCycle (graph_wiring g))
    → (text : List ℕ) → length text < 2 ^ 31 → ((g : Graph) × IsGraphText text g) ⊎ ((fault : GraphFault) × IsGraphFault text fault)
always_one cycles text few = by (line_at_fault text) refl
  where
    of_graph : line_at_fault text ≡ None → ((i : ℕ) × FirstOnCycle (drawn (lines text)) i) ⊎ HasNoCycle (graph_wiring (drawn (lines text))) → ((g : Graph) × IsGraphText text g) ⊎ ((fault : GraphFault) × IsGraphFault text fault)
    of_graph right (inr none) = inl (drawn (lines text), is_text text right none)
    of_graph right (inl (i, first)) = let f = first_there (drawn (lines text)) i first in inr (f.0, by_cycle f.0 right f.1)

    by : (o : Option ℕ) → line_at_fault text ≡ o → ((g : Graph) × IsGraphText text g) ⊎ ((fault : GraphFault) × IsGraphFault text fault)
    by (Some number) bad = inr (faults.BadLine number, by_line number bad)
    by None right = of_graph right (cycles (drawn (lines text)) (drawn_is_graph text few (are_right text right).fit))
