-- What a report tells of items is what the books have.
use Rattle.std.proofs.Common.{◌≡◌, ◌∙◌, ℕ, ◌+◌, ◌≤◌, Bool, true, false, cond, not, List, [], ◌∷◌, ◌++◌, append_assoc, length, filter, Option, Some, None, refl, sym, ap, subst, arith, ⊎_elim}
use Rattle.std.specs.Prelude.{All, IfSome, option_map, sum_by}
use Rattle.std.specs.List.{list_any, range_with_len}
use Rattle.std.specs.Option.{option_map_or}
use Rattle.std.proofs.lemmas.Bool.{both_ways, false_from_ne_true, not-true, or_cases, or_parts}
use Rattle.std.proofs.lemmas.List.{get_or_past}
use Rattle.std.proofs.lemmas.List.Elements.{All-weaker}
use Rattle.std.proofs.lemmas.List.Folds.{list_any-append}
use Rattle.base.proofs.ContainsLaws.{at_some_place}
use Rattle.base.proofs.SumLaws.{sum_longer, sum_zero}
use Rattle.config_graph.specs.declared.TheConstants.{MAX_NODES, MAX_PORTS}
use Rattle.config_graph.specs.declared.kind.Kind.{Kind}
use Rattle.config_graph.specs.declared.kind.Kind.TheVariants.{Source, Buffer, Sink}
use Rattle.config_graph.specs.declared.node.Node.{Node}
use Rattle.component_trait.specs.States.{Kept}
use Rattle.component_trait.specs.Tables.{numbers}
use Rattle.quiesce_word.specs.Phases.{is_idle}
use Rattle.quiesce_core.specs.Doers.{is_of_change}
use Rattle.quiesce_core.specs.Runs.{IsRun, state_after}
use Rattle.quiesce_core.specs.State.{fresh_exchange}
use Rattle.quiesce_core.specs.declared.event.Event.{Event}
use Rattle.quiesce_core.specs.declared.event.Event.TheVariants as event
use Rattle.quiesce_core.specs.declared.state.Exchange.{Exchange}
use Rattle.quiesce_core.proofs.RunLaws.{fronts_are_runs, runs_are_well_formed}
use Rattle.report_types.specs.declared.report.HistoryLine.{HistoryLine}
use Rattle.report_types.specs.declared.report.HistoryLine.TheVariants as to
use Rattle.report_types.specs.declared.report.Last.TheVariants as last
use Rattle.report_types.specs.declared.report.Report.{Report}
use Rattle.change_spec.specs.Lawful.{Lawful}
use Rattle.change_spec.specs.Members.{event_of, events}
use Rattle.change_spec.specs.Statements.{Statement, graph_of}
use Rattle.result_laws.specs.Describing.{Describes}
use Rattle.config_graph.specs.Graph.{Graph}
use Rattle.change_round_laws.proofs.FoldLaws.{StatesAreHanded}
use Rattle.change_round_laws.proofs.LineLaws.{changes}
use Rattle.result_laws.specs.Coming.{HasFolds, come}
use Rattle.result_laws.proofs.ComingLaws.{fronts_fold}
use Rattle.result_laws.proofs.StoppingLaws.{NothingIsOpen}
use Rattle.result_laws.specs.Flows.{AreApart, AreFlows, IsFlow, same_side, IsOfFlows, KeepsWeight, held, holds_items, is_of_flow, is_source, makes_another, sent, weight_of_count, weight_of_items}
use Rattle.result_laws.specs.Describing.{LinksAre}
use Rattle.result_laws.specs.UnderWay.{of_nodes, under_way}
use Rattle.result_laws.proofs.FlowBooks.{Fair, all_held, all_sent, are_measures, keep_books, owed_at}
use Rattle.result_laws.proofs.Doing.{flows_are_apart, flows_from, is_strange}
use Rattle.result_laws.proofs.Measures.{IsMeasure, has, past_slot, unmade_come, unmade_has}
use Rattle.result_laws.proofs.Linking.{AllLinked, all_linked, made_in_graph}
use Rattle.result_laws.proofs.Ports.{due, rest_due}
use Rattle.result_laws.proofs.Stepping.{owed, owed_in, spent, stock}
use Rattle.result_laws.proofs.Told.{log_folds, lines_changed, any_change, any_of_lines, Tells, told_so, idle_at_end, rests_at_end}
use Rattle.result_laws.proofs.Weighing.{lines_keep, weighs_at}

-- ---- lines that make other nodes

strange_line : (l : HistoryLine) → makes_another l ≡ option_map_or is_strange (event_of l) false
strange_line (to.Make i made from) = refl
strange_line (to.Link p k x) = refl
strange_line (to.Unlink p) = refl
strange_line (to.Remove k) = refl
strange_line (to.Close p) = refl
strange_line (to.Reopen p) = refl
strange_line _ = refl

strange_none : (e : Event) → is_of_change e ≡ false → is_strange e ≡ false
strange_none (event.Make i made from) h = absurd (both_ways true h refl)
strange_none _ h = refl

record StrangeMake (es : List Event) : Type 0 where
  before : List Event
  after : List Event
  slot : ℕ
  made : Node
  from : Option ℕ
  parts : es ≡ before ++ event.Make slot made from ∷ after
  strange : is_of_flow made.kind ≡ false

strange_there : (es : List Event) → list_any is_strange es ≡ true → StrangeMake es
strange_there [] h = absurd (both_ways false refl h)
strange_there (e ∷ es) h = ⊎_elim (λ (here : is_strange e ≡ true). by e here) (λ (there : list_any is_strange es ≡ true). onward e (strange_there es there)) (or_cases (is_strange e) (list_any is_strange es) h)
  where
    onward : (x : Event) → StrangeMake es → StrangeMake (x ∷ es)
    onward x w = record { before = x ∷ w.before; after = w.after; slot = w.slot; made = w.made; from = w.from; parts = ap (λ xs. x ∷ xs) w.parts; strange = w.strange }

    by : (x : Event) → is_strange x ≡ true → StrangeMake (x ∷ es)
    by (event.Make k made from) g = record { before = []; after = es; slot = k; made = made; from = from; parts = refl; strange = not-true (is_of_flow made.kind) g }
    by _ g = absurd (both_ways false refl g)

-- ---- descriptions of such nodes alone

pub flows_apart : (statements : List Statement) → AreFlows statements → AreApart statements
flows_apart statements are = All-weaker (Describes IsFlow) (Describes (LinksAre same_side)) (λ st. by (graph_of st)) statements are
  where
    both_flow : (a b : Bool) → a ≡ true → b ≡ true → cond a b (not b) ≡ true
    both_flow true b h k = k
    both_flow false b h k = absurd (both_ways false refl h)

    by : (o : Option Graph) → IfSome o IsFlow → IfSome o (LinksAre same_side)
    by None h = h
    by (Some g) h = λ i r j x k l linked at_i at_j. both_flow (is_of_flow k) (is_of_flow l) (h i k at_i) (h j l at_j)

-- ---- what last states tell of items

items_tell : (weight : ℕ → ℕ) → Tells holds_items (stock weight) (weight_of_items weight)
items_tell weight = record { on = on_; off = off_; moved = λ j. refl }
  where
    on_ : (k : Kind) (s : Kept) → holds_items k ≡ true → weight_of_items weight (last.State (numbers k s)) ≡ stock weight k s
    on_ Buffer s h = refl
    on_ Sink s h = refl
    on_ _ s h = absurd (both_ways false refl h)

    off_ : (k : Kind) (s : Kept) → holds_items k ≡ false → stock weight k s ≡ 0
    off_ Buffer s h = absurd (both_ways true h refl)
    off_ Sink s h = absurd (both_ways true h refl)
    off_ _ s h = refl

counts_tell : (weight : ℕ → ℕ) → Tells is_source (spent weight) (weight_of_count weight)
counts_tell weight = record { on = on_; off = off_; moved = λ j. refl }
  where
    on_ : (k : Kind) (s : Kept) → is_source k ≡ true → weight_of_count weight (last.State (numbers k s)) ≡ spent weight k s
    on_ Source s h = refl
    on_ _ s h = absurd (both_ways false refl h)

    off_ : (k : Kind) (s : Kept) → is_source k ≡ false → spent weight k s ≡ 0
    off_ Source s h = absurd (both_ways true h refl)
    off_ _ s h = refl

module _ (handed : StatesAreHanded) (none_open : NothingIsOpen) (statements : List Statement) (report : Report) (l : Lawful statements report) where
  abbrev es : List Event
  es = events l.members

  run : IsRun es
  run = l.by_them.runs

  folds : HasFolds es
  folds = log_folds statements report l

  changed : filter is_of_change es ≡ changes report.history
  changed = lines_changed statements report l

  pub none_strange : IsOfFlows report.history → list_any is_strange es ≡ false
  none_strange flows = sym (any_change is_strange strange_none es) ∙ ap (list_any is_strange) changed ∙ sym (any_of_lines makes_another is_strange strange_line report.history) ∙ flows

  -- where each description has such nodes alone
  pub flows_described : AreFlows statements → IsOfFlows report.history
  flows_described are = false_from_ne_true (list_any makes_another report.history) (λ h.
      let w = strange_there es (sym (any_change is_strange strange_none es) ∙ ap (list_any is_strange) changed ∙ sym (any_of_lines makes_another is_strange strange_line report.history) ∙ h) in
      let g = made_in_graph statements report l IsFlow are w.before w.after w.slot w.made w.from w.parts in
      let i = at_some_place g.0.nodes w.made g.2 in
      both_ways (is_of_flow w.made.kind) w.strange (g.1 i.0 w.made.kind (ap (option_map (λ (n : Node). n.kind)) i.1)))

  -- ---- nothing is owed at the end

  owes_none : (weight : ℕ → ℕ) (n : ℕ) → owed weight (come es n) ≡ 0
  owes_none weight n = ap (λ o. option_map_or (owed_in weight (come es n).kind) o 0) (rests_at_end handed none_open statements report l n)

  -- where links join such nodes with one another alone
  pub apart_flows : IsOfFlows report.history → (before after : List Event) → es ≡ before ++ after → AllLinked same_side (state_after before).config
  apart_flows flows before after parts =
      let none' = (or_parts (list_any is_strange before) (list_any is_strange after) (sym (list_any-append is_strange before after) ∙ sym (ap (list_any is_strange) parts) ∙ none_strange flows)).0 in
      flows_are_apart (state_after before).config (flows_from [] before (fronts_are_runs before after (subst (λ xs. IsRun xs) parts run)) none' (λ n m there. absurd (cc there)))

  pub apart_described : AreApart statements → (before after : List Event) → es ≡ before ++ after → AllLinked same_side (state_after before).config
  apart_described are = all_linked statements report l (LinksAre same_side) are same_side (λ g h. h)

  module _ (weight : ℕ → ℕ) (apart : (before after : List Event) → es ≡ before ++ after → AllLinked same_side (state_after before).config) (fair : (before after : List Event) (e : Event) → es ≡ before ++ e ∷ after → Fair weight before e) where
    pub kept_so : held weight report ≡ sent weight report
    kept_so =
        let top = length (state_after es).config.slots + MAX_NODES in
        let far = length (state_after es).config.gates + MAX_PORTS in
        let books = keep_books weight top far (omega arith) (omega arith) handed es run folds apart fair in
        let o = sum_zero (owed_at weight es) 0 top (λ i l. owes_none weight i) in
        let d = sum_zero (due weight es) 0 far (λ p low. rest_due weight es p (idle_at_end none_open statements report l p)) in
        let balance = books.balance in
        let all : all_held weight top es ≡ all_sent weight top es = omega (arith, o, d, balance) in
        told_so handed statements report l holds_items (stock weight) (are_measures weight).0.unmade (weight_of_items weight) (items_tell weight)
        ∙ all
        ∙ sym (told_so handed statements report l is_source (spent weight) (are_measures weight).1.unmade (weight_of_count weight) (counts_tell weight))

  -- of a weight that no map changes
  pub weighed_so : (weight : ℕ → ℕ) → ((before after : List Event) → es ≡ before ++ after → AllLinked same_side (state_after before).config) → All (KeepsWeight weight) report.history → held weight report ≡ sent weight report
  weighed_so weight apart keep = kept_so weight apart (weighs_at handed weight es run folds apart (lines_keep weight report.history es changed keep))

  -- ---- at each place

  module _ (weight : ℕ → ℕ) (apart : (before after : List Event) → es ≡ before ++ after → AllLinked same_side (state_after before).config) (fair : (before after : List Event) (e : Event) → es ≡ before ++ e ∷ after → Fair weight before e) where
    pub each_place : (before after : List Event) → es ≡ before ++ after → of_nodes (stock weight) before ≡ of_nodes (spent weight) before + under_way weight before
    each_place before after parts =
        let s = state_after before in
        let size = length s.config.slots in
        let top = size + MAX_NODES in
        let ports = length s.config.gates in
        let far = ports + MAX_PORTS in
        let run' = subst (λ xs. IsRun xs) parts run in
        let front = fronts_are_runs before after run' in
        let front_folds = fronts_fold handed before after run' (subst (λ xs. HasFolds xs) parts folds) in
        let books = keep_books weight top far (omega arith) (omega arith) handed before front front_folds
        (λ xs ys is. apart xs (ys ++ after) (parts ∙ ap (λ zs. zs ++ after) is ∙ append_assoc xs ys after))
        (λ xs ys e is. fair xs (ys ++ after) e (parts ∙ ap (λ zs. zs ++ after) is ∙ append_assoc xs (e ∷ ys) after)) in
        let wider : (measure : Kind → Kept → ℕ) → IsMeasure measure → sum_by (has measure before) (range_with_len 0 top) ≡ of_nodes measure before =
        λ measure is. sum_longer (has measure before) 0 size MAX_NODES (λ i past. unmade_has measure is.unmade before i (past_slot s.config i (omega (arith, past)))) in
        let h = wider (stock weight) (are_measures weight).0 in
        let n = wider (spent weight) (are_measures weight).1 in
        let o = sum_longer (owed_at weight before) 0 size MAX_NODES (λ i past. ap (owed weight) (unmade_come before i (past_slot s.config i (omega (arith, past))))) in
        let d = sum_longer (due weight before) 0 ports MAX_PORTS (λ p past. fresh_due weight before front p (omega (arith, past))) in
        let balance = books.balance in
        omega (arith, h, n, o, d, balance)
      where
        fresh_due : (weight : ℕ → ℕ) (before : List Event) → IsRun before → (p : ℕ) → length (state_after before).config.gates ≤ p → due weight before p ≡ 0
        fresh_due weight before front p past =
            rest_due weight before p
            (ap (λ (x : Exchange). is_idle x.phase) (get_or_past (state_after before).traffic.exchanges p fresh_exchange (let n = (runs_are_well_formed before front).exchanges in omega (arith, n, past))))

  pub each_place_weighed : (weight : ℕ → ℕ) → ((before after : List Event) → es ≡ before ++ after → AllLinked same_side (state_after before).config) → All (KeepsWeight weight) report.history → (before after : List Event) → es ≡ before ++ after → of_nodes (stock weight) before ≡ of_nodes (spent weight) before + under_way weight before
  each_place_weighed weight apart keep = each_place weight apart (weighs_at handed weight es run folds apart (lines_keep weight report.history es changed keep))
