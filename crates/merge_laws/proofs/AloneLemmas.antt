-- What a list says of folds, of nodes that aren't done and of shows is what its history and its logs say by themselves.
use Rattle.std.proofs.Common.{◌≡◌, ◌∙◌, ℕ, zero, suc, Bool, true, false, cond, not, List, [], ◌∷◌, ◌++◌, length, Option, Some, None, refl, sym, ap, subst}
use Rattle.std.specs.Prelude.{All, find, filter_map, option_map, option_and_then, if◌then◌else◌}
use Rattle.std.specs.List.{cons_option, list_any, range_with_len}
use Rattle.std.specs.Option.{option_map_or}
use Rattle.std.proofs.lemmas.List.{append-nil}
use Rattle.std.proofs.lemmas.List.Elements.{filter-append, filter_map-append}
use Rattle.base.specs.Each.{Each, EachAfter}
use Rattle.base.proofs.EachLaws.{each_at, each_if}
use Rattle.base.proofs.ListLaws.{all_parts}
use Rattle.component_trait.specs.Moves as moves
use Rattle.component_trait.specs.States.{NodeState}
use Rattle.component_trait.specs.Tables.{opening}
use Rattle.quiesce_laws.specs.Steps.{change_all}
use Rattle.quiesce_core.specs.declared.event.Event.{Event}
use Rattle.quiesce_core.specs.declared.state.Slot.{Slot}
use Rattle.quiesce_core.specs.Live.{IsGraphOf}
use Rattle.quiesce_core.specs.Runs.{IsRun, done_by}
use Rattle.quiesce_core.specs.State.{empty, is_live, slot}
use Rattle.report_types.specs.declared.report.HistoryLine.{HistoryLine}
use Rattle.report_types.specs.declared.report.HistoryLine.TheVariants as to
use Rattle.report_types.specs.declared.report.Report.{Report}
use Rattle.change_spec.specs.Lawful.{IsGraphAt, IsGraphDescribed, IsOfItsKind, Merge, unfinished_of}
use Rattle.change_spec.specs.Members.{Member, of_history, event_of, events, is_root, lines, state_at, without_roots}
use Rattle.change_spec.specs.Opening.{argument_of, fold_at, fold_of_node, fold_within}
use Rattle.change_spec.specs.Scene.{config_after}
use Rattle.change_spec.specs.Statements.{Statement, is_finish}
use Rattle.change_spec.proofs.MemberLaws.{at_line, config_of_lines, events_without_roots, lines_parts, root_event}
use Rattle.merge_laws.specs.Alone.{IsShown, fold_told, fold_told_within, log_told, unfinished_told}
use Rattle.merge_laws.proofs.LogLemmas.{has_logs}

-- the state of a node by its own events, and by what the nodes before it kept
abbrev fold_step : List Event → (ℕ → Option NodeState) → Slot → Option NodeState
fold_step own before m =
    option_and_then (fold_at m own) (option_map_or (λ k. option_map (λ (s : NodeState). s.kept) (before k)) m.from (Some (opening m.node.kind (argument_of m))))

module _ (report : Report) (m : List Member) (merge : Merge m report) (run : IsRun (events m)) where
  pub config_is : (state_at m).config ≡ config_after report.history
  config_is = config_of_lines m merge.by_nodes ∙ ap config_after merge.history ∙ ap (change_all empty.config) (events_without_roots report.history)

  pub log_is : (n : ℕ) → done_by n (events m) ≡ log_told report n
  log_is n = has_logs report m merge.one_log_a_node merge.by_nodes merge.history run merge.logs n

  fold_alike : (fuel n : ℕ) → fold_within (events m) fuel n ≡ fold_told_within report fuel n
  fold_alike zero n = refl
  fold_alike (suc fuel) n =
      let before : (k : ℕ) → fold_within (events m) fuel k ≡ fold_told_within report fuel k = fold_alike fuel in
      λ i. option_and_then (fold_step (log_is n i) (λ k. before k i)) (slot (config_is i) n)

  pub fold_is : (n : ℕ) → fold_of_node (events m) n ≡ fold_told report n
  fold_is n = fold_alike (suc n) n

  pub unfinished_is : (statements : List Statement) → unfinished_of statements (events m) ≡ unfinished_told statements report
  unfinished_is statements = λ i.
      if list_any is_finish statements then find (λ n. if is_live (config_is i) n then not (option_map_or moves.is_done (fold_is n i) false) else false) (range_with_len 0 (length (config_is i).slots))
      else None

-- ---- shows

-- the configuration behind some lines, by those among them that aren't on what was open
before_is : (before : List Member) (ls : List HistoryLine) → All IsOfItsKind before → lines before ≡ without_roots ls → (state_at before).config ≡ config_after ls
before_is before ls kinds are = config_of_lines before kinds ∙ ap config_after are ∙ ap (change_all empty.config) (events_without_roots ls)

parted : (report : Report) (ys zs : List HistoryLine) (l : HistoryLine) → is_root l ≡ false → report.history ≡ ys ++ l ∷ zs → without_roots report.history ≡ without_roots ys ++ l ∷ without_roots zs
parted report ys zs l plain are =
    ap without_roots are ∙ filter-append (λ x. not (is_root x)) ys (l ∷ zs) ∙ ap (λ b. without_roots ys ++ cond (not b) (l ∷ without_roots zs) (without_roots zs)) plain

pub shown_alone : (statements : List Statement) (report : Report) (m : List Member) → Merge m report → Each (IsGraphAt statements) m → Each IsShown report.history
shown_alone statements report m merge graphs = each_if IsShown [] report.history by
  where
    by : (ys zs : List HistoryLine) (l : HistoryLine) → report.history ≡ ys ++ l ∷ zs → IsShown ys l
    by ys zs (to.Show g) are =
        let at = at_line m (without_roots ys) (to.Show g) (without_roots zs) (merge.history ∙ parted report ys zs (to.Show g) refl are) in
        let kinds = (all_parts IsOfItsKind at.before (of_history (to.Show g) ∷ at.after) (subst (All IsOfItsKind) at.parts merge.by_nodes)).0 in
        subst (λ c. IsGraphOf c g) (before_is at.before ys kinds at.lines_before)
        (each_at (IsGraphAt statements) at.before at.after (of_history (to.Show g)) (subst (Each (IsGraphAt statements)) at.parts graphs))
    by ys zs _ are = tt

shown_behind : (b c : List HistoryLine) → filter_map event_of b ≡ filter_map event_of c → (l : HistoryLine) → IsShown b l → IsShown c l
shown_behind b c same (to.Show g) h = subst (λ es. IsGraphOf (change_all empty.config es) g) same h
shown_behind b c same _ h = tt

-- so they may be left out
shown_without_roots : (b c ls : List HistoryLine) → filter_map event_of b ≡ filter_map event_of c → EachAfter IsShown b ls → EachAfter IsShown c (without_roots ls)
shown_without_roots b c [] same h = tt
shown_without_roots b c (l ∷ ls) same h = by (is_root l) refl (λ d alike. shown_without_roots (b ++ l ∷ []) d ls alike h.1)
  where
    more_ : (a : List HistoryLine) → filter_map event_of (a ++ l ∷ []) ≡ filter_map event_of a ++ cons_option (event_of l) []
    more_ a = filter_map-append event_of a (l ∷ [])

    by : (k : Bool) → is_root l ≡ k → ((d : List HistoryLine) → filter_map event_of (b ++ l ∷ []) ≡ filter_map event_of d → EachAfter IsShown d (without_roots ls))
        → EachAfter IsShown c (cond (not k) (l ∷ without_roots ls) (without_roots ls))
    by true root rest =
        rest c (more_ b ∙ ap (λ o. filter_map event_of b ++ cons_option o []) (root_event l root) ∙ append-nil (filter_map event_of b) ∙ same)
    by false plain rest =
        (shown_behind b c same l h.0, rest (c ++ l ∷ []) (more_ b ∙ ap (λ es. es ++ cons_option (event_of l) []) same ∙ sym (more_ c)))

-- where each commit leaves the graph that is described, the graphs of the list are those that are shown
pub graphs_of_list : (statements : List Statement) (report : Report) (m : List Member) → Merge m report → Each IsShown report.history
    → ((before after : List Member) → m ≡ before ++ of_history to.Commit ∷ after → IsGraphDescribed statements before) → Each (IsGraphAt statements) m
graphs_of_list statements report m merge shows described = each_if (IsGraphAt statements) [] m by
  where
    by : (before after : List Member) (x : Member) → m ≡ before ++ x ∷ after → IsGraphAt statements before x
    by before after (of_history to.Commit) parts = described before after parts
    by before after (of_history (to.Show g)) parts =
        let are : without_roots report.history ≡ lines before ++ to.Show g ∷ lines after = sym merge.history ∙ ap lines parts ∙ lines_parts before (of_history (to.Show g) ∷ after) in
        let kinds = (all_parts IsOfItsKind before (of_history (to.Show g) ∷ after) (subst (All IsOfItsKind) parts merge.by_nodes)).0 in
        subst (λ c. IsGraphOf c g) (sym (config_of_lines before kinds))
        (each_at IsShown (lines before) (lines after) (to.Show g) (subst (Each IsShown) are (shown_without_roots [] [] report.history refl shows)))
    by before after _ parts = tt
