-- At each reopen among the members of a lawful report, and at their end, the graph is one that a description names.
use Rattle.std.proofs.Common.{◌≡◌, ◌∙◌, true, false, not, List, [], ◌∷◌, ◌++◌, Option, Some, None, refl, sym, ap, subst, ⊎_elim}
use Rattle.std.specs.Prelude.{All, Any, Contains, IfSome, filter}
use Rattle.std.proofs.lemmas.Bool.{cases_Bool}
use Rattle.std.proofs.lemmas.List.{append-nil}
use Rattle.std.proofs.lemmas.List.Elements.{All-cons, All-nil, filter-append}
use Rattle.base.proofs.ContainsLaws.{Contains-here, Contains-there}
use Rattle.base.specs.Each.{Each, EachAfter}
use Rattle.base.proofs.EachLaws.{each_at}
use Rattle.config_graph.specs.Graph.{Graph}
use Rattle.quiesce_laws.specs.Steps.{change_all}
use Rattle.quiesce_core.specs.Doers.{is_of_change}
use Rattle.quiesce_core.specs.Live.{IsGraphOf}
use Rattle.quiesce_core.specs.Runs.{IsRun}
use Rattle.quiesce_core.specs.State.{empty}
use Rattle.report_types.specs.declared.report.HistoryLine.{HistoryLine}
use Rattle.report_types.specs.declared.report.HistoryLine.TheVariants as to
use Rattle.report_types.specs.declared.report.Report.{Report}
use Rattle.change_spec.specs.Follows.{Follows}
use Rattle.change_spec.specs.Lawful.{IsOfItsKind, Merge}
use Rattle.change_spec.specs.Members.{Member, of_history, events, is_root, lines, state_at, without_roots}
use Rattle.change_spec.specs.Statements.{Statement, graph_of}
use Rattle.change_spec.proofs.MemberLaws.{changes_are_lines, config_of_lines, events_without_roots, lines_parts}
use Rattle.change_spec.specs.Scene.{config_after}
use Rattle.change_round_laws.specs.SoundStatements.{AreSound}
use Rattle.change_round_laws.proofs.AloneLaws.{changes_run}
use Rattle.change_round_laws.proofs.CommitGraphLaws.{CommitsByConfiguration, CommitsLeaveGraphs, EachMayCommit}
use Rattle.change_round_laws.proofs.LineLaws.{changes}
use Rattle.result_laws.specs.Describing.{Describes}
use Rattle.result_laws.proofs.ReopeningLaws.{Opens, history_ends, history_opens}
use Rattle.base.proofs.ListLaws.{all_parts}

pub rooted : (l : HistoryLine) (xs : List HistoryLine) → is_root l ≡ true → without_roots (l ∷ xs) ≡ without_roots xs
rooted l xs e = rw e refl

pub kept : (l : HistoryLine) (xs : List HistoryLine) → is_root l ≡ false → without_roots (l ∷ xs) ≡ l ∷ without_roots xs
kept l xs e = rw e refl

opens_rootless : (P : Graph → Type 0) (before : List HistoryLine) (l : HistoryLine) → Opens P before l → Opens P (without_roots before) l
opens_rootless P before (to.Reopen p) w = record {
  graph = w.graph;
  has = w.has;
  stands = subst (λ c. IsGraphOf c w.graph) (ap (change_all empty.config) (sym (events_without_roots before))) w.stands;
}
opens_rootless P before _ w = tt

roots_aside : (P : Graph → Type 0) (before xs : List HistoryLine) → EachAfter (Opens P) before xs → EachAfter (Opens P) (without_roots before) (without_roots xs)
roots_aside P before [] each = tt
roots_aside P before (l ∷ xs) each = ⊎_elim
    (λ (e : is_root l ≡ true).
    subst (EachAfter (Opens P) (without_roots before)) (sym (rooted l xs e))
    (subst (λ ys. EachAfter (Opens P) ys (without_roots xs)) (filter-append (λ x. not (is_root x)) before (l ∷ []) ∙ ap (λ ys. without_roots before ++ ys) (rooted l [] e) ∙ append-nil (without_roots before))
    (roots_aside P (before ++ l ∷ []) xs each.1)))
    (λ (e : is_root l ≡ false).
    subst (EachAfter (Opens P) (without_roots before)) (sym (kept l xs e)) (
      opens_rootless P before l each.0,
      subst (λ ys. EachAfter (Opens P) ys (without_roots xs)) (filter-append (λ x. not (is_root x)) before (l ∷ []) ∙ ap (λ ys. without_roots before ++ ys) (kept l [] e)) (roots_aside P (before ++ l ∷ []) xs each.1),
    ))
    (cases_Bool (is_root l))

pub record NamedAt (P : Graph → Type 0) (before : List Member) : Type 0 where
  pub graph : Graph
  pub has : P graph
  pub stands : IsGraphOf (state_at before).config graph

pub reopened_at : EachMayCommit → CommitsByConfiguration → CommitsLeaveGraphs → (statements : List Statement) (P : Graph → Type 0) (report : Report) (m : List Member) → AreSound statements → All (Describes P) statements
    → Follows statements report.history → Merge m report → IsRun (events m) → (before after : List Member) (p : _) → m ≡ before ++ of_history (to.Reopen p) ∷ after → NamedAt P before
reopened_at each_may by_config leaves statements P report m sound all follows merge goes before after p parts =
    let changed : filter is_of_change (events m) ≡ changes report.history = changes_are_lines m merge.by_nodes ∙ ap changes merge.history ∙ events_without_roots report.history in
    let each = roots_aside P [] report.history (history_opens each_may by_config leaves statements P report.history sound all follows (subst IsRun changed (changes_run (events m) goes))) in
    let there : without_roots report.history ≡ lines before ++ to.Reopen p ∷ lines after = sym merge.history ∙ ap lines parts ∙ lines_parts before (of_history (to.Reopen p) ∷ after) in
    let here = each_at (Opens P) (lines before) (lines after) (to.Reopen p) (subst (Each (Opens P)) there each) in
    let kinds = (all_parts IsOfItsKind before (of_history (to.Reopen p) ∷ after) (subst (All IsOfItsKind) parts merge.by_nodes)).0 in
    record { graph = here.graph; has = here.has; stands = subst (λ c. IsGraphOf c here.graph) (sym (config_of_lines before kinds)) here.stands }

pub ends_at : EachMayCommit → CommitsByConfiguration → CommitsLeaveGraphs → (statements : List Statement) (P : Graph → Type 0) (report : Report) (m : List Member) → AreSound statements → All (Describes P) statements
    → Follows statements report.history → Merge m report → IsRun (events m) → NamedAt P m
ends_at each_may by_config leaves statements P report m sound all follows merge goes =
    let changed : filter is_of_change (events m) ≡ changes report.history = changes_are_lines m merge.by_nodes ∙ ap changes merge.history ∙ events_without_roots report.history in
    let last_ = history_ends each_may by_config leaves statements P report.history sound all follows (subst IsRun changed (changes_run (events m) goes)) in
    let same = config_of_lines m merge.by_nodes ∙ ap config_after merge.history ∙ ap (change_all empty.config) (events_without_roots report.history) in
    record { graph = last_.graph; has = last_.has; stands = subst (λ c. IsGraphOf c last_.graph) (sym same) last_.stands }

-- each statement describes what one of them describes
pub each_described : (statements : List Statement) → All (Describes (λ (g : Graph). Any (λ st. graph_of st ≡ Some g) statements)) statements
each_described statements = among statements (λ x there. there)
  where
    by : (x : Statement) (o : Option Graph) → graph_of x ≡ o → Contains statements x → IfSome o (λ (g : Graph). Any (λ st. graph_of st ≡ Some g) statements)
    by x None is there = tt
    by x (Some g) is there = (there.0, x, there.1, there.2, is)

    among : (xs : List Statement) → ((x : Statement) → Contains xs x → Contains statements x) → All (Describes (λ (g : Graph). Any (λ st. graph_of st ≡ Some g) statements)) xs
    among [] within = All-nil _
    among (x ∷ xs) within =
        All-cons (Describes (λ (g : Graph). Any (λ st. graph_of st ≡ Some g) statements)) x xs (by x (graph_of x) refl (within x (Contains-here x xs))) (among xs (λ y there. within y (Contains-there x y xs there)))
