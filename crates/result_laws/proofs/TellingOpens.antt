-- The lines on open roots stand behind `pending`, with nothing but such lines between.
use Rattle.std.proofs.Common.{◌≡◌, ℕ, ℤ, true, false, List, [], ◌∷◌, ◌++◌, map, inl, inr, refl, sym, subst}
use Rattle.std.specs.Prelude.{◌⊎◌}
use Rattle.std.specs.List.{AllByRecursion, cons_option, list_any}
use Rattle.std.proofs.lemmas.Bool.{both_ways, cases_Bool}
use Rattle.base.specs.Each.{Each, EachAfter}
use Rattle.base.proofs.EachLaws.{each_joined}
use Rattle.config_graph.specs.Graph.{Graph}
use Rattle.change_plan.specs.declared.plan_data.Move.{Move}
use Rattle.change_plan.specs.declared.plan_data.Plan.{Plan}
use Rattle.change_plan_laws.specs.Commit.{commit_events, ports_to_close}
use Rattle.quiesce_laws.specs.Steps.{live_ports}
use Rattle.quiesce_core.specs.declared.event.Event.{Event}
use Rattle.quiesce_core.specs.declared.event.Event.TheVariants as events
use Rattle.quiesce_core.specs.State.{Configuration}
use Rattle.quiesce_laws.specs.Starts.{start_of}
use Rattle.report_types.specs.declared.report.HistoryLine.{HistoryLine}
use Rattle.report_types.specs.declared.report.HistoryLine.TheVariants as to
use Rattle.report_texts.specs.ReportTexts.{ends_pending, is_root}
use Rattle.report_texts.proofs.PendingLaws.{ends_so}
use Rattle.change_spec.specs.Changes.{IsChange, IsCommitted, IsGivenUp, commit_lines, drained_lines, opening_lines, seen_in_all}
use Rattle.change_spec.specs.Follows.{Follows, IsRight, IsStop, Part, lines_of}
use Rattle.change_spec.specs.Members.{is_pending, line_of, lines_of_events}
use Rattle.change_spec.specs.Scene.{Seen, config_after, drained_line, root_line}
use Rattle.change_spec.specs.Statements.{Statement, start, change, run, finish, show}
use Rattle.base.proofs.ListLaws.{AllByRecursion-append}
use Rattle.base.proofs.AllLaws.{all_mapped}

-- ---- places

abbrev pub OpensBehind : List HistoryLine → HistoryLine → Type 0
OpensBehind before l = is_root l ≡ true → ends_pending before ≡ true

abbrev IsNoRoot : HistoryLine → Type 0
IsNoRoot l = is_root l ≡ false

no_roots : (before lines : List HistoryLine) → AllByRecursion IsNoRoot lines → EachAfter OpensBehind before lines
no_roots before [] all = tt
no_roots before (l ∷ lines) all = ((λ root. absurd (both_ways (is_root l) all.0 root)), no_roots (before ++ l ∷ []) lines all.1)

roots_open : (before : List HistoryLine) (left : List Seen) → ends_pending before ≡ true → EachAfter OpensBehind before (map root_line left)
roots_open before [] pending = tt
roots_open before (d ∷ left) pending = ((λ root. pending), roots_open (before ++ root_line d ∷ []) left (ends_so before (root_line d)))

-- ---- lines without a root

no_root_told : (e : Event) (ls : List HistoryLine) → AllByRecursion IsNoRoot ls → AllByRecursion IsNoRoot (cons_option (line_of e) ls)
no_root_told (events.Make n node from) ls all = (refl, all)
no_root_told (events.Link p n x) ls all = (refl, all)
no_root_told (events.Unlink p) ls all = (refl, all)
no_root_told (events.Remove n) ls all = (refl, all)
no_root_told (events.Close p) ls all = (refl, all)
no_root_told (events.Reopen p) ls all = (refl, all)
no_root_told _ ls all = all

events_no_root : (es : List Event) → AllByRecursion IsNoRoot (lines_of_events es)
events_no_root [] = tt
events_no_root (e ∷ es) = no_root_told e (lines_of_events es) (events_no_root es)

drained_no_root : (looks : List (List Seen)) → AllByRecursion IsNoRoot (drained_lines looks)
drained_no_root looks = all_mapped IsNoRoot drained_line (seen_in_all looks) (λ d. refl)

committed_opens : (old new : Graph) (plan : Plan) (within : ℕ) (c : Configuration) (lines before : List HistoryLine) → IsCommitted old new plan within c lines → EachAfter OpensBehind before lines
committed_opens old new plan within c lines before x =
    no_roots before lines
    (subst (AllByRecursion IsNoRoot) (sym x.are)
    (AllByRecursion-append IsNoRoot (drained_lines x.looks) (commit_lines old new plan c) (drained_no_root x.looks)
    (AllByRecursion-append IsNoRoot (lines_of_events (commit_events old new plan c)) (to.Commit ∷ []) (events_no_root (commit_events old new plan c)) (refl, tt))))

given_up_opens : (closed : List ℕ) (within : ℕ) (lines before : List HistoryLine) → IsGivenUp closed within lines → EachAfter OpensBehind before lines
given_up_opens closed within lines before x =
    let looked = drained_lines x.looks in
    let behind = before ++ looked in
    let roots = map root_line x.left in
    let back = map to.Reopen closed in
    subst (EachAfter OpensBehind before) (sym x.are)
    (each_joined OpensBehind before looked (((to.Pending within ∷ roots) ++ back) ++ to.Abandon ∷ []) (no_roots before looked (drained_no_root x.looks))
    (each_joined OpensBehind behind ((to.Pending within ∷ roots) ++ back) (to.Abandon ∷ [])
    (each_joined OpensBehind behind (to.Pending within ∷ roots) back
    ((λ root. absurd (both_ways false refl root)), roots_open (behind ++ to.Pending within ∷ []) x.left (ends_so behind (to.Pending within)))
    (no_roots (behind ++ (to.Pending within ∷ roots)) back (all_mapped IsNoRoot to.Reopen closed (λ p. refl))))
    (no_roots (behind ++ ((to.Pending within ∷ roots) ++ back)) (to.Abandon ∷ []) (refl, tt))))

change_opens : (told : List HistoryLine) (name : List ℕ) (args : List ℤ) (new : Graph) (within : ℕ) (moves : List Move) (lines before : List HistoryLine) → IsChange told name args new within moves lines
    → EachAfter OpensBehind before lines
change_opens told name args new within moves lines before x =
    let opening = opening_lines name args x.old x.plan (config_after told) in
    subst (EachAfter OpensBehind before) (sym x.are)
    (each_joined OpensBehind before opening x.rest (no_roots before opening (refl, all_mapped IsNoRoot to.Close (ports_to_close x.old x.plan (config_after told)) (λ p. refl)))
    (by x.ends))
  where
    by : IsCommitted x.old new x.plan within (config_after (told ++ opening_lines name args x.old x.plan (config_after told))) x.rest
        ⊎ IsGivenUp (ports_to_close x.old x.plan (config_after told)) within x.rest
        → EachAfter OpensBehind (before ++ opening_lines name args x.old x.plan (config_after told)) x.rest
    by (inl committed) = committed_opens x.old new x.plan within _ x.rest _ committed
    by (inr given_up) = given_up_opens _ within x.rest _ given_up

right_opens : (told : List HistoryLine) (s : Statement) (lines before : List HistoryLine) → IsRight told s lines → EachAfter OpensBehind before lines
right_opens told (start name args g) lines before right =
    no_roots before lines
    (subst (AllByRecursion IsNoRoot) (sym right) (refl, AllByRecursion-append IsNoRoot (lines_of_events (start_of g)) (to.Commit ∷ []) (events_no_root (start_of g)) (refl, tt)))
right_opens told (change name args g within moves) lines before right = by (cases_Bool (list_any is_pending told))
  where
    by : (list_any is_pending told ≡ true) ⊎ (list_any is_pending told ≡ false) → EachAfter OpensBehind before lines
    by (inl given_up) = no_roots before lines (subst (AllByRecursion IsNoRoot) (sym (right.0 given_up)) (refl, (refl, tt)))
    by (inr none) = change_opens told name args g within moves lines before (right.1 none)
right_opens told (run k) lines before right = no_roots before lines (subst (AllByRecursion IsNoRoot) (sym right.are) (refl, tt))
right_opens told (finish n) lines before right = no_roots before lines (subst (AllByRecursion IsNoRoot) (sym right.are) (refl, tt))
right_opens told show lines before right = no_roots before lines (subst (AllByRecursion IsNoRoot) (sym right.are) (refl, tt))

parts_open : (done parts : List Part) (before : List HistoryLine) → EachAfter (λ told (p : Part). IsRight (lines_of told) p.statement p.lines) done parts → EachAfter OpensBehind before (lines_of parts)
parts_open done [] before right = tt
parts_open done (p ∷ parts) before right =
    each_joined OpensBehind before p.lines (lines_of parts) (right_opens (lines_of done) p.statement p.lines before right.0)
    (parts_open (done ++ p ∷ []) parts (before ++ p.lines) right.1)

stop_opens : (told lines before : List HistoryLine) → IsStop told lines → EachAfter OpensBehind before lines
stop_opens told lines before x =
    no_roots before lines
    (subst (AllByRecursion IsNoRoot) (sym x.are) (
      refl,
      AllByRecursion-append IsNoRoot (map to.Close (live_ports (config_after told))) (map drained_line x.seen) (all_mapped IsNoRoot to.Close (live_ports (config_after told)) (λ p. refl))
          (all_mapped IsNoRoot drained_line x.seen (λ d. refl)),
    ))

pub history_opens : (statements : List Statement) (history : List HistoryLine) → Follows statements history → Each OpensBehind history
history_opens statements history x =
    subst (EachAfter OpensBehind []) x.history_is
    (each_joined OpensBehind [] (lines_of x.parts) x.stop (parts_open [] x.parts [] x.right) (stop_opens (lines_of x.parts) x.stop (lines_of x.parts) x.stops))
