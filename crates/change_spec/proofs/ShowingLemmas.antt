-- At a `show` the graph is the one that the last commit left: between the two no line shapes the configuration.
use Rattle.std.proofs.Common.{◌≡◌, ◌∙◌, ℕ, Bool, true, false, not, cond, List, [], ◌∷◌, ◌++◌, append_assoc, map, Some, refl, sym, ap, subst, ⊎_elim, inl, inr}
use Rattle.std.specs.Prelude.{◌⊎◌, All, filter_map}
use Rattle.std.specs.List.{list_any}
use Rattle.std.proofs.lemmas.Bool.{both_ways, cases_Bool, not-true}
use Rattle.base.specs.Each.{Each, EachAfter}
use Rattle.base.proofs.EachLaws.{each_at}
use Rattle.base.proofs.ListLaws.{all_parts}
use Rattle.config_graph.specs.Graph.{Graph}
use Rattle.change_plan.specs.declared.plan_data.Plan.{Plan}
use Rattle.quiesce_laws.specs.Steps.{is_shaping, live_ports}
use Rattle.quiesce_laws.proofs.EndingLaws.{graph_stays}
use Rattle.change_plan_laws.specs.Commit.{commit_events, ports_to_close}
use Rattle.quiesce_laws.specs.Starts.{start_of}
use Rattle.quiesce_laws.proofs.TurningLaws.{no_node_shapes}
use Rattle.quiesce_core.specs.Live.{IsGraphOf}
use Rattle.quiesce_core.specs.Runs.{IsRun, state_after}
use Rattle.quiesce_core.specs.State.{Configuration}
use Rattle.quiesce_core.specs.declared.event.Event.{Event}
use Rattle.quiesce_core.specs.declared.event.Event.TheVariants as event
use Rattle.quiesce_core.proofs.RunLaws.{fronts_are_runs}
use Rattle.report_types.specs.declared.report.HistoryLine.{HistoryLine}
use Rattle.report_types.specs.declared.report.HistoryLine.TheVariants as to
use Rattle.report_types.specs.declared.report.Report.{Report}
use Rattle.change_spec.specs.Changes.{IsCommitted, IsGivenUp, commit_lines, drained_lines, opening_lines, pending_lines, seen_in_all}
use Rattle.change_spec.specs.Follows.{Follows, IsRight, Part, lines_of}
use Rattle.change_spec.specs.Lawful.{IsGraphAt, IsLawfulBy, IsOfItsKind, described}
use Rattle.change_spec.specs.Members.{Member, of_history, event_of, events, is_commit, is_pending, is_root, lines, lines_of_events, state_at, without_roots}
use Rattle.change_spec.specs.Scene.{config_after, drained_line, root_line}
use Rattle.change_spec.specs.Statements.{Statement, start, change, run, finish, show}
use Rattle.change_spec.proofs.GraphLemmas.{graph_is_one}
use Rattle.change_spec.proofs.MemberLaws.{events_parts, lines_parts, none_happens}

-- whether the configuration was shaped since the last commit, behind a line
abbrev shaped_by : Bool → HistoryLine → Bool
shaped_by b to.Commit = false
shaped_by b (to.Make n node from) = true
shaped_by b (to.Link p n x) = true
shaped_by b (to.Unlink p) = true
shaped_by b (to.Remove n) = true
shaped_by b _ = b

abbrev may_stand : Bool → HistoryLine → Bool
may_stand b (to.Show g) = not b
may_stand b _ = true

-- lines in which each `show` stands where nothing was shaped since the last commit
abbrev Leads : Bool → List HistoryLine → Bool → Type 0
Leads b [] d = b ≡ d
Leads b (l ∷ ls) d = (may_stand b l ≡ true) × Leads (shaped_by b l) ls d

joined : (xs ys : List HistoryLine) (b c d : Bool) → Leads b xs c → Leads c ys d → Leads b (xs ++ ys) d
joined [] ys b c d e f = subst (λ k. Leads k ys d) (sym e) f
joined (x ∷ xs) ys b c d e f = (e.0, joined xs ys (shaped_by b x) c d e.1 f)

parted : (xs ys : List HistoryLine) (b d : Bool) → Leads b (xs ++ ys) d → (c : Bool) × Leads b xs c × Leads c ys d
parted [] ys b d e = (b, refl, e)
parted (x ∷ xs) ys b d e = let w = parted xs ys (shaped_by b x) d e.1 in (w.0, (e.0, w.1), w.2)

-- events, and then a commit
built : (es : List Event) (b : Bool) → Leads b (lines_of_events es ++ to.Commit ∷ []) false
built [] b = (refl, refl)
built (event.Make n node from ∷ es) b = (refl, built es true)
built (event.Link p n x ∷ es) b = (refl, built es true)
built (event.Unlink p ∷ es) b = (refl, built es true)
built (event.Remove n ∷ es) b = (refl, built es true)
built (event.Close p ∷ es) b = (refl, built es b)
built (event.Reopen p ∷ es) b = (refl, built es b)
built (event.Begin p k v ∷ es) b = built es b
built (event.Call p k v ∷ es) b = built es b
built (event.Miss p ∷ es) b = built es b
built (event.Take p k v ∷ es) b = built es b
built (event.Give p k v ∷ es) b = built es b
built (event.More p k v ∷ es) b = built es b
built (event.Ask p k v ∷ es) b = built es b
built (event.Hear p k v ∷ es) b = built es b
built (event.End p k v ∷ es) b = built es b

calm : {A : Type 0} (f : A → HistoryLine) → ((x : A) (b : Bool) → (may_stand b (f x) ≡ true) × (shaped_by b (f x) ≡ b)) → (xs : List A) (b : Bool) → Leads b (map f xs) b
calm f h [] b = refl
calm f h (x ∷ xs) b = ((h x b).0, subst (λ c. Leads c (map f xs) b) (sym (h x b).1) (calm f h xs b))

-- the lines of a statement, of all, and of the stop

ends_lead : (old new : Graph) (plan : Plan) (within : ℕ) (c : Configuration) (closed : List ℕ) (rest : List HistoryLine)
    → IsCommitted old new plan within c rest ⊎ IsGivenUp closed within rest → Leads false rest false
ends_lead old new plan within c closed rest (inl e) =
    subst (λ ls. Leads false ls false) (sym e.are)
    (joined (drained_lines e.looks) (commit_lines old new plan c) false false false (calm drained_line (λ d b. (refl, refl)) (seen_in_all e.looks) false)
    (built (commit_events old new plan c) false))
ends_lead old new plan within c closed rest (inr e) =
    subst (λ ls. Leads false ls false) (sym e.are)
    (joined (drained_lines e.looks) (pending_lines within e.left closed) false false false (calm drained_line (λ d b. (refl, refl)) (seen_in_all e.looks) false) (
      refl,
      joined (map root_line e.left ++ map to.Reopen closed) (to.Abandon ∷ []) false false false
          (joined (map root_line e.left) (map to.Reopen closed) false false false (calm root_line (λ d b. (refl, refl)) e.left false) (calm to.Reopen (λ p b. (refl, refl)) closed false))
          (refl, refl),
    ))

part_leads : (before : List HistoryLine) (s : Statement) (ls : List HistoryLine) → IsRight before s ls → Leads false ls false
part_leads before (start name args g) ls right = subst (λ xs. Leads false xs false) (sym right) (refl, built (start_of g) false)
part_leads before (change name args g within moves) ls right = ⊎_elim
    (λ (skipped : list_any is_pending before ≡ true). subst (λ xs. Leads false xs false) (sym (right.0 skipped)) (refl, (refl, refl)))
    (λ (tried : list_any is_pending before ≡ false).
    let w = right.1 tried in
    let c = config_after before in
    let opening = opening_lines name args w.old w.plan c in
    subst (λ xs. Leads false xs false) (sym w.are)
    (joined opening w.rest false false false (refl, calm to.Close (λ p b. (refl, refl)) (ports_to_close w.old w.plan c) false)
    (ends_lead w.old g w.plan within (config_after (before ++ opening)) (ports_to_close w.old w.plan c) w.rest w.ends)))
    (cases_Bool (list_any is_pending before))
part_leads before (run k) ls right = subst (λ xs. Leads false xs false) (sym right.are) (refl, refl)
part_leads before (finish n) ls right = subst (λ xs. Leads false xs false) (sym right.are) (refl, refl)
part_leads before show ls right = subst (λ xs. Leads false xs false) (sym right.are) (refl, refl)

parts_lead : (before parts : List Part) → EachAfter (λ before (p : Part). IsRight (lines_of before) p.statement p.lines) before parts → Leads false (lines_of parts) false
parts_lead before [] h = refl
parts_lead before (p ∷ parts) h =
    joined p.lines (lines_of parts) false false false (part_leads (lines_of before) p.statement p.lines h.0) (parts_lead (before ++ p ∷ []) parts h.1)

history_leads : (statements : List Statement) (history : List HistoryLine) → Follows statements history → Leads false history false
history_leads statements history f =
    let ports = live_ports (config_after (lines_of f.parts)) in
    let stop : Leads false f.stop false =
    subst (λ ls. Leads false ls false) (sym f.stops.are)
    (refl, joined (map to.Close ports) (map drained_line f.stops.seen) false false false (calm to.Close (λ p b. (refl, refl)) ports false) (calm drained_line (λ d b. (refl, refl)) f.stops.seen false)) in
    subst (λ ls. Leads false ls false) f.history_is (joined (lines_of f.parts) f.stop false false false (parts_lead [] f.parts f.right) stop)

root_shapes_none : (b : Bool) (l : HistoryLine) → is_root l ≡ true → shaped_by b l ≡ b
root_shapes_none b (to.Root p k) h = refl
root_shapes_none b _ h = absurd (both_ways false refl h)

rootless : (ls : List HistoryLine) (b d : Bool) → Leads b ls d → Leads b (without_roots ls) d
rootless [] b d e = e
rootless (l ∷ ls) b d e = by (is_root l) refl (rootless ls (shaped_by b l) d e.1)
  where
    by : (k : Bool) → is_root l ≡ k → Leads (shaped_by b l) (without_roots ls) d → Leads b (cond (not k) (l ∷ without_roots ls) (without_roots ls)) d
    by false r rest = (e.0, rest)
    by true r rest = subst (λ c. Leads c (without_roots ls) d) (root_shapes_none b l r) rest

-- where nothing was shaped at the end, and no commit is there, no line shapes
none_shapes : (ls : List HistoryLine) (b : Bool) → Leads b ls false → list_any is_commit ls ≡ false → (b ≡ false) × (list_any is_shaping (filter_map event_of ls) ≡ false)
none_shapes [] b e h = (e, refl)
none_shapes (to.Commit ∷ ls) b e h = absurd (both_ways true h refl)
none_shapes (to.Make n node from ∷ ls) b e h = absurd (both_ways true (none_shapes ls true e.1 h).0 refl)
none_shapes (to.Link p n x ∷ ls) b e h = absurd (both_ways true (none_shapes ls true e.1 h).0 refl)
none_shapes (to.Unlink p ∷ ls) b e h = absurd (both_ways true (none_shapes ls true e.1 h).0 refl)
none_shapes (to.Remove n ∷ ls) b e h = absurd (both_ways true (none_shapes ls true e.1 h).0 refl)
none_shapes (to.Close p ∷ ls) b e h = none_shapes ls b e.1 h
none_shapes (to.Reopen p ∷ ls) b e h = none_shapes ls b e.1 h
none_shapes (to.Start name args ∷ ls) b e h = none_shapes ls b e.1 h
none_shapes (to.Change name args ∷ ls) b e h = none_shapes ls b e.1 h
none_shapes (to.Drained p k ∷ ls) b e h = none_shapes ls b e.1 h
none_shapes (to.Abandon ∷ ls) b e h = none_shapes ls b e.1 h
none_shapes (to.Skipped ∷ ls) b e h = none_shapes ls b e.1 h
none_shapes (to.Pending r ∷ ls) b e h = none_shapes ls b e.1 h
none_shapes (to.Root p k ∷ ls) b e h = none_shapes ls b e.1 h
none_shapes (to.Run k n ∷ ls) b e h = none_shapes ls b e.1 h
none_shapes (to.Finish n r ∷ ls) b e h = none_shapes ls b e.1 h
none_shapes (to.Show g ∷ ls) b e h = none_shapes ls b e.1 h
none_shapes (to.Stop ∷ ls) b e h = none_shapes ls b e.1 h

-- so it is behind the last commit
pub none_shapes_behind : (statements : List Statement) (front later : List HistoryLine) → Follows statements (front ++ later) → list_any is_commit later ≡ false → list_any is_shaping (filter_map event_of later) ≡ false
none_shapes_behind statements front later follows none =
    let w = parted front later false false (history_leads statements (front ++ later) follows) in (none_shapes later w.0 w.2 none).1

pub shown_is_described : (statements : List Statement) (report : Report) (m : List Member) → Follows statements report.history → IsLawfulBy statements report m → (x y after : List Member) (g : Graph)
    → m ≡ x ++ of_history to.Commit ∷ (y ++ of_history (to.Show g) ∷ after) → list_any is_commit (lines y) ≡ false → described statements (lines x) ≡ Some g
shown_is_described statements report m follows by x y after g parts none =
    let k = of_history to.Commit in
    let shows = of_history (to.Show g) in
    let before = x ++ k ∷ y in
    let later : m ≡ before ++ shows ∷ after = parts ∙ sym (append_assoc x (k ∷ y) (shows ∷ after)) in
    let left = each_at (IsGraphAt statements) x (y ++ shows ∷ after) k (subst (Each (IsGraphAt statements)) parts by.graphs) in
    let shown : IsGraphOf (state_at before).config g = each_at (IsGraphAt statements) before after shows (subst (Each (IsGraphAt statements)) later by.graphs) in
    let all_lines : lines m ≡ lines x ++ to.Commit ∷ (lines y ++ to.Show g ∷ lines after) =
    ap lines parts ∙ lines_parts x (k ∷ (y ++ shows ∷ after)) ∙ ap (λ ls. lines x ++ to.Commit ∷ ls) (lines_parts y (shows ∷ after)) in
    let leads : Leads false (lines x ++ to.Commit ∷ (lines y ++ to.Show g ∷ lines after)) false =
    subst (λ ls. Leads false ls false) (sym by.merge.history ∙ all_lines) (rootless report.history false false (history_leads statements report.history follows)) in
    let w = parted (lines x) (to.Commit ∷ (lines y ++ to.Show g ∷ lines after)) false false leads in
    let v = parted (lines y) (to.Show g ∷ lines after) false false w.2.1 in
    let at_show : v.0 ≡ false = not-true v.0 v.2.0 in
    let quiet_lines = (none_shapes (lines y) false (subst (λ b. Leads false (lines y) b) at_show v.1) none).1 in
    let kinds_before = (all_parts IsOfItsKind before (shows ∷ after) (subst (All IsOfItsKind) later by.merge.by_nodes)).0 in
    let kinds = (all_parts IsOfItsKind (k ∷ []) y (all_parts IsOfItsKind x (k ∷ y) kinds_before).1).1 in
    let quiet = none_happens is_shaping no_node_shapes y kinds quiet_lines in
    let here : events before ≡ events x ++ events y = events_parts x (k ∷ y) in
    let run : IsRun (events x ++ events y) =
    subst IsRun here (fronts_are_runs (events before) (events (shows ∷ after)) (subst IsRun (ap events later ∙ events_parts before (shows ∷ after)) by.runs)) in
    let stays = graph_stays left.graph (events x) (events y) run quiet left.stands in
    let same : left.graph ≡ g = graph_is_one (state_at before).config left.graph g (subst (λ es. IsGraphOf (state_after es).config left.graph) (sym here) stays) shown in
    left.described_so ∙ ap Some same
