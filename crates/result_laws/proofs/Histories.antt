-- In a history that follows sound statements of rows, each make of a node of a row stands where the start or a commit of that is under
-- way, and a source or a sink takes over from the last one.
use Rattle.std.proofs.Common.{◌≡◌, ◌∙◌, ℕ, suc, ◌+◌, Bool, true, false, List, [], ◌∷◌, ◌++◌, append_assoc, map, Option, Some, None, refl, sym, ap, subst, arith, ⊎_elim}
use Rattle.std.specs.Prelude.{ℤ, ◌||◌, not, All, Contains, filter, filter_map, option_map, slice_get}
use Rattle.std.specs.List.{cons_option, enumerate_from, list_any}
use Rattle.std.proofs.lemmas.Bool.{both_ways, cases_Bool, or_parts}
use Rattle.std.proofs.lemmas.List.{append-nil}
use Rattle.std.proofs.lemmas.List.Elements.{All-head}
use Rattle.base.specs.Each.{Each, EachAfter}
use Rattle.base.proofs.ContainsLaws.{Contains-cons_cases, Contains-nil}
use Rattle.base.proofs.EachLaws.{each_joined}
use Rattle.config_graph.specs.Graph.{Graph, ports, target_of}
use Rattle.config_graph.specs.declared.kind.Kind.{Kind}
use Rattle.config_graph.specs.declared.kind.Kind.TheVariants.{Sink, Source}
use Rattle.config_graph.specs.declared.node.Made.{Made}
use Rattle.config_graph.specs.declared.node.Node.{Node}
use Rattle.config_graph.specs.declared.node.Port.{Port}
use Rattle.config_graph.specs.declared.node.Target.{Target}
use Rattle.config_graph.proofs.GraphByLaws.{one_graph}
use Rattle.quiesce_laws.specs.Steps.{change_all, is_shaping}
use Rattle.quiesce_laws.specs.Work.{NewNode, link_new, make_new, work_of}
use Rattle.change_plan.specs.Plans.{IsPlanOf}
use Rattle.change_plan.specs.declared.plan_data.Move.{Move}
use Rattle.change_plan.specs.declared.plan_data.Plan.{Plan}
use Rattle.change_plan_laws.specs.Commit.{commit_events, new_links, ports_to_close, reopened_ports, work}
use Rattle.quiesce_core.specs.Doers.{is_make, is_of_change}
use Rattle.quiesce_core.specs.Live.{AreLinked, IsGraphOf, IsLiveNode}
use Rattle.quiesce_core.specs.Runs.{IsRun, state_after}
use Rattle.quiesce_core.specs.State.{Configuration}
use Rattle.quiesce_core.specs.declared.event.Event.{Event}
use Rattle.quiesce_core.specs.declared.event.Event.TheVariants as event
use Rattle.quiesce_laws.specs.Starts.{link_of, make_of, reopen_of, start_of}
use Rattle.report_types.specs.declared.report.HistoryLine.{HistoryLine}
use Rattle.report_types.specs.declared.report.HistoryLine.TheVariants as to
use Rattle.change_spec.specs.Changes.{IsChange, IsCommitted, IsGivenUp, drained_lines, opening_lines, pending_lines, seen_in_all}
use Rattle.change_spec.specs.Follows.{IsRight, Part, lines_of}
use Rattle.change_spec.specs.Members.{is_pending, lines_of_events}
use Rattle.change_spec.specs.Scene.{Seen, config_after, drained_line, root_line}
use Rattle.change_spec.specs.Statements.{Statement, start, change, run, finish, show}
use Rattle.change_round_laws.specs.SoundStatements.{GoOnSoundly, IsSoundGraph, named_by}
use Rattle.change_round_laws.proofs.CommitGraphLaws.{AreRightAfter, CommitsByConfiguration, CommitsLeaveGraphs, EachMayCommit, Fits, Onward, onward}
use Rattle.change_round_laws.proofs.LineLaws.{changes, changes_both, changes_of_closes, changes_of_lines, changes_of_looks, changes_of_reopens, changes_of_roots, config_of}
use Rattle.result_laws.specs.Describing.{Describes}
use Rattle.result_laws.specs.Keeping.{KeepEndsFrom, KeepsEnds}
use Rattle.result_laws.specs.Rows.{IsRow}
use Rattle.result_laws.proofs.Committing.{commit_well}
use Rattle.result_laws.proofs.Making.{OnceFrom, Well, calm_well, makeless_well, makes_well, none_map, one_sink_at, one_source_at}
use Rattle.result_laws.proofs.ReopeningLaws.{front_runs, graph_on}
use Rattle.base.proofs.ListLaws.{all_parts, none_both}

-- ---- events of the change alone

abbrev is_of_node : Event → Bool
is_of_node e = not (is_of_change e)

kept_all : (es : List Event) → list_any is_of_node es ≡ false → filter is_of_change es ≡ es
kept_all [] h = refl
kept_all (e ∷ es) h = let parts = or_parts (is_of_node e) (list_any is_of_node es) h in by (is_of_change e) refl parts.0 (kept_all es parts.1)
  where
    by : (b : Bool) → is_of_change e ≡ b → not (is_of_change e) ≡ false → filter is_of_change es ≡ es → filter is_of_change (e ∷ es) ≡ e ∷ es
    by true is h rest = rw is (ap (λ xs. e ∷ xs) rest)
    by false is h rest = absurd (both_ways true (sym (ap not is) ∙ h) refl)

commit_kept : (old new : Graph) (plan : Plan) (c : Configuration) → filter is_of_change (commit_events old new plan c) ≡ commit_events old new plan c
commit_kept old new plan c =
    let w = work old new plan c in
    let links = map link_new (new_links new plan (change_all c (work_of w))) in
    kept_all (commit_events old new plan c)
    (none_both is_of_node (work_of w ++ links) (map event.Reopen (reopened_ports old new plan c))
    (none_both is_of_node (work_of w) links
    (none_both is_of_node (map event.Unlink w.unlinks) (map event.Remove w.removes ++ map make_new w.makes) (none_map is_of_node event.Unlink (λ x. refl) w.unlinks)
    (none_both is_of_node (map event.Remove w.removes) (map make_new w.makes) (none_map is_of_node event.Remove (λ x. refl) w.removes) (none_map is_of_node make_new (λ x. refl) w.makes)))
    (none_map is_of_node link_new (λ x. refl) (new_links new plan (change_all c (work_of w)))))
    (none_map is_of_node event.Reopen (λ x. refl) (reopened_ports old new plan c)))

-- ---- the makes of a start

abbrev kind_in : List Node → ℕ → Option Kind
kind_in xs i = option_map (λ (n : Node). n.kind) (slice_get xs i)

abbrev news : ℕ → List Node → List NewNode
news n [] = []
news n (x ∷ xs) = record { slot = n; node = x; from = None } ∷ news (n + 1) xs

makes_of_start : (n : ℕ) (xs : List Node) → map make_of (enumerate_from n xs) ≡ map make_new (news n xs)
makes_of_start n [] = refl
makes_of_start n (x ∷ xs) = ap (λ es. event.Make n x None ∷ es) (makes_of_start (n + 1) xs)

new_place : (n : ℕ) (xs : List Node) (m : NewNode) → Contains (news n xs) m → (j : ℕ) × (slice_get xs j ≡ Some m.node)
new_place n [] m there = absurd (Contains-nil m there)
new_place n (x ∷ xs) m there = ⊎_elim
    (λ (here : m ≡ record { slot = n; node = x; from = None }). (0, ap Some (sym (ap (λ (y : NewNode). y.node) here))))
    (λ (later : Contains (news (n + 1) xs) m). let w = new_place (n + 1) xs m later in (suc w.0, w.1))
    (Contains-cons_cases (record { slot = n; node = x; from = None }) (news (n + 1) xs) m there)

start_once : (k : Kind) (n : ℕ) (xs : List Node) → ((i j : ℕ) → kind_in xs i ≡ Some k → kind_in xs j ≡ Some k → i ≡ j) → OnceFrom k None (news n xs)
start_once k n [] one = tt
start_once k n (x ∷ xs) one = (
  λ kind. (
    refl,
    λ m there kind'.
        let w = new_place (n + 1) xs m there in
        let same = one 0 (suc w.0) (ap Some kind) (ap (option_map (λ (y : Node). y.kind)) w.1 ∙ ap Some kind') in
        omega (arith, same),
  ),
  start_once k (n + 1) xs (λ i j a b. let same = one (suc i) (suc j) a b in omega (arith, same)),
)

none_linked : (g : Graph) (xs : List (ℕ × Port)) (t : Event → Bool) → ((p n x : ℕ) → t (event.Link p n x) ≡ false) → list_any t (filter_map (link_of g) xs) ≡ false
none_linked g [] t h = refl
none_linked g (x ∷ xs) t h = by (target_of g.links x.1.node x.1.require) (none_linked g xs t h)
  where
    by : (o : Option Target) → list_any t (filter_map (link_of g) xs) ≡ false → list_any t (cons_option (option_map (λ (u : Target). event.Link x.0 u.node u.provide) o) (filter_map (link_of g) xs)) ≡ false
    by None rest = rest
    by (Some u) rest = ap (λ b. b || list_any t (filter_map (link_of g) xs)) (h x.0 u.node u.provide) ∙ rest

pub start_kept : (g : Graph) → filter is_of_change (start_of g) ≡ start_of g
start_kept g =
    let makes = map make_of (enumerate_from 0 g.nodes) in
    let links = filter_map (link_of g) (enumerate_from 0 (ports g.nodes)) in
    kept_all (start_of g)
    (none_both is_of_node (makes ++ links) (map reopen_of (enumerate_from 0 (ports g.nodes)))
    (none_both is_of_node makes links (none_map is_of_node make_of (λ x. refl) (enumerate_from 0 g.nodes)) (none_linked g (enumerate_from 0 (ports g.nodes)) is_of_node (λ p n x. refl)))
    (none_map is_of_node reopen_of (λ x. refl) (enumerate_from 0 (ports g.nodes))))

pub start_well : (g : Graph) → IsRow g → EachAfter Well [] (start_of g)
start_well g q =
    let makes = map make_of (enumerate_from 0 g.nodes) in
    let links = filter_map (link_of g) (enumerate_from 0 (ports g.nodes)) in
    each_joined Well [] (makes ++ links) (map reopen_of (enumerate_from 0 (ports g.nodes)))
    (each_joined Well [] makes links
    (subst (EachAfter Well []) (sym (makes_of_start 0 g.nodes)) (makes_well [] (news 0 g.nodes) (λ m there of_row. refl)
    (start_once Source 0 g.nodes (λ i j a b. one_source_at g q i a ∙ sym (one_source_at g q j b))) (start_once Sink 0 g.nodes (λ i j a b. one_sink_at g q i a ∙ sym (one_sink_at g q j b)))))
    (makeless_well makes links (none_linked g (enumerate_from 0 (ports g.nodes)) is_make (λ p n x. refl))))
    (calm_well (makes ++ links) (map reopen_of (enumerate_from 0 (ports g.nodes))) (none_map is_shaping reopen_of (λ x. refl) (enumerate_from 0 (ports g.nodes))))

-- ---- statement by statement

pub makeless : (xs ys : List HistoryLine) → list_any is_shaping (changes xs) ≡ false → list_any is_shaping (changes ys) ≡ false → list_any is_shaping (changes (xs ++ ys)) ≡ false
makeless xs ys h k = ap (list_any is_shaping) (changes_both xs ys) ∙ none_both is_shaping (changes xs) (changes ys) h k

pub closes_makeless : (ps : List ℕ) → list_any is_shaping (changes (map to.Close ps)) ≡ false
closes_makeless ps = ap (list_any is_shaping) (changes_of_closes ps) ∙ none_map is_shaping event.Close (λ x. refl) ps

pub looks_makeless : (looks : List Seen) → list_any is_shaping (changes (map drained_line looks)) ≡ false
looks_makeless looks = ap (list_any is_shaping) (changes_of_looks looks)

module _ (each_may : EachMayCommit) (by_config : CommitsByConfiguration) (leaves : CommitsLeaveGraphs) (statements : List Statement) where
  record WellOn (done : List Statement) (s : Statement) (h ls : List HistoryLine) (rest : List Statement) (old : Graph) : Type 0 where
    onward : Onward statements done s h ls rest old
    well : EachAfter Well (changes h) (changes ls)
    has : IsRow onward.graph

  pub described_has : (done rest : List Statement) (s : Statement) → statements ≡ done ++ s ∷ rest → All (Describes IsRow) statements → Describes IsRow s
  described_has done rest s parts all = All-head (Describes IsRow) s rest (all_parts (Describes IsRow) done (s ∷ rest) (subst (All (Describes IsRow)) parts all)).1

  committed : (h : List HistoryLine) (name : List ℕ) (args : List ℤ) (old new : Graph) (moves : List Move) (plan : Plan) (looks : List (List Seen)) (ls : List HistoryLine)
      → ls ≡ opening_lines name args old plan (config_after h) ++ (drained_lines looks ++ (lines_of_events (commit_events old new plan (config_after (h ++ opening_lines name args old plan (config_after h)))) ++ to.Commit ∷ []))
      → IsRun (changes (h ++ ls)) → IsSoundGraph old → IsSoundGraph new → IsGraphOf (config_after h) old → IsPlanOf old new moves plan → IsRow old → IsRow new → KeepsEnds old new moves → Each Well (changes h)
      → EachAfter Well (changes h) (changes ls)
  committed h name args old new moves plan looks ls are goes sound_old sound_new is is_plan r q keeps each =
      let o = opening_lines name args old plan (config_after h) in
      let closes = map event.Close (ports_to_close old plan (config_after h)) in
      let d = config_after (h ++ o) in
      let ev = commit_events old new plan d in
      let tail = drained_lines looks ++ (lines_of_events ev ++ to.Commit ∷ []) in
      let o_is : changes o ≡ closes = changes_of_closes (ports_to_close old plan (config_after h)) in
      let tail_is : changes tail ≡ ev =
      changes_both (drained_lines looks) (lines_of_events ev ++ to.Commit ∷ []) ∙ ap (λ xs. xs ++ changes (lines_of_events ev ++ to.Commit ∷ [])) (changes_of_looks (seen_in_all looks))
      ∙ changes_both (lines_of_events ev) (to.Commit ∷ []) ∙ append-nil (changes (lines_of_events ev)) ∙ changes_of_lines ev ∙ commit_kept old new plan d in
      let all_is : changes ls ≡ closes ++ ev = ap changes are ∙ changes_both o tail ∙ (λ i. o_is i ++ tail_is i) in
      let both : changes (h ++ o) ≡ changes h ++ closes = changes_both h o ∙ ap (λ xs. changes h ++ xs) o_is in
      let calm = calm_well (changes h) closes (none_map is_shaping event.Close (λ x. refl) (ports_to_close old plan (config_after h))) in
      let runs = front_runs (h ++ o) tail (subst (λ xs. IsRun (changes xs)) (sym (append_assoc h o tail)) (subst (λ xs. IsRun (changes (h ++ xs))) are goes)) in
      let stands = graph_on h o old runs (ap (list_any is_shaping) o_is ∙ none_map is_shaping event.Close (λ x. refl) (ports_to_close old plan (config_after h))) is in
      let onward_ : IsRun (changes (h ++ o) ++ commit_events old new plan (state_after (changes (h ++ o))).config) =
      subst IsRun
      (changes_both h ls ∙ ap (λ xs. changes h ++ xs) all_is ∙ sym (append_assoc (changes h) closes ev) ∙ ap (λ xs. xs ++ ev) (sym both)
      ∙ ap (λ c. changes (h ++ o) ++ commit_events old new plan c) (sym (config_of (h ++ o)))) goes in
      let well = commit_well (changes (h ++ o)) runs (subst (Each Well) (sym both) (each_joined Well [] (changes h) closes each calm)) old new moves plan sound_old sound_new
      (subst (λ c. IsGraphOf c old) (sym (config_of (h ++ o))) stands) is_plan r q keeps onward_ in
      subst (EachAfter Well (changes h)) (sym all_is)
      (each_joined Well (changes h) closes ev calm (subst (λ xs. EachAfter Well xs ev) both (subst (λ c. EachAfter Well (changes (h ++ o)) (commit_events old new plan c)) (config_of (h ++ o)) well)))

  given_up : (h : List HistoryLine) (name : List ℕ) (args : List ℤ) (old : Graph) (plan : Plan) (within : ℕ) (looks : List (List Seen)) (left : List Seen) (closed : List ℕ) (ls : List HistoryLine) (c : Configuration)
      → ls ≡ opening_lines name args old plan c ++ (drained_lines looks ++ pending_lines within left closed) → list_any is_shaping (changes ls) ≡ false
  given_up h name args old plan within looks left closed ls c are =
      ap (λ xs. list_any is_shaping (changes xs)) are
      ∙ makeless (opening_lines name args old plan c) (drained_lines looks ++ pending_lines within left closed) (closes_makeless (ports_to_close old plan c))
      (makeless (drained_lines looks) (pending_lines within left closed) (looks_makeless (seen_in_all looks))
      (makeless (to.Pending within ∷ map root_line left ++ map to.Reopen closed) (to.Abandon ∷ [])
      (makeless (to.Pending within ∷ map root_line left) (map to.Reopen closed) (ap (list_any is_shaping) (changes_of_roots left)) (ap (list_any is_shaping) (changes_of_reopens closed) ∙ none_map is_shaping event.Reopen (λ x. refl) closed)) refl))

  well_statement : (done : List Statement) (s : Statement) (h ls : List HistoryLine) (rest : List Statement) (g : Graph) (made : Made) → statements ≡ done ++ s ∷ rest → IsRight h s ls → IsRun (changes (h ++ ls))
      → Fits done h g made → GoOnSoundly (s ∷ rest) g made → IsRow g → All (Describes IsRow) statements → KeepEndsFrom g (s ∷ rest) → Each Well (changes h) → WellOn done s h ls rest g
  well_statement done (start name args new) h ls rest g made parts right goes fits says has all ends each = absurd says
  well_statement done (change name args new within moves) h ls rest g made parts right goes fits says has all ends each =
      let first = onward each_may by_config leaves statements done (change name args new within moves) h ls rest g made parts right (front_runs h ls goes) fits says in
      let new_has : IsRow new = described_has done rest (change name args new within moves) parts all in
      record {
        onward = first;
        well = ⊎_elim
            (λ (skipped : list_any is_pending h ≡ true). calm_well (changes h) (changes ls) (ap (λ xs. list_any is_shaping (changes xs)) (right.0 skipped)))
            (λ (tried : list_any is_pending h ≡ false). tried_well new_has tried (right.1 tried))
            (cases_Bool (list_any is_pending h));
        has = subst IsRow (sym first.named) new_has;
      }
    where
      tried_well : IsRow new → list_any is_pending h ≡ false → IsChange h name args new within moves ls → EachAfter Well (changes h) (changes ls)
      tried_well new_has tried w =
          let one = one_graph (IsLiveNode (config_after h)) (AreLinked (config_after h)) w.old g w.is_old (fits.stands tried).graph in
          ⊎_elim
          (λ (e : IsCommitted w.old new w.plan within (config_after (h ++ opening_lines name args w.old w.plan (config_after h))) w.rest).
          committed h name args w.old new moves w.plan e.looks ls (w.are ∙ ap (λ xs. opening_lines name args w.old w.plan (config_after h) ++ xs) e.are) goes (subst IsSoundGraph (sym one) fits.sound) says.graph w.is_old w.is_plan
          (subst IsRow (sym one) has) new_has (subst (λ x. KeepsEnds x new moves) (sym one) ends.0) each)
          (λ (e : IsGivenUp (ports_to_close w.old w.plan (config_after h)) within w.rest).
          calm_well (changes h) (changes ls)
          (given_up h name args w.old w.plan within e.looks e.left (ports_to_close w.old w.plan (config_after h)) ls (config_after h) (w.are ∙ ap (λ xs. opening_lines name args w.old w.plan (config_after h) ++ xs) e.are)))
          w.ends
  well_statement done (run k) h ls rest g made parts right goes fits says has all ends each =
      let first = onward each_may by_config leaves statements done (run k) h ls rest g made parts right (front_runs h ls goes) fits says in
      record { onward = first; well = calm_well (changes h) (changes ls) (ap (λ xs. list_any is_shaping (changes xs)) right.are); has = subst IsRow (sym first.named) has }
  well_statement done (finish n) h ls rest g made parts right goes fits says has all ends each =
      let first = onward each_may by_config leaves statements done (finish n) h ls rest g made parts right (front_runs h ls goes) fits says in
      record { onward = first; well = calm_well (changes h) (changes ls) (ap (λ xs. list_any is_shaping (changes xs)) right.are); has = subst IsRow (sym first.named) has }
  well_statement done show h ls rest g made parts right goes fits says has all ends each =
      let first = onward each_may by_config leaves statements done show h ls rest g made parts right (front_runs h ls goes) fits says in
      record { onward = first; well = calm_well (changes h) (changes ls) (ap (λ xs. list_any is_shaping (changes xs)) right.are); has = subst IsRow (sym first.named) has }

  ends_on : (s : Statement) (rest : List Statement) (g : Graph) → KeepEndsFrom g (s ∷ rest) → KeepEndsFrom (named_by s g) rest
  ends_on (start name args new) rest g ends = ends
  ends_on (change name args new within moves) rest g ends = ends.1
  ends_on (run k) rest g ends = ends
  ends_on (finish n) rest g ends = ends
  ends_on show rest g ends = ends

  pub all_well : (done : List Statement) (h : List HistoryLine) (parts : List Part) (g : Graph) (made : Made) → statements ≡ done ++ map (λ (p : Part). p.statement) parts → AreRightAfter h parts
      → IsRun (changes (h ++ lines_of parts)) → Fits done h g made → GoOnSoundly (map (λ (p : Part). p.statement) parts) g made → IsRow g → All (Describes IsRow) statements → KeepEndsFrom g (map (λ (p : Part). p.statement) parts)
      → Each Well (changes h) → EachAfter Well (changes h) (changes (lines_of parts))
  all_well done h [] g made parts right goes fits says has all ends each = tt
  all_well done h (p ∷ ps) g made parts right goes fits says has all ends each =
      let goes' = subst (λ xs. IsRun (changes xs)) (sym (append_assoc h p.lines (lines_of ps))) goes in
      let rest = map (λ (q : Part). q.statement) ps in
      let first = well_statement done p.statement h p.lines rest g made parts right.0 (front_runs (h ++ p.lines) (lines_of ps) goes') fits says has all ends each in
      let both = changes_both h p.lines in
      subst (EachAfter Well (changes h)) (sym (changes_both p.lines (lines_of ps)))
      (each_joined Well (changes h) (changes p.lines) (changes (lines_of ps)) first.well
      (subst (λ xs. EachAfter Well xs (changes (lines_of ps))) both
      (all_well (done ++ p.statement ∷ []) (h ++ p.lines) ps first.onward.graph first.onward.made (parts ∙ sym (append_assoc done (p.statement ∷ []) rest))
      right.1 goes' first.onward.fits first.onward.below first.has all (subst (λ x. KeepEndsFrom x rest) (sym first.onward.named) (ends_on p.statement rest g ends))
      (subst (Each Well) (sym both) (each_joined Well [] (changes h) (changes p.lines) each first.well)))))
