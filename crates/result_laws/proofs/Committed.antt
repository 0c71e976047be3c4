-- In a history that follows a script, what is made or linked is committed: no line between unlinks or removes anything.
use Rattle.std.proofs.Common.{◌≡◌, ◌∙◌, ℕ, Bool, true, false, List, [], ◌∷◌, ◌++◌, append_assoc, map, Option, Some, None, refl, sym, ap, subst, ⊎_elim}
use Rattle.std.specs.Prelude.{◌&&◌, filter_map, option_map}
use Rattle.std.specs.List.{cons_option, list_all, list_any, enumerate_from}
use Rattle.std.proofs.lemmas.Bool.{and_parts, both_ways, cases_Bool}
use Rattle.base.specs.Each.{EachAfter}
use Rattle.config_graph.specs.Graph.{Graph, ports, target_of}
use Rattle.config_graph.specs.declared.node.Port.{Port}
use Rattle.config_graph.specs.declared.node.Target.{Target}
use Rattle.change_plan.specs.declared.plan_data.Plan.{Plan}
use Rattle.change_plan_laws.specs.Commit.{commit_events, new_links, ports_to_close, reopened_ports, work}
use Rattle.quiesce_laws.specs.Steps.{change_all, live_ports}
use Rattle.quiesce_laws.specs.Work.{link_new, make_new, work_of}
use Rattle.quiesce_core.specs.State.{Configuration}
use Rattle.quiesce_core.specs.declared.event.Event.{Event}
use Rattle.quiesce_core.specs.declared.event.Event.TheVariants as event
use Rattle.quiesce_laws.specs.Starts.{link_of, make_of, reopen_of, start_of}
use Rattle.report_types.specs.declared.report.HistoryLine.{HistoryLine}
use Rattle.report_types.specs.declared.report.HistoryLine.TheVariants as to
use Rattle.change_spec.specs.Changes.{IsChange, IsCommitted, IsGivenUp, drained_lines, opening_lines, pending_lines, seen_in_all}
use Rattle.change_spec.specs.Follows.{Follows, IsRight, Part, lines_of}
use Rattle.change_spec.specs.Members.{is_pending, lines_of_events, without_roots}
use Rattle.change_spec.specs.Scene.{Seen, config_after, drained_line, root_line}
use Rattle.change_spec.specs.Statements.{Statement, start, change, run, finish, show}

-- whether the lines come to a commit, and only make, link and reopen before it
abbrev pub comes : List HistoryLine → Bool
comes [] = false
comes (to.Commit ∷ ls) = true
comes (to.Make n made from ∷ ls) = comes ls
comes (to.Link p n x ∷ ls) = comes ls
comes (to.Reopen p ∷ ls) = comes ls
comes (_ ∷ ls) = false

-- whether each line that makes or links is followed so
abbrev pub committed : List HistoryLine → Bool
committed [] = true
committed (to.Make n made from ∷ ls) = comes ls && committed ls
committed (to.Link p n x ∷ ls) = comes ls && committed ls
committed (_ ∷ ls) = committed ls

both_true : (a b : Bool) → a ≡ true → b ≡ true → (a && b) ≡ true
both_true a b h k = (λ i. h i && b) ∙ k

pub comes_on : (xs ys : List HistoryLine) → comes xs ≡ true → comes (xs ++ ys) ≡ true
comes_on [] ys h = absurd (both_ways false refl h)
comes_on (to.Commit ∷ xs) ys h = refl
comes_on (to.Make n made from ∷ xs) ys h = comes_on xs ys h
comes_on (to.Link p n x ∷ xs) ys h = comes_on xs ys h
comes_on (to.Reopen p ∷ xs) ys h = comes_on xs ys h
comes_on (_ ∷ xs) ys h = absurd (both_ways false refl h)

pub committed_both : (xs ys : List HistoryLine) → committed xs ≡ true → committed ys ≡ true → committed (xs ++ ys) ≡ true
committed_both [] ys h k = k
committed_both (to.Make n made from ∷ xs) ys h k = let w = and_parts (comes xs) (committed xs) h in both_true (comes (xs ++ ys)) (committed (xs ++ ys)) (comes_on xs ys w.0) (committed_both xs ys w.1 k)
committed_both (to.Link p n x ∷ xs) ys h k = let w = and_parts (comes xs) (committed xs) h in both_true (comes (xs ++ ys)) (committed (xs ++ ys)) (comes_on xs ys w.0) (committed_both xs ys w.1 k)
committed_both (_ ∷ xs) ys h k = committed_both xs ys h k

-- ---- lines that make and link nothing

abbrev is_calm : HistoryLine → Bool
is_calm (to.Make n made from) = false
is_calm (to.Link p n x) = false
is_calm _ = true

calm_committed : (xs : List HistoryLine) → list_all is_calm xs ≡ true → committed xs ≡ true
calm_committed [] h = refl
calm_committed (to.Make n made from ∷ xs) h = absurd (both_ways false refl h)
calm_committed (to.Link p n x ∷ xs) h = absurd (both_ways false refl h)
calm_committed (x ∷ xs) h = by x h (λ k. calm_committed xs k)
  where
    by : (x : HistoryLine) → list_all is_calm (x ∷ xs) ≡ true → (list_all is_calm xs ≡ true → committed xs ≡ true) → committed (x ∷ xs) ≡ true
    by (to.Make n made from) h later = absurd (both_ways false refl h)
    by (to.Link p n x) h later = absurd (both_ways false refl h)
    by _ h later = later h

calm_both : (xs ys : List HistoryLine) → list_all is_calm xs ≡ true → list_all is_calm ys ≡ true → list_all is_calm (xs ++ ys) ≡ true
calm_both [] ys h k = k
calm_both (x ∷ xs) ys h k = let w = and_parts (is_calm x) (list_all is_calm xs) h in both_true (is_calm x) (list_all is_calm (xs ++ ys)) w.0 (calm_both xs ys w.1 k)

calm_map : {A : Type 0} (f : A → HistoryLine) → ((a : A) → is_calm (f a) ≡ true) → (xs : List A) → list_all is_calm (map f xs) ≡ true
calm_map f h [] = refl
calm_map f h (x ∷ xs) = both_true (is_calm (f x)) (list_all is_calm (map f xs)) (h x) (calm_map f h xs)

-- ---- lines of events

abbrev is_put : Event → Bool
is_put (event.Make n made from) = true
is_put (event.Link p n x) = true
is_put (event.Reopen p) = true
is_put _ = false

abbrev is_cut : Event → Bool
is_cut (event.Unlink p) = true
is_cut (event.Remove n) = true
is_cut _ = false

put_comes : (es : List Event) → list_all is_put es ≡ true → comes (lines_of_events es ++ to.Commit ∷ []) ≡ true
put_comes [] h = refl
put_comes (event.Make n made from ∷ es) h = put_comes es h
put_comes (event.Link p n x ∷ es) h = put_comes es h
put_comes (event.Reopen p ∷ es) h = put_comes es h
put_comes (_ ∷ es) h = absurd (both_ways false refl h)

put_committed : (es : List Event) → list_all is_put es ≡ true → committed (lines_of_events es ++ to.Commit ∷ []) ≡ true
put_committed [] h = refl
put_committed (event.Make n made from ∷ es) h = both_true (comes (lines_of_events es ++ to.Commit ∷ [])) (committed (lines_of_events es ++ to.Commit ∷ [])) (put_comes es h) (put_committed es h)
put_committed (event.Link p n x ∷ es) h = both_true (comes (lines_of_events es ++ to.Commit ∷ [])) (committed (lines_of_events es ++ to.Commit ∷ [])) (put_comes es h) (put_committed es h)
put_committed (event.Reopen p ∷ es) h = put_committed es h
put_committed (_ ∷ es) h = absurd (both_ways false refl h)

cut_committed : (xs ys : List Event) → list_all is_cut xs ≡ true → list_all is_put ys ≡ true → committed (lines_of_events (xs ++ ys) ++ to.Commit ∷ []) ≡ true
cut_committed [] ys h k = put_committed ys k
cut_committed (event.Unlink p ∷ xs) ys h k = cut_committed xs ys h k
cut_committed (event.Remove n ∷ xs) ys h k = cut_committed xs ys h k
cut_committed (_ ∷ xs) ys h k = absurd (both_ways false refl h)

all_map : {A B : Type 0} (t : B → Bool) (f : A → B) → ((a : A) → t (f a) ≡ true) → (xs : List A) → list_all t (map f xs) ≡ true
all_map t f h [] = refl
all_map t f h (x ∷ xs) = both_true (t (f x)) (list_all t (map f xs)) (h x) (all_map t f h xs)

all_pass_both : {A : Type 0} (t : A → Bool) (xs ys : List A) → list_all t xs ≡ true → list_all t ys ≡ true → list_all t (xs ++ ys) ≡ true
all_pass_both t [] ys h k = k
all_pass_both t (x ∷ xs) ys h k = let w = and_parts (t x) (list_all t xs) h in both_true (t x) (list_all t (xs ++ ys)) w.0 (all_pass_both t xs ys w.1 k)

all_linked : (g : Graph) (xs : List (ℕ × Port)) → list_all is_put (filter_map (link_of g) xs) ≡ true
all_linked g [] = refl
all_linked g (x ∷ xs) = by (target_of g.links x.1.node x.1.require) (all_linked g xs)
  where
    by : (o : Option Target) → list_all is_put (filter_map (link_of g) xs) ≡ true → list_all is_put (cons_option (option_map (λ (u : Target). event.Link x.0 u.node u.provide) o) (filter_map (link_of g) xs)) ≡ true
    by None rest = rest
    by (Some u) rest = rest

start_put : (g : Graph) → list_all is_put (start_of g) ≡ true
start_put g =
    let makes = map make_of (enumerate_from 0 g.nodes) in
    let links = filter_map (link_of g) (enumerate_from 0 (ports g.nodes)) in
    let opens = map reopen_of (enumerate_from 0 (ports g.nodes)) in
    all_pass_both is_put (makes ++ links) opens
    (all_pass_both is_put makes links (all_map is_put make_of (λ a. refl) (enumerate_from 0 g.nodes)) (all_linked g (enumerate_from 0 (ports g.nodes))))
    (all_map is_put reopen_of (λ a. refl) (enumerate_from 0 (ports g.nodes)))

commit_committed : (old new : Graph) (plan : Plan) (c : Configuration) → committed (lines_of_events (commit_events old new plan c) ++ to.Commit ∷ []) ≡ true
commit_committed old new plan c =
    let w = work old new plan c in
    let unlinks = map event.Unlink w.unlinks in
    let removes = map event.Remove w.removes in
    let makes = map make_new w.makes in
    let links = map link_new (new_links new plan (change_all c (work_of w))) in
    let opens = map event.Reopen (reopened_ports old new plan c) in
    let parted : ((unlinks ++ (removes ++ makes)) ++ links) ++ opens ≡ (unlinks ++ removes) ++ (makes ++ (links ++ opens)) = rearranged unlinks removes makes links opens in
    subst (λ xs. committed (lines_of_events xs ++ to.Commit ∷ []) ≡ true) (sym parted)
    (cut_committed (unlinks ++ removes) (makes ++ (links ++ opens))
    (all_pass_both is_cut unlinks removes (all_map is_cut event.Unlink (λ a. refl) w.unlinks) (all_map is_cut event.Remove (λ a. refl) w.removes))
    (all_pass_both is_put makes (links ++ opens) (all_map is_put make_new (λ a. refl) w.makes)
    (all_pass_both is_put links opens (all_map is_put link_new (λ a. refl) (new_links new plan (change_all c (work_of w)))) (all_map is_put event.Reopen (λ a. refl) (reopened_ports old new plan c)))))
  where
    rearranged : (a b c d e : List Event) → ((a ++ (b ++ c)) ++ d) ++ e ≡ (a ++ b) ++ (c ++ (d ++ e))
    rearranged a b c d e = append_assoc (a ++ (b ++ c)) d e ∙ ap (λ xs. xs ++ (d ++ e)) (sym (append_assoc a b c)) ∙ append_assoc (a ++ b) c (d ++ e)

-- ---- statement by statement

part_committed : (h : List HistoryLine) (s : Statement) (ls : List HistoryLine) → IsRight h s ls → committed ls ≡ true
part_committed h (start name args g) ls right = ap committed right ∙ put_committed (start_of g) (start_put g)
part_committed h (run k) ls right = ap committed right.are
part_committed h (finish n) ls right = ap committed right.are
part_committed h show ls right = ap committed right.are
part_committed h (change name args new within moves) ls right = ⊎_elim
    (λ (skipped : list_any is_pending h ≡ true). ap committed (right.0 skipped))
    (λ (tried : list_any is_pending h ≡ false). of_change (right.1 tried))
    (cases_Bool (list_any is_pending h))
  where
    looks_calm : (seen : List Seen) → list_all is_calm (map drained_line seen) ≡ true
    looks_calm seen = calm_map drained_line (λ a. refl) seen

    of_change : IsChange h name args new within moves ls → committed ls ≡ true
    of_change w =
        let closes = map to.Close (ports_to_close w.old w.plan (config_after h)) in
        ap committed w.are
        ∙ committed_both (opening_lines name args w.old w.plan (config_after h)) w.rest (calm_committed closes (calm_map to.Close (λ a. refl) (ports_to_close w.old w.plan (config_after h))))
        (⊎_elim
        (λ (e : IsCommitted w.old new w.plan within (config_after (h ++ opening_lines name args w.old w.plan (config_after h))) w.rest).
        ap committed e.are
        ∙ committed_both (drained_lines e.looks) _ (calm_committed (drained_lines e.looks) (looks_calm (seen_in_all e.looks))) (commit_committed w.old new w.plan (config_after (h ++ opening_lines name args w.old w.plan (config_after h)))))
        (λ (e : IsGivenUp (ports_to_close w.old w.plan (config_after h)) within w.rest).
        ap committed e.are
        ∙ committed_both (drained_lines e.looks) _ (calm_committed (drained_lines e.looks) (looks_calm (seen_in_all e.looks)))
        (calm_committed (pending_lines within e.left (ports_to_close w.old w.plan (config_after h)))
        (calm_both (map root_line e.left ++ map to.Reopen (ports_to_close w.old w.plan (config_after h))) (to.Abandon ∷ [])
        (calm_both (map root_line e.left) (map to.Reopen (ports_to_close w.old w.plan (config_after h))) (calm_map root_line (λ a. refl) e.left) (calm_map to.Reopen (λ a. refl) (ports_to_close w.old w.plan (config_after h)))) refl)))
        w.ends)

parts_committed : (h : List Part) (ps : List Part) → EachAfter (λ before part. IsRight (lines_of before) part.statement part.lines) h ps → committed (lines_of ps) ≡ true
parts_committed h [] right = refl
parts_committed h (p ∷ ps) right = committed_both p.lines (lines_of ps) (part_committed (lines_of h) p.statement p.lines right.0) (parts_committed (h ++ p ∷ []) ps right.1)

rootless_comes : (ls : List HistoryLine) → comes ls ≡ true → comes (without_roots ls) ≡ true
rootless_comes [] h = h
rootless_comes (to.Commit ∷ ls) h = refl
rootless_comes (to.Make n made from ∷ ls) h = rootless_comes ls h
rootless_comes (to.Link p n x ∷ ls) h = rootless_comes ls h
rootless_comes (to.Reopen p ∷ ls) h = rootless_comes ls h
rootless_comes (_ ∷ ls) h = absurd (both_ways false refl h)

rootless_committed : (ls : List HistoryLine) → committed ls ≡ true → committed (without_roots ls) ≡ true
rootless_committed [] h = refl
rootless_committed (to.Make n made from ∷ ls) h = let w = and_parts (comes ls) (committed ls) h in both_true (comes (without_roots ls)) (committed (without_roots ls)) (rootless_comes ls w.0) (rootless_committed ls w.1)
rootless_committed (to.Link p n x ∷ ls) h = let w = and_parts (comes ls) (committed ls) h in both_true (comes (without_roots ls)) (committed (without_roots ls)) (rootless_comes ls w.0) (rootless_committed ls w.1)
rootless_committed (to.Root p k ∷ ls) h = rootless_committed ls h
rootless_committed (_ ∷ ls) h = rootless_committed ls h

pub history_committed : (statements : List Statement) (history : List HistoryLine) → Follows statements history → committed (without_roots history) ≡ true
history_committed statements history f =
    rootless_committed history
    (ap committed (sym f.history_is)
    ∙ committed_both (lines_of f.parts) f.stop (parts_committed [] f.parts f.right)
    (ap committed f.stops.are
    ∙ calm_committed (map to.Close (live_ports (config_after (lines_of f.parts))) ++ map drained_line f.stops.seen) (calm_both (map to.Close (live_ports (config_after (lines_of f.parts)))) (map drained_line f.stops.seen) (calm_map to.Close (λ a. refl) (live_ports (config_after (lines_of f.parts)))) (calm_map drained_line (λ a. refl) f.stops.seen))))
