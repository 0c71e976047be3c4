-- A history that was computed follows its script.
use Rattle.std.proofs.Common.{◌≡◌, ◌∙◌, ℕ, ◌+◌, Bool, true, false, ◌||◌, cond, List, [], ◌∷◌, ◌++◌, map, length, drop, refl, sym, ap, subst, ⊎_elim, inl, inr, arith}
use Rattle.std.specs.Prelude.{◌==◌, ◌⊎◌, ℤ, nat_le}
use Rattle.std.specs.List.{count_by, list_all, list_any}
use Rattle.std.proofs.lemmas.Bool.{and_parts, both_ways, cases_Bool, eqb-true, leb-true, or_parts}
use Rattle.std.proofs.lemmas.List.Folds.{list_any-append}
use Rattle.base.specs.Each.{EachAfter}
use Rattle.base.proofs.MapLaws.{list_any-map}
use Rattle.config_graph.specs.Graph.{Graph}
use Rattle.change_plan.specs.declared.plan_data.Move.{Move}
use Rattle.change_plan.specs.declared.plan_data.Plan.{Plan}
use Rattle.change_plan_laws.specs.Commit.{ports_to_close}
use Rattle.quiesce_core.specs.State.{Configuration}
use Rattle.report_types.specs.declared.report.HistoryLine.{HistoryLine}
use Rattle.change_spec.specs.Changes.{AreLooks, IsChange, IsCommitted, IsGivenUp, PortsRise, opening_lines, seen_in_all}
use Rattle.change_spec.specs.Follows.{Follows, IsRight, Part, lines_of, skip_lines, stop_lines}
use Rattle.change_spec.specs.Members.{is_pending}
use Rattle.change_spec.specs.Planning.{can_be_planned, planned, rises}
use Rattle.quiesce_laws.specs.Steps.{live_ports}
use Rattle.change_spec.specs.Scene.{AreSeen, Seen, config_after}
use Rattle.change_spec.specs.Standing.{is_graph_of}
use Rattle.change_spec.specs.Statements.{Statement, start, change, run, finish, show}
use Rattle.change_spec.specs.Told.{Told, no_more, counted, shown_graph, looked, are_all_seen, are_looks, are_seen, can_change, can_follow, can_tell, can_tell_all, change_lines, lines_after_closes, first_told, history_told, lines_told, told_lines, told_parts}
use Rattle.change_spec.proofs.Checking.{all_by}
use Rattle.change_spec.proofs.PlanningLaws.{moves_lead_so, planned_so}
use Rattle.change_spec.proofs.StandingLaws.{graph_by}
use Rattle.change_spec.proofs.TestLaws.{rise_if}
use Rattle.change_spec.proofs.MemberLaws.{lines_more}
use Rattle.base.proofs.ListLaws.{all_have, count_by-none}
use Rattle.base.proofs.ContainsLaws.{any_of}

abbrev all_ports : List ℕ → List Seen → List ℕ
all_ports ports seen = ports ++ map (λ (d : Seen). d.port) seen

abbrev same_count : List ℕ → List Seen → ℕ → Bool
same_count ports seen q = count_by (λ (d : Seen). d.port == q) seen == count_by (λ r. r == q) ports

pub seen_if : (ports : List ℕ) (seen : List Seen) → are_seen ports seen ≡ true → AreSeen ports seen
seen_if ports seen h p = ⊎_elim
    (λ (there : list_any (λ q. q == p) (all_ports ports seen) ≡ true).
    let w = any_of (λ q. q == p) (all_ports ports seen) there in
    subst (λ q. count_by (λ (d : Seen). d.port == q) seen ≡ count_by (λ r. r == q) ports) (eqb-true w.0 p w.2)
    (eqb-true (count_by (λ (d : Seen). d.port == w.0) seen) (count_by (λ r. r == w.0) ports) (all_have (same_count ports seen) (all_ports ports seen) h w.0 w.1)))
    (λ (none : list_any (λ q. q == p) (all_ports ports seen) ≡ false).
    let w = or_parts (list_any (λ q. q == p) ports) (list_any (λ q. q == p) (map (λ (d : Seen). d.port) seen))
    (sym (list_any-append (λ q. q == p) ports (map (λ (d : Seen). d.port) seen)) ∙ none) in
    count_by-none (λ (d : Seen). d.port == p) seen (sym (list_any-map (λ q. q == p) (λ (d : Seen). d.port) seen) ∙ w.1)
    ∙ sym (count_by-none (λ q. q == p) ports w.0))
    (cases_Bool (list_any (λ q. q == p) (all_ports ports seen)))

looks_if : (within : ℕ) (looks : List (List Seen)) → are_looks within looks ≡ true → AreLooks within looks
looks_if within looks h =
    let w = and_parts (nat_le (length looks) (within + 1)) (list_all (λ (seen : List Seen). rises (map (λ (d : Seen). d.port) seen)) looks) h in
    record {
      few = leb-true (length looks) (within + 1) w.0;
      rise = all_by PortsRise (λ (seen : List Seen). rises (map (λ (d : Seen). d.port) seen)) (λ seen e. rise_if (map (λ (d : Seen). d.port) seen) e) looks w.1;
    }

-- a change

ends_so : (old new : Graph) (plan : Plan) (within : ℕ) (c closed : Configuration) (looks : List (List Seen)) (left : List Seen)
    → AreLooks within looks → are_all_seen old plan c closed looks left ≡ true
    → IsCommitted old new plan within closed (lines_after_closes old new plan within (ports_to_close old plan c) closed looks left)
    ⊎ IsGivenUp (ports_to_close old plan c) within (lines_after_closes old new plan within (ports_to_close old plan c) closed looks left)
ends_so old new plan within c closed looks [] are seen =
    inl (record { looks = looks; are_looks = are; all_seen = seen_if (ports_to_close old plan closed) (seen_in_all looks) seen; are = refl })
ends_so old new plan within c closed looks (e ∷ left) are seen =
    inr (record {
      looks = looks;
      left = e ∷ left;
      are_looks = are;
      some_left = omega arith;
      all_seen = seen_if (ports_to_close old plan c) (seen_in_all looks ++ e ∷ left) seen;
      are = refl;
    })

changes_so : (before : List HistoryLine) (name : List ℕ) (args : List ℤ) (old new : Graph) (within : ℕ) (moves : List Move) (looks : List (List Seen)) (left : List Seen)
    → can_change before name args old new within moves looks left ≡ true → IsChange before name args new within moves (change_lines before name args old new (planned old new moves) within looks left)
changes_so before name args old new within moves looks left h =
    let c = config_after before in
    let plan = planned old new moves in
    let closed = config_after (before ++ opening_lines name args old plan c) in
    let first = and_parts (is_graph_of c old) _ h in
    let second = and_parts (can_be_planned old new moves) _ first.1 in
    let third = and_parts (are_looks within looks) (are_all_seen old plan c closed looks left) second.1 in
    record {
      old = old;
      is_old = graph_by c old first.0;
      plan = plan;
      moves_lead = moves_lead_so old new moves second.0;
      is_plan = planned_so old new moves second.0;
      rest = lines_after_closes old new plan within (ports_to_close old plan c) closed looks left;
      are = refl;
      ends = ends_so old new plan within c closed looks left (looks_if within looks third.0) third.1;
    }

-- a statement

skipped_so : (before : List HistoryLine) (name : List ℕ) (args : List ℤ) (g : Graph) (within : ℕ) (moves : List Move) → list_any is_pending before ≡ true
    → IsRight before (change name args g within moves) (skip_lines name args)
skipped_so before name args g within moves h = (λ e. refl, λ e. absurd (both_ways (list_any is_pending before) e h))

tells_so : (before : List HistoryLine) (s : Statement) (t : Told) → can_tell before s t ≡ true → IsRight before s (told_lines before s t)
tells_so before (start name args g) t h = refl
tells_so before (change name args g within moves) (looked old looks left) h = by (list_any is_pending before) refl h
  where
    by : (b : Bool) → list_any is_pending before ≡ b → (b || can_change before name args old g within moves looks left) ≡ true → IsRight before (change name args g within moves) (cond b (skip_lines name args) (change_lines before name args old g (planned old g moves) within looks left))
    by true e f = skipped_so before name args g within moves e
    by false e f = (λ d. absurd (both_ways (list_any is_pending before) e d), λ d. changes_so before name args old g within moves looks left f)
tells_so before (change name args g within moves) no_more h = skipped_so before name args g within moves h
tells_so before (change name args g within moves) (counted n) h = skipped_so before name args g within moves h
tells_so before (change name args g within moves) (shown_graph d) h = skipped_so before name args g within moves h
tells_so before (run k) (counted n) h = record { ended = n; are = refl }
tells_so before (run k) no_more h = absurd (both_ways false refl h)
tells_so before (run k) (shown_graph d) h = absurd (both_ways false refl h)
tells_so before (run k) (looked old looks left) h = absurd (both_ways false refl h)
tells_so before (finish n) (counted r) h = record { rounds = r; are = refl }
tells_so before (finish n) no_more h = absurd (both_ways false refl h)
tells_so before (finish n) (shown_graph d) h = absurd (both_ways false refl h)
tells_so before (finish n) (looked old looks left) h = absurd (both_ways false refl h)
tells_so before show (shown_graph d) h = record { graph = d; are = refl }
tells_so before show no_more h = absurd (both_ways false refl h)
tells_so before show (counted n) h = absurd (both_ways false refl h)
tells_so before show (looked old looks left) h = absurd (both_ways false refl h)

all_told : (parts : List Part) (ss : List Statement) (ts : List Told) → can_tell_all (lines_of parts) ss ts ≡ true
    → EachAfter (λ before (p : Part). IsRight (lines_of before) p.statement p.lines) parts (told_parts (lines_of parts) ss ts)
all_told parts [] ts h = tt
all_told parts (s ∷ ss) ts h =
    let before = lines_of parts in
    let t = first_told ts in
    let p : Part = record { statement = s; lines = told_lines before s t } in
    let w = and_parts (can_tell before s t) (can_tell_all (before ++ p.lines) ss (drop 1 ts)) h in (
      tells_so before s t w.0,
      subst (λ ls. EachAfter (λ before (q : Part). IsRight (lines_of before) q.statement q.lines) (parts ++ p ∷ []) (told_parts ls ss (drop 1 ts))) (lines_more parts p)
          (all_told (parts ++ p ∷ []) ss (drop 1 ts) (ap (λ ls. can_tell_all ls ss (drop 1 ts)) (lines_more parts p) ∙ w.1)),
    )

statements_told : (before : List HistoryLine) (ss : List Statement) (ts : List Told) → map (λ (p : Part). p.statement) (told_parts before ss ts) ≡ ss
statements_told before [] ts = refl
statements_told before (s ∷ ss) ts = ap (λ xs. s ∷ xs) (statements_told (before ++ told_lines before s (first_told ts)) ss (drop 1 ts))

pub follows_told : (statements : List Statement) (ts : List Told) (seen : List Seen) → can_follow statements ts seen ≡ true → Follows statements (history_told statements ts seen)
follows_told statements ts seen h =
    let w = and_parts (can_tell_all [] statements ts) (are_seen (live_ports (config_after (lines_told statements ts))) seen) h in
    record {
      parts = told_parts [] statements ts;
      stop = stop_lines (lines_told statements ts) seen;
      statements_are = statements_told [] statements ts;
      right = all_told [] statements ts w.0;
      stops = record { seen = seen; are = refl; all_seen = seen_if (live_ports (config_after (lines_told statements ts))) seen w.1 };
      history_is = refl;
    }
