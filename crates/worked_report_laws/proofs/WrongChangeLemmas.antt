-- Wrong lines of a change: it is skipped though none was given up, it closes what its plan doesn't freeze, and one look finds a lower port
-- after a higher one.
use Rattle.std.proofs.Common.{◌≡◌, ◌∙◌, ℕ, ◌<◌, ◌≤◌, Bool, true, false, List, [], ◌∷◌, ◌++◌, drop, map, refl, sym, ap, subst, inl, inr, arith}
use Rattle.std.specs.Prelude.{◌⊎◌, codes, pos, slice_get, Some}
use Rattle.std.specs.List.{list_any}
use Rattle.std.proofs.lemmas.Bool.{both_ways, or_left, or_right}
use Rattle.std.proofs.lemmas.List.{append-nil}
use Rattle.std.proofs.lemmas.List.Elements.{All-head}
use Rattle.std.proofs.lemmas.List.Folds.{list_any-append}
use Rattle.base.proofs.ContainsLaws.{Contains-at}
use Rattle.base.proofs.PlaceLaws.{heads_are, tails_are}
use Rattle.config_graph.specs.Graph.{Graph}
use Rattle.config_graph.proofs.GraphByLaws.{one_graph}
use Rattle.change_plan.specs.declared.plan_data.Plan.{Plan}
use Rattle.quiesce_core.specs.Live.{AreLinked, IsGraphOf, IsLiveNode}
use Rattle.quiesce_core.specs.State.{Configuration}
use Rattle.change_plan_laws.specs.Commit.{commit_events, ports_to_close}
use Rattle.report_types.specs.declared.report.HistoryLine.{HistoryLine}
use Rattle.report_types.specs.declared.report.HistoryLine.TheVariants as to
use Rattle.change_spec.specs.Changes.{AreLooks, IsChange, IsCommitted, IsGivenUp, PortsRise, commit_lines, drained_lines, opening_lines, pending_lines, seen_in_all}
use Rattle.change_spec.specs.Follows.{Follows, start_lines}
use Rattle.change_spec.specs.Members.{lines_of_events}
use Rattle.change_spec.specs.Planning.{planned}
use Rattle.change_spec.specs.Scene.{Seen, config_after, drained_line, root_line}
use Rattle.change_spec.specs.Statements.{change}
use Rattle.change_spec.proofs.StandingLaws.{graph_by}
use Rattle.change_plan_laws.specs.Systems.{line}
use Rattle.worked_report_laws.specs.Systems.{one, pair}
use Rattle.worked_report_laws.specs.WrongChanges.{closed_for_nothing, keeping_line, keeping_sink, looked_again, looking_once, m_to_m, moving_nowhere, skipped_for_nothing}
use Rattle.worked_report_laws.proofs.StatementLemmas.{after_start, known}

pub any_left : (t : HistoryLine → Bool) (xs ys : List HistoryLine) → list_any t xs ≡ true → list_any t (xs ++ ys) ≡ true
any_left t xs ys h = list_any-append t xs ys ∙ or_left (list_any t xs) (list_any t ys) h

pub any_right : (t : HistoryLine → Bool) (xs ys : List HistoryLine) → list_any t ys ≡ true → list_any t (xs ++ ys) ≡ true
any_right t xs ys h = list_any-append t xs ys ∙ or_right (list_any t xs) (list_any t ys) h

-- a change that isn't skipped ends with a commit, or is given up

abbrev is_end : HistoryLine → Bool
is_end to.Commit = true
is_end to.Abandon = true
is_end _ = false

commit_ends : (old new : Graph) (plan : Plan) (c : Configuration) → list_any is_end (commit_lines old new plan c) ≡ true
commit_ends old new plan c = any_right is_end (lines_of_events (commit_events old new plan c)) (to.Commit ∷ []) refl

pending_ends : (within : ℕ) (left : List Seen) (closed : List ℕ) → list_any is_end (pending_lines within left closed) ≡ true
pending_ends within left closed = any_right is_end (to.Pending within ∷ map root_line left ++ map to.Reopen closed) (to.Abandon ∷ []) refl

ends_there : (old new : Graph) (plan : Plan) (within : ℕ) (c : Configuration) (closed : List ℕ) (rest : List HistoryLine)
    → IsCommitted old new plan within c rest ⊎ IsGivenUp closed within rest → list_any is_end rest ≡ true
ends_there old new plan within c closed rest (inl e) =
    ap (list_any is_end) e.are ∙ any_right is_end (drained_lines e.looks) (commit_lines old new plan c) (commit_ends old new plan c)
ends_there old new plan within c closed rest (inr e) =
    ap (list_any is_end) e.are ∙ any_right is_end (drained_lines e.looks) (pending_lines within e.left closed) (pending_ends within e.left closed)

abbrev sink_started : List HistoryLine
sink_started = start_lines (codes "One") [] one ++ []

pub not_skipped_for_nothing : Follows keeping_sink skipped_for_nothing → ⊥
not_skipped_for_nothing f =
    let name = codes "One" in
    let args = [] in
    let new = one in
    let w = after_start name args new (change name args new 0 []) skipped_for_nothing f in
    let c : IsChange sink_started name args new 0 [] w.lines = w.right.1 refl in
    let opening = opening_lines name args c.old c.plan (config_after sink_started) in
    let rest : list_any is_end c.rest ≡ true =
    ends_there c.old new c.plan 0 (config_after (sink_started ++ opening)) (ports_to_close c.old c.plan (config_after sink_started)) c.rest c.ends in
    let lines : list_any is_end w.lines ≡ true = ap (list_any is_end) c.are ∙ any_right is_end opening c.rest rest in
    let all : (w.lines ++ []) ++ w.stop ≡ drop 3 skipped_for_nothing = ap (drop 3) w.are in
    both_ways (list_any is_end (drop 3 skipped_for_nothing)) refl
    (sym (ap (list_any is_end) all) ∙ any_left is_end (w.lines ++ []) w.stop (any_left is_end w.lines [] lines))

-- nothing is frozen, so nothing is closed

abbrev begins_with_close : List HistoryLine → Bool
begins_with_close (to.Close p ∷ ls) = true
begins_with_close _ = false

no_close_first : (seen : List Seen) (l : HistoryLine) (rest stop : List HistoryLine) → begins_with_close (l ∷ []) ≡ false → begins_with_close ((map drained_line seen ++ (l ∷ rest)) ++ stop) ≡ false
no_close_first [] to.Commit rest stop h = refl
no_close_first [] (to.Pending n) rest stop h = refl
no_close_first [] l rest stop h = by l h
  where
    by : (x : HistoryLine) → begins_with_close (x ∷ []) ≡ false → begins_with_close (x ∷ (rest ++ stop)) ≡ false
    by (to.Close p) e = absurd (both_ways true e refl)
    by _ e = refl
no_close_first (d ∷ seen) l rest stop h = refl

abbrev line_started : List HistoryLine
line_started = start_lines (codes "Line") (pos 3 ∷ pos 10 ∷ []) (line 10) ++ []

abbrev line_kept : Plan
line_kept = planned (line 10) (line 10) []

abbrev line_closed : Configuration
line_closed = config_after (line_started ++ opening_lines (codes "Line") (pos 3 ∷ pos 10 ∷ []) (line 10) line_kept (config_after line_started))

line_stands : IsGraphOf (config_after line_started) (line 10)
line_stands = graph_by (config_after line_started) (line 10) refl

none_first : (closed : List ℕ) (rest stop : List HistoryLine) → IsCommitted (line 10) (line 10) line_kept 0 line_closed rest ⊎ IsGivenUp closed 0 rest
    → begins_with_close (rest ++ stop) ≡ false
none_first closed rest stop (inl e) =
    ap (λ ls. begins_with_close (ls ++ stop)) e.are ∙ no_close_first (seen_in_all e.looks) to.Commit [] stop refl
none_first closed rest stop (inr e) =
    ap (λ ls. begins_with_close (ls ++ stop)) e.are ∙ no_close_first (seen_in_all e.looks) (to.Pending 0) (drop 1 (pending_lines 0 e.left closed)) stop refl

pub not_closed_for_nothing : Follows keeping_line closed_for_nothing → ⊥
not_closed_for_nothing f =
    let name = codes "Line" in
    let args = pos 3 ∷ pos 10 ∷ [] in
    let w = after_start name args (line 10) (change name args (line 10) 0 []) closed_for_nothing f in
    let c = known line_started name args (line 10) (line 10) 0 [] w.lines line_stands refl (w.right.1 refl) in
    let all : (c.rest ++ []) ++ w.stop ≡ drop 1 (drop 9 closed_for_nothing) = ap (λ ls. drop 1 ((ls ++ []) ++ w.stop)) (sym c.are) ∙ ap (λ ls. drop 1 (drop 9 ls)) w.are in
    let none : begins_with_close ((c.rest ++ []) ++ w.stop) ≡ false =
    ap (λ ls. begins_with_close (ls ++ w.stop)) (append-nil c.rest) ∙ none_first (ports_to_close (line 10) line_kept (config_after line_started)) c.rest w.stop c.ends in
    both_ways (begins_with_close (drop 1 (drop 9 closed_for_nothing))) (sym (ap begins_with_close all) ∙ none) refl

-- a move leads to a node that is created, so there is no such history
pub not_moved_nowhere : (history : List HistoryLine) → Follows moving_nowhere history → ⊥
not_moved_nowhere history f =
    let name = codes "Line" in
    let args = pos 3 ∷ pos 10 ∷ [] in
    let w = after_start name args (line 10) (change name args (line 10) 0 (m_to_m ∷ [])) history f in
    let c : IsChange line_started name args (line 10) 0 (m_to_m ∷ []) w.lines = w.right.1 refl in
    let here = config_after line_started in
    let same : c.old ≡ line 10 = one_graph (IsLiveNode here) (AreLinked here) c.old (line 10) c.is_old line_stands in
    let fit = (c.moves_lead 0 m_to_m (omega arith) refl).fit in
    let gone = fit.leads.removed in
    let there : slice_get (line 10).nodes fit.source ≡ Some gone.node = subst (λ (g : Graph). slice_get g.nodes fit.source ≡ Some gone.node) same gone.here in
    gone.gone (Contains-at (line 10).nodes fit.source gone.node there)

-- in one look the ports rise

abbrev is_drained_line : HistoryLine → Bool
is_drained_line (to.Drained p k) = true
is_drained_line _ = false

abbrev port_of : HistoryLine → ℕ
port_of (to.Drained p k) = p
port_of _ = 0

-- the first two of what was seen
pub record FirstTwo (seen : List Seen) (p q : ℕ) : Type 0 where
  first : Seen
  second : Seen
  later : List Seen
  are : seen ≡ first ∷ second ∷ later
  port : first.port ≡ p
  next : second.port ≡ q

pub first_two : (seen : List Seen) (l : HistoryLine) (rest stop more_ : List HistoryLine) (p j q k : ℕ) → is_drained_line l ≡ false
    → (map drained_line seen ++ (l ∷ rest)) ++ stop ≡ to.Drained p j ∷ to.Drained q k ∷ more_ → FirstTwo seen p q
first_two [] l rest stop more_ p j q k other h =
    absurd (both_ways (is_drained_line l) other (ap is_drained_line (heads_are l (to.Drained p j) (rest ++ stop) (to.Drained q k ∷ more_) h)))
first_two (d ∷ []) l rest stop more_ p j q k other h =
    let later = tails_are (drained_line d) (to.Drained p j) ((l ∷ rest) ++ stop) (to.Drained q k ∷ more_) h in
    absurd (both_ways (is_drained_line l) other (ap is_drained_line (heads_are l (to.Drained q k) (rest ++ stop) more_ later)))
first_two (d ∷ (e ∷ seen)) l rest stop more_ p j q k other h =
    let tail = (map drained_line seen ++ (l ∷ rest)) ++ stop in
    let later = tails_are (drained_line d) (to.Drained p j) (drained_line e ∷ tail) (to.Drained q k ∷ more_) h in
    record {
      first = d;
      second = e;
      later = seen;
      are = refl;
      port = ap port_of (heads_are (drained_line d) (to.Drained p j) (drained_line e ∷ tail) (to.Drained q k ∷ more_) h);
      next = ap port_of (heads_are (drained_line e) (to.Drained q k) tail more_ later);
    }

pub falls_in_one : (looks : List (List Seen)) (p q : ℕ) → AreLooks 0 looks → FirstTwo (seen_in_all looks) p q → q ≤ p → ⊥
falls_in_one [] p q are two low = cc (two.are)
falls_in_one (seen ∷ []) p q are two low =
    let is : seen ≡ two.first ∷ two.second ∷ two.later = sym (append-nil seen) ∙ two.are in
    let rise : PortsRise (two.first ∷ two.second ∷ two.later) = subst PortsRise is (All-head PortsRise seen [] are.rise) in
    let below : two.first.port < two.second.port = rise 0 (omega arith) in
    omega (arith, below, two.port, two.next, low)
falls_in_one (seen ∷ (other ∷ looks)) p q are two low = let few = are.few in omega (arith, few)

abbrev pair_started : List HistoryLine
pair_started = start_lines (codes "Pair") (pos 1 ∷ []) (pair 1) ++ []

abbrev pair_changes : Plan
pair_changes = planned (pair 1) (pair 2) []

abbrev pair_closed : Configuration
pair_closed = config_after (pair_started ++ opening_lines (codes "Pair") (pos 2 ∷ []) (pair 1) pair_changes (config_after pair_started))

pair_stands : IsGraphOf (config_after pair_started) (pair 1)
pair_stands = graph_by (config_after pair_started) (pair 1) refl

no_fall : (closed : List ℕ) (rest stop : List HistoryLine) → IsCommitted (pair 1) (pair 2) pair_changes 0 pair_closed rest ⊎ IsGivenUp closed 0 rest
    → rest ++ stop ≡ drop 3 (drop 9 looked_again) → ⊥
no_fall closed rest stop (inl e) is =
    falls_in_one e.looks 1 0 e.are_looks
    (first_two (seen_in_all e.looks) (to.Unlink 0) (drop 1 (commit_lines (pair 1) (pair 2) pair_changes pair_closed)) stop (drop 14 looked_again) 1 0 0 1 refl
    (ap (λ ls. ls ++ stop) (sym e.are) ∙ is)) (omega arith)
no_fall closed rest stop (inr e) is =
    falls_in_one e.looks 1 0 e.are_looks
    (first_two (seen_in_all e.looks) (to.Pending 0) (drop 1 (pending_lines 0 e.left closed)) stop (drop 14 looked_again) 1 0 0 1 refl
    (ap (λ ls. ls ++ stop) (sym e.are) ∙ is)) (omega arith)

pub not_looked_again : Follows looking_once looked_again → ⊥
not_looked_again f =
    let name = codes "Pair" in
    let w = after_start name (pos 1 ∷ []) (pair 1) (change name (pos 2 ∷ []) (pair 2) 0 []) looked_again f in
    let c = known pair_started name (pos 2 ∷ []) (pair 1) (pair 2) 0 [] w.lines pair_stands refl (w.right.1 refl) in
    let all : (c.rest ++ []) ++ w.stop ≡ drop 3 (drop 9 looked_again) = ap (λ ls. drop 3 ((ls ++ []) ++ w.stop)) (sym c.are) ∙ ap (λ ls. drop 3 (drop 9 ls)) w.are in
    no_fall (ports_to_close (pair 1) pair_changes (config_after pair_started)) c.rest w.stop c.ends (ap (λ ls. ls ++ w.stop) (sym (append-nil c.rest)) ∙ all)
