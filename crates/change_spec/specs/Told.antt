-- Histories, computed from a script and from what alone they tell beside it: how many transactions ended or rounds
-- were made, which graph was shown, and what looks at closed ports found. Whether such a history follows the script
-- (`Follows`) is found by tests alone.
use Rattle.std.specs.Prelude.{ℕ, ℤ, Bool, true, false, ◌+◌, ◌&&◌, ◌||◌, ◌==◌, nat_le, List, [], ◌∷◌, ◌++◌, map, length, drop, if◌then◌else◌}
use Rattle.std.specs.List.{count_by, list_all, list_any}
use Rattle.config_graph.specs.Graph.{Graph}
use Rattle.change_plan.specs.declared.plan_data.Move.{Move}
use Rattle.change_plan.specs.declared.plan_data.Plan.{Plan}
use Rattle.change_plan_laws.specs.Commit.{ports_to_close}
use Rattle.quiesce_core.specs.State.{Configuration}
use Rattle.report_types.specs.declared.report.HistoryLine.{HistoryLine}
use Rattle.report_types.specs.declared.report.HistoryLine.TheVariants as to
use Rattle.change_spec.specs.Changes.{commit_lines, drained_lines, opening_lines, pending_lines, seen_in_all}
use Rattle.change_spec.specs.Follows.{Part, lines_of, skip_lines, start_lines, stop_lines}
use Rattle.change_spec.specs.Members.{is_pending}
use Rattle.change_spec.specs.Planning.{can_be_planned, planned, rises}
use Rattle.quiesce_laws.specs.Steps.{live_ports}
use Rattle.change_spec.specs.Scene.{Seen, config_after}
use Rattle.change_spec.specs.Standing.{is_graph_of}
use Rattle.change_spec.specs.Statements.{Statement, start, change, run, finish, show}

-- what the lines of a statement tell beside it: of a change also the graph from which it leads
pub data Told : Type 0 where
  no_more : Told
  counted : (n : ℕ) → Told
  shown_graph : (graph : Graph) → Told
  looked : (old : Graph) (looks : List (List Seen)) (left : List Seen) → Told

-- the lines of a change after its closes: it is committed where no root was left
abbrev pub lines_after_closes : Graph → Graph → Plan → ℕ → List ℕ → Configuration → List (List Seen) → List Seen
    → List HistoryLine
lines_after_closes old new plan within closed c looks [] = drained_lines looks ++ commit_lines old new plan c
lines_after_closes old new plan within closed c looks (d ∷ left) =
    drained_lines looks ++ pending_lines within (d ∷ left) closed

-- the configuration when a change has closed its ports
abbrev pub config_closed : List HistoryLine → List ℕ → List ℤ → Graph → Plan → Configuration
config_closed before name args old plan =
    config_after (before ++ opening_lines name args old plan (config_after before))

abbrev pub change_lines :
    List HistoryLine → List ℕ → List ℤ → Graph → Graph → Plan → ℕ → List (List Seen) → List Seen → List HistoryLine
change_lines before name args old new plan within looks left =
    opening_lines name args old plan (config_after before)
    ++ lines_after_closes old new plan within (ports_to_close old plan (config_after before))
    (config_closed before name args old plan) looks left

abbrev pub told_lines : List HistoryLine → Statement → Told → List HistoryLine
told_lines before (start name args g) t = start_lines name args g
told_lines before (change name args g within moves) (looked old looks left) =
    if list_any is_pending before then skip_lines name args
    else change_lines before name args old g (planned old g moves) within looks left
told_lines before (change name args g within moves) _ = skip_lines name args
told_lines before (run k) (counted n) = to.Run k n ∷ []
told_lines before (finish n) (counted r) = to.Finish n r ∷ []
told_lines before show (shown_graph g) = to.Show g ∷ []
told_lines before _ _ = []

-- each of these ports was seen as often as it is listed, and no other; and the looks were few, and rose
abbrev pub is_seen_so : List ℕ → List Seen → ℕ → Bool
is_seen_so ports seen p = count_by (λ (d : Seen). d.port == p) seen == count_by (λ q. q == p) ports

abbrev pub are_seen : List ℕ → List Seen → Bool
are_seen ports seen = list_all (is_seen_so ports seen) (ports ++ map (λ (d : Seen). d.port) seen)

abbrev pub are_looks : ℕ → List (List Seen) → Bool
are_looks within looks =
    nat_le (length looks) (within + 1) && list_all (λ (seen : List Seen). rises (map (λ (d : Seen). d.port) seen)) looks

-- each closed port was seen drained, or in the end with a root
abbrev pub are_all_seen : Graph → Plan → Configuration → Configuration → List (List Seen) → List Seen → Bool
are_all_seen old plan c closed looks [] = are_seen (ports_to_close old plan closed) (seen_in_all looks)
are_all_seen old plan c closed looks (d ∷ left) = are_seen (ports_to_close old plan c) (seen_in_all looks ++ d ∷ left)

abbrev pub can_change :
    List HistoryLine → List ℕ → List ℤ → Graph → Graph → ℕ → List Move → List (List Seen) → List Seen → Bool
can_change before name args old new within moves looks left =
    is_graph_of (config_after before) old
    && (can_be_planned old new moves
    && (are_looks within looks
    && are_all_seen old (planned old new moves) (config_after before)
    (config_closed before name args old (planned old new moves)) looks left))

abbrev pub can_tell : List HistoryLine → Statement → Told → Bool
can_tell before (start name args g) t = true
can_tell before (change name args g within moves) (looked old looks left) =
    list_any is_pending before || can_change before name args old g within moves looks left
can_tell before (change name args g within moves) _ = list_any is_pending before
can_tell before (run k) (counted n) = true
can_tell before (finish n) (counted r) = true
can_tell before show (shown_graph g) = true
can_tell before _ _ = false

-- the lines of all statements, and those of the stop
abbrev pub first_told : List Told → Told
first_told [] = no_more
first_told (t ∷ ts) = t

abbrev pub told_parts : List HistoryLine → List Statement → List Told → List Part
told_parts before [] ts = []
told_parts before (s ∷ ss) ts =
    record { statement = s; lines = told_lines before s (first_told ts) }
    ∷ told_parts (before ++ told_lines before s (first_told ts)) ss (drop 1 ts)

abbrev pub can_tell_all : List HistoryLine → List Statement → List Told → Bool
can_tell_all before [] ts = true
can_tell_all before (s ∷ ss) ts =
    can_tell before s (first_told ts) && can_tell_all (before ++ told_lines before s (first_told ts)) ss (drop 1 ts)

abbrev pub lines_told : List Statement → List Told → List HistoryLine
lines_told statements ts = lines_of (told_parts [] statements ts)

abbrev pub history_told : List Statement → List Told → List Seen → List HistoryLine
history_told statements ts seen = lines_told statements ts ++ stop_lines (lines_told statements ts) seen

abbrev pub can_follow : List Statement → List Told → List Seen → Bool
can_follow statements ts seen =
    can_tell_all [] statements ts && are_seen (live_ports (config_after (lines_told statements ts))) seen
