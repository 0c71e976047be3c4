-- Ports that stay closed or are never closed, looks that don't rise, and a statement without a line: none of these histories follows its
-- script.
use Rattle.std.proofs.Common.{◌≡◌, ◌∙◌, ℕ, Bool, true, false, List, [], ◌∷◌, ◌++◌, drop, map, refl, sym, ap, subst, inl, inr, ⊎_elim, arith, None}
use Rattle.std.specs.Prelude.{◌==◌, ◌⊎◌, codes, pos, is_some}
use Rattle.std.specs.List.{count_by, list_any}
use Rattle.std.proofs.lemmas.Bool.{both_ways}
use Rattle.std.proofs.lemmas.List.{append-nil}
use Rattle.change_plan.specs.declared.plan_data.Plan.{Plan}
use Rattle.change_plan_laws.specs.Commit.{ports_to_close}
use Rattle.quiesce_core.specs.Live.{IsGraphOf}
use Rattle.quiesce_core.specs.State.{Configuration}
use Rattle.report_types.specs.declared.report.HistoryLine.{HistoryLine}
use Rattle.report_types.specs.declared.report.HistoryLine.TheVariants as to
use Rattle.change_spec.specs.Changes.{IsCommitted, IsGivenUp, commit_lines, drained_lines, opening_lines, pending_lines, seen_in_all}
use Rattle.change_spec.specs.Follows.{Follows, IsFinishLine, IsShowLine, IsStop, start_lines}
use Rattle.change_spec.specs.Members.{is_close, is_pending}
use Rattle.change_spec.specs.Planning.{planned}
use Rattle.change_spec.specs.Scene.{Seen, config_after, drained_line, root_line}
use Rattle.change_spec.specs.Statements.{change, finish, show}
use Rattle.change_spec.proofs.StandingLaws.{graph_by}
use Rattle.worked_report_laws.specs.Alone as alone
use Rattle.worked_report_laws.specs.Shown as shown
use Rattle.worked_report_laws.specs.Systems.{lone, lone_of, one, three}
use Rattle.worked_report_laws.specs.WrongClosings.{kept_closed, left_closed, made_too_soon, moved_unasked, replacing_three, seen_elsewhere, seen_falling, unclosed, unshown}
use Rattle.worked_report_laws.specs.WrongSights.{closing, replacing}
use Rattle.worked_report_laws.proofs.StatementLemmas.{after_start, known}
use Rattle.worked_report_laws.proofs.WrongChangeLemmas.{any_left, any_right, falls_in_one, first_two}
use Rattle.worked_report_laws.proofs.WrongSightLemmas.{CommitsSo, GivesUpSo, begins, behind, is_removal, is_sight, lone_changes, lone_closed, lone_stands, lone_started, replaced as ends_so, rounds_of, tells_of, told_count}

abbrev is_reopen : HistoryLine → Bool
is_reopen (to.Reopen p) = true
is_reopen _ = false

-- what stands behind the closes of a source that is replaced: a commit with a reopen, or what gives the change up, and a reopen

abbrev closed_ports : List ℕ
closed_ports = ports_to_close lone lone_changes (config_after lone_started)

abbrev is_made_anew : HistoryLine → Bool
is_made_anew (to.Make n made None) = true
is_made_anew _ = false

record Behind (lines : List HistoryLine) : Type 0 where
  reopened : list_any is_reopen lines ≡ true
  ended : (list_any is_made_anew lines ≡ true) ⊎ (list_any is_pending lines ≡ true)

committed_so : (rest stop lines : List HistoryLine) → IsCommitted lone (lone_of 3) lone_changes 1 lone_closed rest → rest ++ stop ≡ lines → Behind lines
committed_so rest stop lines e is = record { reopened = there is_reopen refl; ended = inl (there is_made_anew refl) }
  where
    there : (t : HistoryLine → Bool) → list_any t (commit_lines lone (lone_of 3) lone_changes lone_closed) ≡ true → list_any t lines ≡ true
    there t h =
        ap (list_any t) (sym is)
        ∙ any_left t rest stop (ap (list_any t) e.are ∙ any_right t (drained_lines e.looks) (commit_lines lone (lone_of 3) lone_changes lone_closed) h)

given_up_so : (rest stop lines : List HistoryLine) → IsGivenUp closed_ports 1 rest → rest ++ stop ≡ lines → Behind lines
given_up_so rest stop lines e is =
    record {
      reopened = there is_reopen (any_left is_reopen (to.Pending 1 ∷ map root_line e.left ++ map to.Reopen closed_ports) (to.Abandon ∷ [])
          (any_right is_reopen (to.Pending 1 ∷ map root_line e.left) (map to.Reopen closed_ports) refl));
      ended = inr (there is_pending refl);
    }
  where
    there : (t : HistoryLine → Bool) → list_any t (pending_lines 1 e.left closed_ports) ≡ true → list_any t lines ≡ true
    there t h =
        ap (list_any t) (sym is) ∙ any_left t rest stop (ap (list_any t) e.are ∙ any_right t (drained_lines e.looks) (pending_lines 1 e.left closed_ports) h)

replaced : (lines : List HistoryLine) → Follows replacing (closing ++ lines) → Behind lines
replaced lines f =
    let name = codes "Lone" in
    let w = after_start name (pos 2 ∷ []) lone (change name (pos 3 ∷ []) (lone_of 3) 1 []) (closing ++ lines) f in
    let c = known lone_started name (pos 3 ∷ []) lone (lone_of 3) 1 [] w.lines lone_stands refl (w.right.1 refl) in
    let all : (c.rest ++ []) ++ w.stop ≡ lines = ap (λ ls. drop 2 ((ls ++ []) ++ w.stop)) (sym c.are) ∙ ap (drop 6) w.are in
    let is : c.rest ++ w.stop ≡ lines = ap (λ ls. ls ++ w.stop) (sym (append-nil c.rest)) ∙ all in
    ⊎_elim (λ (e : IsCommitted lone (lone_of 3) lone_changes 1 lone_closed c.rest). committed_so c.rest w.stop lines e is)
    (λ (e : IsGivenUp closed_ports 1 c.rest). given_up_so c.rest w.stop lines e is) c.ends

pub not_left_closed : Follows replacing left_closed → ⊥
not_left_closed f = both_ways (list_any is_reopen (drop 6 left_closed)) refl (replaced (drop 6 left_closed) f).reopened

pub not_kept_closed : Follows replacing kept_closed → ⊥
not_kept_closed f = both_ways (list_any is_reopen (drop 6 kept_closed)) refl (replaced (drop 6 kept_closed) f).reopened

-- where no state is to move, a node is made anew
pub not_moved_unasked : Follows replacing moved_unasked → ⊥
not_moved_unasked f = ⊎_elim
    (λ (e : list_any is_made_anew (drop 6 moved_unasked) ≡ true). both_ways (list_any is_made_anew (drop 6 moved_unasked)) refl e)
    (λ (e : list_any is_pending (drop 6 moved_unasked) ≡ true). both_ways (list_any is_pending (drop 6 moved_unasked)) refl e) (replaced (drop 6 moved_unasked) f).ended

-- what is replaced is removed first
pub not_made_too_soon : Follows replacing made_too_soon → ⊥
not_made_too_soon f = ⊎_elim
    (λ (e : CommitsSo is_removal 0 (drop 6 made_too_soon)). both_ways (begins is_removal (behind is_sight (drop 6 made_too_soon))) refl e.at_once)
    (λ (e : GivesUpSo 1 0 (drop 6 made_too_soon)). both_ways (is_some (rounds_of (behind is_sight (drop 6 made_too_soon)))) refl (ap is_some e.rounds))
    (ends_so (drop 6 made_too_soon) f)

-- the stop closes each live port
pub not_unclosed : Follows alone.script unclosed → ⊥
not_unclosed f =
    let starts = start_lines (codes "Lone") (pos 2 ∷ []) lone in
    let w = after_start (codes "Lone") (pos 2 ∷ []) lone (finish 5) unclosed f in
    let told : IsFinishLine 5 w.lines = w.right in
    let before = starts ++ to.Finish 5 told.rounds ∷ [] in
    let stops : IsStop before w.stop = subst (λ ls. IsStop (starts ++ (ls ++ [])) w.stop) told.are w.stops in
    let all : before ++ w.stop ≡ unclosed = sym (ap (λ ls. (starts ++ (ls ++ [])) ++ w.stop) told.are) ∙ w.are in
    let shape : w.stop ≡ to.Stop ∷ to.Close 0 ∷ map drained_line stops.seen = stops.are in
    both_ways (list_any is_close unclosed) refl (sym (ap (list_any is_close) all) ∙ ap (λ ls. list_any is_close (before ++ ls)) shape)

-- and no other port is found drained
pub not_seen_elsewhere : Follows alone.script seen_elsewhere → ⊥
not_seen_elsewhere f =
    let starts = start_lines (codes "Lone") (pos 2 ∷ []) lone in
    let w = after_start (codes "Lone") (pos 2 ∷ []) lone (finish 5) seen_elsewhere f in
    let told : IsFinishLine 5 w.lines = w.right in
    let before = starts ++ to.Finish 5 told.rounds ∷ [] in
    let stops : IsStop before w.stop = subst (λ ls. IsStop (starts ++ (ls ++ [])) w.stop) told.are w.stops in
    let none : count_by (λ (d : Seen). d.port == 5) stops.seen ≡ 0 = stops.all_seen 5 in
    let all : before ++ w.stop ≡ seen_elsewhere = sym (ap (λ ls. (starts ++ (ls ++ [])) ++ w.stop) told.are) ∙ w.are in
    let shape : w.stop ≡ to.Stop ∷ to.Close 0 ∷ map drained_line stops.seen = stops.are in
    let seen : map drained_line stops.seen ≡ drop 7 seen_elsewhere = sym (ap (drop 2) shape) ∙ ap (drop 7) all in
    let one_ : count_by (λ (d : Seen). d.port == 5) stops.seen ≡ 1 = sym (told_count drained_line 5 (λ d. refl) stops.seen) ∙ ap (count_by (tells_of 5)) seen in
    omega (arith, none, one_)

-- each statement has its lines

abbrev is_show : HistoryLine → Bool
is_show (to.Show g) = true
is_show _ = false

pub not_unshown : Follows shown.script unshown → ⊥
not_unshown f =
    let starts = start_lines (codes "One") [] one in
    let w = after_start (codes "One") [] one show unshown f in
    let told : IsShowLine w.lines = w.right in
    let all : (starts ++ to.Show told.graph ∷ []) ++ w.stop ≡ unshown = sym (ap (λ ls. (starts ++ (ls ++ [])) ++ w.stop) told.are) ∙ w.are in
    both_ways (list_any is_show unshown) refl (sym (ap (list_any is_show) all))

-- in one look the ports rise, where the change is given up too

abbrev three_started : List HistoryLine
three_started = start_lines (codes "Three") (pos 1 ∷ []) (three 1) ++ []

abbrev three_changes : Plan
three_changes = planned (three 1) (three 2) []

abbrev three_closed : Configuration
three_closed = config_after (three_started ++ opening_lines (codes "Three") (pos 2 ∷ []) (three 1) three_changes (config_after three_started))

three_stands : IsGraphOf (config_after three_started) (three 1)
three_stands = graph_by (config_after three_started) (three 1) refl

no_fall : (closed : List ℕ) (rest stop : List HistoryLine) → IsCommitted (three 1) (three 2) three_changes 0 three_closed rest ⊎ IsGivenUp closed 0 rest
    → rest ++ stop ≡ drop 16 seen_falling → ⊥
no_fall closed rest stop (inl e) is =
    falls_in_one e.looks 1 0 e.are_looks
    (first_two (seen_in_all e.looks) (to.Unlink 0) (drop 1 (commit_lines (three 1) (three 2) three_changes three_closed)) stop (drop 18 seen_falling) 1 0 0 0 refl
    (ap (λ ls. ls ++ stop) (sym e.are) ∙ is)) (omega arith)
no_fall closed rest stop (inr e) is =
    falls_in_one e.looks 1 0 e.are_looks
    (first_two (seen_in_all e.looks) (to.Pending 0) (drop 1 (pending_lines 0 e.left closed)) stop (drop 18 seen_falling) 1 0 0 0 refl
    (ap (λ ls. ls ++ stop) (sym e.are) ∙ is)) (omega arith)

pub not_seen_falling : Follows replacing_three seen_falling → ⊥
not_seen_falling f =
    let name = codes "Three" in
    let w = after_start name (pos 1 ∷ []) (three 1) (change name (pos 2 ∷ []) (three 2) 0 []) seen_falling f in
    let c = known three_started name (pos 2 ∷ []) (three 1) (three 2) 0 [] w.lines three_stands refl (w.right.1 refl) in
    let all : (c.rest ++ []) ++ w.stop ≡ drop 16 seen_falling = ap (λ ls. drop 4 ((ls ++ []) ++ w.stop)) (sym c.are) ∙ ap (drop 16) w.are in
    no_fall (ports_to_close (three 1) three_changes (config_after three_started)) c.rest w.stop c.ends (ap (λ ls. ls ++ w.stop) (sym (append-nil c.rest)) ∙ all)
