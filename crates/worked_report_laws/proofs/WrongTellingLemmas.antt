-- Lines that say another thing than their statement asks for, a change that is tried behind one that was given up, a state that is moved
-- twice, and a log that no node of its kind has: each refuted by one clause.
use Rattle.std.proofs.Common.{◌≡◌, ◌∙◌, ℕ, Bool, true, false, List, [], ◌∷◌, ◌++◌, append_assoc, drop, map, Some, None, refl, sym, ap, subst, inl, inr, ⊎_elim, arith}
use Rattle.std.specs.Prelude.{◌==◌, ◌⊎◌, ℤ, All, bytes_eq, codes, pos}
use Rattle.std.specs.List.{list_any}
use Rattle.std.proofs.lemmas.Bool.{both_ways}
use Rattle.base.proofs.PlaceLaws.{heads_are, tails_are}
use Rattle.component_trait.specs.Tables.{opening}
use Rattle.config_graph.specs.Graph.{Graph}
use Rattle.config_graph.specs.declared.kind.Kind.TheVariants as kind
use Rattle.quiesce_core.specs.Runs.{done_by}
use Rattle.quiesce_core.specs.State.{Configuration, slot}
use Rattle.quiesce_core.specs.declared.event.Event.{Event}
use Rattle.quiesce_core.specs.declared.state.Slot.{Slot}
use Rattle.change_plan_laws.specs.Commit.{commit_events, ports_to_close}
use Rattle.change_plan.specs.declared.plan_data.Plan.{Plan}
use Rattle.report_types.specs.declared.report.HistoryLine.{HistoryLine}
use Rattle.report_types.specs.declared.report.HistoryLine.TheVariants as to
use Rattle.report_types.specs.declared.report.Last.TheVariants as last
use Rattle.change_spec.specs.Changes.{IsChange, IsCommitted, IsGivenUp, commit_lines, drained_lines, opening_lines, pending_lines}
use Rattle.change_spec.specs.Follows.{AreRight, Follows, IsFinishLine, IsRight, IsRunLine, Part, lines_of, start_lines}
use Rattle.change_spec.specs.Lawful.{EndsAs, IsFolded, IsOfItsKind, Merge}
use Rattle.change_spec.specs.Members.{Member, events, is_commit, is_pending, lines, lines_of_events, state_at}
use Rattle.change_spec.specs.Opening.{fold_at, fold_of_node}
use Rattle.change_spec.specs.Scene.{config_after}
use Rattle.change_spec.specs.Statements.{Statement, change, finish, run, start}
use Rattle.change_spec.proofs.MemberLaws.{config_of_lines}
use Rattle.worked_report_laws.specs.Alone as alone
use Rattle.change_plan_laws.specs.Systems.{bank, source_at}
use Rattle.worked_report_laws.specs.Systems.{lone, lone_of, two}
use Rattle.worked_report_laws.specs.WrongLogs.{running_two}
use Rattle.worked_report_laws.specs.WrongSights.{replacing}
use Rattle.worked_report_laws.specs.WrongTellings.{a_to_a, change_to_four, finished_within_six, invented, log_of_a, moving_twice, of_three, renamed, run_of_two, skipped_to_nine, tried_again, trying_again, turned, turned_log}
use Rattle.worked_report_laws.proofs.StatementLemmas.{after_start}
use Rattle.worked_report_laws.proofs.WrongChangeLemmas.{any_left, any_right}
use Rattle.worked_report_laws.proofs.WrongLineLemmas.{first_lines}
use Rattle.worked_report_laws.proofs.WrongLogLemmas.{some_log}
use Rattle.worked_report_laws.proofs.WrongStateLemmas.{folds_so}

-- what the first line says

abbrev starts_lone : List HistoryLine → Bool
starts_lone (to.Start name args ∷ ls) = bytes_eq name (codes "Lone")
starts_lone _ = false

abbrev first_argument : List ℤ → ℕ
first_argument (pos n ∷ args) = n
first_argument _ = 0

abbrev argument_in : List HistoryLine → ℕ
argument_in (to.Start name args ∷ ls) = first_argument args
argument_in (to.Change name args ∷ ls) = first_argument args
argument_in (to.Run k n ∷ ls) = k
argument_in (to.Finish n r ∷ ls) = n
argument_in _ = 0

pub not_renamed : Follows alone.script renamed → ⊥
not_renamed f =
    let w = first_lines (start (codes "Lone") (pos 2 ∷ []) lone) (finish 5 ∷ []) renamed f in
    both_ways (starts_lone renamed) refl (sym (ap starts_lone (ap (λ ls. ls ++ w.rest) (sym w.right) ∙ w.are)))

pub not_of_three : Follows alone.script of_three → ⊥
not_of_three f =
    let w = first_lines (start (codes "Lone") (pos 2 ∷ []) lone) (finish 5 ∷ []) of_three f in
    let same : 2 ≡ 3 = ap argument_in (ap (λ ls. ls ++ w.rest) (sym w.right) ∙ w.are) in omega (arith, same)

-- what the line of a second statement says

pub not_run_of_two : Follows running_two run_of_two → ⊥
not_run_of_two f =
    let w = after_start (codes "Two") (pos 1 ∷ []) two (run 1) run_of_two f in
    let told : IsRunLine 1 w.lines = w.right in
    let starts = start_lines (codes "Two") (pos 1 ∷ []) two in
    let same : 1 ≡ 2 = ap (λ ls. argument_in (drop 10 ls)) (sym (ap (λ ls. (starts ++ (ls ++ [])) ++ w.stop) told.are) ∙ w.are) in omega (arith, same)

pub not_finished_within_six : Follows alone.script finished_within_six → ⊥
not_finished_within_six f =
    let w = after_start (codes "Lone") (pos 2 ∷ []) lone (finish 5) finished_within_six f in
    let told : IsFinishLine 5 w.lines = w.right in
    let starts = start_lines (codes "Lone") (pos 2 ∷ []) lone in
    let same : 5 ≡ 6 = ap (λ ls. argument_in (drop 4 ls)) (sym (ap (λ ls. (starts ++ (ls ++ [])) ++ w.stop) told.are) ∙ w.are) in omega (arith, same)

pub not_change_to_four : Follows replacing change_to_four → ⊥
not_change_to_four f =
    let name = codes "Lone" in
    let args = pos 3 ∷ [] in
    let w = after_start name (pos 2 ∷ []) lone (change name args (lone_of 3) 1 []) change_to_four f in
    let starts = start_lines name (pos 2 ∷ []) lone in
    let c : IsChange (starts ++ []) name args (lone_of 3) 1 [] w.lines = w.right.1 refl in
    let same : 3 ≡ 4 = ap (λ ls. argument_in (drop 4 ls)) (sym (ap (λ ls. (starts ++ (ls ++ [])) ++ w.stop) c.are) ∙ w.are) in omega (arith, same)

-- a move takes a state that no move before it takes
pub not_moved_twice : (history : List HistoryLine) → Follows moving_twice history → ⊥
not_moved_twice history f =
    let name = codes "Bank" in
    let args = pos 3 ∷ pos 100 ∷ pos 0 ∷ [] in
    let later = pos 3 ∷ pos 7 ∷ pos 0 ∷ [] in
    let w = after_start name args (bank 3 100) (change name later (bank 3 7) 10 (a_to_a ∷ a_to_a ∷ [])) history f in
    let c : IsChange (start_lines name args (bank 3 100) ++ []) name later (bank 3 7) 10 (a_to_a ∷ a_to_a ∷ []) w.lines = w.right.1 refl in
    (c.moves_lead 1 a_to_a (omega arith) refl).other_source (0, a_to_a, omega arith, refl, refl)

-- the lines of a script of three statements
record AfterTwo (s t u : Statement) (history : List HistoryLine) : Type 0 where
  first : List HistoryLine
  second : List HistoryLine
  third : List HistoryLine
  stop : List HistoryLine
  first_right : IsRight [] s first
  second_right : IsRight (first ++ []) t second
  third_right : IsRight (first ++ (second ++ [])) u third
  are : (first ++ (second ++ (third ++ []))) ++ stop ≡ history

parted : (s t u : Statement) (history : List HistoryLine) (parts : List Part) (stop : List HistoryLine) → map (λ (p : Part). p.statement) parts ≡ s ∷ t ∷ u ∷ []
    → AreRight parts → lines_of parts ++ stop ≡ history → AfterTwo s t u history
parted s t u history [] stop same right is = absurd (cc same)
parted s t u history (p ∷ []) stop same right is = absurd (cc (tails_are p.statement s [] (t ∷ u ∷ []) same))
parted s t u history (p ∷ (q ∷ [])) stop same right is =
    absurd (cc (tails_are q.statement t [] (u ∷ []) (tails_are p.statement s (q.statement ∷ []) (t ∷ u ∷ []) same)))
parted s t u history (p ∷ (q ∷ (r ∷ []))) stop same right is =
    let behind = tails_are p.statement s (q.statement ∷ r.statement ∷ []) (t ∷ u ∷ []) same in
    let last_ = tails_are q.statement t (r.statement ∷ []) (u ∷ []) behind in
    record {
      first = p.lines;
      second = q.lines;
      third = r.lines;
      stop = stop;
      first_right = subst (λ x. IsRight [] x p.lines) (heads_are p.statement s (q.statement ∷ r.statement ∷ []) (t ∷ u ∷ []) same) right.0;
      second_right = subst (λ x. IsRight (p.lines ++ []) x q.lines) (heads_are q.statement t (r.statement ∷ []) (u ∷ []) behind) right.1.0;
      third_right = subst (λ x. IsRight (p.lines ++ (q.lines ++ [])) x r.lines) (heads_are r.statement u [] [] last_) right.1.1.0;
      are = is;
    }
parted s t u history (p ∷ (q ∷ (r ∷ (v ∷ parts)))) stop same right is =
    let names = map (λ (x : Part). x.statement) parts in
    absurd (cc (tails_are r.statement u (v.statement ∷ names) []
    (tails_are q.statement t (r.statement ∷ v.statement ∷ names) (u ∷ [])
    (tails_are p.statement s (q.statement ∷ r.statement ∷ v.statement ∷ names) (t ∷ u ∷ []) same))))

-- a commit comes before each line that gives a change up

abbrev commits_first : List HistoryLine → Bool
commits_first [] = false
commits_first (to.Commit ∷ ls) = true
commits_first (to.Pending n ∷ ls) = false
commits_first (l ∷ ls) = commits_first ls

commits_within : (xs ys : List HistoryLine) → list_any is_commit xs ≡ true → list_any is_pending xs ≡ false → commits_first (xs ++ ys) ≡ true
commits_within [] ys some none = absurd (both_ways false refl some)
commits_within (to.Commit ∷ xs) ys some none = refl
commits_within (to.Pending n ∷ xs) ys some none = absurd (both_ways true none refl)
commits_within (to.Start name args ∷ xs) ys some none = commits_within xs ys some none
commits_within (to.Make n made from ∷ xs) ys some none = commits_within xs ys some none
commits_within (to.Link p n x ∷ xs) ys some none = commits_within xs ys some none
commits_within (to.Unlink p ∷ xs) ys some none = commits_within xs ys some none
commits_within (to.Remove n ∷ xs) ys some none = commits_within xs ys some none
commits_within (to.Close p ∷ xs) ys some none = commits_within xs ys some none
commits_within (to.Reopen p ∷ xs) ys some none = commits_within xs ys some none
commits_within (to.Drained p k ∷ xs) ys some none = commits_within xs ys some none
commits_within (to.Root p k ∷ xs) ys some none = commits_within xs ys some none
commits_within (to.Abandon ∷ xs) ys some none = commits_within xs ys some none
commits_within (to.Change name args ∷ xs) ys some none = commits_within xs ys some none
commits_within (to.Skipped ∷ xs) ys some none = commits_within xs ys some none
commits_within (to.Run k n ∷ xs) ys some none = commits_within xs ys some none
commits_within (to.Finish n r ∷ xs) ys some none = commits_within xs ys some none
commits_within (to.Show g ∷ xs) ys some none = commits_within xs ys some none
commits_within (to.Stop ∷ xs) ys some none = commits_within xs ys some none

abbrev is_skipped : HistoryLine → Bool
is_skipped to.Skipped = true
is_skipped _ = false

-- a change is committed, or its lines give it up
ends_so : (old new : Graph) (plan : Plan) (within : ℕ) (c : Configuration) (closed : List ℕ) (rest : List HistoryLine)
    → IsCommitted old new plan within c rest ⊎ IsGivenUp closed within rest → (list_any is_commit rest ≡ true) ⊎ (list_any is_pending rest ≡ true)
ends_so old new plan within c closed rest (inl e) =
    inl (ap (list_any is_commit) e.are ∙ any_right is_commit (drained_lines e.looks) (commit_lines old new plan c)
    (any_right is_commit (lines_of_events (commit_events old new plan c)) (to.Commit ∷ []) refl))
ends_so old new plan within c closed rest (inr e) =
    inr (ap (list_any is_pending) e.are ∙ any_right is_pending (drained_lines e.looks) (pending_lines within e.left closed) refl)

pub not_tried_again : Follows trying_again tried_again → ⊥
not_tried_again f =
    let name = codes "Lone" in
    let starts = start_lines name (pos 2 ∷ []) lone in
    let w = parted (start name (pos 2 ∷ []) lone) (change name (pos 3 ∷ []) (lone_of 3) 1 []) (change name (pos 2 ∷ []) lone 0 []) tried_again
    f.parts f.stop f.statements_are f.right f.history_is in
    let first : w.first ≡ starts = w.first_right in
    let change_right = subst (λ ls. IsRight (ls ++ []) (change name (pos 3 ∷ []) (lone_of 3) 1 []) w.second) first w.second_right in
    let c : IsChange (starts ++ []) name (pos 3 ∷ []) (lone_of 3) 1 [] w.second = change_right.1 refl in
    let opening_ = opening_lines name (pos 3 ∷ []) c.old c.plan (config_after (starts ++ [])) in
    let tail = (w.third ++ []) ++ w.stop in
    let behind : w.second ++ tail ≡ drop 4 tried_again =
    sym (append_assoc w.second (w.third ++ []) w.stop) ∙ ap (λ ls. drop 4 ((ls ++ (w.second ++ (w.third ++ []))) ++ w.stop)) (sym first) ∙ ap (drop 4) w.are in
    by name w.first w.second w.third w.stop (list_any is_pending (w.first ++ (w.second ++ []))) refl w.third_right w.are behind
    (⊎_elim (λ (e : list_any is_commit c.rest ≡ true). inl (ap (list_any is_commit) c.are ∙ any_right is_commit opening_ c.rest e))
    (λ (e : list_any is_pending c.rest ≡ true). inr (ap (list_any is_pending) c.are ∙ any_right is_pending opening_ c.rest e))
    (ends_so c.old (lone_of 3) c.plan 1 (config_after ((starts ++ []) ++ opening_)) (ports_to_close c.old c.plan (config_after (starts ++ []))) c.rest c.ends))
  where
    by : (name : List ℕ) (first second third stop : List HistoryLine) (b : Bool) → list_any is_pending (first ++ (second ++ [])) ≡ b
        → IsRight (first ++ (second ++ [])) (change name (pos 2 ∷ []) lone 0 []) third → (first ++ (second ++ (third ++ []))) ++ stop ≡ tried_again
        → second ++ ((third ++ []) ++ stop) ≡ drop 4 tried_again → (list_any is_commit second ≡ true) ⊎ (list_any is_pending second ≡ true) → ⊥
    by name first second third stop true given_up right are behind ends =
        let skipped : list_any is_skipped third ≡ true = ap (list_any is_skipped) (right.0 given_up) in
        both_ways (list_any is_skipped tried_again) refl
        (sym (ap (list_any is_skipped) are) ∙ any_left is_skipped (first ++ (second ++ (third ++ []))) stop
        (any_right is_skipped first (second ++ (third ++ [])) (any_right is_skipped second (third ++ []) (any_left is_skipped third [] skipped))))
    by name first second third stop false none right are behind (inl some) =
        let left : list_any is_pending second ≡ false = only_so (list_any is_pending second) (λ h. any_right is_pending first (second ++ []) (any_left is_pending second [] h)) none refl in
        both_ways (commits_first (drop 4 tried_again)) refl (sym (ap commits_first behind) ∙ commits_within second ((third ++ []) ++ stop) some left)
      where
        only_so : (b : Bool) → (list_any is_pending second ≡ true → list_any is_pending (first ++ (second ++ [])) ≡ true) → list_any is_pending (first ++ (second ++ [])) ≡ false
            → list_any is_pending second ≡ b → list_any is_pending second ≡ false
        only_so true all nothing is = absurd (both_ways (list_any is_pending (first ++ (second ++ []))) nothing (all is))
        only_so false all nothing is = is
    by name first second third stop false none right are behind (inr some) =
        both_ways (list_any is_pending (first ++ (second ++ []))) none (any_right is_pending first (second ++ []) (any_left is_pending second [] some))

-- a change that is skipped names what its statement does

abbrev leads_to_two : HistoryLine → Bool
leads_to_two (to.Change name args) = first_argument args == 2
leads_to_two _ = false

pub not_skipped_to_nine : Follows trying_again skipped_to_nine → ⊥
not_skipped_to_nine f =
    let name = codes "Lone" in
    let w = parted (start name (pos 2 ∷ []) lone) (change name (pos 3 ∷ []) (lone_of 3) 1 []) (change name (pos 2 ∷ []) lone 0 []) skipped_to_nine
    f.parts f.stop f.statements_are f.right f.history_is in
    let third : list_any leads_to_two w.third ≡ true = by (w.first ++ (w.second ++ [])) w.third (list_any is_pending (w.first ++ (w.second ++ []))) refl w.third_right in
    both_ways (list_any leads_to_two skipped_to_nine) refl
    (sym (ap (list_any leads_to_two) w.are) ∙ any_left leads_to_two (w.first ++ (w.second ++ (w.third ++ []))) w.stop
    (any_right leads_to_two w.first (w.second ++ (w.third ++ [])) (any_right leads_to_two w.second (w.third ++ []) (any_left leads_to_two w.third [] third))))
  where
    by : (before third : List HistoryLine) (b : Bool) → list_any is_pending before ≡ b → IsRight before (change (codes "Lone") (pos 2 ∷ []) lone 0 []) third → list_any leads_to_two third ≡ true
    by before third true given_up right = ap (list_any leads_to_two) (right.0 given_up)
    by before third false none right =
        let c : IsChange before (codes "Lone") (pos 2 ∷ []) lone 0 [] third = right.1 none in
        ap (list_any leads_to_two) c.are ∙ any_left leads_to_two (opening_lines (codes "Lone") (pos 2 ∷ []) c.old c.plan (config_after before)) c.rest refl

-- a source begins with the number of its item

abbrev first_source : Slot
first_source = record { node = source_at (codes "a") 1; first_port = 0; from = None; live = true }

no_fold : (m : List Member) (history : List HistoryLine) (log : List Event) → All IsOfItsKind m → lines m ≡ history → slot (config_after history) 0 ≡ Some first_source → done_by 0 (events m) ≡ log
    → fold_at first_source log (opening kind.Source 1) ≡ None → fold_of_node (events m) 0 ≡ None
no_fold m history log kinds told there did none =
    let config : (state_at m).config ≡ config_after history = config_of_lines m kinds ∙ ap config_after told in
    folds_so (events m) 0 0 first_source log (opening kind.Source 1) (ap (λ (d : Configuration). slot d 0) config ∙ there) did refl ∙ none

pub not_invented : (m : List Member) → Merge m invented → All (IsFolded m invented.history) invented.logs → ⊥
not_invented m merge folds =
    let h : IsFolded m invented.history log_of_a = folds 0 some_log (omega arith) in
    let none = no_fold m invented.history log_of_a.events merge.by_nodes merge.history refl (merge.logs 0 some_log (omega arith)) refl in
    subst (λ o. EndsAs o None (last.State (1 ∷ []))) none h

-- nor does it end what it hasn't begun
pub not_turned : (m : List Member) → Merge m turned → All (IsFolded m turned.history) turned.logs → ⊥
not_turned m merge folds =
    let h : IsFolded m turned.history turned_log = folds 0 some_log (omega arith) in
    let none = no_fold m turned.history turned_log.events merge.by_nodes merge.history refl (merge.logs 0 some_log (omega arith)) refl in
    subst (λ o. EndsAs o None (last.State (1 ∷ []))) none h
