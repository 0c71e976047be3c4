-- How a report and a verdict say that a run ended, and which commands end so.
use Rattle.std.proofs.Common.{◌≡◌, ◌≢◌, ◌∙◌, ◌⊎◌, inl, inr, ℕ, Bool, true, false, if◌then◌else◌, List, Option, refl, sym, ap, subst}
use Rattle.std.specs.Prelude.{◌↔◌, is_some}
use Rattle.std.specs.List.{list_any}
use Rattle.cfg_io.specs.Shelf.{Files}
use Rattle.change_spec.specs.Consistent.{Consistent}
use Rattle.change_spec.specs.Members.{is_pending}
use Rattle.change_spec.specs.Statements.{Statement}
use Rattle.report_types.specs.declared.report.Report.{Report}
use Rattle.command_answers.specs.Answers.{run_status}
use Rattle.command_answers.specs.Statuses.{is_of_run}
use Rattle.command_answers.specs.declared.status.Status.{Status}
use Rattle.command_answers.specs.declared.status.Status.TheVariants as status
use Rattle.command_words.specs.declared.words.Command.{Command}
use Rattle.command_words.specs.declared.words.Command.TheVariants as commands
use Rattle.command_spec.specs.Commands.{IsJudged, can_be, can_not_be}
use Rattle.command_spec.specs.Known.{AsksOf}
use Rattle.command_spec.specs.Outcomes.{AsksForRun, EndsAs, IsRunStatus, IsVerdict, Judged, MayEnd, well, given_up, denied, unlawful, stepped, lived, summed_up, Replayed, WasRunBy}
use Rattle.command_spec.specs.Runs.{Run, Runs}
use Rattle.command_spec.specs.Schedules.{Schedule, rounds, threads, IsReportBy}
use Rattle.command_spec.proofs.AnswerLaws.{is_own}
use Rattle.command_spec.proofs.EachCommand.{replayed}
use Rattle.command_spec.proofs.RunLaws.{answered, shown_by}

-- ---- a report

ends_with :
    (own : Status) (waits undone : Bool) → own ≡ run_status (if waits then 7 else if undone then 8 else 0)
    → ((own ≡ status.Pending) ↔ (waits ≡ true)) × ((own ≡ status.Unfinished) ↔ ((waits ≡ false) × (undone ≡ true)))
ends_with own true undone is = ((λ same. refl, λ same. is), (λ same. cc (is, same), λ same. cc (same.0)))
ends_with own false true is = ((λ same. cc (is, same), λ same. cc (same)), (λ same. (refl, refl), λ same. is))
ends_with own false false is = ((λ same. cc (is, same), λ same. cc (same)), (λ same. cc (is, same), λ same. cc (same.1)))

status_by :
    (schedule : Schedule) (statements : List Statement) (report : Report) → IsReportBy schedule statements report
    → report.status ≡ (if list_any is_pending report.history then 7 else if is_some report.unfinished then 8 else 0)
status_by rounds statements report is = is.lawful.lawful.by_them.status
status_by (threads observers) statements report is = is.lawful.lawful.by_them.status

pub ends_by_report :
    (schedule : Schedule) (files : Option Files) (name : List ℕ) (own : Status) (r : WasRunBy schedule files name own)
    → ((own ≡ status.Pending) ↔ (list_any is_pending r.report.history ≡ true))
    × ((own ≡ status.Unfinished) ↔ ((list_any is_pending r.report.history ≡ false) × (is_some r.report.unfinished ≡ true)))
ends_by_report schedule files name own r =
    ends_with own (list_any is_pending r.report.history) (is_some r.report.unfinished) (r.ended ∙ ap run_status (status_by schedule r.statements r.report r.is_report))

-- ---- a verdict

judged_to :
    (statements : List Statement) (report : Report) (own : Status) (line : List ℕ) → IsJudged statements report own line
    → ((own ≡ status.Ok) ↔ Consistent statements report) × ((own ≡ status.Unlawful) ↔ ¬ Consistent statements report)
judged_to statements report _ _ (can_be c) = ((λ is. c, λ d. refl), (λ is. cc, λ not. absurd (not c)))
judged_to statements report _ _ (can_not_be not) = ((λ is. cc, λ c. absurd (not c)), (λ is. not, λ d. refl))

pub ends_by_verdict :
    (files : Option Files) (name file : List ℕ) (own : Status) (taken taken' : Option (List ℕ)) (j : Judged files name file own taken taken')
    → ((own ≡ status.Ok) ↔ Consistent j.statements j.report) × ((own ≡ status.Unlawful) ↔ ¬ Consistent j.statements j.report)
ends_by_verdict files name file own taken taken' j = judged_to j.statements j.report own j.line j.is_judged

-- ---- which commands end so

no_run : (own due : Status) → own ≡ due → IsRunStatus own → is_of_run due ≡ false → ⊥
no_run own due same is none = cc (sym (ap is_of_run same) ∙ is, none)

module _ (knows : Command → Bool) (r : Run) (run : Runs knows r) where
  -- the command that was asked for, which may end so
  abbrev Asked : (Command → Type 0) → Type 0
  Asked Is = (command : Command) × AsksOf knows r.words command × Is command

  asked_so : (due : Status) → r.status ≡ due → is_own due ≡ true → Asked (λ command. MayEnd command due)
  asked_so due is own = let w = shown_by knows r run (ap is_own is ∙ own) in (w.0, w.1, subst (MayEnd w.0) is w.2)

  pub asked_to_check : r.status ≡ status.Unlawful → (name : List ℕ) × (file : List ℕ) × AsksOf knows r.words (commands.Check name file)
  asked_to_check is = let w = asked_so status.Unlawful is refl in by w.0 status.Unlawful w.2 refl w.1
    where
      by : (command : Command) (own : Status) → MayEnd command own → own ≡ status.Unlawful → AsksOf knows r.words command
          → (name : List ℕ) × (file : List ℕ) × AsksOf knows r.words (commands.Check name file)
      by _ _ (unlawful name file) same asks = (name, file, asks)
      by _ _ (well command) same asks = cc
      by _ _ (given_up k within change) same asks = cc
      by _ _ (denied file events) same asks = cc
      by _ _ (stepped name own of_run) same asks = absurd (no_run own status.Unlawful same of_run refl)
      by _ _ (lived name workers observers own of_run) same asks = absurd (no_run own status.Unlawful same of_run refl)
      by _ _ (summed_up lanes own of_run) same asks = absurd (no_run own status.Unlawful same of_run refl)

  asks_to_replay : r.status ≡ status.Denied → (file : List ℕ) × (events : List ℕ) × AsksOf knows r.words (commands.Replay file events)
  asks_to_replay is = let w = asked_so status.Denied is refl in by w.0 status.Denied w.2 refl w.1
    where
      by : (command : Command) (own : Status) → MayEnd command own → own ≡ status.Denied → AsksOf knows r.words command
          → (file : List ℕ) × (events : List ℕ) × AsksOf knows r.words (commands.Replay file events)
      by _ _ (denied file events) same asks = (file, events, asks)
      by _ _ (well command) same asks = cc
      by _ _ (given_up k within change) same asks = cc
      by _ _ (unlawful name file) same asks = cc
      by _ _ (stepped name own of_run) same asks = absurd (no_run own status.Denied same of_run refl)
      by _ _ (lived name workers observers own of_run) same asks = absurd (no_run own status.Denied same of_run refl)
      by _ _ (summed_up lanes own of_run) same asks = absurd (no_run own status.Denied same of_run refl)

  replay_of :
      r.status ≡ status.Denied → (file events : List ℕ) → AsksOf knows r.words (commands.Replay file events)
      → Replayed r.files file events status.Denied r.taken r.taken'
  replay_of is file events asks =
      subst (λ own. Replayed r.files file events own r.taken r.taken') is
      (replayed r file events (answered knows r run (commands.Replay file events) asks) (inr is))

  pub asked_to_replay :
      r.status ≡ status.Denied
      → (file events : List ℕ) × AsksOf knows r.words (commands.Replay file events) × Replayed r.files file events status.Denied r.taken r.taken'
  asked_to_replay is = let w = asks_to_replay is in (w.0, w.1, w.2, replay_of is w.0 w.1 w.2)

  pub asked_to_run : (r.status ≡ status.Pending) ⊎ (r.status ≡ status.Unfinished) → AsksForRun knows r.words r.status
  asked_to_run late = let w = shown_by knows r run (own late) in by w.0 r.status w.2 late w.1
    where
      own : (r.status ≡ status.Pending) ⊎ (r.status ≡ status.Unfinished) → is_own r.status ≡ true
      own (inl is) = ap is_own is
      own (inr is) = ap is_own is

      by : (command : Command) (own : Status) → MayEnd command own → (own ≡ status.Pending) ⊎ (own ≡ status.Unfinished) → AsksOf knows r.words command
          → AsksForRun knows r.words own
      by _ _ (stepped name own of_run) same asks = inl (rounds, name, asks)
      by _ _ (lived name workers observers own of_run) same asks = inl (threads observers, name, (workers, asks))
      by _ _ (summed_up lanes own of_run) same asks = inr (inl (lanes, asks))
      by _ _ (given_up k within change) same asks = inr (inr (refl, k, within, change, asks))
      by _ _ (well command) (inl same) asks = cc
      by _ _ (well command) (inr same) asks = cc
      by _ _ (denied file events) (inl same) asks = cc
      by _ _ (denied file events) (inr same) asks = cc
      by _ _ (unlawful name file) (inl same) asks = cc
      by _ _ (unlawful name file) (inr same) asks = cc

-- ---- what a run of a script, and a check, may end with

ends_so : (P Q : Status → Type 0) → ((own : Status) → P own → Q own) → (own : Status) → EndsAs P own → EndsAs Q own
ends_so P Q so own (inl is) = inl (so own is)
ends_so P Q so own (inr other) = inr other

pub as_run : (lanes : ℕ) (own : Status) → EndsAs (MayEnd (commands.Big lanes)) own → EndsAs IsRunStatus own
as_run lanes = ends_so (MayEnd (commands.Big lanes)) IsRunStatus by
  where
    by : (own : Status) → MayEnd (commands.Big lanes) own → IsRunStatus own
    by _ (well _) = refl
    by _ (summed_up _ own is) = is

pub as_verdict : (name file : List ℕ) (own : Status) → EndsAs (MayEnd (commands.Check name file)) own → EndsAs IsVerdict own
as_verdict name file = ends_so (MayEnd (commands.Check name file)) IsVerdict by
  where
    by : (own : Status) → MayEnd (commands.Check name file) own → IsVerdict own
    by _ (well _) = inl refl
    by _ (unlawful _ _) = inr refl

-- no run of a script ends with the status of a script that is refused
pub no_script : (own : Status) → EndsAs IsRunStatus own → own ≢ status.Script
no_script own (inl is) same = no_run own status.Script same is refl
no_script own (inr (inl is)) same = cc (is, same)
no_script own (inr (inr is)) same = cc (is, same)
