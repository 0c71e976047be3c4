-- Which seat comes back, when, and with which report.
use Rattle.std.proofs.Common.{◌≡◌, ◌∙◌, ℕ, false, List, Option, Some, None, Ok, Err, IfSome, IsTrue, is_some, refl, sym, subst, ap}
use Rattle.std.proofs.lemmas.Bool.{false≢true}
use Rattle.cfg_io.specs.Shelf.{Files}
use Rattle.cfg_io.specs.Sink.{with_bytes}
use Rattle.change_spec.specs.Statements.{Statement}
use Rattle.report_types.specs.declared.report.Report.{Report}
use Rattle.command_answers.specs.Answers.{no_memory_line}
use Rattle.command_answers.specs.Statuses.{is_of_run}
use Rattle.command_answers.specs.declared.status.Status.{Status}
use Rattle.command_answers.specs.declared.status.Status.TheVariants as status
use Rattle.command_spec.specs.Commands.{IsRunOf, Shown, runs_script}
use Rattle.command_spec.specs.Courses.{End, came, Follows, not_said, said, says}
use Rattle.command_spec.specs.Lines.{Progress}
use Rattle.command_spec.specs.Outcomes.{IsRunStatus, Reported}
use Rattle.command_spec.specs.Runs.{Run, Written, whole, stopped}
use Rattle.command_spec.specs.Scripts.{prepares}
use Rattle.command_spec.proofs.CourseLaws.{none_failed, widens}
use Rattle.command_spec.proofs.ShownLaws.{was_reported}
use Rattle.command_apply.specs.Coming.{Comes, EndsNoRun, Shows, result_status, result_text}
use Rattle.command_apply.specs.declared.Answer.{Answer}
use Rattle.command_apply.specs.declared.Stop.{Stop}
use Rattle.command_apply.specs.declared.Stop.TheVariants as stops

-- no run ended where a text was written with another status
pub ends_no_run : (own : Status) (text : List ℕ) (seen : Run) → is_of_run own ≡ false → Written own text seen → IsRunStatus seen.status → ⊥
ends_no_run own text seen none (whole took same ends) is = false≢true (sym none ∙ ap is_of_run (sym ends) ∙ is)
ends_no_run own text seen none (stopped n short took rose ends) is = false≢true (ap is_of_run (sym ends) ∙ is)

-- nor where a call stopped that no run was of
pub stop_no_run :
    (stop : Stop) (seen : Run) → EndsNoRun stop → Written (result_status (Err stop)) (result_text (Err stop)) seen → IsRunStatus seen.status → ⊥
stop_no_run (stops.Refused answer) seen none written is = ends_no_run answer.status answer.text.items seen none written is
stop_no_run stops.NoMemory seen none written is = ends_no_run status.NoMemory no_memory_line seen refl written is

-- what holds of the one that may come back holds of the one that does
pub of_back : {S : Type 0} (P : S → Type 0) (seat : S) (back : Option S) → IfSome back (λ s. s ≡ seat) → (IsTrue (is_some back) → P seat) → IfSome back P
of_back P seat (Some s) is holds = subst P (sym is) (holds refl)
of_back P seat None is holds = tt

module _ (IsReport Also : List Statement → Report → Type 0) (IsText : Report → List ℕ → Type 0) (files : Option Files) (name : List ℕ)
    (more : (statements : List Statement) (report : Report) → IsReport statements report → Also statements report) where
  says_more : (p : Progress) (failing : List (List ℕ)) (end : End Shown) → Follows files (says (IsRunOf IsReport IsText p.statements)) failing end
      → Follows files (says (IsRunOf Also IsText p.statements)) failing end
  says_more p _ _ not_said = not_said
  says_more p _ _ (said s is) =
      said s (record { report = is.report; is_report = more p.statements is.report is.is_report; shows = is.shows; ended = is.ended })

  -- a report of one kind is one of another
  pub comes_wider :
      (failures failures' : List (List ℕ)) (answer : Answer) → Comes Shows files (runs_script IsReport IsText name) failures failures' (Ok answer)
      → Comes Shows files (runs_script Also IsText name) failures failures' (Ok answer)
  comes_wider failures failures' answer by = record {
    failing = by.failing;
    noted = by.noted;
    ends = (by.ends.0, by.ends.1, widens files (λ (p : Progress). says (IsRunOf IsReport IsText p.statements)) (λ (p : Progress). says (IsRunOf Also IsText p.statements)) says_more (prepares name) by.failing (came by.ends.0) by.ends.2);
  }

-- and it was written where the run ended as it says
pub reports_so :
    (IsReport : List Statement → Report → Type 0) (IsText : Report → List ℕ → Type 0) (seen : Run) (name : List ℕ) (failures failures' : List (List ℕ))
    (answer : Answer) → Comes Shows seen.files (runs_script IsReport IsText name) failures failures' (Ok answer)
    → Written answer.status answer.text.items seen → IsRunStatus seen.status → Reported IsReport IsText seen.files name seen.status seen.taken seen.taken'
reports_so IsReport IsText seen name failures failures' answer by (stopped n short took rose ends) is = absurd (false≢true (ap is_of_run (sym ends) ∙ is))
reports_so IsReport IsText seen name failures failures' answer by (whole took same ends) is =
    let s = by.ends.0 in
    let none = none_failed seen.files (runs_script IsReport IsText name) by.failing s by.ends.2 in
    subst (λ own. Reported IsReport IsText seen.files name own seen.taken seen.taken') (sym by.ends.1.0 ∙ sym ends)
    (was_reported IsReport IsText seen.files name s seen.taken seen.taken'
    (subst (λ ns. Follows seen.files (runs_script IsReport IsText name) ns (came s)) none by.ends.2)
    (subst (λ text. seen.taken' ≡ with_bytes seen.taken text) by.ends.1.1 took))
