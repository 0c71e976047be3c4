-- A run of statements is shown by its report.
use Rattle.std.proofs.Common.{◌≡◌, ℕ, List, Option, Result, Ok, Err, IfOk, refl, subst, sym}
use Rattle.cfg_io.specs.Shelf.{Files}
use Rattle.change_spec.specs.Statements.{Statement}
use Rattle.report_types.specs.declared.report.Report.{Report}
use Rattle.command_answers.specs.Answers.{run_status}
use Rattle.command_spec.specs.Commands.{IsRunOf, runs_script, shown}
use Rattle.command_spec.specs.Courses.{Course, says, then_by}
use Rattle.command_spec.specs.Lines.{Progress}
use Rattle.command_spec.specs.Scripts.{prepares}
use Rattle.command_program.specs.Coming.{Comes, IsOrStop, IsShown, Shows}
use Rattle.command_program.specs.Preparing.{IsPrepared, statements_in}
use Rattle.command_program.specs.declared.answer.Stop.{Stop}
use Rattle.command_program.specs.declared.preparing.Prepared.{Prepared}
use Rattle.command_program.proofs.ComingLaws.{comes_here, comes_on, or_stop_says}
use Rattle.command_program.specs.declared.answer.Answer.{Answer}

pub is_shown :
    {E : Type 0} (IsReport : List Statement → Report → Type 0) (Shows : Report → List ℕ → Type 0) (statements : List Statement) (report : Report)
    (r : Result Answer E) → IsReport statements report → IfOk r (λ answer. answer.status ≡ run_status report.status)
    → IfOk r (λ answer. Shows report answer.text.items) → IfOk r (IsShown (IsRunOf IsReport Shows statements))
is_shown IsReport Shows statements report (Ok answer) is status text =
    (shown answer.status answer.text.items, record { report = report; is_report = is; shows = text; ended = status }, (refl, refl))
is_shown IsReport Shows statements report (Err e) is status text = tt

-- what was prepared leads on by its statements
pub comes_prepared :
    {U B : Type 0} (Js : U → B → Type 0) (files : Option Files) (k : List Statement → Course B) (name : List ℕ) (also : Option Files)
    (failures between failures' : List (List ℕ)) (asked : Prepared) (r : Result U Stop) → also ≡ files
    → Comes IsPrepared files (prepares name) failures between (Ok asked) → Comes Js also (k (statements_in asked)) between failures' r
    → Comes Js files (then_by (prepares name) (λ p. k p.statements)) failures failures' r
comes_prepared Js files k name also failures between failures' asked r same first next =
    comes_on IsPrepared Js files (λ (p : Progress). k p.statements) (prepares name) also failures between failures' asked r same first
    (λ p is. subst (λ statements. Comes Js also (k statements) between failures' r) (sym is) next)

-- what was prepared is run, and the run is shown
pub ran_of :
    {E : Type 0} (IsReport : List Statement → Report → Type 0) (IsText : Report → List ℕ → Type 0) (files : Option Files) (name : List ℕ)
    (failures failures' : List (List ℕ)) (asked : Prepared) → Comes IsPrepared files (prepares name) failures failures' (Ok asked) → (answer : Result Answer E)
    (r : Result Answer Stop) → IsOrStop answer r → IfOk answer (IsShown (IsRunOf IsReport IsText (statements_in asked)))
    → Comes Shows files (runs_script IsReport IsText name) failures failures' r
ran_of IsReport IsText files name failures failures' asked first answer r same shows =
    comes_prepared Shows files (λ statements. says (IsRunOf IsReport IsText statements)) name files failures failures' failures' asked r refl first
    (comes_here Shows files (says (IsRunOf IsReport IsText (statements_in asked))) failures' failures' r refl
    (or_stop_says files (IsRunOf IsReport IsText (statements_in asked)) answer r same shows))
