-- What the course of each command shows, by what the files hold.
use Rattle.std.proofs.Common.{◌≡◌, ℕ, Bool, true, false, if◌then◌else◌, List, [], Option, refl, sym, subst}
use Rattle.std.specs.Prelude.{◌==◌}
use Rattle.cfg_io.specs.Shelf.{Files}
use Rattle.cfg_io.specs.Sink.{with_bytes}
use Rattle.change_spec.specs.Statements.{Statement}
use Rattle.command_answers.specs.Answers.{run_status}
use Rattle.command_answers.specs.declared.status.Status.TheVariants as status
use Rattle.report_types.specs.declared.report.Report.{Report}
use Rattle.report_types.specs.declared.script.Script.{Script}
use Rattle.command_spec.specs.declared.query.Query.{Query}
use Rattle.command_spec.specs.Commands.{IsRunOf, Shown, of_query, runs_script}
use Rattle.command_spec.specs.Courses.{came, Follows, here, said, says, leads_on, gives}
use Rattle.command_spec.specs.Files.{IsTold}
use Rattle.command_spec.specs.Lines.{Progress, begun}
use Rattle.command_spec.specs.Outcomes.{IsRunStatus, IsScriptOf, Reported}
use Rattle.command_spec.specs.Queries.{AnswersQuery}
use Rattle.command_spec.specs.Scripts.{LeadTo, lines_of_script, prepares}
use Rattle.command_spec.specs.Sorts.{limit_of, of_description}
use Rattle.command_spec.proofs.CourseLaws.{came_by}
use Rattle.command_spec.proofs.Saying.{say_statements}

-- ---- courses

pub record OfQuery (files : Option Files) (file : List ℕ) (query : Query) (s : Shown) : Type 0 where
  pub text : List ℕ
  pub is_told : IsTold files (limit_of of_description) file text
  pub answers : AnswersQuery query text s.own s.text

pub query_shown : (files : Option Files) (file : List ℕ) (query : Query) (s : Shown) → Follows files (of_query file query) [] (came s) → OfQuery files file query s
query_shown files file query _ (leads_on text _ _ told (gives s _ _ answers here)) = record { text = text; is_told = told; answers = answers }

pub record OfPrepared (files : Option Files) (name : List ℕ) (p : Progress) : Type 0 where
  pub script : Script
  pub is_script : IsScriptOf files name script
  pub lead : LeadTo files begun (lines_of_script script.lines) p

pub prepared : (files : Option Files) (name : List ℕ) (p : Progress) → Follows files (prepares name) [] (came p) → OfPrepared files name p
prepared files name p (leads_on bytes _ _ told (gives script _ _ is lead)) =
    record { script = script; is_script = record { bytes = bytes; is_told = told; is_script = is }; lead = lead }

module _ (IsReport : List Statement → Report → Type 0) (Shows : Report → List ℕ → Type 0) (files : Option Files) (name : List ℕ) where
  pub run_shown :
      (s : Shown) → Follows files (runs_script IsReport Shows name) [] (came s)
      → (p : Progress) × Follows files (prepares name) [] (came p) × IsRunOf IsReport Shows p.statements s
  run_shown s on = by (came_by files (λ (p : Progress). says (IsRunOf IsReport Shows p.statements)) (prepares name) s on)
    where
      by : (p : Progress) × Follows files (prepares name) [] (came p)
          × Follows files (says (IsRunOf IsReport Shows p.statements)) [] (came s)
          → (p : Progress) × Follows files (prepares name) [] (came p) × IsRunOf IsReport Shows p.statements s
      by (p, prep, said _ is) = (p, prep, is)

  -- what a run of a script has written
  pub was_reported :
      (s : Shown) (taken taken' : Option (List ℕ)) → Follows files (runs_script IsReport Shows name) [] (came s) → taken' ≡ with_bytes taken s.text
      → Reported IsReport Shows files name s.own taken taken'
  was_reported s taken taken' on wrote = by (run_shown s on)
    where
      by : (p : Progress) × Follows files (prepares name) [] (came p) × IsRunOf IsReport Shows p.statements s → Reported IsReport Shows files name s.own taken taken'
      by (p, prep, is) =
          let o = prepared files name p prep in
          record {
            was_run = record {
              script = o.script;
              is_script = o.is_script;
              statements = p.statements;
              have_graphs = say_statements files o.script p o.lead;
              report = is.report;
              is_report = is.is_report;
              ended = is.ended;
            };
            bytes = s.text;
            shown = is.shows;
            written = wrote;
          }

-- ---- statuses

run_is_with : (waits undone : Bool) → IsRunStatus (if waits then status.Pending else if undone then status.Unfinished else status.Ok)
run_is_with true undone = refl
run_is_with false true = refl
run_is_with false false = refl

pub run_is : (n : ℕ) → IsRunStatus (run_status n)
run_is n = run_is_with (n == 7) (n == 8)

pub run_may :
    (IsReport : List Statement → Report → Type 0) (Shows : Report → List ℕ → Type 0) (files : Option Files) (name : List ℕ) (s : Shown)
    → Follows files (runs_script IsReport Shows name) [] (came s) → IsRunStatus s.own
run_may IsReport Shows files name s on =
    let is = (run_shown IsReport Shows files name s on).2 in
    subst IsRunStatus (sym is.ended) (run_is is.report.status)
