-- The preparation of a script ends in one way, where the shelf tells its files.
use Rattle.std.proofs.Common.{◌≡◌, ℕ, true, List, [], Some, refl, subst}
use Rattle.cfg_io.specs.Shelf.{Files}
use Rattle.command_answers.specs.Answers.{Refusal, usage, description, script, read_fault, no_memory}
use Rattle.change_spec.specs.Statements.{Statement}
use Rattle.report_texts.specs.Stages.{IsReportFault}
use Rattle.report_texts.specs.declared.error.ReportFault.{ReportFault}
use Rattle.report_types.specs.declared.report.Report.{Report}
use Rattle.command_words.specs.declared.words.Command.TheVariants as commands
use Rattle.command_spec.specs.Commands.{IsJudged, IsRunOf, Shown, course_of, judging, runs_script}
use Rattle.command_spec.specs.Courses.{Course, says, reads, End, came, refusal, Follows, not_said, not_fetched, too_long, leads_on, not_judged, refused, gives}
use Rattle.command_spec.specs.Files.{IsTold}
use Rattle.command_spec.specs.Endings.{Alike, first_short, second_short, came_alike, refused_alike, Refuses, RefusesNothing, is_of_file}
use Rattle.command_spec.specs.Lines.{RunLine, Progress, begun, of_lines}
use Rattle.command_spec.specs.Scripts.{LeadTo, prepares}
use Rattle.command_spec.specs.Sorts.{Sort, limit_of, of_description, of_events, of_report, of_script, refusal_of}
use Rattle.command_spec.proofs.CourseLaws.{Decided, Parts, both, stopped, ends_alike, long_or_told, parts_of, told_once}
use Rattle.command_spec.proofs.GraphLaws.{GraphOrFault, PlanAlone}
use Rattle.command_spec.proofs.WayLaws.{begun_in_order, lines_decided, prepares_decided}

-- what came to something isn't refused
not_refused : {A : Type 0} (Same : A → A → Type 0) (x : A) (why : Refusal) → is_of_file why ≡ true → Alike Same (came x) (refusal why) → ⊥
not_refused Same x _ is (second_short _) = cc

came_same : {A : Type 0} (Same : A → A → Type 0) (x y : A) → Alike Same (came x) (came y) → Same x y
came_same Same x y (came_alike _ _ same) = same

-- no script is refused with a description
not_two : (sort : Sort) (file other used : List ℕ) (words also more why : List (List ℕ)) → refusal_of sort file words ≡ script other more → refusal_of sort file also ≡ description used why → ⊥
not_two of_script file other used words also more why is same = cc
not_two of_events file other used words also more why is same = cc
not_two of_report file other used words also more why is same = cc
not_two of_description file other used words also more why is same = cc

module _ {A : Type 0} (files : Files) (c : Course A) (decided : Decided (λ x y. x ≡ y) c) where
  pub came_unrefused : (x : A) → Follows (Some files) c [] (came x) → RefusesNothing files c
  came_unrefused x on why is refuses = not_refused (λ x y. x ≡ y) x why is (ends_alike (λ x y. x ≡ y) files c decided (came x) (refusal why) on refuses)

abbrev stop : Refusal → End Progress
stop why = refusal why

module _ (graphs : GraphOrFault) (alone : PlanAlone) where
  pub one_end : (files : Files) (lines : List RunLine) (end other : Progress) → LeadTo (Some files) begun lines end → LeadTo (Some files) begun lines other → end ≡ other
  one_end files lines end other on also =
      came_same (λ x y. x ≡ y) end other
      (ends_alike (λ x y. x ≡ y) files (of_lines begun lines) (lines_decided graphs alone lines begun (begun_in_order graphs alone)) (came end) (came other) on also)

  pub never_both : (files : Files) (lines : List RunLine) (end : Progress) → LeadTo (Some files) begun lines end → RefusesNothing files (of_lines begun lines)
  never_both files lines end on = came_unrefused files (of_lines begun lines) (lines_decided graphs alone lines begun (begun_in_order graphs alone)) end on

  pub whole_or_line :
      (files : Files) (name file used : List ℕ) (words why : List (List ℕ)) → Refuses files (prepares name) (script file words)
      → Refuses files (prepares name) (description used why) → ⊥
  whole_or_line files name file used words why on also =
      by (stop (script file words)) (stop (description used why))
      (ends_alike (λ x y. x ≡ y) files (prepares name) (prepares_decided graphs alone name) (refusal (script file words)) (refusal (description used why)) on also) refl refl
    where
      same_why : (a b : Refusal) → stop a ≡ stop b → a ≡ b
      same_why a b is = cc

      by : (end other : End Progress) → Alike (λ x y. x ≡ y) end other → end ≡ stop (script file words) → other ≡ stop (description used why) → ⊥
      by _ _ (first_short end) is same = cc
      by _ _ (second_short end) is same = cc
      by _ _ (came_alike x y alike) is same = cc
      by _ _ (refused_alike sort at said also) is same =
          not_two sort at file used said also words why (same_why (refusal_of sort at said) (script file words) is) (same_why (refusal_of sort at also) (description used why) same)

  pub refused_or_leads : (files : Files) (name : List ℕ) (end : Progress) → Follows (Some files) (prepares name) [] (came end) → RefusesNothing files (prepares name)
  refused_or_leads files name end on = came_unrefused files (prepares name) (prepares_decided graphs alone name) end on

pub not_neither :
    (files : Files) (name : List ℕ)
    → ¬ (((file : List ℕ) (words : List (List ℕ)) → ¬ Refuses files (prepares name) (script file words))
    × ((used : List ℕ) (why : List (List ℕ)) → ¬ Refuses files (prepares name) (description used why))
    × (¬ RefusesNothing files (prepares name)))
not_neither files name (whole, line, some) = some by
  where
    by : (why : Refusal) → is_of_file why ≡ true → Refuses files (prepares name) why → ⊥
    by (script file words) is on = whole file words on
    by (description file words) is on = line file words on
    by usage is on = cc
    by (read_fault file) is on = cc
    by no_memory is on = cc

-- where nothing refuses a script, nothing refuses its run
pub run_refuses_nothing :
    (files : Files) (name : List ℕ) (IsReport : List Statement → Report → Type 0) (Shows : Report → List ℕ → Type 0) → RefusesNothing files (prepares name)
    → RefusesNothing files (runs_script IsReport Shows name)
run_refuses_nothing files name IsReport Shows nothing why is refuses =
    by why is (parts_of (Some files) (λ (p : Progress). says (IsRunOf IsReport Shows p.statements)) (prepares name) [] (refusal why) refuses)
  where
    by : (w : Refusal) → is_of_file w ≡ true → Parts (Some files) (prepares name) (λ (p : Progress). says (IsRunOf IsReport Shows p.statements)) [] (refusal w) → ⊥
    by w file (stopped _ _ on) = nothing w file on
    by _ file (both p _ _ first not_said) = cc

-- and where nothing refuses a report either, nothing refuses the check of it
pub check_refuses_nothing :
    (files : Files) (name file : List ℕ) → RefusesNothing files (prepares name) → RefusesNothing files (reads of_report file)
    → RefusesNothing files (course_of (commands.Check name file))
check_refuses_nothing files name file nothing none why is refuses =
    by why is (parts_of (Some files) (λ (p : Progress). judging file p.statements) (prepares name) [] (refusal why) refuses)
  where
    read : (p : Progress) (w : Refusal) → is_of_file w ≡ true → Parts (Some files) (reads of_report file) (λ (r : Report). says (λ (s : Shown). IsJudged p.statements r s.own s.text)) [] (refusal w) → ⊥
    read p w of_file (stopped _ _ on) = none w of_file on
    read p _ of_file (both r _ _ first not_said) = cc

    by : (w : Refusal) → is_of_file w ≡ true → Parts (Some files) (prepares name) (λ (p : Progress). judging file p.statements) [] (refusal w) → ⊥
    by w of_file (stopped _ _ on) = nothing w of_file on
    by w of_file (both p _ _ first on) =
        read p w of_file (parts_of (Some files) (λ (r : Report). says (λ (s : Shown). IsJudged p.statements r s.own s.text)) (reads of_report file) [] (refusal w) on)

-- a text without a fault is refused by nothing
pub report_unrefused :
    (files : Files) (file text : List ℕ) → IsTold (Some files) (limit_of of_report) file text → ((fault : ReportFault) → IsReportFault text fault → ⊥)
    → RefusesNothing files (reads of_report file)
report_unrefused files file text told none _ is (too_long long) = long_or_told files (limit_of of_report) file text long told
report_unrefused files file text told none _ is (leads_on bytes _ _ also (refused words refuses)) =
    none refuses.0 (subst (λ b. IsReportFault b refuses.0) (told_once files (limit_of of_report) file text bytes told also) refuses.1)
report_unrefused files file text told none _ is (leads_on bytes _ _ also (gives _ _ _ _ never)) = elim never [ ]
report_unrefused files file text told none _ is not_fetched = cc
report_unrefused files file text told none _ is (leads_on bytes _ _ also not_judged) = cc
