-- What is read and tested of a report is that it is right by itself.
use Rattle.std.proofs.Common.{◌≡◌, ◌∙◌, ◌↔◌, ℕ, Bool, true, false, cond, List, Option, Some, None, sym, ap, subst}
use Rattle.std.specs.List.{list_any}
use Rattle.std.proofs.lemmas.Bool.{false≢true}
use Rattle.std.proofs.lemmas.Option.{none-some}
use Rattle.base.specs.Each.{Each}
use Rattle.base.proofs.MapLaws.{list_any-map}
use Rattle.change_spec.specs.Asked.{statement_of, statements_of}
use Rattle.change_spec.specs.Statements.{is_finish}
use Rattle.change_spec.specs.declared.steps.Start.{Start}
use Rattle.change_spec.specs.declared.steps.Step.{Step}
use Rattle.report_types.specs.declared.report.HistoryLine.{HistoryLine}
use Rattle.report_types.specs.declared.report.Report.{Report}
use Rattle.report_check.specs.Leading.{read_report}
use Rattle.report_check.specs.RightAlone.{AreRightNumbers, IsRightAlone}
use Rattle.report_check.specs.Showing.{IsStandingShown}
use Rattle.report_check.proofs.ReadLemmas.{read_if_right, right_if_read}

module _ (start : Start) (steps : List Step) (report : Report) where
  abbrev has_finish : Bool
  has_finish = list_any (λ s. is_finish (statement_of s)) steps

  same_finish : list_any is_finish (statements_of start steps) ≡ has_finish
  same_finish = list_any-map is_finish statement_of steps

  module _ (u : Option ℕ) (read : read_report report ≡ Some u) where
    right_of : AreRightNumbers has_finish u report → Each (IsStandingShown (statements_of start steps)) report.history → IsRightAlone (statements_of start steps) report
    right_of numbers shows =
        let w = right_if_read report u read in
        record {
          logs = w.0;
          shows = shows;
          few_rounds = numbers.few_rounds;
          unfinished = numbers.unfinished ∙ ap (λ b. cond b u None) (sym same_finish) ∙ ap (λ o. cond (list_any is_finish (statements_of start steps)) o None) w.1;
          status = numbers.status;
        }

    numbers_of : IsRightAlone (statements_of start steps) report → AreRightNumbers has_finish u report
    numbers_of h = record {
      few_rounds = h.few_rounds;
      unfinished = h.unfinished ∙ ap (λ o. cond (list_any is_finish (statements_of start steps)) o None) (sym (right_if_read report u read).1) ∙ ap (λ b. cond b u None) same_finish;
      status = h.status;
    }

    pub all_right : (b n : Bool) (history : List HistoryLine) → history ≡ report.history → ((n ≡ true) ↔ AreRightNumbers has_finish u report) → n ≡ true
        → ((b ≡ true) ↔ Each (IsStandingShown (statements_of start steps)) history) → (b ≡ true) ↔ IsRightAlone (statements_of start steps) report
    all_right b n history is numbers good shown = (
      λ e. right_of (numbers.0 good) (subst (Each (IsStandingShown (statements_of start steps))) is (shown.0 e)),
      λ h. shown.1 (subst (Each (IsStandingShown (statements_of start steps))) (sym is) h.shows),
    )

    pub numbers_wrong : (n : Bool) → ((n ≡ true) ↔ AreRightNumbers has_finish u report) → n ≡ false → (n ≡ true) ↔ IsRightAlone (statements_of start steps) report
    numbers_wrong n numbers wrong = (λ e. absurd (false≢true (sym wrong ∙ e)), λ h. numbers.1 (numbers_of h))

  pub not_read : (o : Option (Option ℕ)) → o ≡ read_report report → o ≡ None → (false ≡ true) ↔ IsRightAlone (statements_of start steps) report
  not_read o is none = (λ e. absurd (false≢true e), λ h. let u = read_if_right report h.logs in absurd (none-some u.0 (sym none ∙ is ∙ u.1)))
