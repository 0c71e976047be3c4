-- What is read of a text is its report, and a text has one report or one fault.
use Rattle.std.proofs.Common.{◌≡◌, ◌≢◌, ℕ, inl, inr, ◌⊎◌, List, refl, sym, ap, ◌∙◌}
use Rattle.std.specs.Prelude.{Result, Ok, Err}
use Rattle.report_writing.specs.Reports.{LogsAreMade}
use Rattle.report_types.specs.declared.report.Report.{Report}
use Rattle.report_texts.specs.declared.error.ReportFault.{ReportFault}
use Rattle.report_texts.specs.declared.error.ReportFault.TheVariants as faults
use Rattle.report_texts.specs.declared.version.Version.{Version}
use Rattle.report_texts.specs.ReportTexts.{IsReportText}
use Rattle.report_texts.specs.Stages.{Found, IsReportFault, reading}
use Rattle.report_texts.proofs.DrawingLemmas.{shown_so}
use Rattle.report_texts.proofs.ShowingLemmas.{is_told}
use Rattle.report_texts.proofs.TextLemmas.{is_read, is_written, made_once}

abbrev pub found_of : Version → Report → Found
found_of version report = record { version = version; report = report }

pub text_is_read : (version : Version) (text : List ℕ) (report : Report) → IsReportText version text report → reading text ≡ Ok (found_of version report)
text_is_read version text report is = is_read is_told version report is.1 text is.0

pub is_text : (version : Version) (text : List ℕ) (report : Report) → reading text ≡ Ok (found_of version report) → IsReportText version text report
is_text version text report e = is_written shown_so text (found_of version report) e

pub is_made_once : (version : Version) (text : List ℕ) (report : Report) → reading text ≡ Ok (found_of version report) → LogsAreMade report
is_made_once version text report e = made_once version report (is_text version text report e).1

abbrev right : Found → Result Found ReportFault
right found = Ok found

abbrev wrong : ReportFault → Result Found ReportFault
wrong fault = Err fault

right_is : (a b : Found) → right a ≡ right b → a ≡ b
right_is a b e = cc

wrong_is : (a b : ReportFault) → wrong a ≡ wrong b → a ≡ b
wrong_is a b e = cc

pub right_wrong : {P : Type 0} (a : Found) (b : ReportFault) → right a ≡ wrong b → P
right_wrong a b e = let never : ⊥ = cc in absurd never

pub same_found : (version other : Version) (text : List ℕ) (report same : Report) → reading text ≡ Ok (found_of version report) → IsReportText other text same → found_of version report ≡ found_of other same
same_found version other text report same e is = right_is (found_of version report) (found_of other same) (sym e ∙ text_is_read other text same is)

pub same_report : (version other : Version) (text : List ℕ) (report same : Report) → reading text ≡ Ok (found_of version report) → IsReportText other text same → report ≡ same
same_report version other text report same e is = ap (λ (f : Found). f.report) (same_found version other text report same e is)

pub same_fault : (text : List ℕ) (fault other : ReportFault) → reading text ≡ Err fault → reading text ≡ Err other → fault ≡ other
same_fault text fault other e f = wrong_is fault other (sym e ∙ f)

-- a fault that isn't one of the text is want of memory
pub no_memory_beside : (text : List ℕ) (fault : ReportFault) (version : Version) (report : Report) → (fault ≢ faults.NoMemory → reading text ≡ Err fault) → IsReportText version text report → fault ≡ faults.NoMemory
no_memory_beside text faults.NoMemory version report e is = refl
no_memory_beside text faults.Short version report e is = right_wrong (found_of version report) faults.Short (sym (text_is_read version text report is) ∙ e (λ f. cc))
no_memory_beside text (faults.BadLine n) version report e is = right_wrong (found_of version report) (faults.BadLine n) (sym (text_is_read version text report is) ∙ e (λ f. cc))

-- ---- laws

pub one_report : (version other : Version) (text : List ℕ) (report same : Report) → IsReportText version text report → IsReportText other text same → (version ≡ other) × (report ≡ same)
one_report version other text report same first second =
    let is = same_found version other text report same (text_is_read version text report first) second in
    (ap (λ (f : Found). f.version) is, ap (λ (f : Found). f.report) is)

pub always_one : (text : List ℕ) → ((version : Version) × (report : Report) × IsReportText version text report) ⊎ ((fault : ReportFault) × IsReportFault text fault)
always_one text = by (reading text) refl
  where
    by : (r : Result Found ReportFault) → reading text ≡ r → ((version : Version) × (report : Report) × IsReportText version text report) ⊎ ((fault : ReportFault) × IsReportFault text fault)
    by (Ok found) e = inl (found.version, found.report, is_text found.version text found.report e)
    by (Err fault) e = inr (fault, e)

pub never_both : (version : Version) (text : List ℕ) (report : Report) (fault : ReportFault) → IsReportText version text report → IsReportFault text fault → ⊥
never_both version text report fault is e = right_wrong (found_of version report) fault (sym (text_is_read version text report is) ∙ e)
