-- A run at its end: nothing is open, so a row rests; and a log of a live node ends with what that has come to.
use Rattle.std.proofs.Common.{◌≡◌, ◌∙◌, ℕ, true, false, List, sym, ap, subst, ⊎_elim}
use Rattle.std.specs.Prelude.{All, unwrap_or}
use Rattle.std.proofs.lemmas.Bool.{cases_Bool}
use Rattle.std.proofs.lemmas.List.Elements.{All-contains}
use Rattle.base.proofs.OptionLaws.{Some-from_is_some}
use Rattle.config_graph.specs.declared.kind.Kind.{Kind}
use Rattle.config_graph.specs.declared.kind.Kind.TheVariants.{Fork}
use Rattle.component_trait.specs.Moves as moves
use Rattle.component_trait.specs.States.{at_rest, nothing}
use Rattle.component_trait.specs.Tables.{numbers}
use Rattle.quiesce_word.specs.Phases.{is_idle}
use Rattle.quiesce_core.specs.Runs.{IsRun, state_after}
use Rattle.quiesce_core.specs.State.{exchange}
use Rattle.quiesce_core.specs.declared.event.Event.{Event}
use Rattle.report_types.specs.declared.report.Last.TheVariants as last
use Rattle.report_types.specs.declared.report.NodeLog.{NodeLog}
use Rattle.report_types.specs.declared.report.Report.{Report}
use Rattle.change_spec.specs.Lawful.{EndsAs, IsFolded, Merge}
use Rattle.change_spec.specs.Members.{Member, events}
use Rattle.change_spec.specs.Opening.{fold_of_node}
use Rattle.result_laws.specs.Items.{IsLogOfLive}
use Rattle.change_round_laws.proofs.FoldLaws.{StatesAreHanded}
use Rattle.result_laws.specs.Coming.{HasFolds, come}
use Rattle.result_laws.proofs.Course.{Course}
use Rattle.result_laws.proofs.Ends.{touched}
use Rattle.result_laws.proofs.ComingLaws.{fits_of}
use Rattle.result_laws.proofs.StoppingLaws.{live_is_unmoved, logs_fold, state_told}
use Rattle.result_laws.proofs.Resting.{Ends, row_ends}

-- what has come to the ends of rows is what went through
pub ends_there : StatesAreHanded → (es : List Event) → IsRun es → HasFolds es → ((p : ℕ) → is_idle (exchange (state_after es) p).phase ≡ true) → (past : List ℕ) → Course es past → Ends es past
ends_there handed es run folds idle past course = ⊎_elim
    (λ (t : touched es ≡ true). (course.at_rest t).ends)
    (λ (f : touched es ≡ false). let w = course.in_row f in row_ends handed es run folds past w (idle w.p))
    (cases_Bool (touched es))

-- so its log ends with what it has come to
pub log_ends : (m : List Member) (report : Report) → Merge m report → IsRun (events m) → StatesAreHanded → All (IsFolded m report.history) report.logs → (k : Kind) (l : NodeLog) → IsLogOfLive m report k l → l.last ≡ last.State (numbers k (come (events m) l.slot).kept)
log_ends m report merge run handed folds k l w =
    let here = All-contains (IsFolded m report.history) report.logs l folds w.there in
    let fold = Some-from_is_some (fold_of_node (events m) l.slot) ((logs_fold m report merge run folds).all l.slot w.made w.at) in
    let unmoved = subst (λ o. EndsAs (fold_of_node (events m) l.slot) o l.last) (live_is_unmoved m report merge run l.slot w.made w.at w.live) here in
    let is : come (events m) l.slot ≡ fold.0 = ap (λ o. unwrap_or o (at_rest Fork 0 nothing)) fold.1 in
    let kind = (fits_of handed (events m) run (logs_fold m report merge run folds)).kinds l.slot w.made w.at ∙ w.kind in
    state_told (fold_of_node (events m) l.slot) l.last unmoved fold.0 fold.1 ∙ ap (λ s. last.State (moves.numbers s)) (sym is) ∙ ap (λ j. last.State (numbers j (come (events m) l.slot).kept)) kind
