-- The transcript of events that are done and told.
use Rattle.std.proofs.Common.{◌≡◌, List, ◌++◌, map, sym, ap, ◌∙◌, subst}
use Rattle.std.specs.Prelude.{flat_map}
use Rattle.std.proofs.lemmas.List.{append-nil}
use Rattle.change_spec.specs.Members.{lines_of_events}
use Rattle.report_types.specs.declared.report.HistoryLine.{HistoryLine}
use Rattle.quiesce_core.specs.declared.event.Event.{Event}
use Rattle.change_board.specs.Doing.{DoesEvents}
use Rattle.change_board.specs.Steps.{entries_of}
use Rattle.change_board.specs.Transcripts.{said, entries, lines}
use Rattle.change_engine.specs.Carrying.{CarriesOut, deed_items}
use Rattle.change_board.specs.declared.board.Board.{Ghosts as BoardWords}
use Rattle.change_engine.specs.Growing.{telling}
use Rattle.change_engine.proofs.ItemLaws.{entries_both, lines_both, carried_entries, carried_lines, said_entries, said_lines}

pub carries : {B : Type 0} (W : BoardWords B) (a b : B) (h i head tail : List HistoryLine) (es : List Event) → DoesEvents W a b es → i ≡ h ++ (head ++ lines_of_events es ++ tail) → CarriesOut W (telling a h) (telling b i) head es tail
carries W a b h i head tail es x grown =
    let mid = flat_map deed_items x.deeds in
    let front = map said head in
    let back = map said tail in
    let all_entries : entries (front ++ mid ++ back) ≡ entries_of x.deeds =
    entries_both (front ++ mid) back ∙ ap (λ zs. zs ++ entries back) (entries_both front mid)
    ∙ ap (λ zs. (entries front ++ entries mid) ++ zs) (said_entries tail) ∙ append-nil (entries front ++ entries mid)
    ∙ ap (λ zs. zs ++ entries mid) (said_entries head) ∙ carried_entries x.deeds in
    let all_lines : lines (front ++ mid ++ back) ≡ head ++ lines_of_events es ++ tail =
    lines_both (front ++ mid) back ∙ ap (λ zs. zs ++ lines back) (lines_both front mid)
    ∙ ap (λ zs. (lines front ++ lines mid) ++ zs) (said_lines tail) ∙ ap (λ zs. (zs ++ lines mid) ++ tail) (said_lines head)
    ∙ ap (λ zs. (head ++ zs) ++ tail) (carried_lines x.deeds ∙ ap lines_of_events x.events_are) in
    record {
      deeds = x.deeds;
      events_are = x.events_are;
      grew = record {
        adds = λ r s. subst (λ zs. W.stands_for b (r ++ zs)) (sym all_entries) (x.adds r s);
        adds_lines = grown ∙ ap (λ zs. h ++ zs) (sym all_lines);
      };
    }
