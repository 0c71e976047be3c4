-- The record of a run bears the history of its report.
use Rattle.std.proofs.Common.{Bool, false, true, List, [], ◌∷◌, ◌++◌, ◌≡◌, refl, sym}
use Rattle.std.proofs.lemmas.Bool.{both_ways}
use Rattle.base.specs.Each.{EachAfter}
use Rattle.base.proofs.EachLaws.{each_weaker}
use Rattle.change_spec.specs.Statements.{Statement}
use Rattle.report_types.specs.declared.report.HistoryLine.{HistoryLine}
use Rattle.report_types.specs.declared.report.HistoryLine.TheVariants as to
use Rattle.report_types.specs.declared.report.Report.{Report}
use Rattle.txn_records.specs.Records.{IsRecordOf, Moment}
use Rattle.change_board.specs.Bearing.{Bears, IsBorne}
use Rattle.change_board.specs.Transcripts.{Item, silent, told, said, entries}
use Rattle.change_transcript_laws.specs.Pieces.{IsTranscript}
use Rattle.change_transcript_laws.specs.Reports.{IsReportOfTranscript}
use Rattle.change_transcript_laws.proofs.FollowLaws.{fair_transcript}
use Rattle.change_transcript_laws.proofs.ItemLemmas.{AreFair, IsFair, is_aside}
use Rattle.change_transcript_laws.proofs.JoiningLemmas.{each_both}
use Rattle.change_transcript_laws.proofs.LawfulLaws.{join}
use Rattle.change_transcript_laws.proofs.NumberLaws.{IsNumberTold, transcript_told}
use Rattle.change_transcript_laws.proofs.RootLaws.{IsRootSeen, roots_seen}
use Rattle.change_transcript_laws.proofs.WaitLemmas.{IsWaited, waits_told}

said_borne : (before : List Item) (l : HistoryLine) → is_aside l ≡ true → IsRootSeen before (said l) → IsNumberTold before (said l) → IsWaited before (said l) → IsBorne before (said l)
said_borne before (to.Root p k) aside root number waited = root
said_borne before (to.Finish n k) aside root number waited = number
said_borne before (to.Pending n) aside root number waited = waited
said_borne before (to.Make n made from) aside root number waited = absurd (both_ways false refl aside)
said_borne before (to.Link p n x) aside root number waited = absurd (both_ways false refl aside)
said_borne before (to.Unlink p) aside root number waited = absurd (both_ways false refl aside)
said_borne before (to.Remove n) aside root number waited = absurd (both_ways false refl aside)
said_borne before (to.Close p) aside root number waited = absurd (both_ways false refl aside)
said_borne before (to.Reopen p) aside root number waited = absurd (both_ways false refl aside)
said_borne before (to.Drained p k) aside root number waited = absurd (both_ways false refl aside)
said_borne before _ aside root number waited = refl

-- what is known of each item
abbrev IsKnownItem : List Item → Item → Type 0
IsKnownItem before x = IsFair x × (IsRootSeen before x × (IsNumberTold before x × IsWaited before x))

item_borne : (before : List Item) (x : Item) → IsKnownItem before x → IsBorne before x
item_borne before (silent y) w = w.0
item_borne before (told y l) w = w.0.1
item_borne before (said l) w = said_borne before l w.0 w.1.0 w.1.1.0 w.1.1.1

each_is_fair : (before t : List Item) → AreFair t → EachAfter (λ ys x. IsFair x) before t
each_is_fair before [] fair = tt
each_is_fair before (x ∷ t) fair = (fair.0, each_is_fair (before ++ x ∷ []) t fair.1)

pub bears : (alone : Bool) (statements : List Statement) (t : List Item) (m : List Moment) (report : Report) → IsTranscript alone statements t → IsRecordOf (entries t) m → IsReportOfTranscript t m report
    → Bears (entries t) report.history
bears alone statements t m report x is_of has =
    let fair = fair_transcript alone statements t x in
    let w = join t m is_of in
    record {
      items = t;
      entries_are = refl;
      lines_are = sym has.history_is;
      borne = each_weaker IsKnownItem IsBorne [] t item_borne
          (each_both (λ ys y. IsFair y) (λ ys y. IsRootSeen ys y × (IsNumberTold ys y × IsWaited ys y)) [] t (each_is_fair [] t fair)
          (each_both IsRootSeen (λ ys y. IsNumberTold ys y × IsWaited ys y) [] t (roots_seen t m w.0 fair w.1 is_of alone statements x)
          (each_both IsNumberTold IsWaited [] t (transcript_told alone statements t x) (waits_told alone statements t x))));
    }
