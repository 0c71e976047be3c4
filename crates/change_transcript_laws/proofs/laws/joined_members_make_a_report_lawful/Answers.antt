use Rattle.std.proofs.Common.{sym, subst}
use Rattle.base.specs.Each.{Each}
use Rattle.change_spec.proofs.RunningLaws.{quiet}
use Rattle.change_spec.specs.Follows.{Follows}
use Rattle.change_spec.specs.Lawful.{StoodOpenWhereSaid}
use Rattle.change_transcript_laws.proofs.EndLaws.{unfinished}
use Rattle.change_transcript_laws.proofs.FoldLaws.{folds}
use Rattle.change_transcript_laws.proofs.FollowLaws.{fair_transcript, follows}
use Rattle.change_transcript_laws.proofs.GraphLaws.{graphs}
use Rattle.change_transcript_laws.proofs.LawfulLaws.{drained, runs}
use Rattle.change_transcript_laws.proofs.MergeLaws.{merge}
use Rattle.change_transcript_laws.proofs.RootLaws.{stood_open}
use Rattle.change_transcript_laws.proofs.laws.joined_members_make_a_report_lawful.Goals as goal

pub returns : goal.returns
returns c = record {
  follows = λ alone statements t m report x has. subst (Follows statements) (sym has.history_is) (follows alone statements t x);
  lawful = λ alone statements t m ms report x j is_of has.
      let fair = fair_transcript alone statements t x in
      let merges = merge t m ms fair j is_of report has in
      let run = runs t m ms fair j is_of in
      let drains = drained t m ms fair j is_of in
      record {
        merge = merges;
        runs = run;
        quiescent = quiet ms run;
        ended_once = c.nothing_is_open_at_the_end.ensures.ended_once statements report ms (subst (Follows statements) (sym has.history_is) (follows alone statements t x)) merges run drains;
        folds = folds t m ms fair j is_of report has;
        drained = drains;
        stood_open = subst (Each (StoodOpenWhereSaid ms)) (sym has.history_is) (stood_open t m ms fair j is_of alone statements x);
        graphs = graphs statements alone t m ms x j is_of;
        unfinished = unfinished alone statements t m ms report x j is_of has;
        status = has.status_is;
      };
}
