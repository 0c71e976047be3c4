use Rattle.std.proofs.Common.{sym, subst}
use Rattle.base.specs.Each.{Each}
use Rattle.change_spec.specs.Lawful.{StoodOpenWhereSaid}
use Rattle.change_transcript_laws.proofs.FollowLaws.{fair_transcript}
use Rattle.change_transcript_laws.proofs.RootLaws.{stood_open}
use Rattle.change_transcript_laws.proofs.laws.what_is_told_as_open_stood_open.Goals as goal

pub returns : goal.returns
returns c = record {
  stood_open = λ alone statements t m ms report x j is_of has.
      subst (Each (StoodOpenWhereSaid ms)) (sym has.history_is) (stood_open t m ms (fair_transcript alone statements t x) j is_of alone statements x);
}
