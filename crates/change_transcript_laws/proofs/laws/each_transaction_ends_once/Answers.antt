use Rattle.std.proofs.Common.{sym, subst}
use Rattle.change_spec.specs.Follows.{Follows}
use Rattle.change_transcript_laws.proofs.FollowLaws.{fair_transcript, follows}
use Rattle.change_transcript_laws.proofs.LawfulLaws.{drained, runs}
use Rattle.change_transcript_laws.proofs.MergeLaws.{merge}
use Rattle.change_transcript_laws.proofs.laws.each_transaction_ends_once.Goals as goal

pub returns : goal.returns
returns c = record {
  ended_once = λ alone statements t m ms report x j is_of has.
      let fair = fair_transcript alone statements t x in
      c.nothing_is_open_at_the_end.ensures.ended_once statements report ms (subst (Follows statements) (sym has.history_is) (follows alone statements t x))
      (merge t m ms fair j is_of report has) (runs t m ms fair j is_of) (drained t m ms fair j is_of);
}
