use Rattle.change_transcript_laws.proofs.EarlyLaws.{none_undone}
use Rattle.change_transcript_laws.proofs.laws.early_finishes_leave_nothing_undone.Goals as goal

pub returns : goal.returns
returns c = record {
  undone = λ statements t m report x is_of has early. none_undone statements (c.a_show_is_of_the_last_commit.ensures.unshaped statements) t m report x is_of has early;
}
