use Rattle.merge_laws.proofs.DecidedLemmas.{consistent, found, right_alone}
use Rattle.merge_laws.proofs.deciding.consistent_reports_are_decided.Goals as goal

pub returns-clause-follows : goal.returns-clause-follows
returns-clause-follows c = λ statements report h. h.lawful.follows

pub returns-clause-alone : goal.returns-clause-alone
returns-clause-alone c = right_alone

pub returns-clause-decides : goal.returns-clause-decides
returns-clause-decides c = λ statements report cs sound follows alone can stuck. (
  λ h. found statements report cs h can stuck,
  λ ends. consistent c.nothing_is_open_at_the_end.ensures.ended_once c.commits_leave_the_described_graph.ensures.described statements report sound follows alone cs can ends,
)
