use Rattle.std.proofs.Common.{◌++◌, subst, sym}
use Rattle.change_spec.specs.Follows.{Follows}
use Rattle.change_spec.specs.Lawful.{IsLawfulBy}
use Rattle.change_spec.specs.Serial.{lines_played}
use Rattle.report_types.specs.declared.report.Report.{Report}
use Rattle.change_round_laws.proofs.CommitGraphLaws.{described_at}
use Rattle.change_round_laws.proofs.RoundLaws.{lawful_by, numbers, whole}
use Rattle.change_round_laws.proofs.rounds.reports_of_rounds_are_lawful.Goals as goal

pub returns-clause-follows : goal.returns-clause-follows
returns-clause-follows c = λ statements report sound serial.
    let all = whole c.each_plan_may_commit.ensures c.commits_can_not_fail.ensures.by_the_configuration c.commits_leave_the_new_graph.ensures.reopening c.commits_can_not_fail.ensures.runs statements report sound serial in
    subst (λ (r : Report). Follows statements r.history) (sym serial.report_is) all.follows

pub returns-clause-lawful : goal.returns-clause-lawful
returns-clause-lawful c = λ statements report sound serial.
    let quiet = c.changes_find_nodes_quiescent.ensures.quiescent in
    let once = c.nothing_is_open_at_the_end.ensures.ended_once in
    let handed = c.a_moved_state_is_the_last_one.ensures.handed in
    let all = whole c.each_plan_may_commit.ensures c.commits_can_not_fail.ensures.by_the_configuration c.commits_leave_the_new_graph.ensures.reopening c.commits_can_not_fail.ensures.runs statements report sound serial in
    let described = described_at c.each_plan_may_commit.ensures c.commits_can_not_fail.ensures.by_the_configuration c.commits_leave_the_new_graph.ensures.reopening statements in
    let h = lines_played serial.parts ++ serial.stop in
    let by = lawful_by quiet once handed statements described sound h serial.world all.members all.follows all.course in
    record {
      lawful = record {
        follows = subst (λ (r : Report). Follows statements r.history) (sym serial.report_is) all.follows;
        members = all.members;
        by_them = subst (λ (r : Report). IsLawfulBy statements r all.members) (sym serial.report_is) by;
      };
      numbers = numbers quiet once handed statements described sound h serial.world all.members all.follows all.course;
      order = all.course.events_are;
    }
