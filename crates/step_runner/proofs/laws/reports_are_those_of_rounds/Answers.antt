use Rattle.step_runner.proofs.SerialLaws.{is_serial}
use Rattle.step_runner.proofs.laws.reports_are_those_of_rounds.Goals as goal

pub returns : goal.returns
returns c =
    let join = c.records_and_transcripts_join.ensures.join in
    let lawful = c.joined_members_make_a_report_lawful.ensures.lawful in
    let folds = c.states_are_folds_of_own_events.ensures.one in
    record {
      serial = λ statements t m report x of_rounds has. is_serial join lawful c.worlds_at_rest_stay.ensures.stays folds statements t m report x of_rounds has;
    }
