use Rattle.std.specs.Prelude.{false}
use Rattle.change_transcript_laws.proofs.laws.reports_of_threads_are_lawful.Goals as goal

pub returns : goal.returns
returns c = record {
  lawful = λ statements t m members report is joined record_of told. (
    record {
      lawful = record {
        follows = c.joined_members_make_a_report_lawful.ensures.follows false statements t m report is told;
        members = members;
        by_them = c.joined_members_make_a_report_lawful.ensures.lawful false statements t m members report is joined record_of told;
      };
      numbers = c.runs_and_finishes_end_at_rest.ensures.numbers statements t m members is joined record_of;
    },
    c.runs_and_finishes_end_at_rest.ensures.at_once statements t m members is joined record_of,
  );
}
