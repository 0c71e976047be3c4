use Rattle.std.proofs.Common.{refl}
use Rattle.change_board.specs.Transcripts.{entries}
use Rattle.change_spec.specs.Asked.{statements_of}
use Rattle.step_runner.proofs.Lawfulness.{lawful_by, serial_by}
use Rattle.step_runner.proofs.running.run_in_rounds.Goals as goal

pub returns-clause-lawful : goal.returns-clause-lawful
returns-clause-lawful g c =
    let x = c.in_ok-report.ensures.ok in
    lawful_by _ (statements_of c.args.start c.args.steps.items) c.in_ok-report.report c.in_ok-report.board x (c.close_down.ensures.merge (entries x.transcript) x.stands)
    c.joined_members_make_a_report_lawful.ensures.lawful

pub returns-clause-serial : goal.returns-clause-serial
returns-clause-serial g c =
    let x = c.in_ok-report.ensures.ok in
    let stands = c.close_down.ensures in
    serial_by _ (statements_of c.args.start c.args.steps.items) c.in_ok-report.report c.in_ok-report.board x refl (stands.merge (entries x.transcript) x.stands)
    (stands.rounds (entries x.transcript) x.stands) c.reports_are_those_of_rounds.ensures.serial
