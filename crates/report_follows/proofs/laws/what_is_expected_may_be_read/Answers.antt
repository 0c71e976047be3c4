use Rattle.change_spec.proofs.PortLaws.{closing_rise}
use Rattle.report_follows.proofs.ExpectedLemmas.{commits_are_tellable, live_ports_rise, starts_are_tellable}
use Rattle.report_follows.proofs.laws.what_is_expected_may_be_read.Goals as goal

pub returns : goal.returns
returns c = record { start = starts_are_tellable; commit = commits_are_tellable; closed = closing_rise; stop = live_ports_rise }
