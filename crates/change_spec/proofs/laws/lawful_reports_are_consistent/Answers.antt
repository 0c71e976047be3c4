use Rattle.change_spec.proofs.ConsistentLaws.{consistent_in_rounds, consistent_on_threads, numbers_in_rounds}
use Rattle.change_spec.proofs.laws.lawful_reports_are_consistent.Goals as goal

pub returns : goal.returns
returns c = record { numbers = numbers_in_rounds; on_threads = consistent_on_threads; in_rounds = consistent_in_rounds }
