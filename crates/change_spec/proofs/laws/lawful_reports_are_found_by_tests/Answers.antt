use Rattle.change_spec.proofs.FoundLaws.{found_in_rounds, found_lawful, found_numbers, found_on_threads}
use Rattle.change_spec.proofs.ToldLemmas.{follows_told}
use Rattle.change_spec.proofs.laws.lawful_reports_are_found_by_tests.Goals as goal

pub returns : goal.returns
returns c = record {
  follows = follows_told;
  lawful = λ statements ts seen m report found. found_lawful statements ts seen m report found;
  numbers = λ statements ts seen m report found ended few. found_numbers statements ts seen m report found ended few;
  on_threads = λ statements ts seen m report found runs finishes. found_on_threads statements ts seen m report found runs finishes;
  in_rounds = λ statements ts seen m report serial found ended few order. found_in_rounds statements ts seen m report found serial ended few order;
}
