use Rattle.std.proofs.Common.{map}
use Rattle.report_types.specs.declared.report.NodeLog.{NodeLog}
use Rattle.merge_laws.proofs.ExchangeLemmas.{merges_are_exchanged}
use Rattle.merge_laws.proofs.LawfulLemmas as laws
use Rattle.merge_laws.proofs.LogLemmas.{has_roots_apart}
use Rattle.merge_laws.proofs.TellingLemmas.{histories_are_told}
use Rattle.merge_laws.proofs.merging.merges_are_one_up_to_exchanges.Goals as goal

pub returns : goal.returns
returns c = record {
  merges = λ history logs m n telling a apart b apart'. merges_are_exchanged history logs telling m n a apart b apart';
  reports = λ statements report m n follows a b.
      merges_are_exchanged report.history (map (λ (l : NodeLog). l.events) report.logs) (histories_are_told statements report.history follows) m n
      (record { merge = laws.lawful_lists_are_merges statements report m a; logs_are = laws.has_logs statements report m a }) (has_roots_apart statements report m a)
      (record { merge = laws.lawful_lists_are_merges statements report n b; logs_are = laws.has_logs statements report n b }) (has_roots_apart statements report n b);
}
