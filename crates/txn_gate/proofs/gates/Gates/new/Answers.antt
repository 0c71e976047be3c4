use Rattle.std.proofs.Common.{◌∙◌, [], subst, sym}
use Rattle.atomic_table.specs.Table.{opening}
use Rattle.txn_spec.specs.Views.{nothing_done, of_change}
use Rattle.txn_spec.specs.Traces.{Holds}
use Rattle.txn_spec.proofs.SeatStepLaws.{begins}
use Rattle.txn_gate.proofs.gates.Gates.new.Goals as goal

pub of_words-requires : goal.of_words-requires
of_words-requires c = subst (λ ws. Holds (opening ws [] (of_change [] nothing_done))) (sym (c.as_slice.ensures.value ∙ c.in_ok-fresh.ensures)) begins
