use Rattle.std.proofs.Common.{◌+◌}
use Rattle.quiesce_word.specs.Words.{unpack}
use Rattle.quiesce_core.specs.declared.event.Event.TheVariants.{Call}
use Rattle.txn_gate.proofs.gates.Gates.call_word.Given as goal

abbrev pub ghosts-call_by : goal.ghosts-call_by
ghosts-call_by a = record { event = Call a.port ((unpack a.loaded).serial + 1) a.value }
