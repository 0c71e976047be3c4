use Rattle.std.proofs.Common.{◌+◌}
use Rattle.quiesce_word.specs.Words.{unpack}
use Rattle.quiesce_core.specs.declared.event.Event.TheVariants.{Begin}
use Rattle.txn_gate.proofs.gates.Gates.exchange.Given as goal

abbrev pub ghosts-exchange_word : goal.ghosts-exchange_word
ghosts-exchange_word a = record { event = Begin a.port ((unpack a.loaded).serial + 1) a.value }
