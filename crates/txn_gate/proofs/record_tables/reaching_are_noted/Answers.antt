use Rattle.std.proofs.Common.{rules}
use Rattle.txn_gate.specs.PortNotes.{noted_in}
use Rattle.txn_gate.proofs.record_tables.reaching_are_noted.Goals as goal

pub returns : goal.returns
returns c = c.all_reaching.ensures (noted_in c.args.notes.now) (λ p b low post. search rules)
