use Rattle.std.proofs.Common.{sym, subst}
use Rattle.txn_records.specs.Records.{May}
use Rattle.quiesce_core.specs.declared.event.Event.TheVariants.{Link}
use Rattle.rows_gates.proofs.Linking.{two}
use Rattle.rows_gates.proofs.systems.link_two.Goals as goal

pub link-requires-clause-may : goal.link-requires-clause-may
link-requires-clause-may c =
    let made = c.requires.made in
    subst (λ r. May r (Link 0 1 0)) (sym made.2) (two made.0 made.1 c.args.first.now c.args.second.now c.requires.kinds)
