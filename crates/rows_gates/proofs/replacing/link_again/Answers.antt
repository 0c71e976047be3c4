use Rattle.std.proofs.Common.{sym, subst}
use Rattle.quiesce_laws.specs.Steps.{IsNoted}
use Rattle.txn_records.specs.Entries.{config_of}
use Rattle.txn_records.specs.Notes.{is_noted}
use Rattle.txn_records.specs.Records.{May}
use Rattle.quiesce_core.specs.declared.event.Event.TheVariants.{Link}
use Rattle.rows_gates.proofs.Linking.{again}
use Rattle.rows_gates.proofs.replacing.link_again.Goals as goal

pub link-requires-clause-may : goal.link-requires-clause-may
link-requires-clause-may c =
    let made = c.requires.made in
    let kinds = c.requires.kinds in
    let noted = subst (λ r. IsNoted (is_noted r) (config_of r) 0) made.4 c.requires.settled in
    subst (λ r. May r (Link 0 2 0)) (sym made.4) (again made.0 made.1 made.2 made.3 c.args.first.now c.args.second.now c.args.third.now kinds.0 kinds.1 kinds.2 noted)
