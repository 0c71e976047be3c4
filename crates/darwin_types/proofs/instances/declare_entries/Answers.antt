use Rattle.darwin_parser.specs.Tree.{entry_of}
use Rattle.darwin_types.specs.Scope.{single_of}
use Rattle.darwin_types.proofs.Lookups.{SameLookups_flat_map_step}
use Rattle.darwin_types.proofs.instances.declare_entries.Goals as goal

pub loop-entry-preserved : goal.loop-entry-preserved
loop-entry-preserved c =
    SameLookups_flat_map_step single_of (λ e. entry_of e.now) c.args.entries.now c.loop-entry.entry-index c.entry-item.result c.declare_entry.new.instances c.loop-entry.instances c.args.instances.now c.loop-entry-test.true c.entry-item.is c.loop-entry.invariant c.in_ok-declare_entry.ensures
