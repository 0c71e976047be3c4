use Rattle.quiesce_laws.proofs.RootLaws.{root_since, root_when_closed}
use Rattle.quiesce_laws.proofs.roots.roots_at_closed_ports_are_old.Goals as goal

pub returns : goal.returns
returns c = record {
  since = root_since;
  when_closed = root_when_closed;
}
