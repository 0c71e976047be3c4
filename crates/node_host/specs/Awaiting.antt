-- Whether a node has a call to end before its service goes on.
use Rattle.std.specs.Prelude.{Bool, not, ◌&&◌}
use Rattle.std.specs.List.{list_any}
use Rattle.quiesce_core.specs.declared.known.Known.{Known}
use Rattle.quiesce_core.specs.declared.known.PortKnown.{PortKnown}

abbrev pub awaits : Known → Bool
awaits w = list_any (λ (x : PortKnown). not x.idle && x.consequent) w.ports
