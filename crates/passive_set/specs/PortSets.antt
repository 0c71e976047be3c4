-- What is kept of a set of ports: the ports in order, and for each number below its room whether that port is there.
use Rattle.std.specs.Prelude.{◌≡◌, ◌<◌, ◌^◌, ◌+◌, ◌↔◌, ℕ, not, length, count_by, Contains}
use Rattle.config_graph.specs.Marks.{IsMarked}
use Rattle.passive_set.specs.Ports.{Ports}
use Rattle.passive_set.specs.declared.port_set.PortSet.TheInside.{Inside}

abbrev pub ports_in : Inside → Ports
ports_in a = record { room = length a.has.items; ports = a.ports.items }

pub record IsPortSet (a : Inside) : Type 0 where
  pub marked : (p : ℕ) → Contains a.ports.items p ↔ IsMarked a.has.items p
  pub counted : length a.ports.items + count_by not a.has.items ≡ length a.has.items
  pub few : length a.has.items < 2 ^ 32
