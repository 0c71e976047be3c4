-- Each of these facts has one proof at most.
use Rattle.std.specs.Prelude.{ℕ, List, Option, Some, None}
use Rattle.std.proofs.Props.{props}
use Rattle.component_trait.specs.States.{NodeState, Service}
use Rattle.quiesce_core.specs.Knowledge.{OwnPort}
use Rattle.quiesce_core.specs.declared.event.Event.{Event}
use Rattle.quiesce_core.specs.declared.known.Known.{Known}
use Rattle.quiesce_core.specs.declared.known.Served.{Served}
use Rattle.node_turn_laws.specs.Agreement.{Agrees, ServiceAgrees, ServicesAgree}
use Rattle.node_host.specs.Hosted.{IsHosted, SeatSeen}
use Rattle.node_host.specs.Lines.{LineNode}

service_prop : (ports : ℕ → OwnPort) (w : Service) (u : Served) → IsProp (ServiceAgrees ports w u)
service_prop ports w u = Prim.hlevel props

services_prop : (ports : ℕ → OwnPort) (o : Option Service) (u : Option Served) → IsProp (ServicesAgree ports o u)
services_prop ports None None = Prim.hlevel props
services_prop ports None (Some u) = Prim.hlevel props
services_prop ports (Some w) None = Prim.hlevel props
services_prop ports (Some w) (Some u) = service_prop ports w u

agrees_prop : (first : ℕ) (t : NodeState) (u : Option Served) (far : ℕ → OwnPort) → IsProp (Agrees first t u far)
agrees_prop first t u far = Prim.hlevel (props, services_prop)

pub hosted_prop : (slot first : ℕ) (t : NodeState) (log : List Event) (line : List LineNode) (known : Known)
    (waiting : List (Option ℕ)) (seat : SeatSeen) → IsProp (IsHosted slot first t log line known waiting seat)
hosted_prop slot first t log line known waiting seat = Prim.hlevel (props, agrees_prop)
