-- That a seat fits has one proof at most.
use Rattle.std.specs.Prelude.{ℕ, Option, Some, None}
use Rattle.std.proofs.Props.{props}
use Rattle.quiesce_core.specs.Knowledge.{IsKnown, IsServed, KnowsService}
use Rattle.quiesce_core.specs.State.{State}
use Rattle.quiesce_core.specs.declared.known.Known.{Known}
use Rattle.quiesce_core.specs.declared.known.Served.{Served}
use Rattle.quiesce_core.specs.declared.state.Service.{Service}
use Rattle.node_gate.specs.Core.{FitsCore}

served_prop : (s : State) (v : Service) (u : Served) → IsProp (IsServed s v u)
served_prop s v u = Prim.hlevel props

service_prop : (s : State) (o : Option Service) (w : Option Served) → IsProp (KnowsService s o w)
service_prop s None None = Prim.hlevel props
service_prop s None (Some u) = Prim.hlevel props
service_prop s (Some v) None = Prim.hlevel props
service_prop s (Some v) (Some u) = served_prop s v u

known_prop : (s : State) (n first : ℕ) (w : Known) → IsProp (IsKnown s n first w)
known_prop s n first w = Prim.hlevel (props, service_prop)

pub fits_prop : (s : State) (n : ℕ) (w : Known) → IsProp (FitsCore s n w)
fits_prop s n w = Prim.hlevel (props, known_prop)
