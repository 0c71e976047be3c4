-- What contracts see of a node of each type: the state of the machine of its kind.
use Rattle.std.specs.Prelude.{None, if◌then◌else◌}
use Rattle.config_graph.specs.declared.kind.Kind.TheVariants as kind
use Rattle.component_trait.specs.States.{NodeState, nothing, with_count}
use Rattle.kinds_phil.specs.declared.fork.Fork.{Fork}
use Rattle.kinds_phil.specs.declared.philosopher.Philosopher.{Philosopher}
use Rattle.kinds_phil.specs.declared.place.Place.{Place}

abbrev pub philosopher_state : Philosopher → NodeState
philosopher_state s = record { kind = kind.Philosopher; arg = s.meals; kept = with_count s.eaten; service = None }

abbrev pub place_state : Place → NodeState
place_state s = record { kind = kind.Place; arg = s.first; kept = nothing; service = s.service }

abbrev pub fork_state : Fork → NodeState
fork_state s = record { kind = kind.Fork; arg = 0; kept = with_count (if s.held then 1 else 0); service = s.service }
