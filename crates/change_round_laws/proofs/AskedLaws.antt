-- Where a system may be started and each step may be asked for, the statements are sound.
use Rattle.std.proofs.Common.{List, [], ◌∷◌, map, arith}
use Rattle.config_graph.specs.Graph.{Graph}
use Rattle.config_graph.specs.Sound.{Sound}
use Rattle.change_plan.specs.Room.{HasRoomFor}
use Rattle.change_round_laws.specs.SoundStatements.{AreSound, GoOnSoundly, IsSoundGraph}
use Rattle.change_spec.specs.Asked.{Above, CanDoAll, CanStart, after_change, after_start, statement_of, statements_of}
use Rattle.change_spec.specs.Scripts.{nothing_made}
use Rattle.change_spec.specs.declared.steps.Start.{Start}
use Rattle.change_spec.specs.declared.steps.Step.{Step}
use Rattle.change_spec.specs.declared.steps.Step.TheVariants as steps

pub started_graph : (g : Graph) → Sound g → HasRoomFor nothing_made g → IsSoundGraph g
started_graph g sound room = record {
  is_graph = record {
    paths_rise = sound.paths_rise;
    within = sound.within;
    in_order = sound.in_order;
    few_nodes = omega (arith, room.nodes_fit);
    few_ports = omega (arith, room.ports_fit);
  };
  sound = sound;
}

pub go_on : (above : Above) (all : List Step) → CanDoAll above all → GoOnSoundly (map statement_of all) above.graph above.made
go_on above [] can = tt
go_on above (steps.Change c ∷ more) can = record {
  graph = record { is_graph = can.0.is_graph; sound = can.0.sound };
  can_plan = can.0.can_plan;
  below = go_on (after_change above c can.0) more can.1;
}
go_on above (steps.Run k ∷ more) can = go_on above more can
go_on above (steps.Finish n ∷ more) can = go_on above more can
go_on above (steps.Show ∷ more) can = go_on above more can

pub asked_are_sound : (start : Start) (all : List Step) → CanStart start → CanDoAll (after_start start) all → AreSound (statements_of start all)
asked_are_sound start all can_start can = record { graph = started_graph start.graph can_start.sound can_start.room; room = can_start.room; below = go_on (after_start start) all can }
