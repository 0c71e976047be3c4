-- The report of the rounds of a source that leads nowhere is lawful.
use Rattle.std.proofs.Common.{◌≡◌, ◌∙◌, [], refl, sym, ap}
use Rattle.quiesce_core.specs.Reach.{has_no_cycle, reaches}
use Rattle.change_spec.specs.Found.{IsFound}
use Rattle.change_spec.specs.Lawful.{LawfulInRounds}
use Rattle.change_spec.specs.Members.{events}
use Rattle.change_spec.specs.Serial.{Serial}
use Rattle.node_turn_laws.specs.World.{World}
use Rattle.change_spec.proofs.FoundLaws.{found_in_rounds, none_open}
use Rattle.change_spec.proofs.SerialLaws.{one_world}
use Rattle.worked_report_laws.proofs.SerialLemmas.{lone_closed, alone_is_serial, alone_world}
use Rattle.worked_report_laws.specs.Alone.{members, report, script, stopped, tells}

is_found : IsFound script tells stopped members report
unfolding reaches has_no_cycle
is_found = record {
  follows = refl;
  history = refl;
  slots = refl;
  logs = refl;
  kinds = refl;
  lines_are = refl;
  runs = refl;
  lasts = refl;
  drained = refl;
  stood_open = none_open members [] report.history refl;
  graphs = refl;
  unfinished = refl;
  status = refl;
}

in_order : events members ≡ alone_is_serial.world.events
in_order =
    let here : events members ≡ lone_closed.events = refl in here ∙ ap (λ (w : World). w.events) (sym alone_world)

pub lawful : (serial : Serial script report) → LawfulInRounds script report serial
lawful serial =
    let order = in_order ∙ ap (λ (w : World). w.events) (one_world script report report alone_is_serial serial) in
    found_in_rounds script tells stopped members report is_found serial refl refl order
