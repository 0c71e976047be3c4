use Rattle.std.proofs.Common.{◌<◌, length, sym, subst}
use Rattle.change_spec.specs.Lawful.{EndsAs}
use Rattle.report_types.specs.declared.report.Last.TheVariants as last
use Rattle.quiesce_core.specs.State.{State}
use Rattle.node_turn_laws.specs.World.{state_of}
use Rattle.step_board.proofs.LogLemmas.{ends_moved}
use Rattle.step_board.proofs.collecting.last_of.Goals as goal

pub returns-in-Some : goal.returns-in-Some
returns-in-Some g c = λ w s.
    subst (λ o. EndsAs (state_of w c.args.slot) o (last.Moved c.in-Some.heir)) (sym c.in-Some.is)
    (ends_moved w (g.met.N.Nodes.are_reached c.args.nodes.now w s) c.args.slot c.in-Some.heir
    (subst (λ (m : State). c.args.slot < length m.config.slots) (sym (g.met.N.Nodes.machine_is c.args.nodes.now w s)) c.requires.made))
