use Rattle.std.proofs.Common.{◌∙◌, None, refl, sym, ap, subst}
use Rattle.quiesce_core.specs.Effect.{with_target}
use Rattle.quiesce_core.specs.WellFormed.{IsSound}
use Rattle.quiesce_core.specs.declared.event.Event.TheVariants.{Unlink}
use Rattle.quiesce_core.specs.declared.state.Gate.{Gate}
use Rattle.quiesce_core.proofs.SoundnessLaws.{sound_unlinked}
use Rattle.quiesce_core.specs.Links.{config_in}
use Rattle.txn_gate.specs.TablesInside.{tabled}
use Rattle.txn_gate.specs.TablesOf.{IsTableOf}
use Rattle.txn_gate.proofs.BareTables.{target_fits}
use Rattle.txn_gate.proofs.NextTables.{live_port_made, next_config, room_kept}
use Rattle.txn_gate.proofs.NotingTables.{noted_unlinked}
use Rattle.txn_gate.proofs.record_tables.RecordTables.unlink.Goals as goal

pub invariant_of-self : goal.invariant_of-self
invariant_of-self c =
    let was : IsTableOf (tabled c.self.inside) c.requires.0 = subst (λ t. IsTableOf t c.requires.0) (sym c.self.view_is) c.requires.1 in
    let k = config_in c.self.inside.links in
    record {
      sound = subst IsSound (sym c.set_target.ensures.config) (sound_unlinked k c.args.port (live_port_made k c.requires.0 c.args.port was.config c.requires.2.live) c.self.invariant.sound);
      room = room_kept c.self.inside.links c.set_target.new.self c.self.invariant.room c.set_target.ensures.room;
      notes = c.self.invariant.notes;
    }

pub returns-clause-fits : goal.returns-clause-fits
returns-clause-fits c =
    let k = config_in c.self.inside.links in
    target_fits k c.in-Some.was c.self.invariant.sound (c.self.invariant.sound.targets c.args.port c.in-Some.was (sym (ap (λ (g : Gate). g.target) c.gate-was.ensures) ∙ c.in-Some.is))

pub returns-clause-tables : goal.returns-clause-tables
returns-clause-tables c r of =
    let was : IsTableOf (tabled c.self.inside) r = subst (λ t. IsTableOf t r) (sym c.self.view_is) of in
    record {
      config = next_config (λ k. with_target k c.args.port None) r (Unlink c.args.port) (config_in c.self.inside.links) (config_in c.set_target.new.self) was.config c.set_target.ensures.config refl;
      notes = noted_unlinked c.self.inside.notes.items r c.args.port was.notes;
    }
