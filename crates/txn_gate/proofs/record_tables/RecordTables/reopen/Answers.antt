use Rattle.std.proofs.Common.{◌∙◌, ◌<◌, false, length, refl, sym, subst, arith, length-set}
use Rattle.quiesce_core.specs.Effect.{with_closed}
use Rattle.quiesce_core.specs.WellFormed.{IsSound}
use Rattle.quiesce_core.specs.declared.event.Event.TheVariants.{Reopen}
use Rattle.quiesce_core.proofs.SoundnessLaws.{sound_closed}
use Rattle.quiesce_core.specs.Links.{config_in}
use Rattle.txn_gate.specs.TablesInside.{tabled}
use Rattle.txn_gate.specs.TablesOf.{IsTableOf}
use Rattle.txn_gate.proofs.NextTables.{live_port_made, next_config, room_kept}
use Rattle.txn_gate.proofs.NotingTables.{noted_reopened}
use Rattle.txn_gate.proofs.record_tables.RecordTables.reopen.Goals as goal

pub invariant_of-self : goal.invariant_of-self
invariant_of-self c =
    let was : IsTableOf (tabled c.self.inside) c.requires.0 = subst (λ t. IsTableOf t c.requires.0) (sym c.self.view_is) c.requires.1 in
    let k = config_in c.self.inside.links in
    record {
      sound = subst IsSound (sym c.set_closed.ensures.config) (sound_closed k c.args.port false (live_port_made k c.requires.0 c.args.port was.config c.requires.2) c.self.invariant.sound);
      room = room_kept c.self.inside.links c.set_closed.new.self c.self.invariant.room c.set_closed.ensures.room;
      notes = length-set c.self.inside.notes.items c.args.port c.reopened.result ∙ c.self.invariant.notes;
    }

pub returns : goal.returns
returns c r of =
    let was : IsTableOf (tabled c.self.inside) r = subst (λ t. IsTableOf t r) (sym c.self.view_is) of in
    let made = live_port_made (config_in c.self.inside.links) c.requires.0 c.args.port (subst (λ t. IsTableOf t c.requires.0) (sym c.self.view_is) c.requires.1).config c.requires.2 in
    let low : c.args.port < length c.self.inside.notes.items = (let few = c.self.invariant.sound.few_ports in let all_ = c.self.invariant.notes in omega (arith, made, few, all_)) in
    record {
      config = next_config (λ k. with_closed k c.args.port false) r (Reopen c.args.port) (config_in c.self.inside.links) (config_in c.set_closed.new.self) was.config c.set_closed.ensures.config refl;
      notes = noted_reopened c.self.inside.notes.items r c.args.port c.reopened.result low was.notes (c.reopened.ensures);
    }
