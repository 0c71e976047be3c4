use Rattle.std.proofs.Common.{◌≡◌, ◌∙◌, ◌<◌, true, false, length, refl, sym, ap, subst, arith, length-set}
use Rattle.quiesce_core.specs.Effect.{with_closed}
use Rattle.quiesce_core.specs.WellFormed.{IsSound}
use Rattle.quiesce_core.specs.declared.event.Event.TheVariants.{Close}
use Rattle.quiesce_core.proofs.SoundnessLaws.{sound_closed}
use Rattle.quiesce_core.specs.Links.{config_in}
use Rattle.txn_gate.specs.TablesInside.{tabled}
use Rattle.txn_gate.specs.PortNotes.{note_in}
use Rattle.txn_gate.specs.TablesOf.{IsTableOf}
use Rattle.txn_gate.specs.declared.port_notes.PortNote.{PortNote}
use Rattle.txn_gate.proofs.NextTables.{live_port_made, next_config, room_kept}
use Rattle.txn_gate.proofs.NotingTables.{noted_closed}
use Rattle.txn_gate.proofs.record_tables.RecordTables.close.Goals as goal

pub invariant_of-self : goal.invariant_of-self
invariant_of-self c =
    let was : IsTableOf (tabled c.self.inside) c.requires.0 = subst (λ t. IsTableOf t c.requires.0) (sym c.self.view_is) c.requires.1 in
    let k = config_in c.self.inside.links in
    record {
      sound = subst IsSound (sym c.set_closed.ensures.config) (sound_closed k c.args.port true (live_port_made k c.requires.0 c.args.port was.config c.requires.2) c.self.invariant.sound);
      room = room_kept c.self.inside.links c.set_closed.new.self c.self.invariant.room c.set_closed.ensures.room;
      notes = length-set c.self.inside.notes.items c.args.port c.closed.result ∙ c.self.invariant.notes;
    }

pub returns : goal.returns
returns c r of =
    let was : IsTableOf (tabled c.self.inside) r = subst (λ t. IsTableOf t r) (sym c.self.view_is) of in
    let made = live_port_made (config_in c.self.inside.links) c.requires.0 c.args.port (subst (λ t. IsTableOf t c.requires.0) (sym c.self.view_is) c.requires.1).config c.requires.2 in
    let low : c.args.port < length c.self.inside.notes.items = (let few = c.self.invariant.sound.few_ports in let all_ = c.self.invariant.notes in omega (arith, made, few, all_)) in
    let is : c.note_at-note.result ≡ note_in c.self.inside.notes.items c.args.port = c.note_at-note.ensures ∙ ap (λ ns. note_in ns c.args.port) c.as_slice.ensures.value in
    record {
      config = next_config (λ k. with_closed k c.args.port true) r (Close c.args.port) (config_in c.self.inside.links) (config_in c.set_closed.new.self) was.config c.set_closed.ensures.config refl;
      notes = noted_closed c.self.inside.notes.items r c.args.port c.closed.result low was.notes (c.closed.ensures ∙ ap (λ (n : PortNote). record n { found = false }) is);
    }
