use Rattle.std.proofs.Common.{◌∙◌, None, ap, sym, subst, arith}
use Rattle.txn_records.specs.Entries.{config_of}
use Rattle.quiesce_core.specs.Effect.{with_node}
use Rattle.quiesce_core.specs.Links.{config_in}
use Rattle.quiesce_core.specs.WellFormed.{IsSound}
use Rattle.quiesce_core.specs.declared.event.Event.TheVariants.{Make}
use Rattle.quiesce_core.proofs.SoundnessLaws.{sound_made}
use Rattle.txn_gate.specs.TablesInside.{tabled}
use Rattle.txn_gate.specs.TablesOf.{IsTableOf}
use Rattle.txn_gate.specs.Tabled.{bare_node}
use Rattle.txn_gate.proofs.BareTables.{made_kept}
use Rattle.txn_gate.proofs.NextTables.{next_config, room_kept, tables_room}
use Rattle.txn_gate.proofs.NotingTables.{noted_made}
use Rattle.txn_gate.proofs.record_tables.RecordTables.make.Goals as goal

pub add-requires-clause-nodes : goal.add-requires-clause-nodes
add-requires-clause-nodes c =
    let was : IsTableOf (tabled c.self.inside) c.requires.0 = subst (λ t. IsTableOf t c.requires.0) (sym c.self.view_is) c.requires.2 in
    (tables_room (config_in c.self.inside.links) c.requires.0 c.requires.1 c.args.node.now c.args.from was.config c.requires.3).0

pub add-requires-clause-slots : goal.add-requires-clause-slots
add-requires-clause-slots c =
    let was : IsTableOf (tabled c.self.inside) c.requires.0 = subst (λ t. IsTableOf t c.requires.0) (sym c.self.view_is) c.requires.2 in
    omega (arith, c.self.invariant.room.slots, (tables_room (config_in c.self.inside.links) c.requires.0 c.requires.1 c.args.node.now c.args.from was.config c.requires.3).0)

pub invariant_of-self : goal.invariant_of-self
invariant_of-self c =
    let was : IsTableOf (tabled c.self.inside) c.requires.0 = subst (λ t. IsTableOf t c.requires.0) (sym c.self.view_is) c.requires.2 in
    let k = config_in c.self.inside.links in
    let room = tables_room k c.requires.0 c.requires.1 c.args.node.now c.args.from was.config c.requires.3 in
    record {
      sound = subst IsSound (sym (c.add.ensures.config ∙ ap (λ n. with_node k n None) c.bare.ensures))
          (sound_made k c.self.invariant.sound (bare_node c.args.node.now.kind) None room.0 room.1);
      room = room_kept c.self.inside.links c.add.new.self c.self.invariant.room c.add.ensures.room;
      notes = c.self.invariant.notes;
    }

pub returns : goal.returns
returns c r n of =
    let was : IsTableOf (tabled c.self.inside) r = subst (λ t. IsTableOf t r) (sym c.self.view_is) of in
    record {
      config = next_config (λ k. with_node k (bare_node c.args.node.now.kind) None) r (Make n c.args.node.now c.args.from) (config_in c.self.inside.links) (config_in c.add.new.self) was.config
          (c.add.ensures.config ∙ ap (λ m. with_node (config_in c.self.inside.links) m None) c.bare.ensures) (made_kept (config_of r) c.args.node.now c.args.from);
      notes = noted_made c.self.inside.notes.items r n c.args.node.now c.args.from was.notes;
    }
