use Rattle.std.proofs.Common.{◌≡◌, ◌∙◌, true, Some, refl, sym, ap, subst}
use Rattle.txn_records.specs.Entries.{config_of}
use Rattle.quiesce_core.specs.Effect.{with_target}
use Rattle.quiesce_core.specs.Reach.{has_no_cycle}
use Rattle.quiesce_core.specs.WellFormed.{IsSound, LeadsToProvision}
use Rattle.quiesce_core.specs.declared.event.Event.TheVariants.{Link}
use Rattle.quiesce_core.proofs.SoundnessLaws.{sound_linked}
use Rattle.quiesce_core.specs.Links.{config_in}
use Rattle.txn_gate.specs.TablesInside.{tabled}
use Rattle.txn_gate.specs.TablesOf.{IsTableOf}
use Rattle.txn_gate.proofs.BareTables.{no_cycle_kept, provision_kept, target_fits}
use Rattle.txn_gate.proofs.NextTables.{live_port_made, next_config, room_kept}
use Rattle.txn_gate.proofs.NotingTables.{noted_linked}
use Rattle.txn_gate.proofs.record_tables.RecordTables.link.Goals as goal

pub invariant_of-self : goal.invariant_of-self
invariant_of-self c =
    let was : IsTableOf (tabled c.self.inside) c.requires.0 = subst (λ t. IsTableOf t c.requires.0) (sym c.self.view_is) c.requires.1 in
    let k = config_in c.self.inside.links in
    let leads : LeadsToProvision k c.args.to = subst (λ d. LeadsToProvision d c.args.to) (sym was.config) (provision_kept (config_of c.requires.0) c.args.to c.requires.2.provision) in
    let free : has_no_cycle (with_target k c.args.port (Some c.args.to)) ≡ true =
    ap (λ d. has_no_cycle (with_target d c.args.port (Some c.args.to))) was.config ∙ no_cycle_kept (with_target (config_of c.requires.0) c.args.port (Some c.args.to)) c.requires.2.no_cycle in
    record {
      sound = subst IsSound (sym c.set_target.ensures.config) (sound_linked k c.args.port c.args.to (live_port_made k c.requires.0 c.args.port was.config c.requires.2.live) leads free c.self.invariant.sound);
      room = room_kept c.self.inside.links c.set_target.new.self c.self.invariant.room c.set_target.ensures.room;
      notes = c.self.invariant.notes;
    }

pub returns-clause-fits : goal.returns-clause-fits
returns-clause-fits c =
    let was : IsTableOf (tabled c.self.inside) c.requires.0 = subst (λ t. IsTableOf t c.requires.0) (sym c.self.view_is) c.requires.1 in
    let k = config_in c.self.inside.links in
    let leads : LeadsToProvision k c.args.to = subst (λ d. LeadsToProvision d c.args.to) (sym was.config) (provision_kept (config_of c.requires.0) c.args.to c.requires.2.provision) in
    target_fits k c.args.to c.self.invariant.sound leads

pub returns-clause-tables : goal.returns-clause-tables
returns-clause-tables c r of =
    let was : IsTableOf (tabled c.self.inside) r = subst (λ t. IsTableOf t r) (sym c.self.view_is) of in
    record {
      config = next_config (λ k. with_target k c.args.port (Some c.args.to)) r (Link c.args.port c.args.to.node c.args.to.provide) (config_in c.self.inside.links) (config_in c.set_target.new.self) was.config c.set_target.ensures.config refl;
      notes = noted_linked c.self.inside.notes.items r c.args.port c.args.to.node c.args.to.provide was.notes;
    }
