use Rattle.std.proofs.Common.{◌≡◌, ◌∙◌, ℕ, Some, sym, ap, subst}
use Rattle.base.proofs.OptionLaws.{map_or_true}
use Rattle.config_graph.specs.declared.node.Target.{Target}
use Rattle.txn_records.specs.Entries.{config_of}
use Rattle.quiesce_core.specs.Effect.{with_removed}
use Rattle.quiesce_core.specs.State.{Configuration, empty, is_live, slot, target}
use Rattle.quiesce_core.specs.WellFormed.{IsSound}
use Rattle.quiesce_core.specs.declared.event.Event.TheVariants.{Remove}
use Rattle.quiesce_core.specs.declared.state.Slot.{Slot}
use Rattle.quiesce_core.proofs.SoundnessLaws.{apart_from, sound_removed}
use Rattle.quiesce_core.specs.Links.{config_in}
use Rattle.txn_gate.specs.TablesInside.{tabled}
use Rattle.txn_gate.specs.TablesOf.{IsTableOf}
use Rattle.txn_gate.proofs.BareTables.{live_kept, removed_kept}
use Rattle.txn_gate.proofs.NextTables.{next_config, room_kept}
use Rattle.txn_gate.proofs.NotingTables.{noted_removed}
use Rattle.txn_gate.proofs.record_tables.RecordTables.remove.Goals as goal

pub invariant_of-self : goal.invariant_of-self
invariant_of-self c =
    let was : IsTableOf (tabled c.self.inside) c.requires.0 = subst (λ t. IsTableOf t c.requires.0) (sym c.self.view_is) c.requires.1 in
    let k = config_in c.self.inside.links in
    let d = config_of c.requires.0 in
    let live = ap (λ e. is_live e c.args.node) was.config ∙ live_kept d c.args.node ∙ c.requires.2.settled.live in
    let old = map_or_true (λ (m : Slot). m.live) (slot k c.args.node) live in
    let apart = subst (λ (e : Configuration). (q : ℕ) (t : Target) → target e q ≡ Some t → t.node ≡ c.args.node → ⊥) (sym was.config)
    (λ q t leads. apart_from (record { config = d; traffic = empty.traffic }) c.args.node c.requires.2.apart q t leads) in
    record {
      sound = subst IsSound (sym c.remove.ensures.config) (sound_removed k c.args.node old.0 old.1 c.self.invariant.sound apart);
      room = room_kept c.self.inside.links c.remove.new.self c.self.invariant.room c.remove.ensures.room;
      notes = c.self.invariant.notes;
    }

pub returns : goal.returns
returns c r of =
    let was : IsTableOf (tabled c.self.inside) r = subst (λ t. IsTableOf t r) (sym c.self.view_is) of in
    record {
      config = next_config (λ k. with_removed k c.args.node) r (Remove c.args.node) (config_in c.self.inside.links) (config_in c.remove.new.self) was.config c.remove.ensures.config (removed_kept (config_of r) c.args.node);
      notes = noted_removed c.self.inside.notes.items r c.args.node was.notes;
    }
