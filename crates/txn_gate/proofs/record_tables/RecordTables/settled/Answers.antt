use Rattle.std.proofs.Common.{◌∙◌, ap, sym, subst}
use Rattle.txn_records.specs.Entries.{config_of}
use Rattle.txn_records.specs.Notes as records
use Rattle.quiesce_core.specs.WellFormed.{IsSound}
use Rattle.txn_gate.specs.TablesInside.{tabled}
use Rattle.txn_gate.specs.PortNotes.{is_noted, noted_in}
use Rattle.txn_gate.specs.TablesOf.{IsTableOf}
use Rattle.txn_gate.specs.Tabled.{are_all_noted}
use Rattle.txn_gate.proofs.BareTables.{noted_iff}
use Rattle.txn_gate.proofs.record_tables.RecordTables.settled.Goals as goal

pub returns : goal.returns
returns c r of =
    let h : IsTableOf (tabled c.self.inside) r = subst (λ t. IsTableOf t r) (sym c.self.view_is) of in
    let notes = c.as_slice.result.now in
    noted_iff (noted_in notes) (records.is_noted r) (λ p. ap (λ ns. noted_in ns p) c.as_slice.ensures.value ∙ ap is_noted (h.notes p)) (config_of r) c.args.node
    (subst IsSound h.config c.self.invariant.sound) c.are_all_noted.result
    (c.are_all_noted.ensures ∙ ap (λ k. are_all_noted (noted_in notes) k c.args.node) h.config)
