use Rattle.std.proofs.Common.{◌∙◌, length, ap, sym, subst}
use Rattle.std.proofs.lemmas.List.{length-replicate}
use Rattle.config_graph.specs.declared.TheConstants.{MAX_PORTS}
use Rattle.quiesce_core.specs.WellFormed.{IsSound}
use Rattle.quiesce_core.proofs.SoundnessLaws.{well_formed_empty}
use Rattle.txn_gate.specs.PortNotes.{fresh_note, note_in}
use Rattle.txn_gate.proofs.NotingTables.{none_yet}
use Rattle.txn_gate.proofs.record_tables.RecordTables.new.Goals as goal

pub invariant_of-result : goal.invariant_of-result
invariant_of-result c = record {
  sound = subst IsSound (sym c.in_ok-links.ensures.config) well_formed_empty.sound;
  room = c.in_ok-links.ensures.room;
  notes = ap length c.in_ok-notes.ensures ∙ length-replicate MAX_PORTS fresh_note;
}

pub returns : goal.returns
returns c = record {
  config = c.in_ok-links.ensures.config;
  notes = λ p. ap (λ ns. note_in ns p) c.in_ok-notes.ensures ∙ none_yet MAX_PORTS p;
}
