-- What holds of sources in the configuration of a record.
use Rattle.std.proofs.Common.{List, sym, subst}
use Rattle.change_spec.proofs.LowerLaws.{SourcesAreLower, lower_after}
use Rattle.quiesce_core.proofs.SourceLaws.{sources_are_gone}
use Rattle.quiesce_core.specs.Sources.{SourcesAreGone}
use Rattle.txn_records.proofs.RecordLaws.{config_is}
use Rattle.txn_records.specs.Entries.{config_of}
use Rattle.txn_records.specs.Records.{IsRecord, events}
use Rattle.txn_records.specs.declared.entry.Entry.{Entry}

pub lower_in : (r : List Entry) → IsRecord r → SourcesAreLower (config_of r)
lower_in r h = subst SourcesAreLower (sym (config_is r h.moments h.is_of)) (lower_after (events h.moments) h.is_of.runs)

pub gone_in : (r : List Entry) → IsRecord r → SourcesAreGone (config_of r)
gone_in r h = subst SourcesAreGone (sym (config_is r h.moments h.is_of)) (sources_are_gone (events h.moments) h.is_of.runs)
