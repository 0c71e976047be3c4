-- What stands in the tables of a record, and what it stands for.
use Rattle.std.specs.Prelude.{◌≡◌, length}
use Rattle.config_graph.specs.declared.TheConstants.{MAX_PORTS}
use Rattle.quiesce_core.specs.Links.{HasRoomForAll, config_in}
use Rattle.quiesce_core.specs.WellFormed.{IsSound}
use Rattle.txn_gate.specs.Tabled.{Tabled}
use Rattle.txn_gate.specs.declared.record_tables.RecordTables.TheInside.{Inside}

abbrev pub tabled : Inside → Tabled
tabled t = record { config = config_in t.links; notes = t.notes.items }

pub record AreKept (t : Inside) : Type 0 where
  pub sound : IsSound (config_in t.links)
  pub room : HasRoomForAll t.links
  pub notes : length t.notes.items ≡ MAX_PORTS
