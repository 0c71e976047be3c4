use Rattle.std.proofs.Common.{ℕ, ◌<◌, IsTrue}
use Rattle.txn_records.specs.Entries.{config_of}
use Rattle.txn_records.specs.Notes.{is_noted}
use Rattle.txn_spec.specs.Views.{change_of}
use Rattle.quiesce_core.specs.Rules.{is_live_port}
use Rattle.rows_gates.proofs.row_systems.are_all_noted.Given as goal

abbrev pub invariant-loop-port : goal.invariant-loop-port
invariant-loop-port l = (p : ℕ) → p < l.port → IsTrue (is_live_port (config_of (change_of l.fn.change.seat.me.0).entries) p) → IsTrue (is_noted (change_of l.fn.change.seat.me.0).entries p)
