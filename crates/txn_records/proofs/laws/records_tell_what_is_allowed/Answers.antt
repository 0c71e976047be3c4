use Rattle.txn_records.proofs.NoteLaws.{may_is_allowed, noted_is_drained}
use Rattle.txn_records.proofs.RecordLaws.{config_is}
use Rattle.txn_records.proofs.laws.records_tell_what_is_allowed.Goals as goal

pub returns : goal.returns
returns c = record { configuration = config_is; noted = noted_is_drained; allowed = may_is_allowed }
