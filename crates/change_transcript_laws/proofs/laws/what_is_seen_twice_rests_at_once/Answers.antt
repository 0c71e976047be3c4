use Rattle.std.proofs.Common.{refl}
use Rattle.txn_records.specs.Records.{entries}
use Rattle.change_transcript_laws.proofs.AtOnce.{at_rest}
use Rattle.change_transcript_laws.proofs.RestLaws.{at_once_came}
use Rattle.change_transcript_laws.proofs.laws.what_is_seen_twice_rests_at_once.Goals as goal

pub returns : goal.returns
returns c = record {
  at_rest = λ before after begins moved now later quiet so runs are twice. at_rest (entries before) before after begins moved now later quiet so runs refl are twice;
  came = at_once_came;
}
