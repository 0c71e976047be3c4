use Rattle.quiesce_replay.proofs.DenialLaws.{always_one, never_both, one_end, one_denial}
use Rattle.quiesce_replay.proofs.laws.denied_or_replayed.Goals as goal

pub returns : goal.returns
returns c = record { always_one = always_one; never_both = never_both; one_end = one_end; one_denial = one_denial }
