use Rattle.std.proofs.Common.{◌≡◌, ◌++◌, take}
use Rattle.std.specs.Prelude.{flat_map}
use Rattle.quiesce_replay.specs.ReplayText.{open_line}
use Rattle.quiesce_replay.proofs.writing.push_opens.Given as goal

abbrev pub invariant-loop-transaction : goal.invariant-loop-transaction
invariant-loop-transaction l = l.text.items ≡ l.initial.text.items ++ flat_map open_line (take l.transaction-index l.transactions)
