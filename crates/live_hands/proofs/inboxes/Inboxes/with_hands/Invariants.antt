use Rattle.std.proofs.Common.{◌≡◌, ◌+◌, length, replicate}
use Rattle.live_hands.specs.Hands.{nothing_seen}
use Rattle.live_hands.proofs.inboxes.Inboxes.with_hands.Given as goal

abbrev pub invariant-loop : goal.invariant-loop
invariant-loop g l = record {
  count : length l.all.items + 1 ≡ l.counter;
  fresh : l.all.items ≡ replicate (length l.all.items) nothing_seen;
  last : l.last ≡ nothing_seen;
}
