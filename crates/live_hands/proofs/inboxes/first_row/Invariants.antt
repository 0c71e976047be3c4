use Rattle.std.proofs.Common.{◌≡◌, length, map, replicate}
use Rattle.live_hands.specs.Hands.{shown, unused}
use Rattle.live_hands.specs.Opens.{Opens}
use Rattle.base.specs.Paired.{Paired}
use Rattle.live_hands.proofs.inboxes.first_row.Given as goal

abbrev pub invariant-loop-node : goal.invariant-loop-node
invariant-loop-node l = record {
  inboxes : length l.inboxes.items ≡ l.node;
  entries : length l.entries.items ≡ l.node;
  opens : Paired Opens l.inboxes.items l.entries.items;
  fresh : map shown l.entries.items ≡ replicate l.node unused;
}
