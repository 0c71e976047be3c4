use Rattle.std.proofs.Common.{◌≡◌, length, map, replicate}
use Rattle.config_graph.specs.declared.TheConstants.{MAX_NODES}
use Rattle.live_hands.specs.Hands.{shown, unused}
use Rattle.live_hands.specs.Opens.{Opens}
use Rattle.base.specs.Paired.{Paired}
use Rattle.live_hands.proofs.inboxes.another_row.Given as goal

abbrev pub invariant-loop-at : goal.invariant-loop-at
invariant-loop-at l = record {
  entries : length l.entries.items ≡ MAX_NODES;
  opens : Paired Opens l.fn.inboxes.items l.entries.items;
  kept : map shown l.entries.items ≡ map shown l.fn.entries.items;
  count : length l.more.items ≡ l.at;
  more_open : Paired Opens l.fn.inboxes.items l.more.items;
  more_fresh : map shown l.more.items ≡ replicate l.at unused;
}
