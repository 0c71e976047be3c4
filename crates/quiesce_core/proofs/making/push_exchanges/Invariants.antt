use Rattle.std.proofs.Common.{◌≡◌, ◌≤◌, ◌++◌, replicate}
use Rattle.std.specs.Prelude.{vec_capacity}
use Rattle.quiesce_core.specs.State.{fresh_exchange}
use Rattle.quiesce_core.proofs.making.push_exchanges.Given as goal

abbrev pub invariant-loop : goal.invariant-loop
invariant-loop l = record {
  items : l.exchanges.items ≡ l.fn.exchanges.items ++ replicate l.counter fresh_exchange;
  room : vec_capacity l.fn.exchanges ≤ vec_capacity l.exchanges;
}
