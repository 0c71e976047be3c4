use Rattle.std.proofs.Common.{◌≡◌, ◌≤◌, length, All}
use Rattle.std.specs.Prelude.{vec_capacity}
use Rattle.watch_view.specs.Known.{IsNew}
use Rattle.watch_view.proofs.views.list_viewers.Given as goal

abbrev pub invariant-loop : goal.invariant-loop
invariant-loop l = (length l.viewers.items ≡ l.counter) × (l.fn.observers ≤ vec_capacity l.viewers) × All IsNew l.viewers.items
