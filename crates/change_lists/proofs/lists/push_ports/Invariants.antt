use Rattle.std.proofs.Common.{◌≡◌, ◌++◌, map}
use Rattle.std.specs.List.{range_with_len}
use Rattle.change_lists.proofs.lists.push_ports.Given as goal

abbrev pub invariant-loop-require : goal.invariant-loop-require
invariant-loop-require l = l.ports.items ≡ l.fn.ports.items ++ map (λ r. record { node = l.node; require = r }) (range_with_len 0 l.require)
