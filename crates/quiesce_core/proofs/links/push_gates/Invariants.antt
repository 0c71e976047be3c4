use Rattle.std.proofs.Common.{◌≡◌, ◌≤◌, ◌++◌}
use Rattle.std.specs.Prelude.{vec_capacity}
use Rattle.quiesce_core.specs.Effect.{new_gates}
use Rattle.quiesce_core.proofs.links.push_gates.Given as goal

abbrev pub invariant-loop-require : goal.invariant-loop-require
invariant-loop-require l = record {
  items : l.gates.items ≡ l.fn.gates.items ++ new_gates l.owner l.require;
  room : vec_capacity l.fn.gates ≤ vec_capacity l.gates;
}
