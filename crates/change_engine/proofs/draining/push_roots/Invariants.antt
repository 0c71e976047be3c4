use Rattle.std.proofs.Common.{◌≡◌, ◌≤◌, ◌+◌, ◌++◌, map, take, vec_len}
use Rattle.std.specs.Vec.{vec_capacity}
use Rattle.change_engine.specs.Draining.{root_line}
use Rattle.change_engine.proofs.draining.push_roots.Given as goal

abbrev pub invariant-loop-root : goal.invariant-loop-root
invariant-loop-root l = record {
  lines : l.history.items ≡ l.initial.history.items ++ map root_line (take l.root-index l.left);
  len : vec_len l.history ≡ vec_len l.initial.history + l.root-index;
  capacity : vec_capacity l.initial.history ≤ vec_capacity l.history;
}
