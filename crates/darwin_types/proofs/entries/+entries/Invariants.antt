use Rattle.std.proofs.Common.{◌≡◌, ◌++◌, map, drop}
use Rattle.darwin_parser.specs.Tree.{entry_of, stmts_of}
use Rattle.darwin_types.specs.Scope.{entries_of}
use Rattle.darwin_types.proofs.entries.+entries.Given as goal

abbrev pub invariant-add_entries-loop-stmt : goal.invariant-add_entries-loop-stmt
invariant-add_entries-loop-stmt l =
    map (λ e. entry_of e.now) l.initial.entries.items ++ entries_of (stmts_of l.body) ≡ map (λ e. entry_of e.now) l.entries.items ++ entries_of (stmts_of (drop l.stmt-index l.body))
