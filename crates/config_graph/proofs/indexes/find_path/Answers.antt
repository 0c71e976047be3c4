use Rattle.std.proofs.Common.{rules, sym}
use Rattle.std.specs.Ordering.{nat_cmp}
use Rattle.std.specs.Cmp.Lexicographic.{slice_cmp}
use Rattle.std.proofs.lemmas.Fn.{always_returns_same}
use Rattle.config_graph.proofs.PathLaws.{found_path, no_path}
use Rattle.config_graph.proofs.indexes.find_path.Goals as goal

pub returns-in-Ok : goal.returns-in-Ok
returns-in-Ok c =
    let ends = c.binary_search_by-found.ensures in
    let at = ends.position (λ n. slice_cmp nat_cmp n.path c.args.path.now) (always_returns_same _ _ _ (λ a r f called. search rules)) in
    sym (found_path c.args.nodes.now c.args.path.now c.requires.rise c.in-Ok.index (rw c.in-Ok.is at ends.bound) (rw c.in-Ok.is at at))

pub returns-in-Err : goal.returns-in-Err
returns-in-Err c =
    let at = c.binary_search_by-found.ensures.position (λ n. slice_cmp nat_cmp n.path c.args.path.now) (always_returns_same _ _ _ (λ a r f called. search rules)) in
    sym (no_path c.args.nodes.now c.args.path.now c.requires.rise _ (rw c.in-Err.is at at))
