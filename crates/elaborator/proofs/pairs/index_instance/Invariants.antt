use Rattle.std.proofs.Common.{List, ◌++◌, take, map}
use Rattle.std.specs.List.{flat_map}
use Rattle.darwin_walk.specs.Walked.{binding_of}
use Rattle.elaborator.specs.Instances.{Instance}
use Rattle.elaborator.specs.Bindings.{Pair, pair_of}
use Rattle.elaborator.specs.Numbering.{Numbered}
use Rattle.elaborator.specs.Expansion.{expanded_of}
use Rattle.elaborator.specs.PortIndex.{IsIndex, AreLawful}
use Rattle.elaborator.proofs.pairs.index_instance.Given as goal

-- the pairs so far are indexed, and lawful
abbrev pub invariant-loop-binding : goal.invariant-loop-binding
invariant-loop-binding l =
    let e = expanded_of l.fn.expansion in
    let so_far = map binding_of (take l.binding-index l.binding-items) in
    (i : Instance) (pairs : List Pair) → Numbered e l.fn.number i → IsIndex e pairs l.fn.targets
    → IsIndex e (pairs ++ flat_map (pair_of e.tree i) so_far) l.targets × AreLawful e.tree i so_far
