use Rattle.std.proofs.Common.{ℕ, ◌<◌, take}
use Rattle.std.specs.List.{flat_map}
use Rattle.elaborator.specs.Instances.{Instance}
use Rattle.elaborator.specs.Bindings.{bindings_in, pairs_in}
use Rattle.elaborator.specs.Numbering.{Numbered}
use Rattle.elaborator.specs.Expansion.{expanded_of}
use Rattle.elaborator.specs.PortIndex.{IsIndex, AreLawful}
use Rattle.elaborator.proofs.WholeLemmas.{instances_of}
use Rattle.elaborator.proofs.pairs.index_bindings.Given as goal

-- the pairs of the instances so far are indexed, and their bindings are lawful
abbrev pub invariant-loop-number : goal.invariant-loop-number
invariant-loop-number l =
    let e = expanded_of l.fn.expansion in
    record {
      indexed : IsIndex e (flat_map (pairs_in e.tree) (take l.number (instances_of e))) l.targets;
      lawful : (n : ℕ) (i : Instance) → n < l.number → Numbered e n i → AreLawful e.tree i (bindings_in i);
    }
