use Rattle.std.proofs.Common.{◌≡◌, ◌∙◌, ap, arith, sym}
use Rattle.std.proofs.lemmas.Bool.{false≢true}
use Rattle.std.specs.Option.{option_map_or}
use Rattle.config_graph.specs.Graph.{requires_at, requires_of}
use Rattle.change_plan.proofs.DifferenceLemmas.{no_new_target}
use Rattle.change_plan.proofs.touching.has_new_target.Goals as goal

pub returns : goal.returns
returns c =
    let old = c.args.old.now in
    let count : requires_at old.nodes c.args.node ≡ c.requires_-require-end.result = ap (λ o. option_map_or requires_of o 0) c.node.ensures ∙ sym c.requires_-require-end.ensures in
    let none = no_new_target old c.args.new.now c.requires.graph c.args.node c.args.twin c.requires.twin (λ r low. c.loop-require.invariant r (omega (arith, count, low))) in
    (λ f. absurd (false≢true f), λ h. absurd (none h))
