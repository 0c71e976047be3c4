use Rattle.std.proofs.lemmas.Bool.{false≢true}
use Rattle.change_plan.proofs.DifferenceLemmas.{begins_read, begins_within, kept_none, kept_some, same_requires}
use Rattle.change_plan.proofs.differences.is_kept.Goals as goal

pub has_same_target-requires-clause-port : goal.has_same_target-requires-clause-port
has_same_target-requires-clause-port c = begins_within c.args.graph.now c.nodes.ensures.graph c.args.link.now c.requires

pub has_same_target-requires-clause-twin : goal.has_same_target-requires-clause-twin
has_same_target-requires-clause-twin c =
    let g = c.args.graph.now in
    let k = c.args.link.now in
    let node = c.index-nodes-link.result in
    let here = begins_read g c.nodes.ensures.graph k c.requires c.nodes.result.now c.nodes.ensures.nodes node c.index-nodes-link.is in
    same_requires g c.args.other.now k.from c.in-Some.twin k.require (record { node = node; here = here; there = c.in-Some.ensures.found }) (begins_within g c.nodes.ensures.graph k c.requires)

pub returns-in-None : goal.returns-in-None
returns-in-None c =
    let g = c.args.graph.now in
    let k = c.args.link.now in
    let node = c.index-nodes-link.result in
    let here = begins_read g c.nodes.ensures.graph k c.requires c.nodes.result.now c.nodes.ensures.nodes node c.index-nodes-link.is in
    let gone = kept_none g c.args.other.now k node here c.in-None.ensures.missing in
    (λ f. absurd (false≢true f), λ kept. absurd (gone kept))

pub returns-in-Some : goal.returns-in-Some
returns-in-Some c =
    let g = c.args.graph.now in
    let k = c.args.link.now in
    let node = c.index-nodes-link.result in
    let here = begins_read g c.nodes.ensures.graph k c.requires c.nodes.result.now c.nodes.ensures.nodes node c.index-nodes-link.is in
    let kept = kept_some g c.args.other.now c.nodes.ensures.graph c.in-Some.ensures.graph k c.requires node here c.in-Some.twin c.in-Some.ensures.found in
    let same = c.has_same_target.ensures in
    (λ t. kept.0 (same.0 t), λ k. same.1 (kept.1 k))
