use Rattle.std.proofs.Common.{◌≡◌, ◌∙◌, ◌≤◌, ◌<◌, ℕ, Bool, List, Option, Some, None, arith, IfSome, below_more, length, refl, subst, sym}
use Rattle.std.proofs.lemmas.Bool.{true≢false}
use Rattle.config_graph.specs.Cycles.{LeadsToUnmarked, leads_by}
use Rattle.config_graph.specs.Graph.{Graph, requires_at}
use Rattle.config_graph.specs.Marks.{IsMarked}
use Rattle.config_graph.proofs.CycleLaws.{leads_by-MayCall, leads_only, requires_is}
use Rattle.base.proofs.OptionLaws.{ForSome-from_IfSome}
use Rattle.config_graph.proofs.cycles.leads_only_to.Goals as goal

pub is_set-requires : goal.is_set-requires
is_set-requires c =
    ForSome-from_IfSome c.successor.result (λ j. j < length c.args.graph.now.nodes) (λ j. j < length c.args.bits.now) c.successor.ensures.within (λ j h. rw c.requires.bits h)

pub loop-require-preserved : goal.loop-require-preserved
loop-require-preserved c =
    let g = c.args.graph.now in
    let here = subst (λ o. IfSome o (IsMarked c.args.bits.now)) c.successor.ensures.node (c.if-not-is_set.ensures.0 refl) in
    below_more (λ r. IfSome (leads_by g c.args.node r) (IsMarked c.args.bits.now)) c.loop-require.require c.loop-require.invariant here

-- a port that leads to a node that isn't marked
unset : (g : Graph) (bits : List Bool) (node require : ℕ) (o : Option ℕ) → leads_by g node require ≡ o → ¬ IfSome o (IsMarked bits) → LeadsToUnmarked g bits node
unset g bits node require None leads free = absurd (free tt)
unset g bits node require (Some j) leads free = (j, leads_by-MayCall g node require j leads, free)

pub returns-then-not-is_set-clause-unmarked : goal.returns-then-not-is_set-clause-unmarked
returns-then-not-is_set-clause-unmarked c = λ t.
    unset c.args.graph.now c.args.bits.now c.args.node c.loop-require.require (leads_by c.args.graph.now c.args.node c.loop-require.require) refl
    (λ set_. true≢false (sym (c.is_set.ensures.1 (subst (λ o. IfSome o (IsMarked c.args.bits.now)) (sym c.successor.ensures.node) set_)) ∙ c.if-not-is_set.true))

pub returns-clause-marked : goal.returns-clause-marked
returns-clause-marked c =
    let g = c.args.graph.now in
    let count = requires_is g.nodes c.args.node c.requires_-require-end.result c.node.result.now c.node.ensures c.requires_-require-end.ensures in
    let all : requires_at g.nodes c.args.node ≤ c.loop-require.require = omega (arith, count) in
    λ t. leads_only g c.args.node c.loop-require.require (IsMarked c.args.bits.now) all c.loop-require.invariant
