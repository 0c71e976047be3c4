use Rattle.std.proofs.Common.{◌∙◌, ap, arith}
use Rattle.darwin_parser.specs.Tree.{tree_of}
use Rattle.elaborator.specs.Expansion.{instance_in}
use Rattle.elaborator.proofs.ExpandLemmas.{whole}
use Rattle.elaborator.proofs.growing.expand.Goals as goal

pub loop-growth-smaller : goal.loop-growth-smaller
loop-growth-smaller c =
    let growth = c.loop-growth.invariant.growth in
    let next = c.in_ok-open_next.ensures (instance_in c.args.top) growth in
    omega (arith, next.1, growth.few, c.loop-growth-test.true, c.len.ensures, c.loop-growth.growth.expansion.instances.ok.0)

pub loop-growth-preserved : goal.loop-growth-preserved
loop-growth-preserved c =
    let next = c.in_ok-open_next.ensures (instance_in c.args.top) c.loop-growth.invariant.growth in
    record { same_tree = ap (λ u. tree_of u.now) next.0 ∙ c.loop-growth.invariant.same_tree; growth = next.2 }

pub returns : goal.returns
returns c =
    let growth = c.loop-growth.invariant.growth in
    whole c.args.directory.unit.now c.args.top c.loop-growth.growth c.requires c.loop-growth.invariant.same_tree growth
    (omega (arith, c.loop-growth-test.false, c.len.ensures, c.loop-growth.growth.expansion.instances.ok.0))
