use Rattle.std.proofs.Common.{◌≡◌, ◌∙◌, ◌-◌, sym, arith}
use Rattle.elaborator.specs.PortIndex.{chain_end}
use Rattle.elaborator.proofs.ChainLemmas.{end_of-last, end_of-step}
use Rattle.elaborator.proofs.chains.Targets.follow.Goals as goal

pub loop-preserved : goal.loop-preserved
loop-preserved c =
    (omega arith, end_of-step 68 c.loop.counter c.args.self.now _ _ (omega arith) (sym c.in-Some.ensures) ∙ c.loop.invariant.1)

pub returns-in-None : goal.returns-in-None
returns-in-None c = sym (end_of-last _ c.args.self.now c.loop.end (sym c.in-None.ensures)) ∙ c.loop.invariant.1

pub returns-after-loop : goal.returns-after-loop
unfolding chain_end
returns-after-loop c =
    let done : 68 - c.loop.counter ≡ 0 = omega arith in
    rw done at c.loop.invariant.1
