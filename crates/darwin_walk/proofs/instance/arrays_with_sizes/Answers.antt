use Rattle.base.proofs.AnswerLaws.{Answers-exit}
use Rattle.darwin_parser.specs.Tree.{array_of}
use Rattle.darwin_walk.specs.Value.{value}
use Rattle.darwin_walk.specs.Environment.{env_at}
use Rattle.darwin_walk.specs.Instance.{value_fault}
use Rattle.darwin_walk.proofs.CauseLaws.{fault-grow}
use Rattle.darwin_walk.proofs.instance.arrays_with_sizes.Goals as goal
use Rattle.base.proofs.ContainsLaws.{Contains-from}

pub returns-in_err-size : goal.returns-in_err-size
returns-in_err-size c =
    Answers-exit _ _ c.from_residual.ensures.1
    (fault-grow _ _ _ (Contains-from (λ a. value_fault a.at (value a.size (env_at c.args.env.now))) array_of _ _ _ _ c.loop-decl-test.true c.decl-item.is c.loop-decl.invariant.no_faults))
    c.in_err-size.ensures
