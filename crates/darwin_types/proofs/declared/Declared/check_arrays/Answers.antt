use Rattle.base.proofs.AnswerLaws.{Answers-exit}
use Rattle.darwin_parser.specs.Tree.{array_of}
use Rattle.darwin_types.specs.Check.{array_faults}
use Rattle.darwin_types.specs.Within.{tree_in, component_in}
use Rattle.darwin_types.proofs.declared.Declared.check_arrays.Goals as goal
use Rattle.base.proofs.ContainsLaws.{Contains-from}

pub returns-in_err-check_array : goal.returns-in_err-check_array
returns-in_err-check_array c =
    let faults = array_faults (tree_in c.args.self.now) (component_in c.args.self.now) c.args.params.now in
    Answers-exit _ _ c.from_residual.ensures.1 (Contains-from faults array_of c.args.arrays.now c.loop-array.array-index c.array-item.result _ c.loop-array-test.true c.array-item.is c.loop-array.invariant) c.in_err-check_array.ensures
