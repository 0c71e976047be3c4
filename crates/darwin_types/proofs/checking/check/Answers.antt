use Rattle.std.specs.List.{Contains}
use Rattle.base.proofs.AnswerLaws.{Answers-exit}
use Rattle.darwin_parser.specs.Tree.{tree_of}
use Rattle.darwin_types.proofs.Sound.{unit_sound}
use Rattle.darwin_types.proofs.Verdict.{no_fault}
use Rattle.darwin_types.proofs.checking.check.Goals as goal

pub returns-in_err-index-clause-every_unit : goal.returns-in_err-index-clause-every_unit
returns-in_err-index-clause-every_unit c = λ none.
    Answers-exit {Cause = Contains _} _ _ c.from_residual.ensures.1 (λ e has. none e (unit_sound (tree_of c.args.unit) e has))
    (rw c.as_slice.ensures.value at c.in_err-index.ensures.judged)

pub returns-in_err-index-clause-fault : goal.returns-in_err-index-clause-fault
returns-in_err-index-clause-fault c =
    Answers-exit _ _ c.from_residual.ensures.1 (unit_sound (tree_of c.args.unit)) (rw c.as_slice.ensures.value at c.in_err-index.ensures.judged)

pub invariant_of-result : goal.invariant_of-result
invariant_of-result c =
    record {
      no_fault = no_fault (tree_of c.args.unit) (rw c.as_slice.ensures.value at c.in_ok-index.ensures.judged);
      named = rw c.as_slice.ensures.value at c.in_ok-index.ensures.names;
      with_ports = rw c.as_slice.ensures.value at c.in_ok-index.ensures.ports;
      noted = rw c.as_slice.ensures.value at c.in_ok-index.ensures.primitive;
    }
