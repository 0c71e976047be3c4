use Rattle.std.proofs.Common.{◌≡◌, List, [], Option, Some, None, option_map, refl}
use Rattle.std.specs.Option.{option_map_or}
use Rattle.base.proofs.AnswerLaws.{Answers-exit}
use Rattle.darwin_parser.specs.Tree.{port_of, expr_of}
use Rattle.darwin_walk.specs.Value.{value}
use Rattle.darwin_walk.specs.Environment.{env_at}
use Rattle.darwin_walk.specs.Instance.{value_fault}
use Rattle.darwin_walk.proofs.CauseLaws.{fault-grow}
use Rattle.darwin_walk.proofs.instance.port_sizes_of.Goals as goal
use Rattle.base.proofs.ContainsLaws.{Contains-from}

through : {A B C : Type 0} (g : B → List C) (h : A → B) (o : Option A) → option_map_or g (option_map h o) [] ≡ option_map_or (λ x. g (h x)) o []
through g h None = refl
through g h (Some x) = refl

pub returns-in_err-index_at : goal.returns-in_err-index_at
returns-in_err-index_at c =
    Answers-exit _ _ c.from_residual-in_err-index_at.ensures.1
    (fault-grow _ _ _
    (λ f has.
    Contains-from (λ p. option_map_or (λ e. value_fault p.at (value e (env_at c.args.env.now))) p.size []) port_of _ _ _ _
    c.loop-port-test.true c.port-item.is c.loop-port.invariant.no_faults f
    (rw (through (λ e. value_fault c.port-item.result.at (value e (env_at c.args.env.now))) expr_of c.port-item.result.size) has)))
    c.in_err-index_at.ensures
