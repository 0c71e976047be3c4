use Rattle.std.proofs.Common.{◌≡◌, ◌++◌, drop, option_map}
use Rattle.std.specs.List.{flat_map}
use Rattle.darwin_walk.specs.Environment.{env_at}
use Rattle.darwin_walk.specs.Instance.{values, integers, value_fault}
use Rattle.darwin_walk.specs.Scope.{exprs_of}
use Rattle.darwin_walk.proofs.scope.values_at.Given as goal

-- the values so far are integers, and what is left to tell is told by the expressions that are left
abbrev pub invariant-loop-expr : goal.invariant-loop-expr
invariant-loop-expr l =
    record {
      no_faults :
          flat_map (value_fault l.at) (values (exprs_of l.exprs) (env_at l.env))
          ≡ flat_map (value_fault l.at) (values (exprs_of (drop l.expr-index l.exprs)) (env_at l.env));
      all :
          integers (values (exprs_of l.exprs) (env_at l.env))
          ≡ option_map (λ zs. l.worths.items ++ zs) (integers (values (exprs_of (drop l.expr-index l.exprs)) (env_at l.env)));
    }
