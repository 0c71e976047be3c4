use Rattle.std.proofs.Common.{◌≡◌, ◌++◌, map}
use Rattle.std.specs.List.{zip}
use Rattle.darwin_parser.specs.Tree.{component_of}
use Rattle.darwin_walk.specs.Value.{parameters}
use Rattle.darwin_walk.specs.Spine.{env_of}
use Rattle.darwin_walk.proofs.instance.parameters_of.Given as goal

-- the parameters so far, and those that are left
abbrev pub invariant-loop-name : goal.invariant-loop-name
invariant-loop-name l =
    parameters (component_of l.component) l.fn.arguments
    ≡ env_of l.variables.items ++ map (λ p. record { name = p.0; value = p.1 }) (zip l.name-iterator.a.rest.now l.name-iterator.b.rest.now)
