use Rattle.std.proofs.Common.{◌≡◌, drop}
use Rattle.darwin_walk.specs.Value.{value_of_name}
use Rattle.darwin_walk.specs.Spine.{env_of}
use Rattle.darwin_walk.proofs.environment.value_among.Given as goal

-- no variable so far has the name
abbrev pub invariant-loop-v : goal.invariant-loop-v
invariant-loop-v l =
    value_of_name (env_of l.variables) l.name ≡ value_of_name (env_of (drop l.v-index l.variables)) l.name
