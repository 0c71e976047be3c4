-- The variables that a place sees.
use Rattle.std.specs.Prelude.{◌++◌}
use Rattle.darwin_walk.specs.Value.{Env}
use Rattle.darwin_walk.specs.Spine.{env_of}
use Rattle.darwin_walk.specs.declared.environment.Environment.{Environment}

-- the parameters, and the variables within
abbrev pub env_at : Environment → Env
env_at e = env_of e.parameters.now ++ env_of e.variables.now
