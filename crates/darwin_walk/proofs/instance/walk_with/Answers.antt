use Rattle.std.proofs.Common.{◌<◌, append-nil, subst}
use Rattle.darwin_parser.specs.Tree.{component_of}
use Rattle.darwin_walk.specs.Spine.{env_of}
use Rattle.darwin_walk.specs.Reached.{count}
use Rattle.darwin_walk.specs.Instance.{instance_faults}
use Rattle.darwin_walk.specs.Walked.{JudgesPart, IsWalked}
use Rattle.darwin_walk.proofs.instance.walk_with.Goals as goal

pub returns : goal.returns
returns c =
    let k = component_of c.args.component.now in
    subst (λ env. JudgesPart (instance_faults k env) (c.args.room < count k env) (IsWalked k env c.args.room) c.walk_within.result) (append-nil (env_of c.args.parameters.now))
    c.walk_within.ensures
