use Rattle.std.proofs.Common.{rules, ap}
use Rattle.darwin_walk.specs.declared.fault.Fault.TheVariants as shown
use Rattle.darwin_walk.specs.declared.fault.WalkError.TheVariants as walk
use Rattle.elaborator.specs.declared.error.ElabError.TheVariants as error
use Rattle.elaborator.proofs.making.make.Goals as goal

pub returns-then-not-are_kind_arguments : goal.returns-then-not-are_kind_arguments
returns-then-not-are_kind_arguments c = λ other.
    let at = c.args.child.now.at in (
      walk.Fault (shown.OutOfRange at),
      ap (λ path. error.OutOfRange path at) c.in_ok-try_clone.ensures,
      search rules,
    )
