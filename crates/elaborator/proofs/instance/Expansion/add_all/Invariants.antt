use Rattle.std.proofs.Common.{◌≡◌, ◌++◌, List}
use Rattle.std.specs.Vec.Iter.{into_iter_items}
use Rattle.elaborator.specs.Growth.{IsExtended}
use Rattle.elaborator.specs.declared.instance.Instance as code
use Rattle.elaborator.proofs.instance.Expansion.add_all.Given as goal

-- the instances so far are added
abbrev pub invariant-loop-instance : goal.invariant-loop-instance
invariant-loop-instance l =
    record {
      can_next : (goal.iterator-loop-instance).can_next l.instance-iterator;
      is_finite : (goal.iterator-loop-instance).is_finite l.instance-iterator;
      added : List code.Instance;
      parts : l.fn.made.items ≡ added ++ into_iter_items l.instance-iterator;
      extended : IsExtended l.fn.self added l.self;
    }
