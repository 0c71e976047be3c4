use Rattle.std.proofs.Common.{◌≡◌, ℕ, suc, ◌<◌, map, length, slice_get, Some, IfSome}
use Rattle.std.specs.Option.{option_map_or}
use Rattle.elaborator.specs.PathNumbers.{LeadsTo}
use Rattle.elaborator.specs.declared.instance.Instance as shown
use Rattle.elaborator.proofs.path_index.PathIndex.find_from.Given as goal

-- what is left to look through has each number of the path to which the start leads
abbrev pub invariant-loop-next : goal.invariant-loop-next
invariant-loop-next l =
    record {
      within : IfSome l.next (λ m. (0 < m) × (m < length (map (λ (i : shown.Instance). i.path) l.instances)));
      left :
          (n : ℕ) → LeadsTo l.self.before.items n l.fn.start → slice_get (map (λ (i : shown.Instance). i.path) l.instances) n ≡ Some l.path
          → LeadsTo l.self.before.items n l.next;
    }

-- each number leads to a smaller one
abbrev pub decreases-loop-next : goal.decreases-loop-next
decreases-loop-next l = option_map_or suc l.next 0
