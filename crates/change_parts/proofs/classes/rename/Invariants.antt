use Rattle.std.proofs.Common.{◌≡◌, ◌<◌, ◌≤◌, ℕ, get_or}
use Rattle.change_parts.specs.Classes.{renamed}
use Rattle.change_parts.proofs.classes.rename.Given as goal

abbrev pub invariant-loop-item : goal.invariant-loop-item
invariant-loop-item l =
    ((k : ℕ) → k < l.item-index → get_or l.list k 0 ≡ renamed l.from l.to (get_or l.initial.list k 0)) ×
    ((k : ℕ) → l.item-index ≤ k → get_or l.list k 0 ≡ get_or l.initial.list k 0)
