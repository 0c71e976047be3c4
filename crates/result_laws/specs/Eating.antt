-- Meals: transactions of a philosopher that were answered 1.
use Rattle.std.specs.Prelude.{Bool, false, ◌==◌}
use Rattle.quiesce_core.specs.declared.event.Event.{Event}
use Rattle.quiesce_core.specs.declared.event.Event.TheVariants.{End}

abbrev pub is_meal : Event → Bool
is_meal (End p k v) = v == 1
is_meal _ = false
