-- To be believed (definitions.md).
-- Who does an event: a port's owner, its target, or the change; and tests of single events.
use Rattle.std.specs.Prelude.{ℕ, Bool, true, false, ◌==◌}
use Rattle.quiesce_core.specs.declared.event.Event.{Event}
use Rattle.quiesce_core.specs.declared.event.Event.TheVariants.{Begin, Call, Give, More, Ask, End, Miss, Close, Reopen, Make, Link, Unlink, Remove}

abbrev pub is_of_owner : Event → Bool
is_of_owner (Begin p k v) = true
is_of_owner (Call p k v) = true
is_of_owner (Miss p) = true
is_of_owner (Ask p k v) = true
is_of_owner (End p k v) = true
is_of_owner _ = false

abbrev pub is_of_change : Event → Bool
is_of_change (Close p) = true
is_of_change (Reopen p) = true
is_of_change (Make n node from) = true
is_of_change (Link p n x) = true
is_of_change (Unlink p) = true
is_of_change (Remove n) = true
is_of_change _ = false

-- whether the target answers at port p or replies there, or its owner sends a further message or ends the transaction
abbrev pub is_give_at : ℕ → Event → Bool
is_give_at p (Give q k v) = q == p
is_give_at p _ = false

abbrev pub is_more_at : ℕ → Event → Bool
is_more_at p (More q k v) = q == p
is_more_at p _ = false

abbrev pub is_ask_at : ℕ → Event → Bool
is_ask_at p (Ask q k v) = q == p
is_ask_at p _ = false

abbrev pub is_end_at : ℕ → Event → Bool
is_end_at p (End q k v) = q == p
is_end_at p _ = false

-- whether an event links or unlinks port p
abbrev pub relinks : ℕ → Event → Bool
relinks p (Link q n x) = q == p
relinks p (Unlink q) = q == p
relinks p _ = false

-- an event by which a node goes, or comes to be
abbrev pub is_remove : Event → Bool
is_remove (Remove n) = true
is_remove _ = false

abbrev pub is_make : Event → Bool
is_make (Make n node from) = true
is_make _ = false
