-- To be believed (definitions.md).
-- Tests of single events.
use Rattle.std.specs.Prelude.{ℕ, Bool, true, false, ◌&&◌, ◌==◌}
use Rattle.quiesce_core.specs.declared.event.Event.{Event}
use Rattle.quiesce_core.specs.declared.event.Event.TheVariants.{Begin, Take, Give, End, More, Ask, Hear, Reopen, Link, Remove}

-- whether an event removes node n
abbrev pub removes : ℕ → Event → Bool
removes n (Remove m) = m == n
removes n _ = false

-- whether it reopens port p
abbrev pub reopens : ℕ → Event → Bool
reopens p (Reopen q) = q == p
reopens p _ = false

-- whether it makes a link
abbrev pub is_link : Event → Bool
is_link (Link p n x) = true
is_link _ = false

-- whether it reopens some port or makes a link
abbrev pub is_reopen_or_link : Event → Bool
is_reopen_or_link (Reopen p) = true
is_reopen_or_link (Link p n x) = true
is_reopen_or_link _ = false

-- whether it ends a transaction
abbrev pub ends_transaction : Event → Bool
ends_transaction (End p k v) = true
ends_transaction _ = false

-- whether it begins a root of port p with serial k
abbrev pub is_root_of : ℕ → ℕ → Event → Bool
is_root_of p k (Begin q j v) = q == p && j == k
is_root_of p k _ = false

-- whether it is the Take of the transaction of port p with serial k, and so on
abbrev pub is_take_of : ℕ → ℕ → Event → Bool
is_take_of p k (Take q j v) = q == p && j == k
is_take_of p k _ = false

abbrev pub is_give_of : ℕ → ℕ → Event → Bool
is_give_of p k (Give q j v) = q == p && j == k
is_give_of p k _ = false

abbrev pub is_more_of : ℕ → ℕ → Event → Bool
is_more_of p k (More q j v) = q == p && j == k
is_more_of p k _ = false

abbrev pub is_ask_of : ℕ → ℕ → Event → Bool
is_ask_of p k (Ask q j v) = q == p && j == k
is_ask_of p k _ = false

abbrev pub is_hear_of : ℕ → ℕ → Event → Bool
is_hear_of p k (Hear q j v) = q == p && j == k
is_hear_of p k _ = false

-- whether it is a further step of that transaction which its initiator makes, or one that its target makes
abbrev pub is_of_initiator : ℕ → ℕ → Event → Bool
is_of_initiator p k (Ask q j v) = q == p && j == k
is_of_initiator p k (End q j v) = q == p && j == k
is_of_initiator p k _ = false

abbrev pub is_of_target : ℕ → ℕ → Event → Bool
is_of_target p k (Take q j v) = q == p && j == k
is_of_target p k (Give q j v) = q == p && j == k
is_of_target p k (More q j v) = q == p && j == k
is_of_target p k (Hear q j v) = q == p && j == k
is_of_target p k _ = false
