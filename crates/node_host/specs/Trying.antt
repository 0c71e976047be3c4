-- Hints that are posted or wait, and the look for the next one.
use Rattle.std.specs.Prelude.{◌≡◌, ◌⊎◌, ◌≤◌, ◌==◌, ◌+◌, ℕ, Bool, true, false, List, Option, Some, None, slice_index_or, if◌then◌else◌}
use Rattle.base.specs.Count.{Rose}
use Rattle.port_queue.specs.Inboxes.{Counts, Gave, Refused, after_post}

-- what is counted of the node for which a hint was posted, or refused
abbrev pub CountsTried : Bool → Counts → Counts → Type 0
CountsTried true old new = new ≡ old
CountsTried false old new = Refused old new

-- the node's inbox was asked for a hint, which gave one or was empty
abbrev pub LookedAt : Counts → Counts → Type 0
LookedAt old new = Refused old new ⊎ ((p : ℕ) × Gave old p new)

-- an inbox was asked for a hint since: one of its counts rose
abbrev pub IsAsked : Counts → Counts → Type 0
IsAsked old new = Rose old.refused new.refused ⊎ Rose old.given new.given

-- hints were posted, or refused, and none was given
abbrev pub IsGrown : Counts → Counts → Type 0
IsGrown old new = (old.refused ≤ new.refused) × (new.given ≡ old.given)

-- what an inbox of this node holds once a hint for it that waited was posted
abbrev pub own_post : ℕ → ℕ → Option ℕ → List ℕ → List ℕ
own_post slot p None held = held
own_post slot p (Some m) held = if m == slot then after_post held p else held

-- the node's own inbox once its waiting hints were posted, by port
abbrev pub own_box : ℕ → ℕ → List (Option ℕ) → List ℕ → List ℕ
own_box slot first waiting held =
    own_post slot (first + 1) (slice_index_or waiting 1 None) (own_post slot first (slice_index_or waiting 0 None) held)
