-- What a hand's entries are for.
use Rattle.std.specs.Prelude.{◌≡◌, ℕ, Option}
use Rattle.crossbeam_queue.specs.Passes.{IsPassOf, ruled_capacity}
use Rattle.crossbeam_queue.specs.declared.array_queue.Doing.{Doing}
use Rattle.crossbeam_queue.specs.declared.array_queue.Slotted.{Slotted}
use Rattle.live_hands.specs.declared.entry.Entry.{Entry}
use Rattle.live_hands.specs.declared.known.Known.{Known}
use Rattle.port_queue.specs.declared.TheConstants.{MAX_HINTS}

-- the entry's way is one in to the inbox, which has all its places
abbrev pub Opens : {Q A : Type 0} → ℕ → Slotted (Option ℕ) (Doing ℕ Known) Q A → Entry → Type 0
Opens node inbox e = (ruled_capacity inbox ≡ MAX_HINTS) × IsPassOf inbox e.way
