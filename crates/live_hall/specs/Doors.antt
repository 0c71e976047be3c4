-- What a door's keys open, and what it counts.
use Rattle.std.specs.Prelude.{◌≡◌, ℕ, List, Option, replicate}
use Rattle.config_graph.specs.declared.TheConstants.{MAX_NODES}
use Rattle.crossbeam_queue.specs.Passes.{IsPassOf, view}
use Rattle.crossbeam_queue.specs.declared.array_queue.Doing.{Doing}
use Rattle.crossbeam_queue.specs.declared.array_queue.Slotted.{Slotted}
use Rattle.live_hall.specs.declared.guest.Guest.{Guest}
use Rattle.live_hall.specs.declared.lock.Lock.{Lock}
use Rattle.live_hall.specs.declared.place.Place.{Place}
use Rattle.live_hall.specs.Houses.{place}

-- the key is one of the slot's cell
abbrev pub Opens : {Q A : Type 0} → ℕ → Slotted (Option Guest) (Doing Guest Place) Q A → Lock → Type 0
Opens slot cell lock = IsPassOf cell lock.key × (view lock.key ≡ place slot)

-- how often the door found a cell empty
abbrev pub missed : Lock → ℕ
missed l = l.missed

-- before its first call
abbrev pub none_missed : List ℕ
none_missed = replicate MAX_NODES 0
