-- The state that the tables of the program stand for, and what holds of the tables of a machine.
use Rattle.std.specs.Prelude.{ℕ, ◌+◌, ◌*◌, ◌≤◌, length, vec_capacity}
use Rattle.quiesce_core.specs.declared.tables.Tables.{Tables}
use Rattle.quiesce_core.specs.Links.{config_in}
use Rattle.quiesce_core.specs.State.{State}
use Rattle.quiesce_core.specs.WellFormed.{IsWellFormed}
use Rattle.quiesce_core.specs.Traffic.{IsConsistent}
use Rattle.quiesce_core.specs.Named.{AreNamed}

abbrev pub state_of : Tables → State
state_of t =
    record {
      config = config_in t.links;
      traffic = record { services = t.services.items; exchanges = t.exchanges.items };
    }

-- there is room in the tables for so many nodes, of two ports at most each
pub record HasRoomToMake (t : Tables) (spare : ℕ) : Type 0 where
  pub slots : length t.links.slots.items + spare ≤ vec_capacity t.links.slots
  pub services : length t.services.items + spare ≤ vec_capacity t.services
  pub gates : length t.links.gates.items + 2 * spare ≤ vec_capacity t.links.gates
  pub exchanges : length t.exchanges.items + 2 * spare ≤ vec_capacity t.exchanges

-- what there was room for there is room for still
abbrev pub KeepsRoom : Tables → Tables → Type 0
KeepsRoom old new = (spare : ℕ) → HasRoomToMake old spare → HasRoomToMake new spare

-- the tables of a machine with this number in reserve
pub record IsKept (t : Tables) (spare : ℕ) : Type 0 where
  pub well_formed : IsWellFormed (state_of t)
  pub consistent : IsConsistent (state_of t)
  pub named : AreNamed (state_of t).config
  pub room : HasRoomToMake t spare
