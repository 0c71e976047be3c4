-- To be believed (definitions.md).
-- Inboxes of hints, one a node: each is a list, with what was counted of its answers.
use Rattle.std.specs.Prelude.{◌≡◌, ℕ, Bool, nat_lt, List, [], ◌∷◌, ◌++◌, length, drop, slice_get, Option, Some, None, Result, Ok, Err, if◌then◌else◌}
use Rattle.base.specs.Count.{Rose}
use Rattle.port_queue.specs.declared.TheConstants.{MAX_HINTS}
use Rattle.port_queue.specs.declared.hints.Full.{Full}

-- What a way into the inboxes counts of a node: its None and Full answers and the hints that it gave, which never
-- fall; and the last hint that it gave.
pub record Counts : Type 0 where
  pub refused : ℕ
  pub given : ℕ
  pub last : Option ℕ

abbrev pub no_counts : Counts
no_counts = record { refused = 0; given = 0; last = None }

-- an answer that leaves the inbox as it is
pub record Refused (old new : Counts) : Type 0 where
  pub refused : Rose old.refused new.refused
  pub given : new.given ≡ old.given
  pub last : new.last ≡ old.last

pub record Gave (old : Counts) (port : ℕ) (new : Counts) : Type 0 where
  pub refused : new.refused ≡ old.refused
  pub given : Rose old.given new.given
  pub last : new.last ≡ Some port

-- what is counted where a hint is put into the node's inbox, or taken from it
abbrev pub CountsPost : Counts → Result (Unit {0}) Full → Counts → Type 0
CountsPost old (Ok u) new = new ≡ old
CountsPost old (Err f) new = Refused old new

abbrev pub CountsNext : Counts → Option ℕ → Counts → Type 0
CountsNext old None new = Refused old new
CountsNext old (Some port) new = Gave old port new

-- a hint is put at the end of an inbox that has room, and taken from the front
abbrev pub has_room : List ℕ → Bool
has_room held = nat_lt (length held) MAX_HINTS

abbrev pub after_post : List ℕ → ℕ → List ℕ
after_post held port = if has_room held then held ++ port ∷ [] else held

abbrev pub after_next : List ℕ → List ℕ
after_next held = drop 1 held

abbrev pub front : List ℕ → Option ℕ
front held = slice_get held 0
