-- What a board keeps of its last scan: how long the log of each sighted node was.
use Rattle.std.specs.Prelude.{◌≡◌, ⊤, ℕ, ◌<◌, Bool, true, false, ◌==◌, List, ◌++◌, length, slice_index_or, slice_set, Option, Some, None, is_none, option_map, if◌then◌else◌}
use Rattle.std.specs.List.{list_all}
use Rattle.change_board.specs.Scans.{Found, all_ports, is_idle_if_live, live_nodes, ports_of, scan_entries}
use Rattle.change_board.specs.Sights.{Sight, seen_in}
use Rattle.quiesce_core.specs.State.{Configuration}
use Rattle.txn_records.specs.Entries.{config_of}
use Rattle.txn_records.specs.declared.entry.Entry.{Entry}

-- how many events were seen of the node in slot n, where it was sighted
abbrev pub length_in : List Sight → ℕ → Option ℕ
length_in sights n = option_map length (seen_in sights n)

abbrev pub length_at : List (Option ℕ) → ℕ → Option ℕ
length_at lengths n = slice_index_or lengths n None

-- these are they, by slot
abbrev pub AreLengths : List Sight → List (Option ℕ) → Type 0
AreLengths sights lengths = (n : ℕ) → n < length lengths → length_at lengths n ≡ length_in sights n

-- the record ends with a scan whose looks at live ports all found them idle, and these are the lengths that it saw, one
-- place for each node made
pub record EndsIdle (r : List Entry) (lengths : List (Option ℕ)) : Type 0 where
  pub front : List Entry
  pub begins : Bool
  pub moved : Bool
  pub sights : List Sight
  pub found : List Found
  pub ends : r ≡ front ++ scan_entries begins moved sights found
  pub at_ports : ports_of found ≡ all_ports (config_of r)
  pub idle : list_all (is_idle_if_live (config_of r)) found ≡ true
  pub all : length lengths ≡ length (config_of r).slots
  pub lengths_are : AreLengths sights lengths

abbrev pub IsLast : List Entry → Option (List (Option ℕ)) → Type 0
IsLast r None = ⊤
IsLast r (Some lengths) = EndsIdle r lengths

-- with the length of one node's log more, where none was noted of it
abbrev pub noted : List (Option ℕ) → ℕ → ℕ → List (Option ℕ)
noted lengths n count = if is_none (length_at lengths n) then slice_set lengths n (Some count) else lengths

-- whether both are there and the same
abbrev pub is_alike : Option ℕ → Option ℕ → Bool
is_alike (Some a) (Some b) = a == b
is_alike _ _ = false

-- whether there is a last scan, of which each live node has the length that is seen now
abbrev pub is_as_last : Configuration → Option (List (Option ℕ)) → (ℕ → Option ℕ) → Bool
is_as_last c None now = false
is_as_last c (Some first) now = list_all (λ n. is_alike (length_at first n) (now n)) (live_nodes c)
