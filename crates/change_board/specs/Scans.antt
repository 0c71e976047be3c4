-- To be believed (definitions.md).
-- Scans: turns given to nodes, then sights of nodes, and a look at each port.
use Rattle.std.specs.Prelude.{◌≡◌, ◌==◌, ℕ, Bool, true, false, not, ◌&&◌, ◌||◌, List, ◌∷◌, ◌++◌, map, length, filter, Option, Some}
use Rattle.std.specs.List.{list_all, range_with_len, sum_by}
use Rattle.quiesce_core.specs.Rules.{is_live_port}
use Rattle.quiesce_core.specs.State.{Configuration, is_live}
use Rattle.quiesce_core.specs.declared.event.Event.{Event}
use Rattle.change_board.specs.declared.board.Scan.{Scan}
use Rattle.txn_records.specs.Entries.{config_of}
use Rattle.txn_records.specs.declared.entry.Entry.{Entry}
use Rattle.txn_records.specs.declared.entry.Entry.TheVariants.{Looked, Scanned}
use Rattle.txn_records.specs.Looks.{ended_in_word, is_idle_word}
use Rattle.txn_records.specs.Records.{Adds}
use Rattle.change_board.specs.Sights.{Sight, is_seen_done, seen_in, sight_entry}

-- a port with the word that a look at it loaded
pub record Found : Type 0 where
  pub port : ℕ
  pub word : ℕ

abbrev pub look_entry : Found → Entry
look_entry f = Looked f.port f.word

abbrev pub ports_of : List Found → List ℕ
ports_of found = map (λ (f : Found). f.port) found

abbrev pub all_ports : Configuration → List ℕ
all_ports c = range_with_len 0 (length c.gates)

abbrev pub live_nodes : Configuration → List ℕ
live_nodes c = filter (is_live c) (range_with_len 0 (length c.slots))

-- whether each live node was sighted, and is done by what was seen, and each look at a live port found no transaction
abbrev pub is_idle_if_live : Configuration → Found → Bool
is_idle_if_live c f = not (is_live_port c f.port) || is_idle_word f.word

abbrev pub is_seen_at_rest : Configuration → List Sight → List Found → Bool
is_seen_at_rest c sights found =
    list_all (is_seen_done c (seen_in sights)) (live_nodes c) && list_all (is_idle_if_live c) found

-- how many transactions the words show as ended
abbrev pub ended_in : List Found → ℕ
ended_in found = sum_by (λ (f : Found). ended_in_word f.word) found

-- the mark of a scan, its sights, and its looks
abbrev pub scan_entries : Bool → Bool → List Sight → List Found → List Entry
scan_entries begins moved sights found = Scanned begins moved ∷ (map sight_entry sights ++ map look_entry found)

-- each node made was sighted, in the order of slots
abbrev pub SightsAll : Configuration → List Sight → Type 0
SightsAll c sights = map (λ (s : Sight). s.slot) sights ≡ range_with_len 0 (length c.slots)

-- whether both sights of a node were made, and show as many events
abbrev pub is_as_long : Option (List Event) → Option (List Event) → Bool
is_as_long (Some a) (Some b) = length a == length b
is_as_long _ _ = false

abbrev pub is_seen_as_before : List Sight → List Sight → ℕ → Bool
is_seen_as_before first now n = is_as_long (seen_in first n) (seen_in now n)

-- The record ends with a scan whose looks found no transaction at a live port, and these sights of the next one show
-- each live node as done, with as many events as that scan saw of it.
pub record IsSeenTwice (r : List Entry) (now : List Sight) : Type 0 where
  pub front : List Entry
  pub begins : Bool
  pub moved : Bool
  pub first : List Sight
  pub found : List Found
  pub ends : r ≡ front ++ scan_entries begins moved first found
  pub at_ports : ports_of found ≡ all_ports (config_of r)
  pub idle : list_all (is_idle_if_live (config_of r)) found ≡ true
  pub as_long : list_all (is_seen_as_before first now) (live_nodes (config_of r)) ≡ true
  pub done : list_all (is_seen_done (config_of r) (seen_in now)) (live_nodes (config_of r)) ≡ true

-- What a scan adds to the records of a board, and what it answers. It answers `done` only where it saw all at rest. A
-- board that is alone, which gets every node, sights each one, and answers so exactly then. Elsewhere nodes go on
-- between two sights, so there the scan before it must have seen the same.
pub record AddsScan {B : Type 0} (S : B → List Entry → Type 0) (alone : Bool) (old new : B) (begins : Bool) (s : Scan)
    : Type 0 where
  pub sights : List Sight
  pub found : List Found
  pub adds : Adds S old new (scan_entries begins s.moved sights found)
  pub at_ports : (r : List Entry) → S old r → ports_of found ≡ all_ports (config_of r)
  pub all_sighted : alone ≡ true → (r : List Entry) → S old r → SightsAll (config_of r) sights
  pub done : alone ≡ true → (r : List Entry) → S old r → s.done ≡ is_seen_at_rest (config_of r) sights found
  pub at_rest : (r : List Entry) → S old r → s.done ≡ true → is_seen_at_rest (config_of r) sights found ≡ true
  pub twice : alone ≡ false → (r : List Entry) → S old r → s.done ≡ true → IsSeenTwice r sights
  pub ended : s.ended ≡ ended_in found
