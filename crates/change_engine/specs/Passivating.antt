-- To be believed (definitions.md).
-- How ports are passivated (Kramer and Magee 1990): they are closed, looked at, and looked at again after each of some
-- scans in which no node begins a transaction, until each was found drained.
use Rattle.std.specs.Prelude.{◌≡◌, ◌⊎◌, ◌≤◌, ◌<◌, ℕ, All, IsTrue, Bool, false, not, List, [], ◌∷◌, ◌++◌, map, filter, flat_map, fold, length, vec_capacity, if◌then◌else◌}
use Rattle.base.specs.Each.{Each}
use Rattle.report_types.specs.declared.report.HistoryLine.{HistoryLine}
use Rattle.report_types.specs.declared.report.HistoryLine.TheVariants as to
use Rattle.quiesce_core.specs.declared.event.Event.TheVariants as event
use Rattle.quiesce_core.specs.Rules.{is_live_port}
use Rattle.quiesce_core.specs.State.{Configuration}
use Rattle.txn_records.specs.declared.looking.Look.{Look}
use Rattle.txn_records.specs.declared.looking.Look.TheVariants.{Drained, Busy}
use Rattle.txn_records.specs.declared.entry.Entry.{Entry}
use Rattle.txn_records.specs.declared.entry.Entry.TheVariants.{Did, Looked}
use Rattle.txn_records.specs.Looks.{is_drained_word, serial_of}
use Rattle.change_board.specs.declared.board.Board.{Ghosts as BoardWords}
use Rattle.change_board.specs.Scans.{Found, ports_of, scan_entries}
use Rattle.change_board.specs.Sights.{Sight}
use Rattle.change_board.specs.Transcripts.{Item, silent, told}
use Rattle.change_engine.specs.declared.passivating.LeftRoot.{LeftRoot}
use Rattle.change_engine.specs.declared.passivating.Waiting.{Waiting}
use Rattle.change_engine.specs.Growing.{Grew, Telling}

-- so many ports can be waited for, without more memory
pub record HasPlaceFor (waiting : Waiting) (count : ℕ) : Type 0 where
  pub ports : count ≤ vec_capacity waiting.ports
  pub left : count ≤ vec_capacity waiting.left

-- a look that isn't a scan's; the history tells it where it found the port drained
abbrev pub item_at : ℕ → ℕ → Item
item_at p w = if is_drained_word w then told (Looked p w) (to.Drained p (serial_of w)) else silent (Looked p w)

abbrev pub look_item : Found → Item
look_item f = item_at f.port f.word

-- by what a look answers: the line that tells it, and the root that it saw
abbrev pub lines_by : ℕ → Look → List HistoryLine
lines_by p (Drained k idle) = to.Drained p k ∷ []
lines_by p (Busy w) = []

abbrev pub roots_by : ℕ → Look → List LeftRoot
roots_by p (Drained k idle) = []
roots_by p (Busy w) = record { port = p; serial = serial_of w } ∷ []

abbrev pub AreLivePorts : Configuration → List ℕ → Type 0
AreLivePorts c ports = All (λ p. IsTrue (is_live_port c p)) ports

abbrev pub AreMadePorts : Configuration → List ℕ → Type 0
AreMadePorts c ports = All (λ p. p < length c.gates) ports

-- the roots that looks saw: the ports that weren't drained, each with its serial
abbrev pub root_of : Found → LeftRoot
root_of f = record { port = f.port; serial = serial_of f.word }

abbrev pub is_busy : Found → Bool
is_busy f = not (is_drained_word f.word)

abbrev pub roots_of : List Found → List LeftRoot
roots_of found = map root_of (filter is_busy found)

abbrev pub root_ports : List LeftRoot → List ℕ
root_ports roots = map (λ (x : LeftRoot). x.port) roots

-- one look at each of these ports
pub record Passed {B : Type 0} (words : BoardWords B) (old new : Telling B) (ports : List ℕ) (left : List LeftRoot) : Type 0 where
  pub found : List Found
  pub at_ports : ports_of found ≡ ports
  pub left_is : left ≡ roots_of found
  pub grew : Grew words old new (map look_item found)

-- a round: a scan without begins, and a look at each port that isn't drained yet
pub record WaitingRound : Type 0 where
  pub moved : Bool
  pub sights : List Sight
  pub scan : List Found
  pub found : List Found

abbrev pub silent_items : List Entry → List Item
silent_items es = map silent es

abbrev pub round_items : WaitingRound → List Item
round_items w = silent_items (scan_entries false w.moved w.sights w.scan) ++ map look_item w.found

-- a round at the ports of these roots, and the roots that its look saw
pub record Rounded {B : Type 0} (words : BoardWords B) (old new : Telling B) (left next : List LeftRoot) : Type 0 where
  pub round : WaitingRound
  pub at_left : ports_of round.found ≡ root_ports left
  pub next_is : next ≡ roots_of round.found
  pub grew : Grew words old new (round_items round)

-- what is left after a first look and rounds
abbrev pub left_after : List Found → List WaitingRound → List LeftRoot
left_after first rounds = fold (λ left (w : WaitingRound). roots_of w.found) (roots_of first) rounds

-- what the last look saw
abbrev pub last_look : List Found → List WaitingRound → List Found
last_look first rounds = fold (λ found (w : WaitingRound). w.found) first rounds

-- where something is left, a round looks at it
pub record IsRound (first : List Found) (before : List WaitingRound) (w : WaitingRound) : Type 0 where
  pub some_left : (left_after first before ≡ [] → ⊥)
  pub at_left : ports_of w.found ≡ root_ports (left_after first before)

abbrev pub close_item : ℕ → Item
close_item p = told (Did (event.Close p)) (to.Close p)

pub record Passivation : Type 0 where
  pub first : List Found
  pub rounds : List WaitingRound

abbrev pub passivation_items : List ℕ → Passivation → List Item
passivation_items ports w = map close_item ports ++ map look_item w.first ++ flat_map round_items w.rounds

-- the first look is at each of these ports, and at most so many rounds follow
pub record IsPassivation (ports : List ℕ) (within : ℕ) (w : Passivation) : Type 0 where
  pub at_ports : ports_of w.first ≡ ports
  pub each_round : Each (IsRound w.first) w.rounds
  pub few : length w.rounds ≤ within

-- It ends where nothing is left, or after the last round. So something is left exactly where the first look and each of
-- the rounds saw a root.
pub record Passivated {B : Type 0} (words : BoardWords B) (old new : Telling B) (ports : List ℕ) (within : ℕ) (left : List LeftRoot)
    : Type 0 where
  pub how : Passivation
  pub is_passivation : IsPassivation ports within how
  pub left_is : left ≡ left_after how.first how.rounds
  pub ends : (left ≡ []) ⊎ (length how.rounds ≡ within)
  pub grew : Grew words old new (passivation_items ports how)
