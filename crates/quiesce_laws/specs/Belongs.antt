-- Transactions and their consequents. A set of transactions is a test of a port and a serial.
use Rattle.std.specs.Prelude.{◌≡◌, ℕ, zero, suc, Bool, false, not, ◌&&◌, ◌||◌, ◌==◌, length, Some, IsTrue}
use Rattle.std.specs.Option.{option_map_or}
use Rattle.quiesce_core.specs.declared.event.Event.{Event}
use Rattle.quiesce_core.specs.declared.event.Event.TheVariants.{Begin, Call}
use Rattle.quiesce_core.specs.State.{State, exchange}
use Rattle.quiesce_word.specs.Phases.{is_idle}
use Rattle.quiesce_laws.specs.Advances.{advanced_port}

abbrev pub Transactions : Type 0
Transactions = ℕ → ℕ → Bool

-- the one of this port and serial
abbrev pub singleton : ℕ → ℕ → Transactions
singleton q j p k = p == q && k == j

-- those that are open in a state
abbrev pub open_in : State → Transactions
open_in s p k = not (is_idle (exchange s p).phase) && (exchange s p).serial == k

-- whether the port's transaction is of the set
abbrev pub is_member : Transactions → State → ℕ → Bool
is_member set s p = set p (exchange s p).serial

-- The port's transaction is of the set, or it was called in the service of one that belongs to it: it is a consequent
-- of one of the set.
pub data Belongs (set : Transactions) (s : State) : ℕ → Type 0 where
  member : (p : ℕ) → IsTrue (is_member set s p) → Belongs set s p
  consequent : (p q : ℕ) → (exchange s p).within ≡ Some q → Belongs set s q → Belongs set s p

-- the same where it is found over at most so many calls
abbrev pub belongs_within : Transactions → State → ℕ → ℕ → Bool
belongs_within set s zero p = is_member set s p
belongs_within set s (suc k) p = is_member set s p || option_map_or (belongs_within set s k) (exchange s p).within false

-- whether the port's transaction belongs to the set; no chain of calls is longer than there are nodes
unfoldable pub belongs : Transactions → State → ℕ → Bool
belongs set s p = belongs_within set s (suc (length s.config.slots)) p

-- whether an event is one of a transaction of the set, or of a consequent of one
abbrev pub is_event_of : Transactions → State → Event → Bool
is_event_of set s e = option_map_or (belongs set s) (advanced_port s e) false

-- whether an event starts a transaction of the set itself
abbrev pub starts_one : Transactions → Event → Bool
starts_one set (Begin p k v) = set p k
starts_one set (Call p k v) = set p k
starts_one set _ = false
