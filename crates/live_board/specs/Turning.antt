-- Whom a scan reaches: the nodes that lie in the hall when their turn comes.
use Rattle.std.specs.Prelude.{◌≡◌, ℕ, ◌+◌, Bool, true, false, ◌||◌, List, length, None, Ok, slice_index_or, slice_set}
use Rattle.std.specs.declared.alloc.AllocError.{AllocError}
use Rattle.atomic_table.specs.Seated.{TableId}
use Rattle.base.specs.Count.{Rose}
use Rattle.change_board.specs.Sights.{Sight, is_seen_done, seen_in}
use Rattle.component_trait.specs.Moves as moves
use Rattle.component_trait.specs.States.{NodeState}
use Rattle.live_hall.specs.Houses.{FitsCell}
use Rattle.live_hall.specs.declared.guest.Guest.{Guest}
use Rattle.live_hands.specs.Hands.{Seen, counts_of, of}
use Rattle.node_host.specs.declared.turning.Turn.{Turn}
use Rattle.node_host.specs.declared.turning.Turn.TheVariants.{Moved, Still}
use Rattle.port_queue.specs.declared.hints.Hints.{Ghosts as HintWords}
use Rattle.quiesce_core.specs.State.{Configuration, is_live}
use Rattle.state_handover.specs.declared.any_node.AnyNode.{AnyNode}
use Rattle.live_hall.specs.Turned.{HintsTold, Turned}

-- what the change's own ways show: how often its door found each cell empty, and what its hand posted, took and was
-- refused at each inbox
pub record Ways : Type 0 where
  pub missed : List ℕ
  pub hand : List Seen

abbrev pub ways : List ℕ → List Seen → Ways
ways missed hand = record { missed = missed; hand = hand }

-- how a hand tells of an inbox
abbrev pub hand_words : HintWords (List Seen)
hand_words = record { counts = λ h n. counts_of (of h n); tells = λ h n. None }

-- the door found no node in slot n, and its count there rose
pub record Missed (n : ℕ) (old new : List ℕ) : Type 0 where
  pub count : ℕ
  pub rose : Rose (slice_index_or old n 0) count
  pub noted : new ≡ slice_set old n count

abbrev pub has_moved : Turn → Bool
has_moved (Moved e) = true
has_moved Still = false

-- The node of slot n lay in the hall and had a turn, in which it did with hints what such a turn does: where it was
-- still in no service, its inbox was asked. Or the door found none there.
pub data GaveTurn (gates : TableId) (begins : Bool) (n : ℕ) (old new : Ways) (moved : Bool) : Type 0 where
  gave : (x x' : Guest) (t : Turn) → FitsCell gates n x → Turned begins {E = AllocError} (Ok t) x.node x'.node
      → HintsTold hand_words {E = AllocError} (Ok t) x.node x'.node old.hand new.hand → moved ≡ has_moved t → new.missed ≡ old.missed → GaveTurn gates begins n old new moved
  none_there : Missed n old.missed new.missed → new.hand ≡ old.hand → moved ≡ false → GaveTurn gates begins n old new moved

-- so it was with each live node below this slot, in the order of slots; and whether one of these turns moved
pub data GaveTurns (gates : TableId) (c : Configuration) (begins : Bool) (old : Ways) : ℕ → Ways → Bool → Type 0 where
  none_yet : GaveTurns gates c begins old 0 old false
  no_turn : (n : ℕ) (now : Ways) (moved : Bool) → is_live c n ≡ false → GaveTurns gates c begins old n now moved → GaveTurns gates c begins old (n + 1) now moved
  one_turn : (n : ℕ) (now next : Ways) (moved more_ : Bool) → is_live c n ≡ true → GaveTurns gates c begins old n now moved → GaveTurn gates begins n now next more_
      → GaveTurns gates c begins old (n + 1) next (moved || more_)

-- the node of slot n lay in the hall, done or not, or the door found none there
pub data LookedAt (S : AnyNode → NodeState) (gates : TableId) (n : ℕ) (old new : List ℕ) (done : Bool) : Type 0 where
  was_there : (x : Guest) → FitsCell gates n x → done ≡ moves.is_done (S x.node.inner) → new ≡ old → LookedAt S gates n old new done
  absent : Missed n old new → done ≡ false → LookedAt S gates n old new done

-- Each live node below this slot is seen as done by these sights; or it lay in the hall and wasn't done, or the door
-- found none there.
pub data SawEach (S : AnyNode → NodeState) (gates : TableId) (c : Configuration) (sights : List Sight) (old : List ℕ) : ℕ → List ℕ → Type 0 where
  none_yet : SawEach S gates c sights old 0 old
  no_node : (n : ℕ) (now : List ℕ) → is_live c n ≡ false → SawEach S gates c sights old n now → SawEach S gates c sights old (n + 1) now
  sighted : (n : ℕ) (now : List ℕ) → is_live c n ≡ true → SawEach S gates c sights old n now → is_seen_done c (seen_in sights) n ≡ true → SawEach S gates c sights old (n + 1) now
  undone : (n : ℕ) (now : List ℕ) (x : Guest) → is_live c n ≡ true → SawEach S gates c sights old n now → FitsCell gates n x → moves.is_done (S x.node.inner) ≡ false → SawEach S gates c sights old (n + 1) now
  unmet : (n : ℕ) (now next : List ℕ) → is_live c n ≡ true → SawEach S gates c sights old n now → Missed n now next → SawEach S gates c sights old (n + 1) next

-- A scan gave turns to the live nodes that it got, of which one moved or none, and then sighted those that are done of
-- the live nodes that it got.
pub record Reached (S : AnyNode → NodeState) (gates : TableId) (c : Configuration) (begins moved : Bool) (sights : List Sight) (old new : Ways) : Type 0 where
  pub between : Ways
  pub turns : GaveTurns gates c begins old (length c.slots) between moved
  pub seen : SawEach S gates c sights between.missed (length c.slots) new.missed
  pub hand : new.hand ≡ between.hand
