-- Which move of a turn an event is, and what shows that each move before it wasn't possible, at a gate that tells no
-- state too: what the node knows, the words that its seat loaded in the turn, and what was counted of its inbox.
use Rattle.std.specs.Prelude.{◌≡◌, ◌≢◌, ◌⊎◌, ◌+◌, ◌-◌, ℕ, ◌<◌, ◌≤◌, Bool, true, false, not, ◌==◌, ◌||◌, nat_lt, length, Option, Some, None, is_some, slice_index_or, ⊤}
use Rattle.config_graph.specs.Kinds.{row}
use Rattle.quiesce_word.specs.Phases.{is_in_more}
use Rattle.quiesce_word.specs.Words.{is_message_to, is_missing, unpack}
use Rattle.component_trait.specs.Moves as moves
use Rattle.component_trait.specs.States.{NodeState}
use Rattle.component_trait.specs.declared.next.Ask.{Ask}
use Rattle.quiesce_core.specs.Knowledge.{port_at_start}
use Rattle.quiesce_core.specs.declared.event.Event.{Event}
use Rattle.quiesce_core.specs.declared.event.Event.TheVariants as event
use Rattle.quiesce_core.specs.declared.known.Known.{Known}
use Rattle.quiesce_core.specs.declared.known.Served.{Served}
use Rattle.node_gate.specs.Loads.{IsLed, IsLoaded, Load, Loads, TellsLoads, shows_asked}
use Rattle.node_gate.specs.Seats.{NodeAt}
use Rattle.port_queue.specs.Inboxes.{Counts, Gave, Refused}
use Rattle.node_host.specs.Awaiting.{awaits}

-- the moves in their order: 1 replies, 2 goes on with the service, 3 takes a request up, 4 begins
abbrev pub move_number : Event → ℕ
move_number (event.End p k v) = 1
move_number (event.Ask p k v) = 1
move_number (event.Take p k v) = 3
move_number (event.Begin p k v) = 4
move_number e = 2

abbrev pub is_move : ℕ → Option Event → Bool
is_move k None = true
is_move k (Some e) = move_number e == k

-- that move was passed over: a later one was made, or none
abbrev pub is_passed : ℕ → Option Event → Bool
is_passed k None = true
is_passed k (Some e) = nat_lt k (move_number e)

-- whether it begins a transaction of the node's own
abbrev pub is_begin : Option Event → Bool
is_begin None = false
is_begin (Some e) = move_number e == 4

-- ---- a reply

abbrev pub is_busy : Known → ℕ → Bool
is_busy w r = not (slice_index_or w.ports r port_at_start).idle

-- at the port of a requirement no reply stands: it is known idle, or the word loaded there is still asked
abbrev pub HasNoReply : ℕ → Known → ℕ → Option Loads → Option Loads → Type 0
HasNoReply first w r old new = (is_busy w r ≡ false) ⊎ TellsLoads (IsLoaded (first + r) shows_asked) old new

-- an event that replies at this port, if there is one
abbrev pub is_reply_at : ℕ → Option Event → Bool
is_reply_at p None = true
is_reply_at p (Some (event.End q k v)) = q == p
is_reply_at p (Some (event.Ask q k v)) = q == p
is_reply_at p e = false

-- only the port of a reply is loaded
pub record LoadsPort (p : ℕ) (old new : Loads) : Type 0 where
  pub steps : old.steps ≤ new.steps
  pub others : (q : ℕ) → q ≢ p → new.at q ≡ old.at q

-- so many ports are passed over: those below the one at which a reply stood, or all
abbrev pub passed_ports : NodeAt → Option Event → ℕ
passed_ports n (Some (event.End p k v)) = p - n.first
passed_ports n (Some (event.Ask p k v)) = p - n.first
passed_ports n e = length (row n.kind).requires_

abbrev pub HaveNoReplies : NodeAt → Known → Option Event → Option Loads → Option Loads → Type 0
HaveNoReplies n w e old new = (r : ℕ) → r < passed_ports n e → HasNoReply n.first w r old new

-- ---- the service

abbrev pub shows_in_more : Load → Bool
shows_in_more l = is_in_more (unpack l.word).phase

-- a call of the service is left to end, or its intermediate reply is unanswered, as the last `hear` shows
abbrev pub IsHeld : Known → Option Served → Option Loads → Option Loads → Type 0
IsHeld w None old new = ⊤
IsHeld w (Some u) old new = (awaits w ≡ true)
    ⊎ ((u.heard ≡ false) × TellsLoads (λ a b. IsLed u.port shows_in_more a.steps b.steps b.hear) old new)

-- ---- the next request

abbrev pub is_stale_for : ℕ → Load → Bool
is_stale_for n l = not (is_message_to n (unpack l.word))

-- The inbox was asked and was empty; or it gave a hint, at whose port nothing is asked of the node, as the last
-- `take` shows. The counts are those just before it was asked and just after: a hint that was posted raises the same
-- count where it is refused.
abbrev pub HasNoRequest : ℕ → Counts → Counts → Option Loads → Option Loads → Type 0
HasNoRequest n counts counts' old new =
    Refused counts counts'
    ⊎ ((p : ℕ) × Gave counts p counts' × TellsLoads (λ a b. IsLed p (is_stale_for n) a.steps b.steps b.take) old new)

-- ---- a beginning

-- no transaction can be begun: the port is closed, leads nowhere or is spent, or another changed its word meanwhile
abbrev pub bars_begin : Load → Bool
bars_begin l = ((unpack l.word).closed || is_missing (unpack l.word)) || is_some l.found

abbrev pub CannotBegin : ℕ → NodeState → Known → Option Loads → Option Loads → Type 0
CannotBegin first t w old new = (a : Ask) → moves.wants t ≡ Some a → (is_busy w a.require ≡ true)
    ⊎ TellsLoads (IsLoaded (first + a.require) bars_begin) old new

-- ---- all moves

-- what a move leaves of the seat's loads: those of the node's busy ports, and those of the moves before it
pub record Keeps (number : ℕ) (first : ℕ) (w : Known) (old new : Loads) : Type 0 where
  pub steps : old.steps ≤ new.steps
  pub busy : (r : ℕ) → is_busy w r ≡ true → new.at (first + r) ≡ old.at (first + r)
  pub hear : 2 < number → new.hear ≡ old.hear
  pub take : 3 < number → new.take ≡ old.take

abbrev pub StepsGrow : Loads → Loads → Type 0
StepsGrow old new = old.steps ≤ new.steps

-- Each move before the one that was made isn't possible; nor is any where none was. That no request waits at the
-- next hint is said where the inbox is asked (`IsSentAfter`).
pub record IsTried (n : NodeAt) (t : NodeState) (w : Known) (allowed : Bool) (e : Option Event) (old new : Option Loads) : Type 0 where
  pub replies : HaveNoReplies n w e old new
  pub service : is_passed 2 e ≡ true → IsHeld w w.service old new
  pub begin : e ≡ None → allowed ≡ true → CannotBegin n.first t w old new
