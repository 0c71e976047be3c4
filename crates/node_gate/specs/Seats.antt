-- What a seat says of its node, and what a node may do by what it knows.
use Rattle.std.specs.Prelude.{◌≡◌, ℕ, ◌+◌, ◌-◌, ◌<◌, ◌≤◌, Bool, true, false, ◌==◌, nat_lt, length, slice_get, slice_index_or, Some, None, is_some}
use Rattle.std.specs.Option.{option_map_or}
use Rattle.config_graph.specs.Kinds.{row, calls_of, depends_on, mores_of}
use Rattle.config_graph.specs.declared.TheConstants.{MAX_NODES, MAX_PORTS}
use Rattle.config_graph.specs.declared.kind.Kind.{Kind}
use Rattle.quiesce_core.specs.Knowledge.{port_at_start}
use Rattle.quiesce_core.specs.Rules.{value_limit}
use Rattle.quiesce_core.specs.declared.known.Known.{Known}
use Rattle.quiesce_core.specs.declared.known.PortKnown.{PortKnown}
use Rattle.quiesce_core.specs.declared.known.Served.{Served}

-- the node whose seat it is: its slot, its kind and its first port
pub record NodeAt : Type 0 where
  pub slot : ℕ
  pub kind : Kind
  pub first : ℕ

-- a slot and ports as one run has them
pub record IsWithinLimits (n : NodeAt) : Type 0 where
  pub slot_within : n.slot < MAX_NODES
  pub ports_within : n.first + length (row n.kind).requires_ ≤ MAX_PORTS

pub record IsOwn (n : NodeAt) (p : ℕ) : Type 0 where
  pub from : n.first ≤ p
  pub below : p < n.first + length (row n.kind).requires_

-- what is known of a port of its own
abbrev pub port_known : NodeAt → Known → ℕ → PortKnown
port_known n w p = slice_index_or w.ports (p - n.first) port_at_start

-- whether it services the port, and whether the last message of its service was heard; nothing holds where it
-- services nothing
abbrev pub serves : Known → ℕ → Bool
serves w p = option_map_or (λ (u : Served). u.port == p) w.service false

abbrev pub has_heard : Known → Bool
has_heard w = option_map_or (λ (u : Served). u.heard) w.service false

abbrev pub has_calls_left : Kind → Known → Bool
has_calls_left k w = option_map_or (λ (u : Served). nat_lt u.calls (calls_of k 0)) w.service false

abbrev pub has_mores_left : Kind → Known → Bool
has_mores_left k w = option_map_or (λ (u : Served). nat_lt u.mores (mores_of k 0)) w.service false

abbrev pub serial_served : Known → ℕ
serial_served w = option_map_or (λ (u : Served). u.serial) w.service 0

abbrev pub value_seen : PortKnown → ℕ
value_seen x = option_map_or (λ v. v) x.seen 0

-- each call of its service has ended
abbrev pub HasEndedCalls : Known → Type 0
HasEndedCalls w = (r : ℕ) (x : PortKnown) → slice_get w.ports r ≡ Some x → x.consequent ≡ false

pub record MayBegin (n : NodeAt) (w : Known) (p v : ℕ) : Type 0 where
  pub own : IsOwn n p
  pub idle : (port_known n w p).idle ≡ true
  pub small : v < value_limit

pub record MayCallAt (n : NodeAt) (w : Known) (p v : ℕ) : Type 0 where
  pub own : IsOwn n p
  pub idle : (port_known n w p).idle ≡ true
  pub depends : depends_on n.kind 0 (p - n.first) ≡ true
  pub heard : has_heard w ≡ true
  pub calls : has_calls_left n.kind w ≡ true
  pub small : v < value_limit

pub record MayTake (w : Known) (p : ℕ) : Type 0 where
  pub free : w.service ≡ None
  pub made : p < MAX_PORTS

pub record MayGive (w : Known) (p v : ℕ) : Type 0 where
  pub serving : serves w p ≡ true
  pub heard : has_heard w ≡ true
  pub ended : HasEndedCalls w
  pub small : v < value_limit

pub record MaySendMore (n : NodeAt) (w : Known) (p v : ℕ) : Type 0 where
  pub give : MayGive w p v
  pub mores : has_mores_left n.kind w ≡ true

pub record MayHear (w : Known) (p : ℕ) : Type 0 where
  pub serving : serves w p ≡ true
  pub waits : has_heard w ≡ false

pub record MaySee (n : NodeAt) (w : Known) (p : ℕ) : Type 0 where
  pub own : IsOwn n p
  pub busy : (port_known n w p).idle ≡ false

-- an answer was seen at the port; or an intermediate reply was
pub record MayEnd (n : NodeAt) (w : Known) (p : ℕ) : Type 0 where
  pub own : IsOwn n p
  pub seen : is_some (port_known n w p).seen ≡ true
  pub answer : (port_known n w p).more ≡ false

pub record MayAsk (n : NodeAt) (w : Known) (p v : ℕ) : Type 0 where
  pub own : IsOwn n p
  pub seen : is_some (port_known n w p).seen ≡ true
  pub more_ : (port_known n w p).more ≡ true
  pub small : v < value_limit
