-- What the moves of a turn say beside `Acts`.
use Rattle.std.specs.Prelude.{◌≡◌, ℕ, ◌+◌, List, Bool, true, false, Option, Some, None, if◌then◌else◌, is_none}
use Rattle.component_trait.specs.States.{NodeState}
use Rattle.component_trait.specs.declared.component.Component.{Ghosts as ComponentWords}
use Rattle.node_gate.specs.declared.gate.GateSeat.{Ghosts as SeatWords}
use Rattle.node_gate.specs.declared.gate.PortGate.{Ghosts as GateWords}
use Rattle.port_queue.specs.declared.hints.Hints.{Ghosts as HintWords}
use Rattle.quiesce_core.specs.State.{State, service}
use Rattle.quiesce_core.specs.declared.event.Event.{Event}
use Rattle.quiesce_core.specs.declared.known.Served.{Served}
use Rattle.node_turn_laws.specs.Turn.{begins, ends, or_else, serves, takes}
use Rattle.node_host.specs.Acts.{Acts, LoadsSo, TellsState, gate_seen, hinted, node_at, state_of}
use Rattle.node_host.specs.Awaiting.{awaits}
use Rattle.node_host.specs.Posting.{HintOf, IsHinted, IsSentAfter, IsSentBy, is_asking}
use Rattle.node_host.specs.Tried.{CannotBegin, HasNoReply, HaveNoReplies, IsHeld, IsTried, Keeps, LoadsPort, StepsGrow, is_begin, is_move, is_passed, is_reply_at}
use Rattle.node_host.specs.Trying.{LookedAt}
use Rattle.node_host.specs.declared.node.HostNode.{HostNode}

-- ---- the rule of the later moves

abbrev pub begins_if : Bool → State → ℕ → NodeState → Option Event
begins_if allowed s n t = if allowed then begins s n t else None

-- what a node that neither replied nor went on with a service looks for
abbrev pub looks_for : Bool → State → ℕ → NodeState → List ℕ → Option Event
looks_for allowed s n t held = or_else (if is_none (service s n) then takes s n held else None) (begins_if allowed s n t)

module _ {C S : Type 0} {component : ComponentWords C} {seats : SeatWords S} where
  -- only its hints that wait may differ
  pub record IsSameButWaiting (h h' : HostNode C S component seats) : Type 0 where
    pub slot : h'.slot ≡ h.slot
    pub first_port : h'.first_port ≡ h.first_port
    pub inner : h'.inner ≡ h.inner
    pub seat : h'.seat ≡ h.seat
    pub log : h'.log ≡ h.log
    pub past : h'.past ≡ h.past
    pub known : h'.known ≡ h.known

  -- its event asks nothing of another node, and no hint waits for that
  pub record IsSilent (h h' : HostNode C S component seats) (e : Option Event) : Type 0 where
    pub waiting : h'.waiting ≡ h.waiting
    pub asks_nothing : is_asking e ≡ false

  -- It made the move of this number, or none, by which the node is as it was but for its seat. Its seat keeps the loads
  -- that such a move leaves.
  pub record IsMove (which : ℕ) (h h' : HostNode C S component seats) (e : Option Event) : Type 0 where
    pub room : e ≡ None → (h'.log ≡ h.log) × (h'.inner ≡ h.inner)
    pub known : e ≡ None → h'.known ≡ h.known
    pub number : is_move which e ≡ true
    pub loads : LoadsSo (Keeps which h.first_port h.known) h h'

  -- it goes on in this service: it has heard what it waits for, and no call is left to end
  pub record GoesOnIn (u : Served) (h : HostNode C S component seats) : Type 0 where
    pub served : h.known.service ≡ Some u
    pub heard : u.heard ≡ true
    pub ended : awaits h.known ≡ false

  -- this service can't go on, as the words that its seat loaded show
  abbrev pub CouldNotServe : Option Served → HostNode C S component seats → HostNode C S component seats → Type 0
  CouldNotServe o h h' = IsHeld h.known o (seats.loads h.seat) (seats.loads h'.seat)

  -- what it wants can't be begun, as those words show
  abbrev pub CouldNotBegin : HostNode C S component seats → HostNode C S component seats → Type 0
  CouldNotBegin h h' = CannotBegin h.first_port (state_of h) h.known (seats.loads h.seat) (seats.loads h'.seat)

  -- each move before the one that it made isn't possible, as those words show
  abbrev pub TriedAll : Bool → HostNode C S component seats → HostNode C S component seats → Option Event → Type 0
  TriedAll allowed h h' e =
      IsTried (node_at h) (state_of h) h.known allowed e (seats.loads h.seat) (seats.loads h'.seat)

  -- It replied at the port of this requirement, or at that port no reply stands, and the node is as it was but for its
  -- seat.
  pub record RepliesAt (r : ℕ) (h h' : HostNode C S component seats) (e : Option Event) : Type 0 where
    pub room : e ≡ None → (h'.log ≡ h.log) × (h'.inner ≡ h.inner)
    pub known : e ≡ None → h'.known ≡ h.known
    pub at_port : is_reply_at (h.first_port + r) e ≡ true
    pub loads : LoadsSo (LoadsPort (h.first_port + r)) h h'
    pub no_reply : e ≡ None → HasNoReply h.first_port h.known r (seats.loads h.seat) (seats.loads h'.seat)

  module _ {G : Type 0} (words : GateWords G S) where
    -- what it did is what this rule says, where the gate tells its state
    abbrev pub IsByRule : (State → Option Event) → G → HostNode C S component seats → Option Event → Type 0
    IsByRule rule gate h e = (s : State) → TellsState words gate h s → e ≡ rule s

    -- it replied at the lowest of its ports at which a reply stands
    pub record Replies (gate : G) (h h' : HostNode C S component seats) (e : Option Event) : Type 0 where
      pub room : e ≡ None → (h'.log ≡ h.log) × (h'.inner ≡ h.inner)
      pub exact : IsByRule (λ s. ends s h.slot (state_of h)) gate h e
      pub number : is_move 1 e ≡ true
      pub steps : LoadsSo StepsGrow h h'
      pub tried : HaveNoReplies (node_at h) h.known e (seats.loads h.seat) (seats.loads h'.seat)

    module _ {H : Type 0} (hint_words : HintWords H) where
      -- and by the node's inbox, where the hints tell that
      abbrev pub IsByInboxRule : (State → List ℕ → Option Event) → G → H → HostNode C S component seats → Option Event → Type 0
      IsByInboxRule rule gate hints h e =
          (s : State) (held : List ℕ) → TellsState words gate h s → hint_words.tells hints h.slot ≡ Some held → e ≡ rule s held

      -- it sends the hint of its event, and does nothing with hints where it did none
      pub record HintsOf (gate : G) (h h' : HostNode C S component seats) (boxes boxes' : H) (e : Option Event) : Type 0 where
        pub hint : HintOf (gate_seen words gate h h') h.first_port e (hinted hint_words boxes h) (hinted hint_words boxes' h')
        pub quiet : e ≡ None → (boxes' ≡ boxes) × (h'.waiting ≡ h.waiting)

      -- where a hint is looked for by a rule, it sends that of its event after it
      abbrev pub SendsBy : (State → Bool) → G → HostNode C S component seats → HostNode C S component seats → H → H → Option Event → Type 0
      SendsBy rule gate h h' hints hints' e =
          IsSentBy (gate_seen words gate h h') (node_at h) (seats.known h.seat) rule e (hinted hint_words hints h)
          (hinted hint_words hints' h')

      -- and after those hints that wait, which it posts first
      abbrev pub PostsAndSendsBy : (State → Bool) → G → HostNode C S component seats → HostNode C S component seats → H → H → Option Event → Type 0
      PostsAndSendsBy rule gate h h' hints hints' e =
          IsHinted (gate_seen words gate h h') (node_at h) (seats.known h.seat) rule e (hinted hint_words hints h)
          (hinted hint_words hints' h')

      -- it heard, or went on, in the service that it is in
      pub record Serves (u : Option Served) (gate gate' : G) (h h' : HostNode C S component seats) (boxes boxes' : H) (e : Option Event) : Type 0 where
        pub acts : Acts words gate gate' h h' e
        pub moved : IsMove 2 h h' e
        pub hints : HintsOf gate h h' boxes boxes' e
        pub exact : IsByRule (λ s. serves s h.slot (state_of h)) gate h e
        pub held : e ≡ None → CouldNotServe u h h'

      -- it began what it wants, where that is allowed
      pub record Begins (allowed : Bool) (gate gate' : G) (h h' : HostNode C S component seats) (boxes boxes' : H) (e : Option Event) : Type 0 where
        pub acts : Acts words gate gate' h h' e
        pub moved : IsMove 4 h h' e
        pub hints : HintsOf gate h h' boxes boxes' e
        pub exact : IsByRule (λ s. begins_if allowed s h.slot (state_of h)) gate h e
        pub tried : e ≡ None → allowed ≡ true → CouldNotBegin h h'
        pub no_begin : allowed ≡ false → is_begin e ≡ false

      -- it looked for something to do: for a request, where its inbox was asked, or else for a beginning, if that is allowed
      pub record Looks (asked allowed : Bool) (gate : G) (h h' : HostNode C S component seats) (boxes boxes' : H) (e : Option Event) : Type 0 where
        pub looked : e ≡ None → (state_of h).service ≡ None → LookedAt (hint_words.counts boxes h.slot) (hint_words.counts boxes' h.slot)
        pub sent : IsSentAfter (gate_seen words gate h h') h.slot h.first_port asked e (hinted hint_words boxes h) (hinted hint_words boxes' h')
        pub passed : is_passed 2 e ≡ true
        pub loads : LoadsSo (Keeps 3 h.first_port h.known) h h'
        pub tried : e ≡ None → allowed ≡ true → CouldNotBegin h h'
        pub no_begin : allowed ≡ false → is_begin e ≡ false
