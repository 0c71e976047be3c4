-- What a call at a gate does: events of the node, which its seat knows from then on, and steps of the state where the
-- gate tells it.
use Rattle.std.specs.Prelude.{◌≡◌, ℕ, ◌-◌, true, false, List, [], ◌∷◌, ◌++◌, Option, Some, None, option_map, fold, slice_set}
use Rattle.quiesce_core.specs.Knowledge.{known_next}
use Rattle.quiesce_core.specs.Runs.{Step, is_doer}
use Rattle.quiesce_core.specs.State.{State}
use Rattle.quiesce_core.specs.declared.event.Event.{Event}
use Rattle.quiesce_core.specs.declared.event.Event.TheVariants as event
use Rattle.quiesce_core.specs.declared.known.Known.{Known}
use Rattle.quiesce_core.specs.declared.known.PortKnown.{PortKnown}
use Rattle.node_gate.specs.Seats.{NodeAt, port_known, serial_served, value_seen}
use Rattle.node_gate.specs.declared.answers.BeginAnswer.{BeginAnswer}
use Rattle.node_gate.specs.declared.answers.BeginAnswer.TheVariants.{Begun}
use Rattle.node_gate.specs.declared.answers.CallAnswer.{CallAnswer}
use Rattle.node_gate.specs.declared.answers.CallAnswer.TheVariants.{Called, Missed}
use Rattle.node_gate.specs.declared.answers.HearAnswer.{HearAnswer}
use Rattle.node_gate.specs.declared.answers.HearAnswer.TheVariants.{Heard}
use Rattle.node_gate.specs.declared.answers.SeeAnswer.{SeeAnswer}
use Rattle.node_gate.specs.declared.answers.SeeAnswer.TheVariants as see
use Rattle.node_gate.specs.declared.answers.TakeAnswer.{TakeAnswer}
use Rattle.node_gate.specs.declared.answers.TakeAnswer.TheVariants.{Taken}

-- the events that an answer tells
abbrev pub events_of_begin : ℕ → ℕ → BeginAnswer → List Event
events_of_begin p v (Begun k t) = event.Begin p k v ∷ []
events_of_begin p v _ = []

abbrev pub events_of_call : ℕ → ℕ → CallAnswer → List Event
events_of_call p v (Called k t) = event.Call p k v ∷ []
events_of_call p v (Missed w) = event.Miss p ∷ []

abbrev pub events_of_take : ℕ → TakeAnswer → List Event
events_of_take p (Taken x k v) = event.Take p k v ∷ []
events_of_take p _ = []

abbrev pub events_of_hear : ℕ → Known → HearAnswer → List Event
events_of_hear p w (Heard v) = event.Hear p (serial_served w) v ∷ []
events_of_hear p w _ = []

-- the events of the calls that always do theirs
abbrev pub events_of_give : ℕ → ℕ → Known → List Event
events_of_give p v w = event.Give p (serial_served w) v ∷ []

abbrev pub events_of_more : ℕ → ℕ → Known → List Event
events_of_more p v w = event.More p (serial_served w) v ∷ []

abbrev pub events_of_end : NodeAt → ℕ → Known → List Event
events_of_end n p w = event.End p (port_known n w p).serial (value_seen (port_known n w p)) ∷ []

abbrev pub events_of_ask : NodeAt → ℕ → ℕ → Known → List Event
events_of_ask n p v w = event.Ask p (port_known n w p).serial v ∷ []

-- what was seen at a port
abbrev pub seen_by : SeeAnswer → PortKnown → PortKnown
seen_by (see.Answer v) x = record x { seen = Some v; more = false }
seen_by (see.More v) x = record x { seen = Some v; more = true }
seen_by (see.NotYet w) x = x

abbrev pub with_seen : NodeAt → ℕ → SeeAnswer → Known → Known
with_seen n p answer w = record w { ports = slice_set w.ports (p - n.first) (seen_by answer (port_known n w p)) }

-- a gate that tells its state is led on by these events of node n, one at most
abbrev pub Leads : ℕ → Option State → List Event → Option State → Type 0
Leads n None es t = t ≡ None
Leads n (Some s) [] t = t ≡ Some s
Leads n (Some s) (e ∷ []) t = (u : State) × (t ≡ Some u) × Step s e u × (is_doer s n e ≡ true)
Leads n (Some s) (e ∷ f ∷ es) t = ⊥

-- the node at a seat did these events: its seat knows them, has them at the end of its events where it tells these,
-- and they are steps of the state where the gate tells that
pub record Does (n : NodeAt) (es : List Event) (known known' : Known) (told told' : Option (List Event)) (state state' : Option State) : Type 0 where
  pub knows : known' ≡ fold (known_next n.first) known es
  pub events : told' ≡ option_map (λ log. log ++ es) told
  pub steps : Leads n.slot state es state'
