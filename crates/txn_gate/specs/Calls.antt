-- What the calls of nodes say: of the words that they loaded, of the answers that these give, and of the node.
use Rattle.std.specs.Prelude.{◌≡◌, ℕ, ◌+◌, ◌%◌, ◌^◌, ◌<◌, Bool, ◌==◌, nat_lt, true, false, List, [], ◌∷◌, ◌++◌, Option, Some, None, is_none, fold, if◌then◌else◌}
use Rattle.std.specs.Option.{option_map_or}
use Rattle.config_graph.specs.declared.TheConstants.{MAX_PORTS}
use Rattle.config_graph.specs.declared.node.Node.{Node}
use Rattle.config_graph.specs.declared.node.Target.{Target}
use Rattle.quiesce_word.specs.Operands.{end_difference, message_difference}
use Rattle.quiesce_word.specs.Phases.{is_asked}
use Rattle.quiesce_word.specs.Words.{is_message_to, is_missing, is_spent, unpack}
use Rattle.quiesce_word.specs.declared.phase.Phase.TheVariants as phase
use Rattle.quiesce_word.specs.declared.slot_word.SlotWord.{SlotWord}
use Rattle.quiesce_word.specs.declared.word.Word.{Word}
use Rattle.node_gate.specs.Moves.{events_of_begin}
use Rattle.node_gate.specs.Seats.{port_known, serial_served, value_seen}
use Rattle.node_gate.specs.declared.answers.BeginAnswer.{BeginAnswer}
use Rattle.node_gate.specs.declared.answers.BeginAnswer.TheVariants.{Again, Begun, Closed, Spent, Unlinked}
use Rattle.node_gate.specs.declared.answers.CallAnswer.{CallAnswer}
use Rattle.node_gate.specs.declared.answers.CallAnswer.TheVariants.{Called, Missed}
use Rattle.node_gate.specs.declared.answers.HearAnswer.{HearAnswer}
use Rattle.node_gate.specs.declared.answers.HearAnswer.TheVariants as hear
use Rattle.node_gate.specs.declared.answers.TakeAnswer.{TakeAnswer}
use Rattle.node_gate.specs.declared.answers.TakeAnswer.TheVariants.{Stale, Taken}
use Rattle.quiesce_core.specs.Knowledge.{nothing_known}
use Rattle.quiesce_core.specs.Rules.{last_serial}
use Rattle.quiesce_core.specs.declared.event.Event.{Event}
use Rattle.quiesce_core.specs.declared.event.Event.TheVariants.{Ask, End, Give, More}
use Rattle.quiesce_core.specs.declared.known.Known.{Known}
use Rattle.quiesce_core.specs.declared.known.PortKnown.{PortKnown}
use Rattle.quiesce_core.specs.declared.known.Served.{Served}
use Rattle.txn_spec.specs.Steps.{value_served}
use Rattle.txn_spec.specs.Views.{does, load_step, node_at, reads}
use Rattle.txn_spec.specs.declared.view.LoadKind.{LoadKind}
use Rattle.txn_spec.specs.declared.view.LoadKind.TheVariants.{Own, Exchange}
use Rattle.txn_spec.specs.declared.view.LoadStep.{LoadStep}
use Rattle.txn_spec.specs.declared.view.NodeView.{NodeView}

-- the node did these events more
abbrev pub after : NodeView → List Event → NodeView
after n es = fold does n es

-- ---- what words answer

-- the node to which a port leads by its word, and the provision
abbrev pub leads_in : ℕ → ℕ
leads_in w = option_map_or (λ (t : Target). t.node) (unpack w).target 0

abbrev pub provision_in : ℕ → ℕ
provision_in w = option_map_or (λ (t : Target). t.provide) (unpack w).target 0

-- The word that was loaded may refuse a beginning. Else the exchange was tried: the node began where it found that
-- word; and where it found another, the answer is by this.
abbrev pub refused_in : ℕ → Option BeginAnswer
refused_in l =
    if (unpack l).closed then Some (Closed l)
    else if is_none (unpack l).target then Some (Unlinked l)
    else if is_spent (unpack l) then Some (Spent (unpack l).serial)
    else None

abbrev pub exchanged_in : ℕ → ℕ → BeginAnswer
exchanged_in l f =
    if f == l then Begun ((unpack l).serial + 1) (leads_in l)
    else if (unpack f).closed then Closed f
    else Again l f

abbrev pub begun_in : ℕ → ℕ → BeginAnswer
begun_in l f = option_map_or (λ (a : BeginAnswer). a) (refused_in l) (exchanged_in l f)

abbrev pub called_in : ℕ → CallAnswer
called_in w = if is_missing (unpack w) then Missed w else Called ((unpack w).serial + 1) (leads_in w)

-- what a word tells the node of this slot that would take a request up
abbrev pub taken_in : ℕ → ℕ → TakeAnswer
taken_in slot w = if is_message_to slot (unpack w) then Taken (provision_in w) (unpack w).serial (unpack w).value else Stale w

abbrev pub heard_in : ℕ → HearAnswer
heard_in w = if is_asked (unpack w).phase then hear.Heard (unpack w).value else hear.NotYet w

-- ---- what calls loaded

-- The call loaded this word, and nothing else; by it the answer is what it is, and the node learnt or did what that
-- says.
pub record ByWord {A : Type 0} (k : LoadKind) (p : ℕ) (says : ℕ → A) (does_ : A → NodeView → NodeView) (answer : A) (old new : NodeView) : Type 0 where
  pub word : ℕ
  pub answered : answer ≡ says word
  pub node : new ≡ does_ answer (reads old k p word)

-- what `begin` loads: a word, and where this doesn't refuse, the one that the exchange finds
abbrev pub begin_loads : NodeView → ℕ → ℕ → ℕ → List LoadStep
begin_loads n p l f = load_step n Own p l ∷ (if is_none (refused_in l) then load_step n Exchange p f ∷ [] else [])

abbrev pub begin_reads : NodeView → ℕ → ℕ → ℕ → NodeView
begin_reads n p l f = record n { loads = n.loads ++ begin_loads n p l f }

pub record ByWords (p v : ℕ) (answer : BeginAnswer) (old new : NodeView) : Type 0 where
  pub loaded : ℕ
  pub found : ℕ
  pub answered : answer ≡ begun_in loaded found
  pub node : new ≡ after (begin_reads old p loaded found) (events_of_begin p v answer)

-- ---- the events and words of a node that it knows without a load

abbrev pub own_port : NodeView → ℕ → PortKnown
own_port n p = port_known (node_at n) n.known p

abbrev pub give_of : NodeView → ℕ → ℕ → Event
give_of n p v = Give p (serial_served n.known) v

abbrev pub more_of : NodeView → ℕ → ℕ → Event
more_of n p v = More p (serial_served n.known) v

abbrev pub end_of : NodeView → ℕ → Event
end_of n p = End p (own_port n p).serial (value_seen (own_port n p))

abbrev pub ask_of : NodeView → ℕ → ℕ → Event
ask_of n p v = Ask p (own_port n p).serial v

-- the bits that such an event changes in its port's word
abbrev pub give_difference : NodeView → ℕ → ℕ
give_difference n v = message_difference phase.Asked (value_served n.known % 2 ^ 24) phase.Answered v

abbrev pub more_difference : NodeView → ℕ → ℕ
more_difference n v = message_difference phase.Asked (value_served n.known % 2 ^ 24) phase.More v

abbrev pub end_difference_at : NodeView → ℕ → ℕ
end_difference_at n p = end_difference (value_seen (own_port n p) % 2 ^ 24) (own_port n p).consequent

abbrev pub ask_difference : NodeView → ℕ → ℕ → ℕ
ask_difference n p v = message_difference phase.More (value_seen (own_port n p) % 2 ^ 24) phase.Asked v

-- a word by which its owner may begin, and what the word becomes
pub record MayBeBegun (w : Word) : Type 0 where
  pub opened : w.closed ≡ false
  pub linked : (t : Target) × (w.target ≡ Some t)
  pub unspent : w.serial < last_serial

abbrev pub asked_word : Word → ℕ → Word
asked_word w v = record w { phase = phase.Asked; serial = w.serial + 1; value = v; consequent = false }

-- ---- nodes

-- what a slot's word says of a node with this first port
abbrev pub slot_word : ℕ → Node → Option ℕ → SlotWord
slot_word first node from = record { kind = node.kind; first_port = first; arg = node.arg; from = from }

-- the port whose transaction is serviced is one of the gates'
abbrev pub is_served_within : Known → Bool
is_served_within w = option_map_or (λ (u : Served). nat_lt u.port MAX_PORTS) w.service true

-- the node that was just made in this slot, with this first port
abbrev pub made_node : ℕ → ℕ → Node → Option ℕ → NodeView
made_node n first node from = record {
  slot = n;
  made = slot_word first node from;
  known = nothing_known;
  log = [];
  loads = [];
  loaded = None;
}
