-- To be believed (definitions.md).
-- Traces, and what of them words and seats show. A trace is what was done and seen so far, in one order, and who has
-- which seat. It is that of a run where each event may happen after those before it, each look loaded the word that
-- its port had there, and each sight has the events that its node had done. The words of ports and slots are those of
-- the state then; what a seat knows of its node are the node's own events, and what the state has of it; and the
-- change knows the record.
use Rattle.std.specs.Prelude.{◌≡◌, ◌≢◌, ⊤, ℕ, ◌+◌, ◌<◌, ◌≤◌, true, List, [], ◌∷◌, ◌++◌, replicate, length, slice_index, Some, is_some, option_map, IsTrue, ◌*◌, ◌%◌, ◌/◌}
use Rattle.std.specs.List.{AllByRecursion}
use Rattle.atomic_table.specs.Table.{State as Table}
use Rattle.config_graph.specs.declared.TheConstants.{MAX_NODES, MAX_PORTS}
use Rattle.txn_records.specs.Records.{IsRecordOf, Moment, events, state_at}
use Rattle.txn_records.specs.declared.entry.Entry.{Entry}
use Rattle.quiesce_word.specs.Phases.{is_idle}
use Rattle.quiesce_word.specs.Words.{unpack}
use Rattle.quiesce_word.specs.declared.operands.TheConstants.{CLOSED}
use Rattle.quiesce_word.specs.declared.word.Word.{Word}
use Rattle.quiesce_core.specs.Knowledge.{IsKnown}
use Rattle.quiesce_core.specs.Runs.{done_by, state_after}
use Rattle.quiesce_core.specs.State.{State, exchange, owner, service, slot, target}
use Rattle.quiesce_core.specs.Words.{slot_fields_of, slot_word_of, word_of}
use Rattle.quiesce_core.specs.declared.event.Event.{Event}
use Rattle.quiesce_core.specs.declared.state.Exchange.{Exchange}
use Rattle.quiesce_core.specs.declared.state.Service.{Service}
use Rattle.txn_spec.specs.Views.{is_among}
use Rattle.txn_spec.specs.declared.view.ChangeView.{ChangeView}
use Rattle.txn_spec.specs.declared.view.LoadStep.{LoadStep}
use Rattle.txn_spec.specs.declared.view.Loaded.{Loaded}
use Rattle.txn_spec.specs.declared.view.NodeView.{NodeView}
use Rattle.txn_spec.specs.declared.view.View.{View}
use mathlib.Core.Option.{some}
use lib.ListN.{get_elem?}

-- what was done and seen, and what of it the change has in its record; which seat has the node of each slot, which is
-- the change's, and for how many slots seats were given out
pub record Trace : Type 0 where
  pub moments : List Moment
  pub entries : List Entry
  pub owner : ℕ → ℕ
  pub change : ℕ
  pub seats : ℕ

-- it is that of a run, and a node whose seat wasn't given out has done nothing
pub record IsTrace (w : Trace) : Type 0 where
  pub is_record : IsRecordOf w.entries w.moments
  pub unseated : (n : ℕ) → w.seats ≤ n → done_by n (events w.moments) ≡ []

-- the word of a port, whose neighbours are eight words apart, and so in other cache lines
unfoldable pub port_place : ℕ → ℕ
port_place p = (p % 512) * 8 + p / 512

-- the port whose word lies there
unfoldable pub port_at : ℕ → ℕ
port_at i = (i % 8) * 512 + i / 8

-- the words of all ports and then of all slots are those of the state
pub record Shows (words : List ℕ) (s : State) : Type 0 where
  pub count : length words ≡ MAX_PORTS + MAX_NODES
  pub ports : (p : ℕ) → p < MAX_PORTS → slice_index words (port_place p) ≡ word_of s p
  pub slots : (n : ℕ) → n < MAX_NODES → slice_index words (MAX_PORTS + n) ≡ slot_word_of s.config n

-- the word has this of the exchange
abbrev pub ShowsExchange : Word → Exchange → Type 0
ShowsExchange w x = record w { phase = x.phase; consequent = is_some x.within; serial = x.serial; value = x.value } ≡ w

-- But for what the change turns, the word that node n loaded at its idle port is the port's still; and it leads where
-- the port does while the node is in a service.
pub record IsLoadedOf (s : State) (n : ℕ) (l : Loaded) : Type 0 where
  pub made : l.port < length s.config.gates
  pub owned : owner s.config l.port ≡ n
  pub idle : is_idle (exchange s l.port).phase ≡ true
  pub shown : ShowsExchange (unpack l.word) (exchange s l.port)
  pub leads : (v : Service) → service s n ≡ Some v → target s.config l.port ≡ (unpack l.word).target

-- a word that node n loaded was its port's after these events, when the node had done as many as it had then
pub record WasLoaded (n : ℕ) (es : List Event) (l : LoadStep) : Type 0 where
  pub done : l.done ≡ length (done_by n es)
  pub word : l.word ≡ word_of (state_after es) l.port

-- Each word of a list was loaded at a place of the run, in that order: the run goes on from the place of the one
-- before it to its own place, and then by the rest.
abbrev pub AreLoaded : ℕ → List Event → List Event → List LoadStep → Type 0
AreLoaded n es rest [] = ⊤
AreLoaded n es rest (l ∷ ls) = (next : List Event) × (later : List Event) × (rest ≡ next ++ later)
    × WasLoaded n (es ++ next) l × AreLoaded n (es ++ next) later ls

-- what is known of a node after these events
pub record KnowsNode (es : List Event) (n : NodeView) : Type 0 where
  pub made : option_map slot_fields_of (slot (state_after es).config n.slot) ≡ Some n.made
  pub log : n.log ≡ done_by n.slot es
  pub loads : AreLoaded n.slot [] es n.loads
  pub known : IsKnown (state_after es) n.slot n.made.first_port n.known
  pub loaded : (l : Loaded) → n.loaded ≡ Some l → IsLoadedOf (state_after es) n.slot l

-- seat `id` has the node
pub record FitsNode (w : Trace) (id : ℕ) (n : NodeView) : Type 0 where
  pub owned : w.owner n.slot ≡ id
  pub seated : n.slot < w.seats
  pub knows : KnowsNode (events w.moments) n

-- seat `id` is the change's
pub record FitsChange (w : Trace) (id : ℕ) (c : ChangeView) : Type 0 where
  pub change : w.change ≡ id
  pub seats : c.seats ≡ w.seats
  pub entries : c.entries ≡ w.entries

-- no two of them are of one slot
abbrev pub HaveOwnSlots : List NodeView → Type 0
HaveOwnSlots [] = ⊤
HaveOwnSlots (n ∷ ns) = AllByRecursion (λ (m : NodeView). m.slot ≢ n.slot) ns × HaveOwnSlots ns

pub record FitsView (w : Trace) (id : ℕ) (v : View) : Type 0 where
  pub nodes : AllByRecursion (FitsNode w id) v.nodes
  pub apart : HaveOwnSlots v.nodes
  pub change : (c : ChangeView) → v.change ≡ Some c → FitsChange w id c

-- a view has the node of this slot; and the change
abbrev pub HasSlot : ℕ → View → Type 0
HasSlot n v = IsTrue (is_among v.nodes n)

abbrev pub HasChange : View → Type 0
HasChange v = IsTrue (is_some v.change)

-- the seat's view is there, and such
abbrev pub IsThere : List View → ℕ → (View → Type 0) → Type 0
IsThere views id P = (v : View) × (get_elem? views id ≡ some v) × P v

-- none is lost: each node whose seat was given out is in the view of the seat that has it, and the change in its own
pub record AreSeated (w : Trace) (views : List View) : Type 0 where
  pub nodes : (n : ℕ) → n < w.seats → IsThere views (w.owner n) (HasSlot n)
  pub change : IsThere views w.change HasChange

-- the rule
pub record Holds (t : Table (Unit {0}) View) : Type 0 where
  pub trace : Trace
  pub is_trace : IsTrace trace
  pub shows : Shows t.words (state_at trace.moments)
  pub views : (id : ℕ) (v : View) → get_elem? t.views id ≡ some v → FitsView trace id v
  pub seated : AreSeated trace t.views

-- the words at the beginning: those of ports and of slots that were never made
abbrev pub first_words : List ℕ
first_words = replicate MAX_PORTS CLOSED ++ replicate MAX_NODES 0
