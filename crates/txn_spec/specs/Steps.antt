-- What each kind of step tells its caller: of the step, of the seat before, and of the word that was found.
use Rattle.std.specs.Prelude.{◌≡◌, ℕ, Bool, ◌==◌, List, [], Some, if◌then◌else◌}
use Rattle.std.specs.Option.{option_map_or}
use Rattle.atomic_table.specs.Table.{Me, Step}
use Rattle.txn_records.specs.Records.{IsRecord}
use Rattle.txn_records.specs.declared.entry.Entry.{Entry}
use Rattle.txn_records.specs.declared.entry.Entry.TheVariants.{Looked, Scanned}
use Rattle.quiesce_word.specs.Phases.{is_answered, is_asked, is_in_more}
use Rattle.quiesce_word.specs.SlotWords.{unpack_slot}
use Rattle.quiesce_word.specs.Words.{is_message_to, is_missing, unpack}
use Rattle.quiesce_core.specs.Runs.{IsRun, state_after}
use Rattle.quiesce_core.specs.Words.{word_of}
use Rattle.quiesce_core.specs.declared.event.Event.{Event}
use Rattle.quiesce_core.specs.declared.event.Event.TheVariants.{Take, Hear, Miss}
use Rattle.quiesce_core.specs.declared.known.Known.{Known}
use Rattle.quiesce_core.specs.declared.known.Served.{Served}
use Rattle.node_gate.specs.Moves.{with_seen}
use Rattle.node_gate.specs.Seats.{serial_served}
use Rattle.node_gate.specs.declared.answers.SeeAnswer.{SeeAnswer}
use Rattle.node_gate.specs.declared.answers.SeeAnswer.TheVariants as see
use Rattle.txn_spec.specs.Views.{change_of, does, node_at, node_of, notes, of_change, of_node, reads}
use Rattle.txn_spec.specs.Traces.{port_at, KnowsNode}
use Rattle.txn_spec.specs.declared.view.LoadKind.{LoadKind}
use Rattle.txn_spec.specs.declared.view.LoadKind.TheVariants as kinds
use Rattle.txn_spec.specs.declared.view.LoadKind.TheVariants.{Own, Exchange}
use Rattle.txn_spec.specs.declared.view.NodeView.{NodeView}
use Rattle.txn_spec.specs.declared.view.View.{View}

abbrev pub Seat : Type 0
Seat = Me (Unit {0}) View

-- the seat of a node, and that of the change
abbrev pub IsNode : Seat → Type 0
IsNode me = me ≡ (of_node (node_of me.0), [])

abbrev pub IsChange : Seat → Type 0
IsChange me = me ≡ (of_change me.0.nodes (change_of me.0), [])

-- the seat of a node that loaded one word more
abbrev pub read : Seat → LoadKind → ℕ → ℕ → Seat
read me k p w = (of_node (reads (node_of me.0) k p w), [])

-- the seat of a node that did one event more, and of a change that has one entry more
abbrev pub did : Seat → Event → Seat
did me e = (of_node (does (node_of me.0) e), [])

abbrev pub noted : Seat → Entry → Seat
noted me x = (of_change me.0.nodes (notes (change_of me.0) x), [])

-- a run in which the node did its events, and what is known of it is so, had this word at the port
pub record WasShown (n : NodeView) (p word : ℕ) : Type 0 where
  pub run : List Event
  pub runs : IsRun run
  pub knows : KnowsNode run n
  pub shown : word ≡ word_of (state_after run) p

-- the value of the last message that was heard in the service
abbrev pub value_served : Known → ℕ
value_served w = option_map_or (λ (u : Served). u.value) w.service 0

-- what an owner sees by a word
abbrev pub seen_in : ℕ → SeeAnswer
seen_in w =
    if is_answered (unpack w).phase then see.Answer (unpack w).value
    else if is_in_more (unpack w).phase then see.More (unpack w).value
    else see.NotYet w

-- ---- a node's steps: each loads the word that is found, and what is done by it follows

-- a load does nothing else
abbrev pub LoadsWordBy : ℕ → Seat → ℕ → Seat → Type 0
LoadsWordBy p me found new = (new ≡ read me Own p found) × WasShown (node_of me.0) p found

abbrev pub LoadsWord : Step (Unit {0}) → Seat → ℕ → Seat → Type 0
LoadsWord st = LoadsWordBy (port_at st.word)

-- an exchange is the event, where it found the word that it expects
abbrev pub ExchangesBy : ℕ → ℕ → Event → Seat → ℕ → Seat → Type 0
ExchangesBy p first e me found new =
    (new ≡ (if found == first then did (read me Exchange p found) e else read me Exchange p found))
    × WasShown (node_of me.0) p found

abbrev pub ExchangesFor : Event → Step (Unit {0}) → Seat → ℕ → Seat → Type 0
ExchangesFor e st = ExchangesBy (port_at st.word) st.first e

-- a load takes what is asked of the node
abbrev pub TakesBy : ℕ → Seat → ℕ → Seat → Type 0
TakesBy p me found new =
    (new ≡ (if is_message_to (node_of me.0).slot (unpack found)
    then did (read me kinds.Take p found) (Take p (unpack found).serial (unpack found).value)
    else read me kinds.Take p found))
    × WasShown (node_of me.0) p found

abbrev pub Takes : Step (Unit {0}) → Seat → ℕ → Seat → Type 0
Takes st = TakesBy (port_at st.word)

-- a load sees what the word shows
abbrev pub sees : NodeView → ℕ → ℕ → NodeView
sees n p w = record (reads n Own p w) { known = with_seen (node_at n) p (seen_in w) n.known }

abbrev pub SeesBy : ℕ → Seat → ℕ → Seat → Type 0
SeesBy p me found new = (new ≡ (of_node (sees (node_of me.0) p found), [])) × WasShown (node_of me.0) p found

abbrev pub Sees : Step (Unit {0}) → Seat → ℕ → Seat → Type 0
Sees st = SeesBy (port_at st.word)

-- a load that goes before a call, or tells that it is missed
abbrev pub looks : NodeView → ℕ → ℕ → NodeView
looks n p w = record (reads n Own p w) { loaded = Some (record { port = p; word = w }) }

abbrev pub LooksToCallBy : ℕ → Seat → ℕ → Seat → Type 0
LooksToCallBy p me found new =
    (new ≡ (if is_missing (unpack found) then did (read me Own p found) (Miss p)
    else (of_node (looks (node_of me.0) p found), [])))
    × WasShown (node_of me.0) p found

abbrev pub LooksToCall : Step (Unit {0}) → Seat → ℕ → Seat → Type 0
LooksToCall st = LooksToCallBy (port_at st.word)

-- a load hears the further message
abbrev pub HearsBy : ℕ → Seat → ℕ → Seat → Type 0
HearsBy p me found new =
    (new ≡ (if is_asked (unpack found).phase then did (read me kinds.Hear p found)
    (Hear p (serial_served (node_of me.0).known) (unpack found).value)
    else read me kinds.Hear p found))
    × WasShown (node_of me.0) p found

abbrev pub Hears : Step (Unit {0}) → Seat → ℕ → Seat → Type 0
Hears st = HearsBy (port_at st.word)

-- a load of the slot's word by the new node's seat
abbrev pub Adopts : Step (Unit {0}) → Seat → ℕ → Seat → Type 0
Adopts st me found new = (new ≡ me) × (unpack_slot found ≡ Some (node_of me.0).made)

-- ---- the change's steps

-- a look; and the mark of a scan, by a load. By either the change learns that its record is one of a run.
abbrev pub LooksAtBy : ℕ → Seat → ℕ → Seat → Type 0
LooksAtBy p me found new = (new ≡ noted me (Looked p found)) × IsRecord (change_of new.0).entries

abbrev pub LooksAt : Step (Unit {0}) → Seat → ℕ → Seat → Type 0
LooksAt st = LooksAtBy (port_at st.word)

abbrev pub MarksScan : Bool → Bool → Step (Unit {0}) → Seat → ℕ → Seat → Type 0
MarksScan begins moved st me found new = (new ≡ noted me (Scanned begins moved)) × IsRecord (change_of new.0).entries
