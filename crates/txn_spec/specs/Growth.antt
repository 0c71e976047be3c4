-- How the run goes on. By each step its moments get at most one more at their end, the one that is named for the
-- step, and the words and views after the step show the run so continued: so a moment's place, once fixed, stays.
use Rattle.std.specs.Prelude.{◌≡◌, ℕ, ◌+◌, Bool, false, List, [], ◌∷◌, ◌++◌, bit_xor, slice_index, slice_set, if◌then◌else◌}
use Rattle.atomic_table.specs.Table.{Act, State as Table, stepped}
use Rattle.txn_records.specs.Records.{Moment, by_node, entry}
use Rattle.txn_records.specs.declared.entry.Entry.{Entry}
use Rattle.txn_records.specs.declared.entry.Entry.TheVariants.{Did}
use Rattle.quiesce_word.specs.Words.{pack, unpack}
use Rattle.quiesce_word.specs.declared.phase.Phase.TheVariants as phase
use Rattle.quiesce_core.specs.declared.event.Event.{Event}
use Rattle.txn_spec.specs.Steps.{Seat, did, noted}
use Rattle.txn_spec.specs.Traces.{Holds}
use Rattle.txn_spec.specs.Views.{of_change, of_node}
use Rattle.txn_spec.specs.declared.view.ChangeView.{ChangeView}
use Rattle.txn_spec.specs.declared.view.NodeView.{NodeView}
use Rattle.txn_spec.specs.declared.view.View.{View}
use mathlib.Core.Option.{some}
use lib.ListN.{get_elem?}

abbrev pub GatesTable : Type 0
GatesTable = Table (Unit {0}) View

-- the run that is shown before is shown afterwards too, with these moments behind its own
pub record RunGoesOn (t : GatesTable) (h : Holds t) (u : GatesTable) (more_ : List Moment) : Type 0 where
  pub holds : Holds u
  pub moments : holds.trace.moments ≡ h.trace.moments ++ more_

-- ---- a step on a word

-- Whatever the table is, and whichever run it shows: where the word i becomes f of what is found, and the seat so as
-- `then_` says, the run goes on by the moments that there are by the word that is found.
abbrev pub Prolongs : ℕ → Seat → ℕ → (ℕ → ℕ) → (ℕ → Seat → Type 0) → (ℕ → List Moment) → Type 0
Prolongs id me i f then_ more_ = (t : GatesTable) (h : Holds t) → get_elem? t.views id ≡ some me.0
    → (v : View) (a : Act (Unit {0})) → then_ (slice_index t.words i) (v, [])
    → RunGoesOn t h (stepped t i (f (slice_index t.words i)) id [] v a) (more_ (slice_index t.words i))

-- a load by a node's seat, which may be an event of the node
abbrev pub LoadProlongs : ℕ → NodeView → ℕ → (ℕ → Seat → Type 0) → (ℕ → List Moment) → Type 0
LoadProlongs id n p then_ more_ = Prolongs id (of_node n, []) p (λ x. x) then_ more_

-- the event, or none
abbrev pub if_so : Bool → Event → List Moment
if_so b e = if b then by_node e ∷ [] else []

-- what an exchange makes of the word that it expects, where it asks for this value
abbrev pub asked_word : ℕ → ℕ → ℕ
asked_word old v = pack (record (unpack old) { phase = phase.Asked; serial = (unpack old).serial + 1; value = v; consequent = false })

-- an exclusive or with this operand is the node's event
abbrev pub ActProlongs : ℕ → NodeView → ℕ → ℕ → Event → Type 0
ActProlongs id n p operand e = Prolongs id (of_node n, []) p (λ x. bit_xor x operand)
    (λ found new. new ≡ did (of_node n, []) e) (λ found. by_node e ∷ [])

-- what becomes of a word is the change's event
abbrev pub ChangeProlongs : ℕ → List NodeView → ChangeView → ℕ → (ℕ → ℕ) → Event → Type 0
ChangeProlongs id nodes c i f e = Prolongs id (of_change nodes c, []) i f
    (λ found new. new ≡ noted (of_change nodes c, []) (Did e)) (λ found. entry (Did e) ∷ [])

-- a load by which the change's record has this entry more, by the word that was found
abbrev pub NoteProlongs : ℕ → List NodeView → ChangeView → ℕ → (ℕ → Entry) → Type 0
NoteProlongs id nodes c i x = Prolongs id (of_change nodes c, []) i (λ w. w)
    (λ found new. new ≡ noted (of_change nodes c, []) (x found)) (λ found. entry (x found) ∷ [])

-- a load by which the change's seat stays as it is
abbrev pub QuietProlongs : ℕ → List NodeView → ChangeView → ℕ → Type 0
QuietProlongs id nodes c i = Prolongs id (of_change nodes c, []) i (λ w. w)
    (λ found new. new ≡ (of_change nodes c, [])) (λ found. [])

-- ---- seats that are given out and taken in

-- a view is cut in two: the run stays
abbrev pub SplitProlongs : ℕ → View → View → View → Type 0
SplitProlongs id v left right = (t : GatesTable) (h : Holds t) → get_elem? t.views id ≡ some v
    → RunGoesOn t h (record { words = t.words; homes = t.homes; views = slice_set t.views id left ++ right ∷ [] }) []

-- a view is taken in by another
abbrev pub JoinProlongs : ℕ → View → ℕ → View → View → View → List Moment → Type 0
JoinProlongs id v other w both spent more_ = (t : GatesTable) (h : Holds t) → get_elem? t.views id ≡ some v
    → ¬ (other ≡ id) → get_elem? (slice_set t.views id both) other ≡ some w
    → RunGoesOn t h (record { words = t.words; homes = t.homes; views = slice_set (slice_set t.views id both) other spent }) more_
