-- What is noted of ports, as a record grows.
use Rattle.std.proofs.Common.{◌≡◌, ℕ, zero, suc, ◌<◌, true, false, not, ◌&&◌, ◌||◌, List, [], ◌∷◌, ◌++◌, filter_map, length, set, replicate, Option, refl, sym, ap, ◌∙◌, ⊎_elim, get_or-set_same, get_or-set_other}
use Rattle.std.proofs.Math.Bool.{and-false, and-true, or-false, or-true}
use Rattle.std.specs.Prelude.{◌==◌}
use Rattle.std.specs.List.{list_any}
use Rattle.std.proofs.lemmas.Bool.{cases_eq, eq-eqb, ne_eqb}
use Rattle.std.proofs.lemmas.List.Elements.{filter_map-append}
use Rattle.std.proofs.lemmas.List.Folds.{list_any-append}
use Rattle.std.proofs.lemmas.List.Sums.{fold_push}
use Rattle.config_graph.specs.declared.node.Node.{Node}
use Rattle.txn_records.specs.Entries.{event_in, events_in}
use Rattle.txn_records.specs.Looks.{is_drained_word}
use Rattle.txn_records.specs.Notes.{found_next}
use Rattle.txn_records.specs.declared.entry.Entry.{Entry}
use Rattle.txn_records.specs.declared.entry.Entry.TheVariants.{Did, Looked, Sighted}
use Rattle.quiesce_core.specs.declared.event.Event.{Event}
use Rattle.quiesce_core.specs.declared.event.Event.TheVariants.{Close, Reopen, Make, Link, Unlink, Remove}
use Rattle.quiesce_laws.specs.Events.{reopens}
use Rattle.txn_gate.specs.PortNotes.{fresh_note, note_in}
use Rattle.txn_gate.specs.TablesOf.{note_of}
use Rattle.txn_gate.specs.declared.port_notes.PortNote.{PortNote}

-- what an entry makes of what is noted of a port
abbrev pub note_next : ℕ → PortNote → Entry → PortNote
note_next p n x = record { reopened = n.reopened || list_any (reopens p) (filter_map event_in (x ∷ [])); found = found_next p n.found x }

note_grows : (r : List Entry) (x : Entry) (p : ℕ) → note_of (r ++ x ∷ []) p ≡ note_next p (note_of r p) x
note_grows r x p = λ i. record {
  reopened = (ap (list_any (reopens p)) (filter_map-append event_in r (x ∷ [])) ∙ list_any-append (reopens p) (events_in r) (filter_map event_in (x ∷ []))) i;
  found = fold_push (found_next p) false r x i;
}

-- what is noted in a list of all ports
abbrev AreOf : List PortNote → List Entry → Type 0
AreOf notes r = (p : ℕ) → note_in notes p ≡ note_of r p

-- an entry that changes what is noted of one port
one_noted : (notes : List PortNote) (r : List Entry) (x : Entry) (q : ℕ) (v : PortNote) → q < length notes → AreOf notes r → v ≡ note_next q (note_of r q) x
    → ((p : ℕ) → (p ≡ q → ⊥) → note_next p (note_of r p) x ≡ note_of r p) → AreOf (set notes q v) (r ++ x ∷ [])
one_noted notes r x q v low are is stays p = ⊎_elim
    (λ (same : p ≡ q). ap (note_in (set notes q v)) same ∙ get_or-set_same notes q v fresh_note low ∙ is ∙ ap (λ j. note_next j (note_of r j) x) (sym same) ∙ sym (note_grows r x p))
    (λ (other : p ≡ q → ⊥). get_or-set_other notes q p v fresh_note other ∙ are p ∙ sym (stays p other) ∙ sym (note_grows r x p))
    (cases_eq p q)

-- an entry that changes none
pub none_noted : (notes : List PortNote) (r : List Entry) (x : Entry) → AreOf notes r → ((p : ℕ) → note_next p (note_of r p) x ≡ note_of r p) → AreOf notes (r ++ x ∷ [])
none_noted notes r x are stays p = are p ∙ sym (stays p) ∙ sym (note_grows r x p)

apart : (p q : ℕ) → (p ≡ q → ⊥) → (q == p) ≡ false
apart p q other = ne_eqb q p (λ e. other (sym e))

pub noted_closed : (notes : List PortNote) (r : List Entry) (q : ℕ) (v : PortNote) → q < length notes → AreOf notes r → v ≡ record (note_in notes q) { found = false } → AreOf (set notes q v) (r ++ Did (Close q) ∷ [])
noted_closed notes r q v low are is = one_noted notes r (Did (Close q)) q v low are
    (is ∙ ap (λ (n : PortNote). record n { found = false }) (are q)
    ∙ (λ i. record { reopened = sym (or-false (note_of r q).reopened) i; found = sym (ap (λ b. (note_of r q).found && not b) (eq-eqb q q refl) ∙ and-false (note_of r q).found) i }))
    (λ p other. λ i. record { reopened = or-false (note_of r p).reopened i; found = (ap (λ b. (note_of r p).found && not b) (apart p q other) ∙ and-true (note_of r p).found) i })

pub noted_reopened : (notes : List PortNote) (r : List Entry) (q : ℕ) (v : PortNote) → q < length notes → AreOf notes r → v ≡ record { reopened = true; found = false } → AreOf (set notes q v) (r ++ Did (Reopen q) ∷ [])
noted_reopened notes r q v low are is = one_noted notes r (Did (Reopen q)) q v low are
    (is
    ∙ (λ i. record {
      reopened = sym (ap (λ b. (note_of r q).reopened || (b || false)) (eq-eqb q q refl) ∙ or-true (note_of r q).reopened) i;
      found = sym (ap (λ b. (note_of r q).found && not b) (eq-eqb q q refl) ∙ and-false (note_of r q).found) i;
    }))
    (λ p other. λ i. record {
      reopened = (ap (λ b. (note_of r p).reopened || (b || false)) (apart p q other) ∙ or-false (note_of r p).reopened) i;
      found = (ap (λ b. (note_of r p).found && not b) (apart p q other) ∙ and-true (note_of r p).found) i;
    })

pub noted_looked : (notes : List PortNote) (r : List Entry) (q w : ℕ) (v : PortNote) → q < length notes → AreOf notes r → v ≡ record (note_in notes q) { found = (note_in notes q).found || is_drained_word w }
    → AreOf (set notes q v) (r ++ Looked q w ∷ [])
noted_looked notes r q w v low are is = one_noted notes r (Looked q w) q v low are
    (is ∙ ap (λ (n : PortNote). record n { found = n.found || is_drained_word w }) (are q)
    ∙ (λ i. record { reopened = sym (or-false (note_of r q).reopened) i; found = sym (ap (λ b. (note_of r q).found || (b && is_drained_word w)) (eq-eqb q q refl)) i }))
    (λ p other. λ i. record {
      reopened = or-false (note_of r p).reopened i;
      found = (ap (λ b. (note_of r p).found || (b && is_drained_word w)) (apart p q other) ∙ or-false (note_of r p).found) i;
    })

-- an event that makes, removes, links or unlinks
as_before : (n : PortNote) → record { reopened = n.reopened || false; found = n.found } ≡ n
as_before n = λ i. record { reopened = or-false n.reopened i; found = n.found }

pub noted_made : (notes : List PortNote) (r : List Entry) (n : ℕ) (node : Node) (from : Option ℕ) → AreOf notes r → AreOf notes (r ++ Did (Make n node from) ∷ [])
noted_made notes r n node from are = none_noted notes r (Did (Make n node from)) are (λ p. as_before (note_of r p))

pub noted_linked : (notes : List PortNote) (r : List Entry) (q n x : ℕ) → AreOf notes r → AreOf notes (r ++ Did (Link q n x) ∷ [])
noted_linked notes r q n x are = none_noted notes r (Did (Link q n x)) are (λ p. as_before (note_of r p))

pub noted_unlinked : (notes : List PortNote) (r : List Entry) (q : ℕ) → AreOf notes r → AreOf notes (r ++ Did (Unlink q) ∷ [])
noted_unlinked notes r q are = none_noted notes r (Did (Unlink q)) are (λ p. as_before (note_of r p))

pub noted_removed : (notes : List PortNote) (r : List Entry) (n : ℕ) → AreOf notes r → AreOf notes (r ++ Did (Remove n) ∷ [])
noted_removed notes r n are = none_noted notes r (Did (Remove n)) are (λ p. as_before (note_of r p))

-- a sight
pub noted_sighted : (notes : List PortNote) (r : List Entry) (n : ℕ) (es : List Event) → AreOf notes r → AreOf notes (r ++ Sighted n es ∷ [])
noted_sighted notes r n es are = none_noted notes r (Sighted n es) are (λ p. as_before (note_of r p))

-- nothing is noted at first
pub none_yet : (k : ℕ) → AreOf (replicate k fresh_note) []
none_yet zero p = refl
none_yet (suc k) zero = refl
none_yet (suc k) (suc p) = none_yet k p
