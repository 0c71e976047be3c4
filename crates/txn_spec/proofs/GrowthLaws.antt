-- A step by which the run goes on, whatever view its outcome gives the seat.
use Rattle.std.proofs.Common.{◌≡◌, ◌∙◌, ℕ, Bool, true, false, cond, List, [], ◌++◌, set, refl, sym, ap, subst}
use Rattle.std.proofs.lemmas.List.{append_assoc, append-nil}
use Rattle.std.specs.Prelude.{slice_index}
use Rattle.atomic_table.proofs.Lists.{set_again}
use Rattle.atomic_table.specs.Table.{Act, stepped}
use Rattle.txn_records.specs.Records.{Moment}
use Rattle.txn_spec.specs.Growth.{GatesTable, RunGoesOn}
use Rattle.txn_spec.specs.Steps.{Seat}
use Rattle.txn_spec.specs.Traces.{Holds}
use Rattle.txn_spec.specs.declared.view.View.{View}
use Rattle.txn_spec.proofs.TraceLaws.{same_words}
use mathlib.Core.Option.{some}
use lib.ListN.{get_elem?}

-- the run goes on by these moments to a table with these words
abbrev pub With : (t : GatesTable) → Holds t → ℕ → View → List ℕ → List Moment → Type 0
With t h id v words more_ = RunGoesOn t h (record { words = words; homes = t.homes; views = set t.views id v }) more_

-- a seat that holds no slot
abbrev pub alone : View → Seat
alone v = (v, [])

-- the run goes on so by a step after which the seat is this one
pub record Leads (t : GatesTable) (h : Holds t) (id : ℕ) (words : List ℕ) (more_ : List Moment) (new : Seat) : Type 0 where
  pub view : View
  pub goes_on : With t h id view words more_
  pub is : alone view ≡ new

-- where there is one outcome
pub straight : (t : GatesTable) (h : Holds t) (id : ℕ) (v : View) (words : List ℕ) (more_ : List Moment) → With t h id v words more_ → Leads t h id words more_ (alone v)
straight t h id v words more_ goes_on = record { view = v; goes_on = goes_on; is = refl }

-- by a test, one step or the other
pub picks : (t : GatesTable) (h : Holds t) (id : ℕ) (moved stayed : View) (words : Bool → List ℕ) (more_ : List Moment) (b : Bool) → (b ≡ true → With t h id moved (words true) more_)
    → (b ≡ false → With t h id stayed (words false) []) → Leads t h id (words b) (cond b more_ []) (cond b (alone moved) (alone stayed))
picks t h id moved stayed words more_ true moves stays = record { view = moved; goes_on = moves refl; is = refl }
picks t h id moved stayed words more_ false moves stays = record { view = stayed; goes_on = stays refl; is = refl }

-- the view is the one that the outcome gives, and no rule looks at what is at home
pub prolonged : (t : GatesTable) (h : Holds t) (id i n : ℕ) (more_ : List Moment) (new : Seat) → Leads t h id (set t.words i n) more_ new → (v : View) (a : Act (Unit {0})) → alone v ≡ new
    → RunGoesOn t h (stepped t i n id [] v a) more_
prolonged t h id i n more_ new it v a is =
    let g = subst (λ v. With t h id v (set t.words i n) more_) (ap (λ (m : Seat). m.0) (it.is ∙ sym is)) it.goes_on in
    record {
      holds = record { trace = g.holds.trace; is_trace = g.holds.is_trace; shows = g.holds.shows; views = g.holds.views; seated = g.holds.seated };
      moments = g.moments;
    }

-- a step that leaves words and views as they are
pub stays : (t : GatesTable) (h : Holds t) (id i : ℕ) (v : View) → get_elem? t.views id ≡ some v → With t h id v (set t.words i (slice_index t.words i)) []
stays t h id i v at =
    subst (λ ws. With t h id v ws []) (sym (same_words t.words i))
    (subst (λ vs. RunGoesOn t h (record { words = t.words; homes = t.homes; views = vs }) []) (sym (set_again t.views id v at)) (record { holds = h; moments = sym (append-nil h.trace.moments) }))

-- one step and then another
pub onwards : (t u v : GatesTable) (h : Holds t) (these those : List Moment) (g : RunGoesOn t h u these) → RunGoesOn u g.holds v those → RunGoesOn t h v (these ++ those)
onwards t u v h these those g k = record { holds = k.holds; moments = k.moments ∙ ap (λ ms. ms ++ those) g.moments ∙ append_assoc h.trace.moments these those }
