-- Each item of the sink has its place: the Begin with its number, the End that answered it, and the graph that stood before that
-- Begin.
use Rattle.std.proofs.Common.{◌≡◌, ◌∙◌, ℕ, zero, suc, ◌+◌, false, List, [], ◌∷◌, ◌++◌, append_assoc, length, Some, refl, sym, ap, subst, inl, inr, ⊎_elim}
use Rattle.std.specs.Prelude.{◌⊎◌, ◌==◌, slice_get}
use Rattle.std.proofs.lemmas.Bool.{and_parts, eqb-true}
use Rattle.std.proofs.lemmas.List.{append-nil}
use Rattle.std.proofs.lemmas.Option.{none-some, same_Some}
use Rattle.config_graph.specs.Graph.{Graph}
use Rattle.quiesce_word.proofs.PhaseLaws.{answered_busy}
use Rattle.quiesce_core.specs.Legal.{Legal}
use Rattle.quiesce_core.specs.Live.{IsGraphOf}
use Rattle.quiesce_core.specs.Runs.{IsRun, state_after}
use Rattle.quiesce_core.specs.State.{exchange}
use Rattle.quiesce_core.specs.declared.event.Event.{Event}
use Rattle.quiesce_core.specs.declared.event.Event.TheVariants.{Begin, End, Reopen}
use Rattle.quiesce_core.proofs.InductionLaws.{IsNext, place}
use Rattle.change_round_laws.proofs.FoldLaws.{StatesAreHanded}
use Rattle.result_laws.specs.Items.{IsOfSource}
use Rattle.result_laws.specs.Rows.{IsRow, through}
use Rattle.result_laws.specs.Coming.{HasFolds}
use Rattle.result_laws.proofs.Course.{Course, CourseNext, Grown, RowAt, course_next, start_course}
use Rattle.result_laws.proofs.Ends.{MakesWell}
use Rattle.result_laws.proofs.Passing.{passed}

pub record ItemAt (es : List Event) (v item : ℕ) : Type 0 where
  pub before : List Event
  pub between : List Event
  pub after : List Event
  pub port : ℕ
  pub serial : ℕ
  pub answer : ℕ
  pub parts : es ≡ before ++ Begin port serial v ∷ (between ++ End port serial answer ∷ after)
  pub not_0 : (answer == 0) ≡ false
  pub of_source : IsOfSource (state_after before).config port
  pub graph : Graph
  pub stands : IsGraphOf (state_after before).config graph
  pub row : IsRow graph
  pub is : item ≡ through graph row.maps v

abbrev pub HavePlaces : List Event → List ℕ → Type 0
HavePlaces es past = (j item : ℕ) → slice_get past j ≡ Some item → ItemAt es (j + 1) item

further : (es : List Event) (e : Event) (v item : ℕ) → ItemAt es v item → ItemAt (es ++ e ∷ []) v item
further es e v item w = record {
  before = w.before;
  between = w.between;
  after = w.after ++ e ∷ [];
  port = w.port;
  serial = w.serial;
  answer = w.answer;
  parts = ap (λ xs. xs ++ e ∷ []) w.parts ∙ append_assoc w.before (Begin w.port w.serial v ∷ (w.between ++ End w.port w.serial w.answer ∷ w.after)) (e ∷ [])
      ∙ ap (λ xs. w.before ++ Begin w.port w.serial v ∷ xs) (append_assoc w.between (End w.port w.serial w.answer ∷ w.after) (e ∷ []));
  not_0 = w.not_0;
  of_source = w.of_source;
  graph = w.graph;
  stands = w.stands;
  row = w.row;
  is = w.is;
}

pushed_cases : (xs : List ℕ) (x j item : ℕ) → slice_get (xs ++ x ∷ []) j ≡ Some item → (slice_get xs j ≡ Some item) ⊎ ((j ≡ length xs) × (item ≡ x))
pushed_cases [] x zero item h = inr (refl, sym (same_Some x item h))
pushed_cases [] x (suc j) item h = absurd (none-some item h)
pushed_cases (y ∷ xs) x zero item h = inl h
pushed_cases (y ∷ xs) x (suc j) item h = ⊎_elim (λ (a : slice_get xs j ≡ Some item). inl a) (λ (b : (j ≡ length xs) × (item ≡ x)). inr (ap (λ n. suc n) b.0, b.1)) (pushed_cases xs x j item h)

-- the place of the item that an End adds
new_item : (es : List Event) (e : Event) → IsNext es e → (past next : List ℕ) → (g : Grown es e past next) → ItemAt (es ++ e ∷ []) (length past + 1) (passed (length past + 1) g.row.ms)
new_item es e here past next g =
    let w = g.row in
    let legal = subst (Legal (state_after es)) g.end_.is here.legal in
    let b = w.begun (answered_busy (exchange (state_after es) w.p).phase legal.answered) in
    let message = and_parts (g.end_.serial == (exchange (state_after es) w.p).serial) (g.end_.answer == (exchange (state_after es) w.p).value) legal.message in
    let serial : g.end_.serial ≡ b.serial = eqb-true g.end_.serial (exchange (state_after es) w.p).serial message.0 ∙ b.same in
    record {
      before = b.before;
      between = b.after;
      after = [];
      port = w.p;
      serial = b.serial;
      answer = g.end_.answer;
      parts = ap (λ xs. xs ++ e ∷ []) b.parts ∙ append_assoc b.before (Begin w.p b.serial (length past + 1) ∷ b.after) (e ∷ [])
          ∙ ap (λ z. b.before ++ Begin w.p b.serial (length past + 1) ∷ (b.after ++ z ∷ [])) (g.end_.is ∙ ap (λ k. End w.p k g.end_.answer) serial);
      not_0 = g.end_.not_0;
      of_source = b.of_source;
      graph = b.graph;
      stands = b.stands;
      row = b.row;
      is = b.passes (length past + 1);
    }

places_next : (es : List Event) (e : Event) → IsNext es e → (past : List ℕ) → (on : CourseNext es e past) → HavePlaces es past → HavePlaces (es ++ e ∷ []) on.next
places_next es e here past on have j item at = by on.grows
  where
    by : (on.next ≡ past) ⊎ Grown es e past on.next → ItemAt (es ++ e ∷ []) (j + 1) item
    by (inl same) = further es e (j + 1) item (have j item (sym (ap (λ (xs : List ℕ). slice_get xs j) same) ∙ at))
    by (inr g) = ⊎_elim
        (λ (old : slice_get past j ≡ Some item). further es e (j + 1) item (have j item old))
        (λ (new_ : (j ≡ length past) × (item ≡ passed (length past + 1) g.row.ms)).
        subst (λ (x : ℕ). ItemAt (es ++ e ∷ []) (j + 1) x) (sym new_.1) (subst (λ (n : ℕ). ItemAt (es ++ e ∷ []) (n + 1) (passed (length past + 1) g.row.ms)) (sym new_.0) (new_item es e here past on.next g)))
        (pushed_cases past (passed (length past + 1) g.row.ms) j item (sym (ap (λ (xs : List ℕ). slice_get xs j) g.more_) ∙ at))

pub record PlacedCourse (es : List Event) : Type 0 where
  pub past : List ℕ
  pub course : Course es past
  pub places : HavePlaces es past

module _ (handed : StatesAreHanded) (all : List Event) (run : IsRun all) (folds : HasFolds all) (opens : (before after : List Event) (p : ℕ) → all ≡ before ++ Reopen p ∷ after → RowAt before) (makes : MakesWell all) where
  placed_from : (done xs after : List Event) → all ≡ done ++ (xs ++ after) → PlacedCourse done → PlacedCourse (done ++ xs)
  placed_from done [] after parts at = subst PlacedCourse (sym (append-nil done)) at
  placed_from done (e ∷ xs) after parts at =
      let on = course_next handed all run folds opens makes done (xs ++ after) e parts at.past at.course in
      subst PlacedCourse (append_assoc done (e ∷ []) xs)
      (placed_from (done ++ e ∷ []) xs after (parts ∙ sym (append_assoc done (e ∷ []) (xs ++ after)))
      (record { past = on.next; course = on.course; places = places_next done e (place done (xs ++ after) e (subst IsRun parts run)) at.past on at.places }))

  -- behind all events: what the row stands with, and the place of each item
  pub placed_at : (before after : List Event) → all ≡ before ++ after → PlacedCourse before
  placed_at before after parts = placed_from [] before after parts (record { past = []; course = start_course; places = λ j item at. absurd (none-some item at) })
