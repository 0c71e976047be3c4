-- Each transaction of a row that is answered adds what became of its value, and that stays at its place.
use Rattle.std.proofs.Common.{◌≡◌, ◌∙◌, ℕ, ◌+◌, true, false, cond, List, [], ◌∷◌, ◌++◌, append_assoc, length, Some, refl, sym, ap, subst, arith, inl, inr}
use Rattle.std.specs.Prelude.{◌⊎◌, ◌==◌, slice_get}
use Rattle.std.proofs.lemmas.Bool.{both_ways, eq-eqb}
use Rattle.std.proofs.lemmas.List.{append-nil}
use Rattle.std.proofs.lemmas.Option.{same_Some}
use Rattle.base.proofs.PlaceLaws.{slice_get-front, slice_get-last}
use Rattle.config_graph.specs.Graph.{Graph}
use Rattle.config_graph.specs.declared.kind.Kind.TheVariants.{Source}
use Rattle.component_trait.specs.States.{Kept, NodeState}
use Rattle.component_trait.specs.States as node
use Rattle.quiesce_core.specs.Doers.{is_of_change}
use Rattle.quiesce_core.specs.Legal.{Legal}
use Rattle.quiesce_core.specs.Live.{IsGraphOf}
use Rattle.quiesce_core.specs.Runs.{IsRun, is_doer, state_after}
use Rattle.quiesce_core.specs.State.{owner}
use Rattle.quiesce_core.specs.declared.event.Event.{Event}
use Rattle.quiesce_core.specs.declared.event.Event.TheVariants.{Begin, End, Reopen}
use Rattle.quiesce_core.proofs.InductionLaws.{IsNext, place}
use Rattle.change_round_laws.proofs.FoldLaws.{StatesAreHanded}
use Rattle.result_laws.specs.Items.{IsOfSource}
use Rattle.result_laws.specs.Rows.{IsRow, through}
use Rattle.result_laws.proofs.Answered.{answered, source_there, untouched_at}
use Rattle.result_laws.specs.Coming.{HasFolds, come}
use Rattle.result_laws.proofs.ComingLaws.{at_place, facts, folds_before, folds_on}
use Rattle.result_laws.proofs.Course.{Course, CourseNext, Grown, RowAt, counted, course_at, course_next}
use Rattle.result_laws.proofs.Ends.{MakesWell, last_made, last_more, last_next, touched, untouched_on}
use Rattle.result_laws.proofs.EventLaws.{Now}
use Rattle.result_laws.proofs.Passing.{Stop, passed}
use Rattle.result_laws.proofs.Resting.{Begun, InRow}
use Rattle.result_laws.proofs.RowSlots.{shapes_row}
use Rattle.result_laws.proofs.Rounds.{SourceDoes, answered_well, begins, does, ends, other}

-- ---- the End of a transaction that is answered adds an item

module _ (handed : StatesAreHanded) (es : List Event) (e : Event) (here : IsNext es e) (run' : IsRun (es ++ e ∷ [])) (later : HasFolds (es ++ e ∷ [])) (past : List ℕ) (w : InRow es past) (k r : ℕ) (is : e ≡ End w.p k r) (not_0 : (r == 0) ≡ false) where
  counts_on : (come (es ++ e ∷ []) w.a).kept.count ≡ (come es w.a).kept.count + 1
  counts_on = from e is (does (state_after es) (come es) (come (es ++ e ∷ [])) (facts handed es here.run (folds_before handed es e here run' later)) e now w.a w.p w.ms w.t w.row.src w.row.way mine)
    where
      of_node : is_of_change e ≡ false
      of_node = ap is_of_change is

      now : Now (state_after es) (come es) (come (es ++ e ∷ [])) e
      now = record { legal = here.legal; of_node = of_node; folds = folds_on handed es e here run' later of_node }

      mine : is_doer (state_after es) w.a e ≡ true
      mine = ap (is_doer (state_after es) w.a) is ∙ eq-eqb (owner (state_after es).config w.p) w.a w.row.src.owned

      from : (z : Event) → z ≡ End w.p k r → SourceDoes w.p (come es w.a).arg (come es w.a).kept (come (es ++ e ∷ []) w.a) z → (come (es ++ e ∷ []) w.a).kept.count ≡ (come es w.a).kept.count + 1
      from _ z (begins q j v at val wants kept) = absurd (cc z)
      from _ z (ends q j v at kept) = ap (λ (x : Kept). x.count) kept ∙ ap (λ b. (cond b (come es w.a).kept (node.with_count ((come es w.a).kept.count + 1))).count) (ap (λ i. i == 0) (same z) ∙ not_0)
        where
          same : {q j v : ℕ} → End q j v ≡ End w.p k r → v ≡ r
          same h = cc h
      from _ z (other y calm still kept) = absurd (both_ways _ (still w.p) (ap (Rattle.quiesce_core.specs.Doers.is_end_at w.p) z ∙ eq-eqb w.p w.p refl))

  pub grown : touched es ≡ false → (on : CourseNext es e past) → Grown es e past on.next
  grown calm on = by on.grows
    where
      by : (on.next ≡ past) ⊎ Grown es e past on.next → Grown es e past on.next
      by (inr g) = g
      by (inl same) =
          let w' = on.course.in_row (untouched_on es e (ap (shapes_row (state_after es).config) is) calm) in
          let last : last_made Source (es ++ e ∷ []) ≡ Some w.a = last_more Source es e ∙ ap (last_next Source (last_made Source es)) is ∙ w.source in
          let one : w'.a ≡ w.a = same_Some w'.a w.a (sym w'.source ∙ last) in
          let after : (come (es ++ e ∷ []) w.a).kept.count ≡ length on.next =
          ap (λ a. (come (es ++ e ∷ []) a).kept.count) (sym one) ∙ counted (state_after (es ++ e ∷ [])) (come (es ++ e ∷ [])) w'.a w'.p w'.ms w'.t on.next w'.row.stands in
          let before = counted (state_after es) (come es) w.a w.p w.ms w.t past w.row.stands in
          let more_ = counts_on in
          let same_ : length on.next ≡ length past = ap length same in
          absurd (omega (arith, after, before, more_, same_))

new_there : (es : List Event) (e : Event) (past next : List ℕ) → (g : Grown es e past next) → slice_get next (length past) ≡ Some (passed (length past + 1) g.row.ms)
new_there es e past next g = ap (λ (xs : List ℕ). slice_get xs (length past)) g.more_ ∙ slice_get-last past (passed (length past + 1) g.row.ms)

same_item : (es : List Event) (p n v : ℕ) (ms : List Stop) (b : Begun es p n ms) → v ≡ n → Some (passed n ms) ≡ Some (through b.graph b.row.maps v)
same_item es p n v ms b is = ap Some (b.passes n ∙ ap (through b.graph b.row.maps) (sym is))

-- ---- and it stays there

record Onto (es : List Event) (past : List ℕ) : Type 0 where
  next : List ℕ
  course : Course es next
  keeps : (j x : ℕ) → slice_get past j ≡ Some x → slice_get next j ≡ Some x

-- the item of a Begin that was answered, among what has come to the last sink at the end
pub record Served (es before : List Event) (v : ℕ) : Type 0 where
  pub graph : Graph
  pub stands : IsGraphOf (state_after before).config graph
  pub row : IsRow graph
  pub place : ℕ
  pub value : v ≡ place + 1
  pub items : List ℕ
  pub course : Course es items
  pub there : slice_get items place ≡ Some (through graph row.maps v)

module _ (handed : StatesAreHanded) (all : List Event) (run : IsRun all) (folds : HasFolds all) (opens : (before after : List Event) (p : ℕ) → all ≡ before ++ Reopen p ∷ after → RowAt before) (makes : MakesWell all) where
  onto_from : (done xs after : List Event) → all ≡ done ++ (xs ++ after) → (past : List ℕ) → Course done past → Onto (done ++ xs) past
  onto_from done [] after parts past course = record { next = past; course = subst (λ es. Course es past) (sym (append-nil done)) course; keeps = λ j x at. at }
  onto_from done (e ∷ xs) after parts past course =
      let on = course_next handed all run folds opens makes done (xs ++ after) e parts past course in
      let rest = onto_from (done ++ e ∷ []) xs after (parts ∙ sym (append_assoc done (e ∷ []) (xs ++ after))) on.next on.course in
      subst (λ es. Onto es past) (append_assoc done (e ∷ []) xs)
      (record { next = rest.next; course = rest.course; keeps = λ j x at. rest.keeps j x (grew done e past on.next on.grows j x at) })
    where
      grew : (es : List Event) (e : Event) (past next : List ℕ) → (next ≡ past) ⊎ Grown es e past next → (j x : ℕ) → slice_get past j ≡ Some x → slice_get next j ≡ Some x
      grew es e past next (inl same) j x at = ap (λ (xs : List ℕ). slice_get xs j) same ∙ at
      grew es e past next (inr g) j x at = ap (λ (xs : List ℕ). slice_get xs j) g.more_ ∙ slice_get-front past (passed (length past + 1) g.row.ms ∷ []) j x at

  pub served : (before between after : List Event) (p k v r : ℕ) → all ≡ before ++ Begin p k v ∷ (between ++ End p k r ∷ after) → IsOfSource (state_after before).config p → (r == 0) ≡ false → Served all before v
  served before between after p k v r parts of_source not_0 =
      let es = before ++ Begin p k v ∷ between in
      let e = End p k r in
      let parts' : all ≡ es ++ e ∷ after = parts ∙ sym (append_assoc before (Begin p k v ∷ between) (e ∷ after)) in
      let second = course_at handed all run folds opens makes es (e ∷ after) parts' in
      let at = at_place handed all run folds es after e parts' in
      let here = place es after e (subst IsRun parts' run) in
      let past = second.past in
      let source_ = source_there handed all run folds before between after p k v r parts of_source in
      let calm = untouched_at handed es p k r here at.0 at.1 (makes.linked es (e ∷ after) parts') source_ past second.course in
      let on = course_next handed all run folds opens makes es after e parts' past second.course in
      let w = second.course.in_row calm in
      let a = answered handed all run folds before between after p k v r parts of_source past w in
      let g = grown handed es e here at.0 at.1 past w k r (ap (λ q. End q k r) a.port) not_0 calm on in
      let u = g.row in
      let b = answered handed all run folds before between after p k v r parts of_source past u in
      let whole : all ≡ (es ++ e ∷ []) ++ after = parts' ∙ sym (append_assoc es (e ∷ []) after) in
      let rest = onto_from (es ++ e ∷ []) after [] (whole ∙ ap (λ xs. (es ++ e ∷ []) ++ xs) (sym (append-nil after))) on.next on.course in
      record {
        graph = b.begun.graph;
        stands = subst (λ xs. IsGraphOf (state_after xs).config b.begun.graph) b.there b.begun.stands;
        row = b.begun.row;
        place = length past;
        value = b.value;
        items = rest.next;
        course = subst (λ xs. Course xs rest.next) (sym whole) rest.course;
        there = rest.keeps (length past) _ (new_there es e past on.next g) ∙ same_item es u.p (length past + 1) v u.ms b.begun b.value;
      }

  -- no transaction of a source is answered 0
  pub not_answered_0 : (before between after : List Event) (p k v r : ℕ) → all ≡ before ++ Begin p k v ∷ (between ++ End p k r ∷ after) → IsOfSource (state_after before).config p → (r == 0) ≡ false
  not_answered_0 before between after p k v r parts of_source =
      let es = before ++ Begin p k v ∷ between in
      let e = End p k r in
      let parts' : all ≡ es ++ e ∷ after = parts ∙ sym (append_assoc before (Begin p k v ∷ between) (e ∷ after)) in
      let second = course_at handed all run folds opens makes es (e ∷ after) parts' in
      let at = at_place handed all run folds es after e parts' in
      let here = place es after e (subst IsRun parts' run) in
      let source_ = source_there handed all run folds before between after p k v r parts of_source in
      let w = second.course.in_row (untouched_at handed es p k r here at.0 at.1 (makes.linked es (e ∷ after) parts') source_ second.past second.course) in
      let a = answered handed all run folds before between after p k v r parts of_source second.past w in
      answered_well (state_after es) (come es) (facts handed es here.run (folds_before handed es e here at.0 at.1)) w.a w.p w.ms w.t second.past w.row.stands k r (subst (λ q. Legal (state_after es) (End q k r)) a.port here.legal)
