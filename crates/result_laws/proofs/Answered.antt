-- Which transactions of a row are answered: a Begin is its source's, and a run begins a port's serial once.
use Rattle.std.proofs.Common.{◌≡◌, ◌∙◌, ℕ, ◌+◌, ◌<◌, ◌≤◌, Bool, true, false, cond, List, [], ◌∷◌, ◌++◌, append_assoc, length, Some, refl, sym, ap, subst, arith, inl, inr, ⊎_elim}
use Rattle.std.specs.Prelude.{◌⊎◌, ◌==◌, option_map}
use Rattle.std.specs.Option.{option_map_or}
use Rattle.std.specs.List.{count_by}
use Rattle.std.proofs.lemmas.Bool.{and_from, and_parts, cases_Bool, eq-eqb, eqb-true}
use Rattle.std.proofs.lemmas.List.{append_cancel_left}
use Rattle.std.proofs.lemmas.Option.{same_Some}
use Rattle.base.proofs.PlaceLaws.{heads_are}
use Rattle.base.proofs.CountLaws.{one_place_of}
use Rattle.config_graph.specs.declared.kind.Kind.TheVariants.{Source}
use Rattle.quiesce_core.specs.Reach.{IsPortOf}
use Rattle.quiesce_core.specs.Runs.{IsRun, is_begin_of, state_after}
use Rattle.quiesce_core.specs.State.{Configuration, State, exchange, is_live, owner, slot}
use Rattle.quiesce_core.specs.declared.event.Event.{Event}
use Rattle.quiesce_core.specs.declared.event.Event.TheVariants.{Begin, End, Make}
use Rattle.quiesce_core.specs.declared.state.Slot.{Slot}
use Rattle.quiesce_core.proofs.InductionLaws.{IsNext, along, none_barred, place, unbarred}
use Rattle.quiesce_core.proofs.AlterLaws.{reconfigured}
use Rattle.quiesce_core.proofs.ConfigurationLaws.{owner_kept}
use Rattle.quiesce_core.proofs.RunLaws.{runs_are_well_formed}
use Rattle.quiesce_core.specs.Alters.{ports_next}
use Rattle.quiesce_core.specs.Effect.{effect}
use Rattle.quiesce_core.specs.Legal.{Legal}
use Rattle.config_graph.specs.declared.node.Node.{Node}
use Rattle.quiesce_word.proofs.PhaseLaws.{answered_busy}
use Rattle.quiesce_core.proofs.TableLaws.{gate_place}
use Rattle.quiesce_laws.proofs.OrderLaws.{begun_count}
use Rattle.change_round_laws.proofs.FoldLaws.{StatesAreHanded}
use Rattle.result_laws.proofs.AtRest.{nothing_happens}
use Rattle.result_laws.specs.Items.{IsOfSource}
use Rattle.result_laws.specs.Rows.{is_of_row, rows_serve_rows}
use Rattle.result_laws.specs.Coming.{HasFolds, come}
use Rattle.result_laws.proofs.ComingLaws.{at_place, facts, fits_of, folds_before, folds_on, stays}
use Rattle.result_laws.proofs.Course.{Course}
use Rattle.result_laws.proofs.Ends.{touched}
use Rattle.result_laws.proofs.Resting.{Begun, InRow, on_way_port, source_port}
use Rattle.result_laws.proofs.Linking.{AllLinked}
use Rattle.result_laws.proofs.RowSlots.{slot_is}
use Rattle.result_laws.proofs.Touching.{IsOnWay}

-- a run begins a port's serial at one place
pub begun_once : (es : List Event) → IsRun es → (p k v w : ℕ) (b c d e : List Event) → es ≡ b ++ Begin p k v ∷ d → es ≡ c ++ Begin p k w ∷ e → b ≡ c
begun_once es run p k v w b c d e h h' =
    one_place_of (is_begin_of p k) b c d e (Begin p k v) (Begin p k w) (sym h ∙ h') (begins_here v) (begins_here w)
    (subst (λ (xs : List Event). count_by (is_begin_of p k) xs ≤ 1) h (few _ (begun_count es p k run)))
  where
    begins_here : (v : ℕ) → is_begin_of p k (Begin p k v) ≡ true
    begins_here v = and_from (p == p) (k == k) (eq-eqb p p refl) (eq-eqb k k refl)

    few : (q : Bool) → count_by (is_begin_of p k) es ≡ cond q 1 0 → count_by (is_begin_of p k) es ≤ 1
    few true is = omega (arith, is)
    few false is = omega (arith, is)

-- ---- a port of a source stays one

pub record IsSourcePort (es : List Event) (p : ℕ) : Type 0 where
  pub made : p < length (state_after es).config.gates
  pub node : Slot
  pub there : slot (state_after es).config (owner (state_after es).config p) ≡ Some node
  pub kind : node.node.kind ≡ Source

gates_grow : (c : Configuration) (e : Event) → length c.gates ≤ ports_next c e
gates_grow c (Make n node from) = omega arith
gates_grow c _ = omega arith

source_port_next : (es : List Event) (e : Event) → IsNext es e → (p : ℕ) → IsSourcePort es p → IsSourcePort (es ++ e ∷ []) p
source_port_next es e here p w =
    let r = reconfigured (state_after es) e here.legal in
    let more_ = gates_grow (state_after es).config e in
    let long = r.ports in
    let low = w.made in
    let after = stays (state_after es).config (effect (state_after es) e).config e r (owner (state_after es).config p) w.node w.there in
    let owned : owner (state_after (es ++ e ∷ [])).config p ≡ owner (state_after es).config p = ap (λ (s : State). owner s.config p) here.next ∙ owner_kept (state_after es).config (effect (state_after es) e).config e r p w.made in
    record {
      made = subst (λ (s : State). p < length s.config.gates) (sym here.next) (omega (arith, more_, long, low));
      node = after.then_;
      there = ap (slot (state_after (es ++ e ∷ [])).config) owned ∙ ap (λ (s : State). slot s.config (owner (state_after es).config p)) here.next ∙ after.there;
      kind = ap (λ (n : Node). n.kind) after.node ∙ w.kind;
    }

pub source_port_stays : (es more_ : List Event) → IsRun (es ++ more_) → (p : ℕ) → IsSourcePort es p → IsSourcePort (es ++ more_) p
source_port_stays es more_ run p w = along (λ xs. IsSourcePort xs p) unbarred (λ before e here free earlier. source_port_next before e here p earlier) es more_ run (none_barred more_) w

-- so where it is a port of a live node, it is the row's
pub is_port_of_row : StatesAreHanded → (es : List Event) → IsRun es → HasFolds es → (past : List ℕ) → (w : InRow es past) → (p : ℕ) → IsSourcePort es p → is_live (state_after es).config (owner (state_after es).config p) ≡ true → p ≡ w.p
is_port_of_row handed es run folds past w p s live = by (w.nodes (owner (state_after es).config p) s.node s.there (sym (ap (λ o. option_map_or (λ (x : Slot). x.live) o false) s.there) ∙ live) (ap is_of_row s.kind))
  where
    port_there : IsPortOf (state_after es).config (owner (state_after es).config p) p
    port_there = (runs_are_well_formed es run).sound.ports p s.made

    by : (owner (state_after es).config p ≡ w.a) ⊎ IsOnWay w.ms w.t (owner (state_after es).config p) → p ≡ w.p
    by (inl is) = source_port handed es run folds past w.a w.p w.row.src p (subst (λ n. IsPortOf (state_after es).config n p) is port_there)
    by (inr on) =
        let is_map = on_way_port (state_after es).config (come es) w.ms w.p w.t (owner (state_after es).config p) p w.row.way on port_there in
        let is_source = (fits_of handed es run folds).kinds (owner (state_after es).config p) s.node s.there ∙ s.kind in
        absurd (cc (sym is_map ∙ is_source))

-- the transaction that an End ends in a row is the one under way there
pub ended_here : (es : List Event) → IsRun es → (past : List ℕ) → (w : InRow es past) → (before between : List Event) (k v r : ℕ) → es ≡ before ++ Begin w.p k v ∷ between → Legal (state_after es) (End w.p k r)
    → (b : Begun es w.p (length past + 1) w.ms) × (b.before ≡ before)
ended_here es run past w before between k v r parts legal =
    let b = w.begun (answered_busy (exchange (state_after es) w.p).phase legal.answered) in
    let message = and_parts (k == (exchange (state_after es) w.p).serial) (r == (exchange (state_after es) w.p).value) legal.message in
    let serial : k ≡ b.serial = eqb-true k (exchange (state_after es) w.p).serial message.0 ∙ b.same in
    (b, begun_once es run w.p k (length past + 1) v b.before before b.after between (b.parts ∙ ap (λ j. b.before ++ Begin w.p j (length past + 1) ∷ b.after) (sym serial)) parts)

-- ---- both ends of a transaction are in a row

pub untouched_at : StatesAreHanded → (es : List Event) (p k r : ℕ) → IsNext es (End p k r) → IsRun (es ++ End p k r ∷ []) → HasFolds (es ++ End p k r ∷ []) → AllLinked rows_serve_rows (state_after es).config → IsSourcePort es p
    → (past : List ℕ) → Course es past → touched es ≡ false
untouched_at handed es p k r here run' later linked s past course = ⊎_elim
    (λ (t : touched es ≡ true).
    absurd (nothing_happens (state_after es) (come es) (come (es ++ End p k r ∷ [])) (facts handed es here.run (folds_before handed es (End p k r) here run' later)) (course.at_rest t).still linked (End p k r)
    (record { legal = here.legal; of_node = refl; folds = folds_on handed es (End p k r) here run' later refl }) (owner (state_after es).config p)
    (slot_is (state_after es).config (owner (state_after es).config p) s.node s.there ∙ ap is_of_row s.kind) (eq-eqb (owner (state_after es).config p) (owner (state_after es).config p) refl)))
    (λ (f : touched es ≡ false). f)
    (cases_Bool (touched es))

-- two Begins at one place have one value
value_here : (before first between after : List Event) (p k v q j w : ℕ) → before ++ Begin p k v ∷ between ≡ first ++ Begin q j w ∷ after → first ≡ before → v ≡ w
value_here before first between after p k v q j w parts same =
    value_of (heads_are (Begin p k v) (Begin q j w) between after (append_cancel_left before (Begin p k v ∷ between) (Begin q j w ∷ after) (parts ∙ ap (λ xs. xs ++ Begin q j w ∷ after) same)))
  where
    value_of : {p k v q j w : ℕ} → Begin p k v ≡ Begin q j w → v ≡ w
    value_of h = cc h

pub record Answered (es before : List Event) (p v : ℕ) (past : List ℕ) (row : InRow es past) : Type 0 where
  pub port : p ≡ row.p
  pub begun : Begun es row.p (length past + 1) row.ms
  pub there : begun.before ≡ before
  pub value : v ≡ length past + 1

module _ (handed : StatesAreHanded) (all : List Event) (run : IsRun all) (folds : HasFolds all) where
  -- the port is one of a source at both ends
  pub source_there : (before between after : List Event) (p k v r : ℕ) → all ≡ before ++ Begin p k v ∷ (between ++ End p k r ∷ after) → IsOfSource (state_after before).config p → IsSourcePort (before ++ Begin p k v ∷ between) p
  source_there before between after p k v r parts of_source =
      let b = Begin p k v in
      let e = End p k r in
      let here_0 = place before (between ++ e ∷ after) b (subst IsRun parts run) in
      let made = gate_place (state_after before) p here_0.legal.live in
      let own = here_0.well.sound.ports p made in
      let parts' : all ≡ (before ++ b ∷ between) ++ e ∷ after = parts ∙ sym (append_assoc before (b ∷ between) (e ∷ after)) in
      source_port_stays before (b ∷ between) (place (before ++ b ∷ between) after e (subst IsRun parts' run)).run p
      (record { made = made; node = own.node; there = own.made; kind = same_Some own.node.node.kind Source (sym (ap (option_map (λ (n : Slot). n.node.kind)) own.made) ∙ of_source) })

  pub answered : (before between after : List Event) (p k v r : ℕ) → all ≡ before ++ Begin p k v ∷ (between ++ End p k r ∷ after) → IsOfSource (state_after before).config p → (past : List ℕ)
      → (w : InRow (before ++ Begin p k v ∷ between) past) → Answered (before ++ Begin p k v ∷ between) before p v past w
  answered before between after p k v r parts of_source past w =
      let b = Begin p k v in
      let es = before ++ b ∷ between in
      let e = End p k r in
      let parts' : all ≡ es ++ e ∷ after = parts ∙ sym (append_assoc before (b ∷ between) (e ∷ after)) in
      let second = at_place handed all run folds es after e parts' in
      let here = place es after e (subst IsRun parts' run) in
      let at_second = source_there before between after p k v r parts of_source in
      let live = (and_parts _ (is_live (state_after es).config (owner (state_after es).config p)) here.legal.live).1 in
      let is = is_port_of_row handed es here.run (folds_before handed es e here second.0 second.1) past w p at_second live in
      let ended = ended_here es here.run past w before between k v r (ap (λ q. before ++ Begin q k v ∷ between) is) (subst (λ q. Legal (state_after es) (End q k r)) is here.legal) in
      record { port = is; begun = ended.0; there = ended.1; value = value_here before ended.0.before between ended.0.after p k v w.p ended.0.serial (length past + 1) ended.0.parts ended.1 }
