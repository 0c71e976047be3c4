-- What the words and the views show after a step: of a trace with one event, look or sight more, or of the same trace.
use Rattle.std.proofs.Common.{◌≡◌, ◌≢◌, ◌∙◌, ℕ, zero, suc, ◌+◌, ◌<◌, ◌⊎◌, inl, inr, true, false, ◌||◌, List, [], ◌∷◌, ◌++◌, length, set, Some, None, refl, sym, ap, subst, ⊎_elim, arith}
use Rattle.std.specs.Prelude.{◌==◌, slice_index}
use Rattle.std.proofs.lemmas.Bool.{cases_eq}
use Rattle.std.proofs.lemmas.List.{append-nil, get_or-set_other, get_or-set_same, length-set, set-get_or}
use Rattle.std.proofs.lemmas.List.Elements.{filter_map-append}
use Rattle.std.proofs.lemmas.Option.{same_Some}
use Rattle.atomic_table.specs.Table.{State as Table}
use Rattle.atomic_table.proofs.Lists.{at_longer, at_set, set_else}
use Rattle.config_graph.specs.declared.TheConstants.{MAX_NODES, MAX_PORTS}
use Rattle.quiesce_word.specs.Words.{pack}
use Rattle.txn_records.specs.Entries.{event_in}
use Rattle.txn_records.specs.Records.{IsSo, Moment, by_node, entry, event_at, events, state_at}
use Rattle.txn_records.specs.declared.entry.Entry.{Entry}
use Rattle.txn_records.specs.declared.entry.Entry.TheVariants.{Did}
use Rattle.txn_records.proofs.RecordLaws.{did_more, node_more, quiet_events, seen_more}
use Rattle.quiesce_core.specs.Doers.{is_of_change}
use Rattle.quiesce_core.specs.Effect.{effect}
use Rattle.quiesce_core.specs.Rules.{denial}
use Rattle.quiesce_core.specs.Runs.{IsRun, Step, doer, done_by, is_doer, state_after}
use Rattle.quiesce_core.specs.State.{State}
use Rattle.quiesce_core.specs.WellFormed.{IsWellFormed}
use Rattle.quiesce_core.specs.Words.{changed_port, changed_slot, slot_word_of, word_of}
use Rattle.quiesce_core.specs.declared.event.Event.{Event}
use Rattle.quiesce_core.proofs.RunLaws.{changes_are_of_no_node, done_by_other, runs_are_consistent, state_more}
use Rattle.quiesce_core.proofs.WordLaws.{port_word_stays, slot_word_stays}
use Rattle.txn_spec.specs.Views.{does, nobody, notes, of_change, of_node}
use Rattle.txn_spec.specs.Growth.{RunGoesOn}
use Rattle.txn_spec.specs.Traces.{port_at, port_place, AreSeated, FitsView, FitsChange, FitsNode, HasChange, HasSlot, Holds, IsTrace, IsThere, KnowsNode, Shows, Trace}
use Rattle.txn_spec.specs.declared.view.ChangeView.{ChangeView}
use Rattle.txn_spec.specs.declared.view.NodeView.{NodeView}
use Rattle.txn_spec.specs.declared.view.View.{View}
use Rattle.txn_spec.proofs.KnowingLaws.{known_grows, known_stays, no_doer, one_doer}
use mathlib.Core.Option.{Option as Maybe, some, some-injective, some-ne-none}
use lib.ListN.{get_elem?}
use Rattle.base.proofs.ListLaws.{all_into}

-- ---- words

-- where ports' words lie, by arithmetic
pub place_below : (p : ℕ) → p < MAX_PORTS → port_place p < MAX_PORTS
unfolding port_place
place_below p few = omega (arith, few)

pub at_place : (p : ℕ) → p < MAX_PORTS → port_at (port_place p) ≡ p
unfolding port_place port_at
at_place p few = omega (arith, few)

pub places_differ : (p q : ℕ) → port_place p ≡ port_place q → p < MAX_PORTS → q < MAX_PORTS → p ≡ q
places_differ p q same few below = sym (at_place p few) ∙ ap port_at same ∙ at_place q below

module _ (words : List ℕ) (s t : State) (e : Event) (w : IsWellFormed s) (step : Step s e t) (h : Shows words s) where
  -- an event that changes no word
  pub shows_none : changed_port e ≡ None → changed_slot e ≡ None → Shows words t
  shows_none port slot = record {
    count = h.count;
    ports = λ p few. h.ports p few ∙ sym (ap pack (port_word_stays s t e w step p (λ at. cc (port, at))));
    slots = λ n few. h.slots n few ∙ sym (slot_word_stays s t e w step n (λ at. cc (slot, at)));
  }

  -- one that changes a port's
  pub shows_port : (p v : ℕ) → p < MAX_PORTS → changed_port e ≡ Some p → changed_slot e ≡ None → v ≡ word_of t p → Shows (set words (port_place p) v) t
  shows_port p v few port slot is = record {
    count = length-set words (port_place p) v ∙ h.count;
    ports = λ q below. ⊎_elim
        (λ (at : q ≡ p). subst (λ i. slice_index (set words (port_place p) v) (port_place i) ≡ word_of t i) (sym at) (get_or-set_same words (port_place p) v 0 (let small = place_below p few in omega (arith, small, h.count)) ∙ is))
        (λ (apart : q ≡ p → ⊥). get_or-set_other words (port_place p) (port_place q) v 0 (λ same. apart (places_differ q p same below few)) ∙ h.ports q below
        ∙ sym (ap pack (port_word_stays s t e w step q (λ at. apart (same_Some q p (sym at ∙ port))))))
        (cases_eq q p);
    slots = λ n below. get_or-set_other words (port_place p) (MAX_PORTS + n) v 0 (λ at. let small = place_below p few in omega (arith, at, small)) ∙ h.slots n below
        ∙ sym (slot_word_stays s t e w step n (λ at. cc (slot, at)));
  }

  -- one that changes a slot's
  pub shows_slot : (n v : ℕ) → n < MAX_NODES → changed_port e ≡ None → changed_slot e ≡ Some n → v ≡ slot_word_of t.config n → Shows (set words (MAX_PORTS + n) v) t
  shows_slot n v few port slot is = record {
    count = length-set words (MAX_PORTS + n) v ∙ h.count;
    ports = λ p below. get_or-set_other words (MAX_PORTS + n) (port_place p) v 0 (λ at. let small = place_below p below in omega (arith, at, small)) ∙ h.ports p below
        ∙ sym (ap pack (port_word_stays s t e w step p (λ at. cc (port, at))));
    slots = λ m below. ⊎_elim
        (λ (at : m ≡ n). subst (λ i. slice_index (set words (MAX_PORTS + n) v) (MAX_PORTS + i) ≡ slot_word_of t.config i) (sym at) (get_or-set_same words (MAX_PORTS + n) v 0 (omega (arith, few, h.count)) ∙ is))
        (λ (apart : m ≡ n → ⊥). get_or-set_other words (MAX_PORTS + n) (MAX_PORTS + m) v 0 (λ at. apart (omega (arith, at))) ∙ h.slots m below
        ∙ sym (slot_word_stays s t e w step m (λ at. apart (same_Some m n (sym at ∙ slot)))))
        (cases_eq m n);
  }

-- a load leaves the words
pub same_words : (words : List ℕ) (i : ℕ) → set words i (slice_index words i) ≡ words
same_words words i = set-get_or words i 0

-- what becomes of a view that fits, where that of all seats but one does
pub record Passes (w w' : Trace) (id : ℕ) : Type 0 where
  pub nodes : (j : ℕ) (n : NodeView) → j ≢ id → FitsNode w j n → FitsNode w' j n
  pub change : (j : ℕ) (c : ChangeView) → j ≢ id → FitsChange w j c → FitsChange w' j c

pub passes_view : (w w' : Trace) (id j : ℕ) (v : View) → Passes w w' id → j ≢ id → FitsView w j v → FitsView w' j v
passes_view w w' id j v pass apart fits = record {
  nodes = all_into (FitsNode w j) (FitsNode w' j) v.nodes (λ n. pass.nodes j n apart) fits.nodes;
  apart = fits.apart;
  change = λ c at. pass.change j c apart (fits.change c at);
}

-- the rule holds of new words and a new view, where the others' views fit the new trace, which is the old one with these moments more
goes_on_next : (t : Table (Unit {0}) View) (h : Holds t) (w : Trace) (more_ : List Moment) → w.moments ≡ h.trace.moments ++ more_ → (words : List ℕ) (homes : List (Maybe (Unit {0}))) (id : ℕ) (v : View)
    → IsTrace w → Shows words (state_at w.moments) → Passes h.trace w id → FitsView w id v → AreSeated w (set t.views id v)
    → RunGoesOn t h (record { words = words; homes = homes; views = set t.views id v }) more_
goes_on_next t h w more_ is words homes id v is_trace shows pass fits seated = record {
  holds = record {
    trace = w;
    is_trace = is_trace;
    shows = shows;
    views = λ j u at. ⊎_elim
        (λ (x : (j ≡ id) × (v ≡ u)). subst (λ (y : ℕ × View). FitsView w y.0 y.1) (λ i. (sym x.0 i, x.1 i)) fits)
        (λ (x : (j ≢ id) × (get_elem? t.views j ≡ some u)). passes_view h.trace w id j u pass x.0 (h.views j u x.1))
        (at_set t.views id j v u at);
    seated = seated;
  };
  moments = is;
}

-- a seat is taken in by another
pub goes_on_joined : (t : Table (Unit {0}) View) (h : Holds t) (w : Trace) (more_ : List Moment) → w.moments ≡ h.trace.moments ++ more_ → (id other : ℕ) (both : View) (homes : List (Maybe (Unit {0})))
    → IsTrace w → Shows t.words (state_at w.moments) → ((j : ℕ) (u : View) → j ≢ id → j ≢ other → get_elem? t.views j ≡ some u → FitsView w j u) → FitsView w id both
    → AreSeated w (set (set t.views id both) other nobody) → RunGoesOn t h (record { words = t.words; homes = homes; views = set (set t.views id both) other nobody }) more_
goes_on_joined t h w more_ is id other both homes is_trace shows others fits seated = record {
  holds = record {
    trace = w;
    is_trace = is_trace;
    shows = shows;
    views = λ j u at. ⊎_elim
        (λ (x : (j ≡ other) × (nobody ≡ u)). subst (FitsView w j) x.1 (record { nodes = tt; apart = tt; change = λ c is. absurd (cc is) }))
        (λ (x : (j ≢ other) × (get_elem? (set t.views id both) j ≡ some u)). ⊎_elim
        (λ (y : (j ≡ id) × (both ≡ u)). subst (λ (z : ℕ × View). FitsView w z.0 z.1) (λ i. (sym y.0 i, y.1 i)) fits)
        (λ (y : (j ≢ id) × (get_elem? t.views j ≡ some u)). others j u y.0 x.0 y.1)
        (at_set t.views id j both u x.1))
        (at_set (set t.views id both) other j nobody u at);
    seated = seated;
  };
  moments = is;
}

-- a place of a list with one more view
at_more : (views : List View) (v u : View) (n : ℕ) → get_elem? (views ++ v ∷ []) n ≡ some u → (get_elem? views n ≡ some u) ⊎ ((n ≡ length views) × (v ≡ u))
at_more [] v u zero e = inr (refl, some-injective v u e)
at_more [] v u (suc n) e = absurd (some-ne-none u (sym e))
at_more (x ∷ xs) v u zero e = inl e
at_more (x ∷ xs) v u (suc n) e = ⊎_elim inl (λ y. inr (ap suc y.0, y.1)) (at_more xs v u n e)

-- a seat's view is cut in two, which is none of the run's moments
pub goes_on_parted : (t : Table (Unit {0}) View) (h : Holds t) (w : Trace) → w.moments ≡ h.trace.moments → (id : ℕ) (left right : View) (homes : List (Maybe (Unit {0}))) → IsTrace w
    → Shows t.words (state_at w.moments) → ((j : ℕ) (u : View) → j ≢ id → get_elem? t.views j ≡ some u → FitsView w j u) → FitsView w id left → FitsView w (length t.views) right
    → AreSeated w (set t.views id left ++ right ∷ []) → RunGoesOn t h (record { words = t.words; homes = homes; views = set t.views id left ++ right ∷ [] }) []
goes_on_parted t h w is id left right homes is_trace shows others fits new seated = record {
  holds = record {
    trace = w;
    is_trace = is_trace;
    shows = shows;
    views = λ j u at. ⊎_elim
        (λ (x : get_elem? (set t.views id left) j ≡ some u). ⊎_elim
        (λ (y : (j ≡ id) × (left ≡ u)). subst (λ (z : ℕ × View). FitsView w z.0 z.1) (λ i. (sym y.0 i, y.1 i)) fits)
        (λ (y : (j ≢ id) × (get_elem? t.views j ≡ some u)). others j u y.0 y.1)
        (at_set t.views id j left u x))
        (λ (x : (j ≡ length (set t.views id left)) × (right ≡ u)).
        subst (λ (z : ℕ × View). FitsView w z.0 z.1) (λ i. ((sym (length-set t.views id left) ∙ sym x.0) i, x.1 i)) new)
        (at_more (set t.views id left) right u j at);
    seated = seated;
  };
  moments = is ∙ sym (append-nil h.trace.moments);
}

-- ---- seats that are there

-- a view that is there, once another takes its place
pub set_there : (views : List View) (id : ℕ) (u v : View) → get_elem? views id ≡ some u → get_elem? (set views id v) id ≡ some v
set_there [] id u v at = absurd (some-ne-none u (sym at))
set_there (x ∷ xs) zero u v at = refl
set_there (x ∷ xs) (suc id) u v at = set_there xs id u v at

-- what is there is so still, where one view becomes another that is so too
pub stays_there : (views : List View) (id : ℕ) (u v : View) → get_elem? views id ≡ some u → (P : View → Type 0) → (j : ℕ) → (P u → P v) → IsThere views j P → IsThere (set views id v) j P
stays_there views id u v at P j also there = ⊎_elim
    (λ (is : j ≡ id). (v, ap (get_elem? (set views id v)) is ∙ set_there views id u v at, also (subst P (some-injective there.0 u (sym there.1 ∙ ap (get_elem? views) is ∙ at)) there.2)))
    (λ (apart : j ≢ id). (there.0, set_else views id j v apart ∙ there.1, there.2))
    (cases_eq j id)

-- and where another view is added
pub there_before : (views : List View) (v : View) (P : View → Type 0) (j : ℕ) → IsThere views j P → IsThere (views ++ v ∷ []) j P
there_before views v P j there = (there.0, at_longer views (v ∷ []) j there.0 there.1, there.2)

-- whoever has a seat has it still
pub record Keeps (u v : View) : Type 0 where
  pub nodes : (n : ℕ) → HasSlot n u → HasSlot n v
  pub change : HasChange u → HasChange v

seated_next : (w : Trace) (ms : List Moment) (r : List Entry) (views : List View) (id : ℕ) (u v : View) → get_elem? views id ≡ some u → Keeps u v → AreSeated w views
    → AreSeated (record w { moments = ms; entries = r }) (set views id v)
seated_next w ms r views id u v at keeps seated = record {
  nodes = λ n few. stays_there views id u v at (HasSlot n) (w.owner n) (keeps.nodes n) (seated.nodes n few);
  change = stays_there views id u v at HasChange w.change keeps.change seated.change;
}

-- a node's view keeps its slot, and the change's the nodes that it took in
node_keeps : (n n' : NodeView) → n'.slot ≡ n.slot → Keeps (of_node n) (of_node n')
node_keeps n n' same = record { nodes = λ m h. subst (λ k. (k == m || false) ≡ true) (sym same) h; change = λ h. h }

change_keeps : (nodes : List NodeView) (c c' : ChangeView) → Keeps (of_change nodes c) (of_change nodes c')
change_keeps nodes c c' = record { nodes = λ m h. h; change = λ h. h }

-- ---- traces

-- the events, with one more
event_more : (ms : List Moment) (e : Event) → events (ms ++ by_node e ∷ []) ≡ events ms ++ e ∷ []
event_more ms e = filter_map-append event_at ms (by_node e ∷ [])

did_event : (ms : List Moment) (e : Event) → events (ms ++ entry (Did e) ∷ []) ≡ events ms ++ e ∷ []
did_event ms e = filter_map-append event_at ms (entry (Did e) ∷ [])

module _ (t : Table (Unit {0}) View) (h : Holds t) (id : ℕ) (homes : List (Maybe (Unit {0}))) where
  abbrev w : Trace
  w = h.trace

  abbrev es : List Event
  es = events w.moments

  abbrev s : State
  s = state_at w.moments

  -- the node of a seat learns something and does an event
  pub acts : (n n' : NodeView) (e : Event) (words : List ℕ) → get_elem? t.views id ≡ some (of_node n) → n'.slot ≡ n.slot → (KnowsNode es n → KnowsNode es n') → is_of_change e ≡ false → denial s e ≡ None
      → is_doer s n'.slot e ≡ true → Shows words (effect s e) → RunGoesOn t h (record { words = words; homes = homes; views = set t.views id (of_node (does n' e)) }) (by_node e ∷ [])
  acts n n' e words at same knows by_node_ may mine shows =
      let was = (h.views id (of_node n) at).nodes.0 in
      let fit : FitsNode w id n' = record { owned = ap w.owner same ∙ was.owned; seated = subst (λ i. i < w.seats) (sym same) was.seated; knows = knows was.knows } in
      let more_ = event_more w.moments e in
      let now = node_more w.entries w.moments e h.is_trace.is_record by_node_ may in
      let run : IsRun (es ++ e ∷ []) = subst IsRun more_ now.runs in
      let w' : Trace = record w { moments = w.moments ++ by_node e ∷ [] } in
      goes_on_next t h w' (by_node e ∷ []) refl words homes id (of_node (does n' e))
      (record {
        is_record = now;
        unseated = λ m none_. ap (done_by m) more_ ∙ done_by_other m es e (one_doer s n'.slot m e mine (λ at. omega (arith, at, none_, fit.seated))) ∙ h.is_trace.unseated m none_;
      })
      (subst (Shows words) (sym (ap state_after more_ ∙ state_more es e)) shows)
      (record {
        nodes = λ j u apart f. record {
          owned = f.owned;
          seated = f.seated;
          knows = subst (λ es. KnowsNode es u) (sym more_) (known_stays es e run u f.knows (one_doer s n'.slot u.slot e mine (λ at. apart (sym f.owned ∙ ap w.owner at ∙ fit.owned))));
        };
        change = λ j c apart f. record { change = f.change; seats = f.seats; entries = f.entries };
      })
      (record {
        nodes = (record { owned = fit.owned; seated = fit.seated; knows = subst (λ es. KnowsNode es (does n' e)) (sym more_) (known_grows es e run n' fit.knows mine) }, tt);
        apart = (tt, tt);
        change = λ c at. absurd (cc at);
      })
      (seated_next w w'.moments w.entries t.views id (of_node n) (of_node (does n' e)) at (node_keeps n (does n' e) same) h.seated)

  -- the change does one
  pub changes : (nodes : List NodeView) (c : ChangeView) (e : Event) (words : List ℕ) → get_elem? t.views id ≡ some (of_change nodes c) → is_of_change e ≡ true → denial s e ≡ None
      → Shows words (effect s e) → RunGoesOn t h (record { words = words; homes = homes; views = set t.views id (of_change nodes (notes c (Did e))) }) (entry (Did e) ∷ [])
  changes nodes c e words at change may shows =
      let fit = h.views id (of_change nodes c) at in
      let mine = fit.change c refl in
      let more_ = did_event w.moments e in
      let now = did_more w.entries w.moments e h.is_trace.is_record change may in
      let run : IsRun (es ++ e ∷ []) = subst IsRun more_ now.runs in
      let nobody_ : doer s e ≡ None = (changes_are_of_no_node s e (runs_are_consistent es h.is_trace.is_record.runs) may).0 change in
      let w' : Trace = record w { moments = w.moments ++ entry (Did e) ∷ []; entries = w.entries ++ Did e ∷ [] } in
      let node : (j : ℕ) (u : NodeView) → FitsNode w j u → FitsNode w' j u =
      λ j u f. record { owned = f.owned; seated = f.seated; knows = subst (λ es. KnowsNode es u) (sym more_) (known_stays es e run u f.knows (no_doer s u.slot e nobody_)) } in
      goes_on_next t h w' (entry (Did e) ∷ []) refl words homes id (of_change nodes (notes c (Did e)))
      (record {
        is_record = now;
        unseated = λ m none_. ap (done_by m) more_ ∙ done_by_other m es e (no_doer s m e nobody_) ∙ h.is_trace.unseated m none_;
      })
      (subst (Shows words) (sym (ap state_after more_ ∙ state_more es e)) shows)
      (record { nodes = λ j u apart f. node j u f; change = λ j d apart f. absurd (apart (sym f.change ∙ mine.change)) })
      (record {
        nodes = all_into (FitsNode w id) (FitsNode w' id) nodes (node id) fit.nodes;
        apart = fit.apart;
        change = λ d at. subst (λ (d : ChangeView). FitsChange w' id d) (same_Some (notes c (Did e)) d at)
            (record { change = mine.change; seats = mine.seats; entries = ap (λ r. r ++ Did e ∷ []) mine.entries });
      })
      (seated_next w w'.moments w'.entries t.views id (of_change nodes c) (of_change nodes (notes c (Did e))) at (change_keeps nodes c (notes c (Did e))) h.seated)

  -- the change sees something
  pub sees : (nodes : List NodeView) (c : ChangeView) (x : Entry) → get_elem? t.views id ≡ some (of_change nodes c) → event_in x ≡ None → IsSo w.moments (entry x)
      → RunGoesOn t h (record { words = t.words; homes = homes; views = set t.views id (of_change nodes (notes c x)) }) (entry x ∷ [])
  sees nodes c x at quiet so =
      let fit = h.views id (of_change nodes c) at in
      let mine = fit.change c refl in
      let more_ = quiet_events w.moments x quiet in
      let w' : Trace = record w { moments = w.moments ++ entry x ∷ []; entries = w.entries ++ x ∷ [] } in
      let node : (j : ℕ) (u : NodeView) → FitsNode w j u → FitsNode w' j u =
      λ j u f. record { owned = f.owned; seated = f.seated; knows = subst (λ es. KnowsNode es u) (sym more_) f.knows } in
      goes_on_next t h w' (entry x ∷ []) refl t.words homes id (of_change nodes (notes c x))
      (record {
        is_record = seen_more w.entries w.moments x h.is_trace.is_record quiet so;
        unseated = λ m none_. ap (done_by m) more_ ∙ h.is_trace.unseated m none_;
      })
      (subst (Shows t.words) (sym (ap state_after more_)) h.shows)
      (record { nodes = λ j u apart f. node j u f; change = λ j d apart f. absurd (apart (sym f.change ∙ mine.change)) })
      (record {
        nodes = all_into (FitsNode w id) (FitsNode w' id) nodes (node id) fit.nodes;
        apart = fit.apart;
        change = λ d at. subst (λ (d : ChangeView). FitsChange w' id d) (same_Some (notes c x) d at)
            (record { change = mine.change; seats = mine.seats; entries = ap (λ r. r ++ x ∷ []) mine.entries });
      })
      (seated_next w w'.moments w'.entries t.views id (of_change nodes c) (of_change nodes (notes c x)) at (change_keeps nodes c (notes c x)) h.seated)

  -- a node learns something of the trace as it is
  pub learns : (n n' : NodeView) → get_elem? t.views id ≡ some (of_node n) → n'.slot ≡ n.slot → (KnowsNode es n → KnowsNode es n')
      → RunGoesOn t h (record { words = t.words; homes = homes; views = set t.views id (of_node n') }) []
  learns n n' at same knows =
      let fit = (h.views id (of_node n) at).nodes.0 in
      goes_on_next t h w [] (sym (append-nil w.moments)) t.words homes id (of_node n') h.is_trace h.shows
      (record { nodes = λ j u apart f. f; change = λ j d apart f. f })
      (record {
        nodes = (record { owned = ap w.owner same ∙ fit.owned; seated = subst (λ i. i < w.seats) (sym same) fit.seated; knows = knows fit.knows }, tt);
        apart = (tt, tt);
        change = λ c at. absurd (cc at);
      })
      (seated_next w w.moments w.entries t.views id (of_node n) (of_node n') at (node_keeps n n' same) h.seated)
