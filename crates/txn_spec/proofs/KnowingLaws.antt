-- What is known of a node stays so through all that it doesn't do, and grows by what it does.
use Rattle.std.proofs.Common.{◌≡◌, ◌∙◌, ℕ, ◌+◌, ◌<◌, Bool, true, false, ◌&&◌, cond, List, [], ◌∷◌, ◌++◌, length, Option, Some, None, refl, sym, ap, subst, arith}
use Rattle.std.specs.Prelude.{◌==◌, nat_le, nat_lt, option_map}
use Rattle.std.specs.Option.{option_map_or}
use Rattle.std.proofs.lemmas.Bool.{and_parts, both_ways, eq-eqb, eqb-true, false≢true, ne_eqb}
use Rattle.std.proofs.lemmas.List.{append_assoc, append-nil}
use Rattle.std.proofs.lemmas.Option.{same_Some, slice_get_within}
use Rattle.config_graph.specs.Kinds.{row}
use Rattle.config_graph.specs.declared.TheConstants.{MAX_NODES, MAX_PORTS}
use Rattle.quiesce_word.specs.Phases.{is_idle}
use Rattle.quiesce_word.specs.SlotWords.{unpack_slot}
use Rattle.quiesce_word.specs.Words.{unpack}
use Rattle.quiesce_word.specs.declared.slot_word.SlotWord.{SlotWord}
use Rattle.quiesce_core.specs.Alters.{exchange_next, service_by}
use Rattle.quiesce_core.specs.Effect.{effect}
use Rattle.quiesce_core.specs.Knowledge.{IsKnown, known_next}
use Rattle.quiesce_core.specs.Legal.{Legal}
use Rattle.quiesce_core.specs.Rules.{denial, is_taken}
use Rattle.quiesce_core.specs.Runs.{IsRun, doer, done_by, is_doer, state_after}
use Rattle.quiesce_core.specs.State.{State, exchange, owner, service, slot}
use Rattle.quiesce_core.specs.Traffic.{IsConsistent}
use Rattle.quiesce_core.specs.WellFormed.{IsWellFormed}
use Rattle.quiesce_core.specs.Words.{changed_slot, slot_fields_of, word_of}
use Rattle.quiesce_core.specs.declared.event.Event.{Event}
use Rattle.quiesce_core.specs.declared.event.Event.TheVariants.{Begin, Call, Take, Give, End, More, Ask, Hear, Miss, Close, Reopen, Make, Link, Unlink, Remove}
use Rattle.quiesce_core.specs.declared.state.Exchange.{Exchange}
use Rattle.quiesce_core.specs.declared.state.Slot.{Slot}
use Rattle.base.proofs.OptionLaws.{option_map_some}
use Rattle.quiesce_core.proofs.AlterLaws.{exchanges_next, ports_grow, reconfigured, services_next}
use Rattle.quiesce_core.proofs.ConfigurationLaws.{owner_kept}
use Rattle.quiesce_core.proofs.KnownLaws.{known_by_others, known_by_own}
use Rattle.quiesce_core.proofs.LegalLaws.{legal}
use Rattle.quiesce_core.proofs.RunLaws.{done_by_more, last_step, runs_are_consistent, runs_are_well_formed, state_more}
use Rattle.quiesce_core.proofs.StabilityLaws.{serving_nodes_stay}
use Rattle.quiesce_core.proofs.StateLaws.{taken_busy}
use Rattle.quiesce_core.proofs.WordLaws.{slot_word_stays, slot_words_of_runs}
use Rattle.txn_spec.specs.Views.{does, load_step, reads}
use Rattle.txn_spec.specs.Traces.{AreLoaded, IsLoadedOf, KnowsNode, ShowsExchange, WasLoaded}
use Rattle.txn_spec.specs.declared.view.LoadKind.{LoadKind}
use Rattle.txn_spec.specs.declared.view.LoadStep.{LoadStep}
use Rattle.txn_spec.specs.declared.view.Loaded.{Loaded}
use Rattle.txn_spec.specs.declared.view.NodeView.{NodeView}

-- ---- doers

-- an event has one doer
pub one_doer : (s : State) (n m : ℕ) (e : Event) → is_doer s n e ≡ true → (m ≡ n → ⊥) → is_doer s m e ≡ false
one_doer s n m e does_ apart = by (doer s e) does_
  where
    by : (o : Option ℕ) → option_map_or (λ i. i == n) o false ≡ true → option_map_or (λ i. i == m) o false ≡ false
    by None h = absurd (false≢true h)
    by (Some i) h = ne_eqb i m (λ at. apart (sym at ∙ eqb-true i n h))

pub no_doer : (s : State) (m : ℕ) (e : Event) → doer s e ≡ None → is_doer s m e ≡ false
no_doer s m e none_ = ap (λ o. option_map_or (λ i. i == m) o false) none_

-- ---- what the slot's word says of the node

None≢Some : {k : ℕ} → None ≡ Some k → ⊥
None≢Some at = cc at

there_below : {A : Type 0} (f : Slot → A) (es : List Event) (n : ℕ) (x : A) → option_map f (slot (state_after es).config n) ≡ Some x → n < length (state_after es).config.slots
there_below f es n x at = let it = option_map_some f (slot (state_after es).config n) x at in slice_get_within (state_after es).config.slots n it.0 it.1

-- only the Make of a slot changes its word, and no node was made there before
not_made_again : (es : List Event) (e : Event) (n : ℕ) → denial (state_after es) e ≡ None → n < length (state_after es).config.slots → changed_slot e ≡ Some n → ⊥
not_made_again es e n may made at = by e may at
  where
    by : (e : Event) → denial (state_after es) e ≡ None → changed_slot e ≡ Some n → ⊥
    by (Make k node from) may at =
        let l = legal (state_after es) (Make k node from) may in
        let c = (state_after es).config in
        let room = (and_parts (k == length c.slots && nat_lt k MAX_NODES) (nat_le (length c.gates + length (row node.kind).requires_) MAX_PORTS) l.room).0 in
        let next = eqb-true k (length c.slots) (and_parts (k == length c.slots) (nat_lt k MAX_NODES) room).0 in
        let same = same_Some k n at in
        omega (arith, next, same, made)
    by (Begin p k v) may at = absurd (None≢Some at)
    by (Call p k v) may at = absurd (None≢Some at)
    by (Miss p) may at = absurd (None≢Some at)
    by (Take p k v) may at = absurd (None≢Some at)
    by (Give p k v) may at = absurd (None≢Some at)
    by (More p k v) may at = absurd (None≢Some at)
    by (Ask p k v) may at = absurd (None≢Some at)
    by (Hear p k v) may at = absurd (None≢Some at)
    by (End p k v) may at = absurd (None≢Some at)
    by (Close p) may at = absurd (None≢Some at)
    by (Reopen p) may at = absurd (None≢Some at)
    by (Link p m x) may at = absurd (None≢Some at)
    by (Unlink p) may at = absurd (None≢Some at)
    by (Remove m) may at = absurd (None≢Some at)

made_stays : (es : List Event) (e : Event) (n : ℕ) (w : SlotWord) → IsRun (es ++ e ∷ []) → option_map slot_fields_of (slot (state_after es).config n) ≡ Some w
    → option_map slot_fields_of (slot (state_after (es ++ e ∷ [])).config n) ≡ Some w
made_stays es e n w run made =
    let last = last_step es e run in
    sym (slot_words_of_runs (es ++ e ∷ []) n run)
    ∙ ap unpack_slot (slot_word_stays (state_after es) (state_after (es ++ e ∷ [])) e (runs_are_well_formed es last.0) last.1 n
    (not_made_again es e n last.1.allowed (there_below slot_fields_of es n w made)))
    ∙ slot_words_of_runs es n last.0 ∙ made

-- ---- what was loaded at an idle port

-- an idle port of its own is changed by its owner's events alone
idle_stays : (s : State) (e : Event) (n p : ℕ) → IsWellFormed s → IsConsistent s → Legal s e → is_doer s n e ≡ false → owner s.config p ≡ n → is_idle (exchange s p).phase ≡ true
    → exchange (effect s e) p ≡ exchange s p
idle_stays s e n p w c l other owned idle = exchanges_next s e w l p ∙ by e l other
  where
    -- the port's owner does it
    mine : (q : ℕ) → (q == p) ≡ true → (owner s.config q == n) ≡ false → ⊥
    mine q at other = both_ways (owner s.config q == n) other (eq-eqb (owner s.config q) n (ap (owner s.config) (eqb-true q p at) ∙ owned))

    busy : (q : ℕ) → (q == p) ≡ true → is_taken s q ≡ true → ⊥
    busy q at taken = both_ways (is_idle (exchange s p).phase) (subst (λ i. is_idle (exchange s i).phase ≡ false) (eqb-true q p at) (taken_busy s q c taken)) idle

    keeps : (b : Bool) (x : _) → (b ≡ true → ⊥) → cond b x (exchange s p) ≡ exchange s p
    keeps true x h = absurd (h refl)
    keeps false x h = refl

    by : (e : Event) → Legal s e → is_doer s n e ≡ false → exchange_next s p e ≡ exchange s p
    by (Begin q k v) l other = keeps (q == p) _ (λ at. mine q at other)
    by (Call q k v) l other = keeps (q == p) _ (λ at. mine q at other)
    by (Ask q k v) l other = keeps (q == p) _ (λ at. mine q at other)
    by (End q k v) l other = keeps (q == p) _ (λ at. mine q at other)
    by (Give q k v) l other = keeps (q == p) _ (λ at. busy q at l.taken)
    by (More q k v) l other = keeps (q == p) _ (λ at. busy q at l.taken)
    by (Take q k v) l other = refl
    by (Hear q k v) l other = refl
    by (Miss q) l other = refl
    by (Close q) l other = refl
    by (Reopen q) l other = refl
    by (Make m node from) l other = refl
    by (Link q m x) l other = refl
    by (Unlink q) l other = refl
    by (Remove m) l other = refl

-- the service of a node that doesn't do the event
service_stays : (s : State) (e : Event) (n : ℕ) → IsWellFormed s → Legal s e → is_doer s n e ≡ false → service (effect s e) n ≡ service s n
service_stays s e n w l other = services_next s e w l n ∙ ap (λ b. cond b (service_by (service s n) e) (service s n)) other

loaded_stays : (s : State) (e : Event) (n : ℕ) (l : Loaded) → IsWellFormed s → IsConsistent s → Legal s e → is_doer s n e ≡ false → IsLoadedOf s n l → IsLoadedOf (effect s e) n l
loaded_stays s e n l w c may other h =
    let d = reconfigured s e may in
    let same = idle_stays s e n l.port w c may other h.owned h.idle in
    record {
      made = omega (arith, h.made, d.ports, ports_grow s.config e);
      owned = owner_kept s.config (effect s e).config e d l.port h.made ∙ h.owned;
      idle = ap (λ (x : Exchange). is_idle x.phase) same ∙ h.idle;
      shown = subst (ShowsExchange (unpack l.word)) (sym same) h.shown;
      leads = λ v serves.
          let before : service s n ≡ Some v = sym (service_stays s e n w may other) ∙ serves in
          serving_nodes_stay s e w may n v before l.port h.owned ∙ h.leads v before;
    }

-- ---- the words that were loaded

loads_stay : (n : ℕ) (es rest : List Event) (e : Event) (ls : List LoadStep) → AreLoaded n es rest ls → AreLoaded n es (rest ++ e ∷ []) ls
loads_stay n es rest e [] h = tt
loads_stay n es rest e (l ∷ ls) h = (h.0, h.1 ++ e ∷ [], ap (λ es. es ++ e ∷ []) h.2 ∙ append_assoc h.0 h.1 (e ∷ []), h.3, loads_stay n (es ++ h.0) h.1 e ls h.4)

-- one more, at the end of the run
loads_grow : (n : ℕ) (es rest : List Event) (ls : List LoadStep) (l : LoadStep) → AreLoaded n es rest ls → WasLoaded n (es ++ rest) l → AreLoaded n es rest (ls ++ l ∷ [])
loads_grow n es rest [] l h now = (rest, [], sym (append-nil rest), now, tt)
loads_grow n es rest (k ∷ ls) l h now =
    (h.0, h.1, h.2, h.3, loads_grow n (es ++ h.0) h.1 ls l h.4 (subst (λ es. WasLoaded n es l) (ap (λ r. es ++ r) h.2 ∙ sym (append_assoc es h.0 h.1)) now))

-- a node knows what it has just loaded
pub read_known : (es : List Event) (n : NodeView) (k : LoadKind) (p w : ℕ) → w ≡ word_of (state_after es) p → KnowsNode es n → KnowsNode es (reads n k p w)
read_known es n k p w word h = record {
  made = h.made;
  log = h.log;
  loads = loads_grow n.slot [] es n.loads (load_step n k p w) h.loads (record { done = ap length h.log; word = word });
  known = h.known;
  loaded = h.loaded;
}

-- ---- all that is known

module _ (es : List Event) (e : Event) (run : IsRun (es ++ e ∷ [])) (n : NodeView) (h : KnowsNode es n) where
  abbrev s : State
  s = state_after es

  may : Legal s e
  may = legal s e (last_step es e run).1.allowed

  w : IsWellFormed s
  w = runs_are_well_formed es (last_step es e run).0

  c : IsConsistent s
  c = runs_are_consistent es (last_step es e run).0

  there : n.slot < length s.config.slots
  there = there_below slot_fields_of es n.slot n.made h.made

  -- what others do leaves it
  pub known_stays : is_doer s n.slot e ≡ false → KnowsNode (es ++ e ∷ []) n
  known_stays other = record {
    made = made_stays es e n.slot n.made run h.made;
    log = h.log ∙ sym (append-nil (done_by n.slot es)) ∙ sym (done_by_more n.slot es e ∙ ap (λ b. done_by n.slot es ++ cond b (e ∷ []) []) other);
    loads = loads_stay n.slot [] es e n.loads h.loads;
    known = subst (λ t. IsKnown t n.slot n.made.first_port n.known) (sym (state_more es e)) (known_by_others s e n.slot n.made.first_port n.known w c may there other h.known);
    loaded = λ l at. subst (λ t. IsLoadedOf t n.slot l) (sym (state_more es e)) (loaded_stays s e n.slot l w c may other (h.loaded l at));
  }

  -- it knows what it does
  pub known_grows : is_doer s n.slot e ≡ true → KnowsNode (es ++ e ∷ []) (does n e)
  known_grows mine = record {
    made = made_stays es e n.slot n.made run h.made;
    log = ap (λ log. log ++ e ∷ []) h.log ∙ sym (done_by_more n.slot es e ∙ ap (λ b. done_by n.slot es ++ cond b (e ∷ []) []) mine);
    loads = loads_stay n.slot [] es e n.loads h.loads;
    known = subst (λ t. IsKnown t n.slot n.made.first_port (known_next n.made.first_port n.known e)) (sym (state_more es e)) (known_by_own s e n.slot n.made.first_port n.known w c may there mine h.known);
    loaded = λ l at. absurd (cc at);
  }
