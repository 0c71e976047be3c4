-- Behind a place at which all was at rest at once, gates alone are turned where nothing but that and nodes' events follows.
use Rattle.std.proofs.Common.{◌≡◌, ◌∙◌, ℕ, zero, suc, Bool, true, false, cond, List, [], ◌∷◌, ◌++◌, append_assoc, length, Option, Some, None, refl, sym, ap, subst, ⊎_elim}
use Rattle.std.specs.Prelude.{not, find, fold, option_map, option_and_then, slice_get}
use Rattle.std.specs.List.{list_any, range_with_len}
use Rattle.std.specs.Option.{option_map_or}
use Rattle.std.proofs.lemmas.Bool.{both_ways, cases_Bool, eq-eqb}
use Rattle.base.proofs.FindLaws.{find-none}
use Rattle.base.proofs.OptionLaws.{map_or_true}
use Rattle.change_spec.specs.Lawful.{is_done, is_unfinished, unfinished_of}
use Rattle.change_spec.specs.Statements.{Statement, is_finish}
use Rattle.quiesce_core.proofs.StabilityLaws.{busy_is_live}
use Rattle.change_spec.specs.Resting.{AreAtRest}
use Rattle.change_transcript_laws.specs.Rests.{AreCalm, HaveFolds}
use Rattle.std.proofs.lemmas.Option.{none-some}
use Rattle.quiesce_word.specs.Phases.{is_idle}
use Rattle.quiesce_core.specs.Legal.{Legal}
use Rattle.std.proofs.lemmas.List.{append-nil}
use Rattle.quiesce_laws.proofs.AfterRunLaws.{after_run}
use Rattle.quiesce_laws.specs.Steps.{is_shaping}
use Rattle.change_spec.specs.Opening.{argument_of, fold_at, fold_of_node, fold_within}
use Rattle.component_trait.specs.Fold.{fold_from, fold_next}
use Rattle.component_trait.specs.Moves as moves
use Rattle.component_trait.specs.States.{Kept, NodeState, at_rest}
use Rattle.component_trait.specs.Tables.{opening}
use Rattle.quiesce_core.specs.Doers.{is_of_change}
use Rattle.quiesce_core.specs.Effect.{effect}
use Rattle.quiesce_core.specs.Runs.{IsRun, done_by, done_from, is_doer, state_after}
use Rattle.quiesce_core.specs.State.{State, exchange, is_live, owner, slot}
use Rattle.quiesce_core.specs.declared.event.Event.{Event}
use Rattle.quiesce_core.specs.declared.event.Event.TheVariants.{Begin, Close, Reopen, Make, Link, Unlink, Remove}
use Rattle.quiesce_core.specs.declared.state.Exchange.{Exchange}
use Rattle.quiesce_core.specs.declared.state.Slot.{Slot}
use Rattle.quiesce_core.proofs.LegalLaws.{legal}
use Rattle.quiesce_core.proofs.RunLaws.{fronts_are_runs, runs_are_consistent, runs_are_well_formed, state_more, done_by_other}
use Rattle.quiesce_laws.proofs.DoerLaws.{doer_live, gone_does_nothing}
use Rattle.change_transcript_laws.proofs.Resting.{begins_none, is_begin, only_begins}
use Rattle.change_transcript_laws.proofs.Still.{log_parts, one_more}

abbrev slots_after : List Event → List Slot
slots_after es = (state_after es).config.slots

slots_one : (s : State) (e : Event) → is_shaping e ≡ false → (effect s e).config.slots ≡ s.config.slots
slots_one s (Close p) h = refl
slots_one s (Reopen p) h = refl
slots_one s (Make n node from) h = absurd (both_ways true h refl)
slots_one s (Link p n x) h = absurd (both_ways true h refl)
slots_one s (Unlink p) h = absurd (both_ways true h refl)
slots_one s (Remove n) h = absurd (both_ways true h refl)
slots_one s (Begin p k v) h = refl
slots_one s _ h = refl

slots_more : (es : List Event) (e : Event) → is_shaping e ≡ false → slots_after (es ++ e ∷ []) ≡ slots_after es
slots_more es e h = ap (λ (s : State). s.config.slots) (state_more es e) ∙ slots_one (state_after es) e h

pub slots_later : (es later : List Event) → AreCalm later → slots_after (es ++ later) ≡ slots_after es
slots_later es [] h = ap slots_after (append-nil es)
slots_later es (e ∷ later) h = ap slots_after (sym (append_assoc es (e ∷ []) later)) ∙ slots_later (es ++ e ∷ []) later h.1 ∙ slots_more es e h.0

live_by : (n : ℕ) (a b : List Event) → slots_after a ≡ slots_after b → is_live (state_after a).config n ≡ is_live (state_after b).config n
live_by n a b same = ap (λ ss. option_map_or (λ (x : Slot). x.live) (slice_get ss n) false) same

gone_calm : (es later : List Event) (n : ℕ) → IsRun (es ++ later) → AreCalm later → is_live (state_after es).config n ≡ false → done_by n (es ++ later) ≡ done_by n es
gone_calm es [] n run calm gone = ap (done_by n) (append-nil es)
gone_calm es (e ∷ later) n run calm gone =
    let w = one_more es e later run in
    ap (done_by n) (sym w.whole)
    ∙ gone_calm (es ++ e ∷ []) later n w.runs_on calm.1 (live_by n (es ++ e ∷ []) es (slots_more es e calm.0) ∙ gone)
    ∙ done_by_other n es e (gone_does_nothing (state_after es) e n (runs_are_well_formed es w.run) (legal (state_after es) e w.step.allowed) gone)

-- ---- folds

fold_parts : (first : ℕ) (o : Option NodeState) (xs ys : List Event) → fold (fold_next first) o (xs ++ ys) ≡ fold (fold_next first) (fold (fold_next first) o xs) ys
fold_parts first o [] ys = refl
fold_parts first o (x ∷ xs) ys = fold_parts first (fold_next first o x) xs ys

abbrev opened : List Event → ℕ → Slot → Option ℕ → Option Kept
opened es fuel m from = option_map_or (λ k. option_map (λ (s : NodeState). s.kept) (fold_within es fuel k)) from (Some (opening m.node.kind (argument_of m)))

abbrev of_slot : List Event → ℕ → ℕ → Slot → Option NodeState
of_slot es fuel n m = option_and_then (fold_at m (done_by n es)) (opened es fuel m m.from)

module _ (es later : List Event) (run : IsRun (es ++ later)) (calm : AreCalm later) (es_run : IsRun es) where
  abbrev E : List Event
  E = es ++ later

  same_opened : (fuel : ℕ) → ((k : ℕ) → is_live (state_after es).config k ≡ false → fold_within E fuel k ≡ fold_within es fuel k)
      → (n : ℕ) (m : Slot) → slot (state_after es).config n ≡ Some m → (o : Option ℕ) → m.from ≡ o → opened E fuel m o ≡ opened es fuel m o
  same_opened fuel rec n m at None is = refl
  same_opened fuel rec n m at (Some k) is = ap (option_map (λ (s : NodeState). s.kept)) (rec k ((after_run es es_run).gone n k m at is))

  gone_fold : (fuel k : ℕ) → is_live (state_after es).config k ≡ false → fold_within E fuel k ≡ fold_within es fuel k
  gone_fold zero k gone = refl
  gone_fold (suc fuel) k gone = ap (λ ss. option_and_then (of_slot E fuel k) (slice_get ss k)) (slots_later es later calm) ∙ by (λ j g. gone_fold fuel j g) (slot (state_after es).config k) refl
    where
      by : ((j : ℕ) → is_live (state_after es).config j ≡ false → fold_within E fuel j ≡ fold_within es fuel j) → (o : Option Slot) → slot (state_after es).config k ≡ o
          → option_and_then (of_slot E fuel k) o ≡ option_and_then (of_slot es fuel k) o
      by rec None at = refl
      by rec (Some m) at = (λ i. option_and_then (fold_at m (gone_calm es later k run calm gone i)) (same_opened fuel rec k m at m.from refl i))

-- a done node that begins a transaction has no fold from there on
module _ (es rest : List Event) (p k v n : ℕ) (st : NodeState) (es_run : IsRun es) (run : IsRun (es ++ Begin p k v ∷ rest)) (calm : AreCalm rest) (own : is_doer (state_after es) n (Begin p k v) ≡ true)
    (folds : fold_of_node es n ≡ Some st) (done : moves.is_done st ≡ true) where
  abbrev begun : List Event
  begun = Begin p k v ∷ rest

  abbrev whole : List Event
  whole = es ++ begun

  log : (b : Bool) → is_doer (state_after es) n (Begin p k v) ≡ b → b ≡ true → (r : List Event) × (done_from (state_after es) n begun ≡ Begin p k v ∷ r)
  log true e h =
      let r = done_from (effect (state_after es) (Begin p k v)) n rest in
      (r, ap (λ c. cond c (Begin p k v ∷ r) r) e)
  log false e h = absurd (both_ways false refl h)

  none : (m : Slot) (x : Option Kept) → option_and_then (fold_at m (done_by n es)) x ≡ Some st → option_and_then (fold_at m (done_by n whole)) x ≡ None
  none m None h = refl
  none m (Some kept) h =
      let w = log (is_doer (state_after es) n (Begin p k v)) refl own in
      let open_ = at_rest m.node.kind (argument_of m) kept in
      ap (fold_from m.first_port open_) (log_parts n es begun ∙ ap (λ r. done_by n es ++ r) w.1)
      ∙ fold_parts m.first_port (Some open_) (done_by n es) (Begin p k v ∷ w.0)
      ∙ ap (λ o. fold (fold_next m.first_port) o (Begin p k v ∷ w.0)) h
      ∙ begins_none m.first_port p k v st w.0 done

  by_slot : (o : Option Slot) → slot (state_after es).config n ≡ o → option_and_then (of_slot es n n) o ≡ Some st → option_and_then (of_slot whole n n) o ≡ None
  by_slot None at h = refl
  by_slot (Some m) at h =
      ap (option_and_then (fold_at m (done_by n whole))) (same_opened es begun run (refl, calm) es_run n (gone_fold es begun run (refl, calm) es_run n) n m at m.from refl)
      ∙ none m (opened es n m m.from) h

  pub never_begins : fold_of_node whole n ≡ None
  never_begins = ap (λ ss. option_and_then (of_slot whole n n) (slice_get ss n)) (slots_later es begun (refl, calm)) ∙ by_slot (slot (state_after es).config n) refl folds

-- ---- all of it

abbrev pub AreDone : List Event → Type 0
AreDone es = (n : ℕ) → is_live (state_after es).config n ≡ true → (st : NodeState) × (fold_of_node es n ≡ Some st) × (moves.is_done st ≡ true)

abbrev pub IsIdleAll : List Event → Type 0
IsIdleAll es = (p : ℕ) → is_idle (exchange (state_after es) p).phase ≡ true

-- a gate that is turned
abbrev is_turn : Event → Bool
is_turn (Close q) = true
is_turn (Reopen q) = true
is_turn _ = false

turn_calm : (e : Event) → is_turn e ≡ true → is_shaping e ≡ false
turn_calm (Close q) h = refl
turn_calm (Reopen q) h = refl
turn_calm _ h = absurd (both_ways false refl h)

turn_log : (s : State) (n : ℕ) (e : Event) → is_turn e ≡ true → is_doer s n e ≡ false
turn_log s n (Close q) h = refl
turn_log s n (Reopen q) h = refl
turn_log s n _ h = absurd (both_ways false refl h)

turn_exchange : (s : State) (e : Event) (p : ℕ) → is_turn e ≡ true → exchange (effect s e) p ≡ exchange s p
turn_exchange s (Close q) p h = refl
turn_exchange s (Reopen q) p h = refl
turn_exchange s _ p h = absurd (both_ways false refl h)

turn_fold : (es : List Event) (e : Event) → is_turn e ≡ true → (fuel n : ℕ) → fold_within (es ++ e ∷ []) fuel n ≡ fold_within es fuel n
turn_fold es e turn zero n = refl
turn_fold es e turn (suc fuel) n =
    ap (λ ss. option_and_then (of_slot (es ++ e ∷ []) fuel n) (slice_get ss n)) (slots_more es e (turn_calm e turn)) ∙ by (λ k. turn_fold es e turn fuel k) (slot (state_after es).config n)
  where
    opens : ((k : ℕ) → fold_within (es ++ e ∷ []) fuel k ≡ fold_within es fuel k) → (m : Slot) (o : Option ℕ) → opened (es ++ e ∷ []) fuel m o ≡ opened es fuel m o
    opens rec m None = refl
    opens rec m (Some k) = ap (option_map (λ (s : NodeState). s.kept)) (rec k)

    by : ((k : ℕ) → fold_within (es ++ e ∷ []) fuel k ≡ fold_within es fuel k) → (o : Option Slot) → option_and_then (of_slot (es ++ e ∷ []) fuel n) o ≡ option_and_then (of_slot es fuel n) o
    by rec None = refl
    by rec (Some m) = (λ i. option_and_then (fold_at m (done_by_other n es e (turn_log (state_after es) n e turn) i)) (opens rec m m.from i))

-- no event of a node but a Begin may happen, and none of those has a fold
no_node_event : (es later : List Event) (e : Event) → is_of_change e ≡ false → IsRun (es ++ e ∷ later) → AreCalm later → IsIdleAll es → AreDone es → HaveFolds (es ++ e ∷ later) → ⊥
no_node_event es later e by_ run calm idle done folds =
    let w = one_more es e later run in
    let ok = legal (state_after es) e w.step.allowed in
    by e by_ (only_begins (state_after es) (runs_are_consistent es w.run) (λ p live. idle p) e ok by_) ok run folds w.run
  where
    by : (e : Event) → is_of_change e ≡ false → is_begin e ≡ true → Legal (state_after es) e → IsRun (es ++ e ∷ later) → HaveFolds (es ++ e ∷ later) → IsRun es → ⊥
    by (Begin p k v) h b ok run folds es_run =
        let n = owner (state_after es).config p in
        let own : is_doer (state_after es) n (Begin p k v) ≡ true = eq-eqb n n refl in
        let live = doer_live (state_after es) (Begin p k v) n (runs_are_well_formed es es_run) ok refl in
        let d = done n live in
        let t = folds n (live_by n (es ++ Begin p k v ∷ later) es (slots_later es (Begin p k v ∷ later) (refl, calm)) ∙ live) in
        none-some t.0 (sym (never_begins es later p k v n d.0 es_run run calm own d.1 d.2) ∙ t.1)
    by _ h b ok run folds es_run = both_ways false refl b

pub stays_done : (es later : List Event) → IsRun (es ++ later) → AreCalm later → IsIdleAll es → AreDone es → HaveFolds (es ++ later) → AreDone (es ++ later)
stays_done es [] run calm idle done folds = subst AreDone (sym (append-nil es)) done
stays_done es (e ∷ later) run calm idle done folds = by e calm.0 refl (λ turn. turned turn (stays_done (es ++ e ∷ []) later))
  where
    turned : is_turn e ≡ true → (IsRun ((es ++ e ∷ []) ++ later) → AreCalm later → IsIdleAll (es ++ e ∷ []) → AreDone (es ++ e ∷ []) → HaveFolds ((es ++ e ∷ []) ++ later) → AreDone ((es ++ e ∷ []) ++ later))
        → AreDone (es ++ e ∷ later)
    turned turn rec =
        let whole : es ++ e ∷ later ≡ (es ++ e ∷ []) ++ later = sym (append_assoc es (e ∷ []) later) in
        subst AreDone (sym whole)
        (rec (subst IsRun whole run) calm.1 (λ p. ap (λ (s : State). is_idle (exchange s p).phase) (state_more es e) ∙ ap (λ (x : Exchange). is_idle x.phase) (turn_exchange (state_after es) e p turn) ∙ idle p)
        (λ n live. let d = done n (sym (live_by n (es ++ e ∷ []) es (slots_more es e calm.0)) ∙ live) in (d.0, turn_fold es e turn (suc n) n ∙ d.1, d.2))
        (subst HaveFolds whole folds))

    by : (x : Event) → is_shaping x ≡ false → e ≡ x → (is_turn e ≡ true → AreDone (es ++ e ∷ later)) → AreDone (es ++ e ∷ later)
    by (Close q) c is go = go (ap is_turn is)
    by (Reopen q) c is go = go (ap is_turn is)
    by (Make n node from) c is go = absurd (both_ways true c refl)
    by (Link p n x) c is go = absurd (both_ways true c refl)
    by (Unlink p) c is go = absurd (both_ways true c refl)
    by (Remove n) c is go = absurd (both_ways true c refl)
    by _ c is go = absurd (no_node_event es later e (ap is_of_change is) run calm.1 idle done folds)

-- ---- from rest at one place to the end

idle_all : (es : List Event) → IsRun es → AreAtRest es → IsIdleAll es
idle_all es run rest p = ⊎_elim
    (λ (idle : is_idle (exchange (state_after es) p).phase ≡ true). idle)
    (λ (busy : is_idle (exchange (state_after es) p).phase ≡ false). rest.ports p (busy_is_live (state_after es) p (runs_are_consistent es run) busy))
    (cases_Bool (is_idle (exchange (state_after es) p).phase))

done_all : (es : List Event) → AreAtRest es → AreDone es
done_all es rest n live = map_or_true moves.is_done (fold_of_node es n) (rest.nodes n live)

pub none_unfinished : (es later : List Event) → IsRun (es ++ later) → AreCalm later → AreAtRest es → HaveFolds (es ++ later) → (statements : List Statement) → unfinished_of statements (es ++ later) ≡ None
none_unfinished es later run calm rest folds statements = by (list_any is_finish statements)
  where
    done : AreDone (es ++ later) → (n : ℕ) → is_unfinished (es ++ later) n ≡ false
    done d n = ⊎_elim
        (λ (live : is_live (state_after (es ++ later)).config n ≡ true).
        let w = d n live in ap (λ b. cond b (not (is_done (es ++ later) n)) false) live ∙ ap (λ o. not (option_map_or moves.is_done o false)) w.1 ∙ ap not w.2)
        (λ (gone : is_live (state_after (es ++ later)).config n ≡ false). ap (λ b. cond b (not (is_done (es ++ later) n)) false) gone)
        (cases_Bool (is_live (state_after (es ++ later)).config n))

    by : (b : Bool) → cond b (find (is_unfinished (es ++ later)) (range_with_len 0 (length (state_after (es ++ later)).config.slots))) None ≡ None
    by true =
        let es_run = fronts_are_runs es later run in
        let d = stays_done es later run calm (idle_all es es_run rest) (done_all es rest) folds in
        find-none (is_unfinished (es ++ later)) (range_with_len 0 (length (state_after (es ++ later)).config.slots)) (λ n there. done d n)
    by false = refl
