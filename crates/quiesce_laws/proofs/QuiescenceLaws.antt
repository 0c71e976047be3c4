-- A settled node is quiescent.
use Rattle.std.proofs.Common.{◌≡◌, ℕ, ◌<◌, Bool, true, false, not, ◌&&◌, ◌||◌, List, [], ◌∷◌, ◌++◌, append_assoc, length, Option, Some, None, refl, sym, ap, ◌∙◌, subst, inl, inr, ⊎_elim, arith}
use Rattle.std.specs.Prelude.{◌↔◌, ◌==◌, option_map}
use Rattle.std.specs.Option.{option_map_or}
use Rattle.std.specs.List.{list_any}
use Rattle.std.proofs.Math.Bool.{and-false, and-true}
use Rattle.std.proofs.lemmas.Bool.{and_parts, both_ways, cases_eq, eqb-true, eq-eqb, ne_eqb, not-true, or_parts}
use Rattle.std.proofs.lemmas.List.{append-nil}
use Rattle.std.proofs.lemmas.List.Folds.{list_any-append}
use Rattle.config_graph.specs.declared.node.Target.{Target}
use Rattle.quiesce_core.specs.declared.event.Event.{Event}
use Rattle.quiesce_core.specs.declared.event.Event.TheVariants.{Begin, Call, Make, Remove}
use Rattle.quiesce_core.specs.State.{Configuration, State, slot, is_live, owner, target}
use Rattle.quiesce_core.specs.declared.state.Slot.{Slot}
use Rattle.quiesce_core.specs.Effect.{effect}
use Rattle.quiesce_core.specs.Legal.{Legal}
use Rattle.quiesce_core.specs.Reach.{IsPortOf, wiring_of}
use Rattle.config_graph.specs.Wiring.{Reach, direct}
use Rattle.quiesce_core.specs.Runs.{IsRun, state_after, is_begin_of, is_end_of, is_open_after, Begun, initiator, target_at_begin}
use Rattle.quiesce_core.specs.Rules.{is_settled}
use Rattle.quiesce_core.proofs.SettledLaws.{settled_if}
use Rattle.quiesce_core.specs.Settled.{Settled, Quiescent, Continues, later_target, is_opening}
use Rattle.quiesce_core.specs.Traffic.{IsConsistent}
use Rattle.quiesce_core.specs.WellFormed.{IsWellFormed}
use Rattle.quiesce_core.proofs.TableLaws.{live_made, gate_place}
use Rattle.quiesce_core.proofs.RunLaws.{runs_are_well_formed, runs_are_consistent, fronts_are_runs}
use Rattle.quiesce_laws.specs.Events.{is_reopen_or_link, removes}
use Rattle.quiesce_core.proofs.StateLaws.{busy_made}
use Rattle.quiesce_laws.proofs.ExtensionLaws.{extends_further}
use Rattle.quiesce_core.specs.Alters.{ports_next, slot_next}
use Rattle.quiesce_core.proofs.AlterLaws.{reconfigured}
use Rattle.quiesce_core.proofs.InductionLaws.{IsNext, place, further, along}
use Rattle.quiesce_laws.proofs.OpenLaws.{IsGoing, going}
use Rattle.quiesce_laws.proofs.StillLaws.{Concerns, IsStill, not_busy, none_called, none_begun, opening_bars, still_next}

pub still_if : (s : State) (n : ℕ) → Settled s n → IsStill s n
still_if s n h = record {
  made = live_made s.config n h.live;
  quiet = λ p c. ⊎_elim (λ (own : IsPortOf s.config n p). h.own p own) (λ (r : Reach (wiring_of s.config) n p). h.reaching p r) c;
  services_nothing = h.services_nothing;
}

-- no transaction begins at a port that concerns a still node
none_begins : (s : State) (e : Event) (n p k : ℕ) → IsWellFormed s → IsConsistent s → Legal s e → IsStill s n → Concerns s.config n p → is_begin_of p k e ≡ true → ⊥
none_begins s (Begin q j v) n p k w t l h c e =
    let same = eqb-true q p (and_parts (q == p) (j == k) e).0 in none_begun s n q h (subst (λ i. Concerns s.config n i) (sym same) c) l.opened
none_begins s (Call q j v) n p k w t l h c e =
    let same = eqb-true q p (and_parts (q == p) (j == k) e).0 in none_called s n q w t h (subst (λ i. Concerns s.config n i) (sym same) c) l.live l.serves_through
none_begins s _ n p k w t l h c e = both_ways false refl e

-- the port of a begin or a call was made
begun_made : (s : State) (e : Event) (p k : ℕ) → Legal s e → is_begin_of p k e ≡ true → p < length s.config.gates
begun_made s (Begin q j v) p k l e = subst (λ i. i < length s.config.gates) (eqb-true q p (and_parts (q == p) (j == k) e).0) (gate_place s q l.live)
begun_made s (Call q j v) p k l e = subst (λ i. i < length s.config.gates) (eqb-true q p (and_parts (q == p) (j == k) e).0) (gate_place s q l.live)
begun_made s _ p k l e = absurd (both_ways false refl e)

-- a transaction that was begun in a run and not ended there goes on
pub going_in : (es : List Event) (p k : ℕ) (before after : List Event) (e : Event) → IsRun es → es ≡ before ++ e ∷ after → is_begin_of p k e ≡ true → list_any (is_end_of p k) es ≡ false
    → IsGoing (state_after before) (state_after es) p k
going_in es p k before after e run parts begins unended =
    let all_ : list_any (is_end_of p k) (before ++ e ∷ after) ≡ false = sym (ap (λ xs. list_any (is_end_of p k) xs) parts) ∙ unended in
    let behind = (or_parts (list_any (is_end_of p k) before) (list_any (is_end_of p k) (e ∷ after)) (sym (list_any-append (is_end_of p k) before (e ∷ after)) ∙ all_)).1 in
    subst (λ xs. IsGoing (state_after before) (state_after xs) p k) (sym parts)
    (going before after e p k (subst (λ xs. IsRun xs) parts run) begins (or_parts (is_end_of p k e) (list_any (is_end_of p k) after) behind).1)

node_of : (o : Option Target) (n : ℕ) → option_map (λ (t : Target). t.node) o ≡ Some n → (x : ℕ) × (o ≡ Some (record { node = n; provide = x }))
node_of None n h = absurd (cc)
node_of (Some t) n h = let same : t.node ≡ n = cc in (t.provide, ap (λ i. Some (record { node = i; provide = t.provide })) same)

-- a port that leads to a node concerns it
leading : (c : Configuration) (n p : ℕ) → option_map (λ (t : Target). t.node) (target c p) ≡ Some n → Concerns c n p
leading c n p h = let w = node_of (target c p) n h in inr (direct {x = w.0} w.1)

same_ports : (c : Configuration) (e : Event) → is_opening e ≡ false → ports_next c e ≡ length c.gates
same_ports c (Make n node from) h = absurd (both_ways true h refl)
same_ports c _ h = refl

module _ (es : List Event) (n : ℕ) (run : IsRun es) (h : Settled (state_after es) n) where
  -- what is known where an event stands behind the run
  still_at : (before after : List Event) (e : Event) → Continues es (before ++ e ∷ after) → IsNext (es ++ before) e × IsStill (state_after (es ++ before)) n
  still_at before after e c =
      let whole : IsRun ((es ++ before) ++ e ∷ after) = subst (λ xs. IsRun xs) (sym (append_assoc es before (e ∷ after))) c.runs in
      let closed_ = (or_parts (list_any is_opening before) (list_any is_opening (e ∷ after)) (sym (list_any-append is_opening before (e ∷ after)) ∙ c.closed)).0 in (
        place (es ++ before) after e whole,
        along (λ xs. IsStill (state_after xs) n) is_opening
            (λ xs x here free still. subst (λ s. IsStill s n) (sym here.next) (still_next (state_after xs) x n here.well here.traffic here.legal (opening_bars x free) still))
            es before (fronts_are_runs (es ++ before) (e ∷ after) whole) closed_ (still_if (state_after es) n h),
      )

  owner_at : (before after : List Event) (e : Event) (p : ℕ) → Continues es (before ++ e ∷ after) → p < length (state_after (es ++ before)).config.gates
      → owner (state_after (es ++ before)).config p ≡ owner (state_after es).config p
  owner_at before after e p c made =
      let whole : IsRun ((es ++ before) ++ e ∷ after) = subst (λ xs. IsRun xs) (sym (append_assoc es before (e ∷ after))) c.runs in
      let front = fronts_are_runs (es ++ before) (e ∷ after) whole in
      let closed_ = (or_parts (list_any is_opening before) (list_any is_opening (e ∷ after)) (sym (list_any-append is_opening before (e ∷ after)) ∙ c.closed)).0 in
      let same : length (state_after (es ++ before)).config.gates ≡ length (state_after es).config.gates =
      along (λ xs. length (state_after xs).config.gates ≡ length (state_after es).config.gates) is_opening
      (λ xs x here free so_far. ap (λ s. length s.config.gates) here.next ∙ (reconfigured (state_after xs) x here.legal).ports ∙ same_ports (state_after xs).config x free ∙ so_far)
      es before front closed_ refl in
      (extends_further es before front).owners p (omega (arith, made, same))

  none_initiated : (p k : ℕ) (b : Begun es p k) → is_open_after es p k ≡ true → initiator es p k b ≡ n → ⊥
  none_initiated p k b opened mine =
      let going_ = going_in es p k b.before b.after b.event run b.parts b.begins (not-true (list_any (is_end_of p k) es) (and_parts (list_any (is_begin_of p k) es) (not (list_any (is_end_of p k) es)) opened).1) in
      let made = busy_made (state_after es) p (runs_are_consistent es run) going_.opens.busy in
      let own = subst (λ i. IsPortOf (state_after es).config i p) (going_.owner ∙ mine) ((runs_are_well_formed es run).sound.ports p made) in
      not_busy (state_after es) n p (still_if (state_after es) n h) (inl own) going_.opens.busy

  none_begins_of : (more_ : List Event) → Continues es more_ → (p k : ℕ) (b : Begun more_ p k) → owner (state_after es).config p ≡ n → ⊥
  none_begins_of more_ c p k b mine =
      let cont = subst (λ xs. Continues es xs) b.parts c in
      let at = still_at b.before b.after b.event cont in
      let s = state_after (es ++ b.before) in
      let made = begun_made s b.event p k at.0.legal b.begins in
      let own = subst (λ i. IsPortOf s.config i p) (owner_at b.before b.after b.event p cont made ∙ mine) (at.0.well.sound.ports p made) in
      none_begins s b.event n p k at.0.well at.0.traffic at.0.legal at.1 (inl own) b.begins

  none_targets : (p k : ℕ) (b : Begun es p k) → is_open_after es p k ≡ true → target_at_begin es p k b ≡ Some n → ⊥
  none_targets p k b opened to =
      let going_ = going_in es p k b.before b.after b.event run b.parts b.begins (not-true (list_any (is_end_of p k) es) (and_parts (list_any (is_begin_of p k) es) (not (list_any (is_end_of p k) es)) opened).1) in
      not_busy (state_after es) n p (still_if (state_after es) n h)
      (leading (state_after es).config n p (ap (λ o. option_map (λ (t : Target). t.node) o) going_.target ∙ to)) going_.opens.busy

  none_targets_later : (more_ : List Event) → Continues es more_ → (p k : ℕ) (b : Begun more_ p k) → later_target es more_ p k b ≡ Some n → ⊥
  none_targets_later more_ c p k b to =
      let at = still_at b.before b.after b.event (subst (λ xs. Continues es xs) b.parts c) in
      let s = state_after (es ++ b.before) in
      none_begins s b.event n p k at.0.well at.0.traffic at.0.legal at.1 (leading s.config n p to) b.begins

  pub quiescent : Quiescent es n
  quiescent = record {
    live = h.live;
    initiated_none = none_initiated;
    begins_none = none_begins_of;
    services_nothing = h.services_nothing;
    targets_none = none_targets;
    targets_none_later = none_targets_later;
  }

-- whether a node that was made is live after an event
live_next : (s : State) (e : Event) (n : ℕ) → Legal s e → n < length s.config.slots → is_live (effect s e).config n ≡ (is_live s.config n && not (removes n e))
live_next s e n l made = ap (λ o. option_map_or (λ (x : Slot). x.live) o false) ((reconfigured s e l).slots n) ∙ by e
  where
    gone : (o : Option Slot) → option_map_or (λ (x : Slot). x.live) (option_map (λ (x : Slot). record x { live = false }) o) false ≡ false
    gone None = refl
    gone (Some x) = refl

    by : (e : Event) → option_map_or (λ (x : Slot). x.live) (slot_next s.config n e) false ≡ (is_live s.config n && not (removes n e))
    by (Make m node from) = rw (ne_eqb n (length s.config.slots) (λ last. omega (arith, made, last))) (sym (and-true (is_live s.config n)))
    by (Remove m) = ⊎_elim
        (λ (same : n ≡ m). rw (eq-eqb n m same, eq-eqb m n (sym same)) (gone (slot s.config n) ∙ sym (and-false (is_live s.config n))))
        (λ (other : n ≡ m → ⊥). rw (ne_eqb n m other, ne_eqb m n (λ e. other (sym e))) (sym (and-true (is_live s.config n))))
        (cases_eq n m)
    by _ = sym (and-true (is_live s.config n))

neither : (a b : Bool) → (not a && not b) ≡ not (a || (b || false))
neither true true = refl
neither true false = refl
neither false true = refl
neither false false = refl

-- what a node that was settled is after further events, when these have removed it too
record Stays (s : State) (n : ℕ) (more_ : List Event) : Type 0 where
  still : IsStill s n
  live : is_live s.config n ≡ not (list_any (removes n) more_)

-- a node that is settled after a run is settled as long as no gate is opened, no link is made and it isn't removed
pub stays_settled : (es more_ : List Event) (n : ℕ) → Settled (state_after es) n → IsRun (es ++ more_) → list_any is_reopen_or_link more_ ≡ false
    → Settled (state_after (es ++ more_)) n ↔ (list_any (removes n) more_ ≡ false)
stays_settled es more_ n h run closed_ =
    let after = further es (λ xs. Stays (state_after (es ++ xs)) n xs) is_reopen_or_link
    (λ xs e here free so_far. subst (λ ys. Stays (state_after ys) n (xs ++ e ∷ [])) (append_assoc es xs (e ∷ [])) (subst (λ s. Stays s n (xs ++ e ∷ [])) (sym here.next) (record {
      still = still_next (state_after (es ++ xs)) e n here.well here.traffic here.legal free so_far.still;
      live = live_next (state_after (es ++ xs)) e n here.legal so_far.still.made ∙ ap (λ b. b && not (removes n e)) so_far.live
          ∙ neither (list_any (removes n) xs) (removes n e) ∙ ap (λ b. not b) (sym (list_any-append (removes n) xs (e ∷ [])));
    })))
    more_ run closed_ (subst (λ ys. Stays (state_after ys) n []) (sym (append-nil es)) (record { still = still_if (state_after es) n h; live = h.live })) in (
      (λ settled. not-true (list_any (removes n) more_) (sym after.live ∙ settled.live)),
      (λ unremoved. record {
        live = after.live ∙ ap (λ b. not b) unremoved;
        own = λ p own. after.still.quiet p (inl own);
        services_nothing = after.still.services_nothing;
        reaching = λ p r. after.still.quiet p (inr r);
      }),
    )

-- where nothing is made either
none_reopens : (es : List Event) → list_any is_opening es ≡ false → list_any is_reopen_or_link es ≡ false
none_reopens [] h = refl
none_reopens (e ∷ es) h =
    let parts = or_parts (is_opening e) (list_any is_opening es) h in ap (λ b. b || list_any is_reopen_or_link es) (opening_bars e parts.0) ∙ none_reopens es parts.1

pub stays_settled_unmade : (es more_ : List Event) (n : ℕ) → Settled (state_after es) n → Continues es more_ → Settled (state_after (es ++ more_)) n ↔ (list_any (removes n) more_ ≡ false)
stays_settled_unmade es more_ n h c = stays_settled es more_ n h c.runs (none_reopens more_ c.closed)

-- what rule 22 finds settled is quiescent
pub quiescent_at : (before : List Event) (n : ℕ) → IsRun before → is_settled (state_after before) n ≡ true → Quiescent before n
quiescent_at before n run h = quiescent before n run (settled_if (state_after before) (runs_are_well_formed before run).sound n h)
