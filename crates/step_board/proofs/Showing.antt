-- A table goes on showing a world through an event of the change.
use Rattle.std.proofs.Common.{◌≡◌, ◌∙◌, ℕ, zero, suc, ◌+◌, ◌<◌, ◌≤◌, ◌⊎◌, true, false, List, [], ◌∷◌, ◌++◌, length, Option, Some, None, refl, ap, sym, subst, ⊎_elim, arith, length-append, replicate, take, get_or}
use Rattle.std.specs.Prelude.{slice_get}
use Rattle.std.proofs.lemmas.Bool.{both_ways}
use Rattle.std.proofs.lemmas.List.{get_or_append_left}
use Rattle.std.proofs.lemmas.Option.{get_or_from_slice_get, slice_get_within}
use Rattle.base.proofs.PlaceLaws.{fresh_behind, slice_get-last}
use Rattle.config_graph.proofs.KindLaws.{two_requires}
use Rattle.config_graph.specs.declared.kind.Kind.{Kind}
use Rattle.config_graph.specs.Kinds.{row}
use Rattle.config_graph.specs.declared.node.Node.{Node}
use Rattle.quiesce_core.specs.Doers.{is_make, is_of_change}
use Rattle.quiesce_core.specs.Effect.{effect}
use Rattle.quiesce_core.specs.Rules.{denial}
use Rattle.quiesce_core.specs.Runs.{Step}
use Rattle.quiesce_core.specs.State.{State, empty}
use Rattle.quiesce_core.proofs.RunLaws.{run_if}
use Rattle.quiesce_core.specs.declared.event.Event.{Event}
use Rattle.quiesce_core.specs.declared.event.Event.TheVariants.{Make}
use Rattle.node_turn_laws.specs.Reached.{IsReached, at_start, by_change}
use Rattle.node_turn_laws.specs.World.{World, nowhere, opened, with_event}
use Rattle.step_board.specs.Entries.{SlotEntry, NodeSeen, here}
use Rattle.step_board.specs.Holding.{HoldsIn}
use Rattle.step_board.specs.Worlds.{IsShown, ShowsIn}
use Rattle.step_board.proofs.ChangeLemmas.{holds_changed}

-- the change did an event that makes no node
after_change : (w : World) (e : Event) → is_make e ≡ false → with_event w e ≡ record w { machine = effect w.machine e; events = w.events ++ e ∷ [] }
after_change w (Make n node from) h = absurd (both_ways true h refl)
after_change w _ h = refl

pub shows_changed : (s t : State) (nodes : List SlotEntry) (ends : List ℕ) (tells : ℕ → Option (List ℕ)) (w : World) (e : Event) → ShowsIn s nodes ends tells w → Step s e t → is_of_change e ≡ true → is_make e ≡ false
    → ShowsIn t nodes ends tells (with_event w e)
shows_changed s t nodes ends tells w e h step change no_make =
    subst (λ v. ShowsIn t nodes ends tells v) (sym (after_change w e no_make))
    (record {
      reached = subst (λ v. IsReached v) (after_change w e no_make) (by_change w e h.reached change (subst (λ u. denial u e ≡ None) (sym h.machine) step.allowed));
      holds = holds_changed s t nodes ends w.events e h.holds step change no_make;
      machine = ap (λ u. effect u e) h.machine ∙ sym step.changed;
      inboxes = h.inboxes;
      folds_made = h.folds_made;
      inboxes_made = h.inboxes_made;
      waiting_made = h.waiting_made;
      nodes_shown = λ n x at. let i = h.nodes_shown n x at in record { state = i.state; two = i.two; waits = i.waits; own = i.own };
    })

-- ---- a node is made

abbrev none_of : (A : Type 0) → Option A
none_of A = None

nothing_waits : (k : Kind) → replicate (length (row k).requires_) (none_of ℕ) ≡ take (length (row k).requires_) (none_of ℕ ∷ none_of ℕ ∷ [])
nothing_waits k = by (length (row k).requires_) (two_requires k)
  where
    by : (r : ℕ) → r ≤ 2 → replicate r (none_of ℕ) ≡ take r (none_of ℕ ∷ none_of ℕ ∷ [])
    by zero h = refl
    by (suc zero) h = refl
    by (suc (suc zero)) h = refl
    by (suc (suc (suc r))) h = absurd (omega (arith, h))

none_waits : {A : Type 0} (r m : ℕ) → slice_get (none_of ℕ ∷ none_of ℕ ∷ []) r ≡ Some (Some m) → A
none_waits zero m h = absurd (cc)
none_waits (suc zero) m h = absurd (cc)
none_waits (suc (suc r)) m h = absurd (cc)

module _ (s t : State) (nodes nodes' : List SlotEntry) (ends ends' : List ℕ) (tells : ℕ → Option (List ℕ)) (w : World) (n : ℕ) (node : Node) (from : Option ℕ) (h : ShowsIn s nodes ends tells w)
    (step : Step s (Make n node from) t) (held : HoldsIn t nodes' ends' (w.events ++ Make n node from ∷ [])) (x : NodeSeen) (last : length nodes ≡ n) (one_more : length nodes' ≡ length nodes + 1)
    (old_or_new : (j : ℕ) (y : NodeSeen) → slice_get nodes' j ≡ Some (here y) → (slice_get nodes j ≡ Some (here y)) ⊎ ((j ≡ n) × (x ≡ y)))
    (opens : opened w node from ≡ Some x.state) (kind : x.state.kind ≡ node.kind) (waiting : x.waiting ≡ None ∷ None ∷ []) where
  abbrev e : Event
  e = Make n node from

  abbrev v : World
  v = with_event w e

  old_shown : (j : ℕ) (y : NodeSeen) → slice_get nodes j ≡ Some (here y) → IsShown v j y
  old_shown j y at =
      let i = h.nodes_shown j y at in
      let below : j < length nodes = slice_get_within nodes j (here y) at in
      record {
        state = get_or_append_left w.folds (opened w node from ∷ []) None j (omega (arith, below, h.folds_made)) ∙ i.state;
        two = i.two;
        waits = get_or_append_left w.waiting (replicate (length (row node.kind).requires_) None ∷ []) [] j (omega (arith, below, h.waiting_made)) ∙ i.waits;
        own = λ r m is.
            let o = i.own r m is in
            let more_ = length-append w.inboxes ([] ∷ []) in
            (o.0, omega (arith, o.1, more_));
      }

  at_end : {A : Type 0} (xs : List A) (y d : A) → length xs ≡ n → get_or (xs ++ y ∷ []) n d ≡ y
  at_end xs y d is = subst (λ i. get_or (xs ++ y ∷ []) i d ≡ y) is (get_or_from_slice_get (xs ++ y ∷ []) (length xs) y d (slice_get-last xs y))

  new_shown : IsShown v n x
  new_shown = record {
    state = at_end w.folds (opened w node from) None (h.folds_made ∙ last) ∙ opens;
    two = ap length waiting;
    waits =
        at_end w.waiting (replicate (length (row node.kind).requires_) None) [] (h.waiting_made ∙ last)
        ∙ nothing_waits node.kind
        ∙ ap (λ k. take (length (row k).requires_) (None ∷ None ∷ [])) (sym kind)
        ∙ ap (λ l. take (length (row x.state.kind).requires_) l) (sym waiting);
    own = λ r m is. none_waits r m (sym (ap (λ l. slice_get l r) waiting) ∙ is);
  }

  pub shows_made : ShowsIn t nodes' ends' tells v
  shows_made = record {
    reached = by_change w e h.reached refl (subst (λ u. denial u e ≡ None) (sym h.machine) step.allowed);
    holds = held;
    machine = ap (λ u. effect u e) h.machine ∙ sym step.changed;
    inboxes = λ k. h.inboxes k ∙ ap Some (sym (fresh_behind w.inboxes [] 1 k));
    folds_made = length-append w.folds (opened w node from ∷ []) ∙ ap (λ i. i + 1) h.folds_made ∙ sym one_more;
    inboxes_made = length-append w.inboxes ([] ∷ []) ∙ ap (λ i. i + 1) h.inboxes_made ∙ sym one_more;
    waiting_made = length-append w.waiting (replicate (length (row node.kind).requires_) None ∷ []) ∙ ap (λ i. i + 1) h.waiting_made ∙ sym one_more;
    nodes_shown = λ j y at. ⊎_elim
        (λ (old : slice_get nodes j ≡ Some (here y)). old_shown j y old)
        (λ (new : (j ≡ n) × (x ≡ y)). subst (λ i. IsShown v i y) (sym new.0) (subst (λ z. IsShown v n z) new.1 new_shown))
        (old_or_new j y at);
  }

-- ---- where nothing is made, and where nothing changed

pub shows_same : (s s' : State) (nodes nodes' : List SlotEntry) (ends ends' : List ℕ) (tells tells' : ℕ → Option (List ℕ)) (w : World) → ShowsIn s nodes ends tells w → s' ≡ s → nodes' ≡ nodes → ends' ≡ ends → tells' ≡ tells → ShowsIn s' nodes' ends' tells' w
shows_same s s' nodes nodes' ends ends' tells tells' w h is_s is_n is_e is_t =
    subst (λ x. ShowsIn x nodes' ends' tells' w) (sym is_s) (subst (λ x. ShowsIn s x ends' tells' w) (sym is_n) (subst (λ x. ShowsIn s nodes x tells' w) (sym is_e) (subst (λ x. ShowsIn s nodes ends x w) (sym is_t) h)))

starts_with_nothing : (tells : ℕ → Option (List ℕ)) → ((n : ℕ) → tells n ≡ Some []) → ShowsIn empty [] [] tells nowhere
starts_with_nothing tells told = record {
  reached = at_start;
  holds = record {
    runs = run_if [] refl;
    state = refl;
    made = refl;
    lines = refl;
    nodes_here = λ n x at. absurd (cc);
    line_ends = λ n x at. absurd (cc);
    nodes_gone = λ n x at. absurd (cc);
  };
  machine = refl;
  inboxes = told;
  folds_made = refl;
  inboxes_made = refl;
  waiting_made = refl;
  nodes_shown = λ n x at. absurd (cc);
}

pub shows_nowhere : (s : State) (nodes : List SlotEntry) (ends : List ℕ) (tells : ℕ → Option (List ℕ)) → s ≡ empty → nodes ≡ [] → ends ≡ [] → ((n : ℕ) → tells n ≡ Some []) → ShowsIn s nodes ends tells nowhere
shows_nowhere s nodes ends tells is_s is_n is_e told = shows_same empty s [] nodes [] ends tells tells nowhere (starts_with_nothing tells told) is_s is_n is_e refl
