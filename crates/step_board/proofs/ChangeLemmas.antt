-- A table goes on holding through an event of the change that makes no node, and through the turn of a node.
use Rattle.std.proofs.Common.{◌≡◌, ◌∙◌, ◌≢◌, ℕ, ◌<◌, true, false, List, [], ◌∷◌, ◌++◌, length, set, Some, None, refl, ap, sym, subst, ⊎_elim}
use Rattle.std.specs.Prelude.{slice_get, ◌==◌}
use Rattle.std.specs.Option.{option_map_or}
use Rattle.std.proofs.lemmas.Bool.{both_ways, cases_eq, eqb-true, ne_eqb}
use Rattle.std.proofs.lemmas.List.{length-set}
use Rattle.std.proofs.lemmas.Option.{same_Some, slice_get_within}
use Rattle.base.proofs.OptionLaws.{map_or_at, map_or_true}
use Rattle.base.proofs.PlaceLaws.{slice_get-set_cases, slice_get-set_other, slice_get-set_same}
use Rattle.quiesce_core.specs.Alters.{nodes_next}
use Rattle.quiesce_core.specs.Doers.{is_make, is_of_change}
use Rattle.quiesce_core.specs.Runs.{IsRun, Step, doer, is_doer, state_after}
use Rattle.quiesce_core.specs.State.{Configuration, State, is_live, slot}
use Rattle.quiesce_core.specs.declared.event.Event.{Event}
use Rattle.quiesce_core.specs.declared.event.Event.TheVariants.{Make}
use Rattle.quiesce_core.specs.declared.state.Slot.{Slot}
use Rattle.quiesce_core.proofs.InductionLaws.{IsNext}
use Rattle.quiesce_core.proofs.RunLaws.{changes_are_of_no_node, done_by_own, node_events_keep_the_configuration, runs_grow}
use Rattle.node_gate.specs.Core.{FitsCore}
use Rattle.step_board.specs.Entries.{SlotEntry, Predecessor, NodeSeen, gone, here, line_of}
use Rattle.step_board.specs.Holding.{HoldsIn, IsGone, IsHere}
use Rattle.step_board.specs.Lines.{IsPast}
use Rattle.step_board.specs.declared.handed.Handed.{Handed}
use Rattle.step_board.proofs.Keeping.{config_then, here_then, next_of, past_then, state_then, still_there}

pub step_there : (s t : State) (es : List Event) (e : Event) → s ≡ state_after es → Step s e t → Step (state_after es) e t
step_there s t es e is step = subst (λ (u : State). Step u e t) is step

pub run_then : (es : List Event) (e : Event) (t : State) → IsRun es → Step (state_after es) e t → IsRun (es ++ e ∷ [])
run_then es e t run step = (runs_grow es e).1 (run, step.allowed)

same_number : (c : Configuration) (e : Event) → is_make e ≡ false → nodes_next c e ≡ length c.slots
same_number c (Make n node from) h = absurd (both_ways true h refl)
same_number c _ h = refl

number_then : (es : List Event) (e : Event) → IsNext es e → is_make e ≡ false → length (state_after (es ++ e ∷ [])).config.slots ≡ length (state_after es).config.slots
number_then es e next no_make = (config_then es e next).nodes ∙ same_number (state_after es).config e no_make

done_by_none : (s : State) (e : Event) (n : ℕ) → doer s e ≡ None → is_doer s n e ≡ false
done_by_none s e n none_ = ap (λ o. option_map_or (λ m. m == n) o false) none_

pub gone_then : (es : List Event) (e : Event) → IsNext es e → (nodes : List SlotEntry) (ends : List ℕ) (n : ℕ) (x : Handed) → IsGone es nodes ends n x → IsGone (es ++ e ∷ []) nodes ends n x
gone_then es e next nodes ends n x h =
    let new = still_there es e next h.heir h.taker h.there in
    record {
      heir = h.heir;
      taker = new.0;
      there = new.1;
      from = new.2.from ∙ h.from;
      at = h.at;
      end_is = h.end_is;
      last = h.last;
      last_is = h.last_is;
      of_line = h.of_line;
      old = h.old;
      old_is = h.old_is;
      slot_is = h.slot_is;
    }

-- an event of the change that makes no node
pub holds_changed : (s t : State) (nodes : List SlotEntry) (ends : List ℕ) (es : List Event) (e : Event) → HoldsIn s nodes ends es → Step s e t → is_of_change e ≡ true → is_make e ≡ false → HoldsIn t nodes ends (es ++ e ∷ [])
holds_changed s t nodes ends es e h st change no_make =
    let step = step_there s t es e h.state st in
    let next = next_of es e t h.runs step in
    let none_ = (changes_are_of_no_node (state_after es) e next.traffic step.allowed).0 change in
    record {
      runs = run_then es e t h.runs step;
      state = state_then es e t step;
      made = h.made ∙ sym (number_then es e next no_make);
      lines = h.lines;
      nodes_here = λ n x at. here_then es e next n x (h.nodes_here n x at) (done_by_none (state_after es) e n none_);
      line_ends = h.line_ends;
      nodes_gone = λ n x at. gone_then es e next nodes ends n x (h.nodes_gone n x at);
    }

-- ---- a node's own event

-- the node after a move of its own, by what its turn says: it is the same node, and its log has the event
pub record IsMoved (e : Event) (x x' : NodeSeen) : Type 0 where
  pub slot_kept : x'.slot ≡ x.slot
  pub first_kept : x'.first ≡ x.first
  pub kind_kept : x'.state.kind ≡ x.state.kind
  pub arg_kept : x'.state.arg ≡ x.state.arg
  pub logged : x'.log ≡ x.log ++ e ∷ []
  pub past_kept : x'.past ≡ x.past
  pub told : x'.known.service ≡ None → x'.state.service ≡ None

same_line : (x x' : NodeSeen) → x'.slot ≡ x.slot → x'.past ≡ x.past → line_of x' ≡ line_of x
same_line x x' slots pasts = ap (λ p. option_map_or (λ (m : Predecessor). m.slot) (slice_get p 0) x'.slot) pasts ∙ ap (λ k. option_map_or (λ (m : Predecessor). m.slot) (slice_get x.past 0) k) slots

pub here_same : (nodes : List SlotEntry) (n : ℕ) (x y : NodeSeen) → slice_get nodes n ≡ Some (here x) → slice_get nodes n ≡ Some (here y) → x ≡ y
here_same nodes n x y at at' = same_here (same_Some (here x) (here y) (sym at ∙ at'))
  where
    same_here : here x ≡ here y → x ≡ y
    same_here h = cc

pub not_both : {A : Type 0} (nodes : List SlotEntry) (n : ℕ) (x : NodeSeen) (y : Handed) → slice_get nodes n ≡ Some (here x) → slice_get nodes n ≡ Some (gone y) → A
not_both nodes n x y at at' = absurd (apart (same_Some (here x) (gone y) (sym at ∙ at')))
  where
    apart : here x ≡ gone y → ⊥
    apart h = cc

-- the node in slot n is as x' from now on, and all else goes on holding after these events
module _ (t : State) (nodes : List SlotEntry) (ends : List ℕ) (es : List Event) (n : ℕ) (x x' : NodeSeen) (at : slice_get nodes n ≡ Some (here x)) (slot_kept : x'.slot ≡ x.slot) (past_kept : x'.past ≡ x.past)
    (own : IsHere es n x') (others : (k : ℕ) (y : NodeSeen) → slice_get nodes k ≡ Some (here y) → k ≢ n → IsHere es k y)
    (line_ends : (k : ℕ) (y : NodeSeen) → slice_get nodes k ≡ Some (here y) → slice_get ends (line_of y) ≡ Some k)
    (goes : (k : ℕ) (y : Handed) → slice_get nodes k ≡ Some (gone y) → IsGone es nodes ends k y) where
  abbrev nodes_then : List SlotEntry
  nodes_then = set nodes n (here x')

  within : n < length nodes
  within = slice_get_within nodes n (here x) at

  here_put : (k : ℕ) (y : NodeSeen) → k ≡ n → slice_get nodes_then k ≡ Some (here y) → x' ≡ y
  here_put k y same there = inside (same_Some (here x') (here y) (sym (slice_get-set_same nodes n (here x') within) ∙ subst (λ i. slice_get nodes_then i ≡ Some (here y)) same there))
    where
      inside : here x' ≡ here y → x' ≡ y
      inside h = cc

  here_at : (k : ℕ) (y : NodeSeen) → slice_get nodes_then k ≡ Some (here y) → IsHere es k y
  here_at k y there = ⊎_elim
      (λ (same : k ≡ n). subst (λ i. IsHere es i y) (sym same) (subst (λ z. IsHere es n z) (here_put k y same there) own))
      (λ (other : k ≢ n). others k y (sym (slice_get-set_other nodes n (here x') k other) ∙ there) other)
      (cases_eq k n)

  gone_at : (k : ℕ) (y : Handed) → slice_get nodes_then k ≡ Some (gone y) → slice_get nodes k ≡ Some (gone y)
  gone_at k y there = ⊎_elim
      (λ (same : (k ≡ n) × (here x' ≡ gone y)). absurd (apart same.1))
      (λ (old : slice_get nodes k ≡ Some (gone y)). old)
      (slice_get-set_cases nodes n (here x') k (gone y) there)
    where
      apart : here x' ≡ gone y → ⊥
      apart h = cc

  ends_at : (k : ℕ) (y : NodeSeen) → slice_get nodes_then k ≡ Some (here y) → slice_get ends (line_of y) ≡ Some k
  ends_at k y there = ⊎_elim
      (λ (same : k ≡ n).
      ap (λ z. slice_get ends (line_of z)) (sym (here_put k y same there)) ∙ ap (slice_get ends) (same_line x x' slot_kept past_kept) ∙ line_ends n x at ∙ ap Some (sym same))
      (λ (other : k ≢ n). line_ends k y (sym (slice_get-set_other nodes n (here x') k other) ∙ there))
      (cases_eq k n)

  gone_after : (k : ℕ) (y : Handed) → slice_get nodes_then k ≡ Some (gone y) → IsGone es nodes_then ends k y
  gone_after k y there =
      let g = goes k y (gone_at k y there) in
      ⊎_elim
      (λ (same : g.at ≡ n).
      let is : x ≡ g.last = here_same nodes n x g.last at (subst (λ i. slice_get nodes i ≡ Some (here g.last)) same g.last_is) in
      record {
        heir = g.heir;
        taker = g.taker;
        there = g.there;
        from = g.from;
        at = n;
        end_is = g.end_is ∙ ap Some same;
        last = x';
        last_is = slice_get-set_same nodes n (here x') within;
        of_line = same_line x x' slot_kept past_kept ∙ ap line_of is ∙ g.of_line;
        old = g.old;
        old_is = ap (λ p. slice_get p y.place) (past_kept ∙ ap (λ (z : NodeSeen). z.past) is) ∙ g.old_is;
        slot_is = g.slot_is;
      })
      (λ (other : g.at ≢ n). record {
        heir = g.heir;
        taker = g.taker;
        there = g.there;
        from = g.from;
        at = g.at;
        end_is = g.end_is;
        last = g.last;
        last_is = slice_get-set_other nodes n (here x') g.at other ∙ g.last_is;
        of_line = g.of_line;
        old = g.old;
        old_is = g.old_is;
        slot_is = g.slot_is;
      })
      (cases_eq g.at n)

  pub holds_put : IsRun es → t ≡ state_after es → length nodes ≡ length (state_after es).config.slots → length ends ≡ length nodes → HoldsIn t nodes_then ends es
  holds_put runs state made lines = record {
    runs = runs;
    state = state;
    made = length-set nodes n (here x') ∙ made;
    lines = lines ∙ sym (length-set nodes n (here x'));
    nodes_here = here_at;
    line_ends = ends_at;
    nodes_gone = gone_after;
  }

-- a turn that moved nothing
pub record IsStill (x x' : NodeSeen) : Type 0 where
  pub slot_kept : x'.slot ≡ x.slot
  pub first_kept : x'.first ≡ x.first
  pub state_kept : x'.state ≡ x.state
  pub known_kept : x'.known ≡ x.known
  pub logged : x'.log ≡ x.log
  pub past_kept : x'.past ≡ x.past

pub holds_still : (s : State) (nodes : List SlotEntry) (ends : List ℕ) (es : List Event) (h : HoldsIn s nodes ends es) (n : ℕ) (x x' : NodeSeen) → slice_get nodes n ≡ Some (here x) → IsStill x x' → HoldsIn s (set nodes n (here x')) ends es
holds_still s nodes ends es h n x x' at m =
    holds_put s nodes ends es n x x' at m.slot_kept m.past_kept own (λ k y there ne. h.nodes_here k y there) h.line_ends h.nodes_gone h.runs h.state h.made h.lines
  where
    own : IsHere es n x'
    own =
        let old = h.nodes_here n x at in
        record {
          made = old.made;
          there = old.there;
          place = m.slot_kept ∙ old.place;
          first = m.first_kept ∙ old.first;
          kind = ap (λ t. t.kind) m.state_kept ∙ old.kind;
          arg = ap (λ t. t.arg) m.state_kept ∙ old.arg;
          log = m.logged ∙ old.log;
          past = subst (λ p. IsPast es n p) (sym m.past_kept) old.past;
          fits = λ live. subst (λ w. FitsCore (state_after es) n w) (sym m.known_kept) (old.fits live);
          rests = λ gone. ap (λ t. t.service) m.state_kept ∙ old.rests gone;
          told = λ none_. ap (λ t. t.service) m.state_kept ∙ old.told (ap (λ w. w.service) (sym m.known_kept) ∙ none_);
        }

module _ (s t : State) (nodes : List SlotEntry) (ends : List ℕ) (es : List Event) (e : Event) (h : HoldsIn s nodes ends es) (st : Step s e t)
    (n : ℕ) (x x' : NodeSeen) (at : slice_get nodes n ≡ Some (here x)) (does : is_doer s n e ≡ true) (of_node : is_of_change e ≡ false) (m : IsMoved e x x') (fits : FitsCore t n x'.known) where
  step : Step (state_after es) e t
  step = step_there s t es e h.state st

  next : IsNext es e
  next = next_of es e t h.runs step

  own : is_doer (state_after es) n e ≡ true
  own = subst (λ (u : State). is_doer u n e ≡ true) h.state does

  doer_is : doer (state_after es) e ≡ Some n
  doer_is = let d = map_or_true (λ k. k == n) (doer (state_after es) e) own in d.1 ∙ ap Some (eqb-true d.0 n d.2)

  others : (k : ℕ) → k ≢ n → is_doer (state_after es) k e ≡ false
  others k ne = map_or_at (λ i. i == k) (doer (state_after es) e) false n doer_is ∙ ne_eqb n k (λ same. ne (sym same))

  no_make : is_make e ≡ false
  no_make = not_make e of_node
    where
      not_make : (e : Event) → is_of_change e ≡ false → is_make e ≡ false
      not_make (Make k node from) h = absurd (both_ways true h refl)
      not_make _ h = refl

  own_here : IsHere (es ++ e ∷ []) n x'
  own_here =
      let old = h.nodes_here n x at in
      let config : (state_after (es ++ e ∷ [])).config ≡ (state_after es).config = ap (λ (u : State). u.config) next.next ∙ node_events_keep_the_configuration (state_after es) e of_node in
      let fits' : FitsCore (state_after (es ++ e ∷ [])) n x'.known = subst (λ (u : State). FitsCore u n x'.known) (state_then es e t step) fits in
      let there : slot (state_after (es ++ e ∷ [])).config n ≡ Some old.made = ap (λ (c : Configuration). slot c n) config ∙ old.there in
      record {
        made = old.made;
        there = there;
        place = m.slot_kept ∙ old.place;
        first = m.first_kept ∙ old.first;
        kind = m.kind_kept ∙ old.kind;
        arg = m.arg_kept ∙ old.arg;
        log = m.logged ∙ ap (λ l. l ++ e ∷ []) old.log ∙ sym (done_by_own n es e own);
        past = subst (λ p. IsPast (es ++ e ∷ []) n p) (sym m.past_kept) (past_then es e next n x.past old.past);
        fits = λ live. fits';
        rests = λ gone. absurd (both_ways (is_live (state_after (es ++ e ∷ [])).config n) (map_or_at (λ (y : Slot). y.live) (slot (state_after (es ++ e ∷ [])).config n) false old.made there ∙ gone) fits'.live);
        told = m.told;
      }

  pub holds_moved : HoldsIn t (set nodes n (here x')) ends (es ++ e ∷ [])
  holds_moved =
      holds_put t nodes ends (es ++ e ∷ []) n x x' at m.slot_kept m.past_kept own_here (λ k y there ne. here_then es e next k y (h.nodes_here k y there) (others k ne)) h.line_ends
      (λ k y there. gone_then es e next nodes ends k y (h.nodes_gone k y there)) (run_then es e t h.runs step) (state_then es e t step)
      (h.made ∙ sym (number_then es e next no_make)) h.lines
