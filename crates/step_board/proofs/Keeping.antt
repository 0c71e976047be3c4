-- What a table keeps of its nodes goes on holding through an event that these nodes don't do.
use Rattle.std.proofs.Common.{◌≡◌, ◌∙◌, ℕ, Bool, true, false, List, [], ◌∷◌, ◌++◌, length, Option, Some, None, refl, ap, sym, subst, ⊎_elim, arith}
use Rattle.std.specs.Option.{option_map_or}
use Rattle.std.proofs.lemmas.Bool.{both_ways, cases_eq, ne_eqb}
use Rattle.std.proofs.lemmas.Option.{same_Some, slice_get_within}
use Rattle.base.proofs.OptionLaws.{map_or_at}
use Rattle.config_graph.specs.declared.node.Node.{Node}
use Rattle.quiesce_core.specs.Alters.{Reconfigures}
use Rattle.quiesce_core.specs.Knowledge.{KnowsService}
use Rattle.quiesce_core.specs.Legal.{Legal}
use Rattle.quiesce_core.specs.Rules.{is_settled}
use Rattle.quiesce_core.specs.Runs.{IsRun, Step, done_by, is_doer, state_after}
use Rattle.quiesce_core.specs.State.{Configuration, State, is_live, service, slot}
use Rattle.quiesce_core.specs.declared.event.Event.{Event}
use Rattle.quiesce_core.specs.declared.event.Event.TheVariants.{Make, Remove}
use Rattle.quiesce_core.specs.declared.known.Served.{Served}
use Rattle.quiesce_core.specs.declared.state.Service.{Service}
use Rattle.quiesce_core.specs.declared.state.Slot.{Slot}
use Rattle.quiesce_core.proofs.AlterLaws.{reconfigured}
use Rattle.quiesce_core.proofs.InductionLaws.{IsNext}
use Rattle.quiesce_core.proofs.LegalLaws.{allowed, legal}
use Rattle.quiesce_core.proofs.RunLaws.{done_by_other, runs_are_consistent, runs_are_well_formed, state_more}
use Rattle.quiesce_core.proofs.SettledLaws.{settled_serves_nothing}
use Rattle.quiesce_core.proofs.SourceLaws.{sources_are_gone}
use Rattle.quiesce_laws.proofs.DoerLaws.{gone_does_nothing}
use Rattle.component_trait.specs.Making.{argument_or_0}
use Rattle.node_gate.specs.Core.{FitsCore}
use Rattle.node_gate.proofs.SeatLaws.{seats_stay}
use Rattle.step_board.specs.Entries.{Predecessor, NodeSeen}
use Rattle.step_board.specs.Holding.{IsHere}
use Rattle.step_board.specs.Lines.{IsPast, behind, first_of_line, predecessor}
use Rattle.step_board.proofs.Slots.{IsStill, slot_then}

-- an event that is a step from where a run led
pub next_of : (es : List Event) (e : Event) (t : State) → IsRun es → Step (state_after es) e t → IsNext es e
next_of es e t run step = record {
  run = run;
  well = runs_are_well_formed es run;
  traffic = runs_are_consistent es run;
  legal = legal (state_after es) e step.allowed;
  next = state_more es e;
}

pub state_then : (es : List Event) (e : Event) (t : State) → Step (state_after es) e t → t ≡ state_after (es ++ e ∷ [])
state_then es e t step = step.changed ∙ sym (state_more es e)

pub config_then : (es : List Event) (e : Event) → IsNext es e → Reconfigures (state_after es).config e (state_after (es ++ e ∷ [])).config
config_then es e here = subst (λ (s : State). Reconfigures (state_after es).config e s.config) (sym here.next) (reconfigured (state_after es) e here.legal)

-- what was made in a slot, and that it was made there since
pub still_there : (es : List Event) (e : Event) → IsNext es e → (n : ℕ) (m : Slot) → slot (state_after es).config n ≡ Some m → (new : Slot) × (slot (state_after (es ++ e ∷ [])).config n ≡ Some new) × IsStill m new
still_there es e here n m at = slot_then (state_after es).config (state_after (es ++ e ∷ [])).config e (config_then es e here) n m at

not_live : (c : Configuration) (n : ℕ) (m : Slot) → slot c n ≡ Some m → m.live ≡ false → is_live c n ≡ false
not_live c n m at gone = map_or_at (λ (x : Slot). x.live) (slot c n) false m at ∙ gone

-- ---- lines

pub same_argument : (m new : Slot) → IsStill m new → argument_or_0 new.node.arg ≡ argument_or_0 m.node.arg
same_argument m new same = ap (λ (x : Node). option_map_or (λ a. a) x.arg 0) same.node

same_member : (es : List Event) (e : Event) (k : ℕ) (old new : Slot) → IsStill old new → done_by k (es ++ e ∷ []) ≡ done_by k es → predecessor es k old ≡ predecessor (es ++ e ∷ []) k new
same_member es e k old new same log =
    ap (λ f. record { slot = k; first = f; arg = argument_or_0 old.node.arg; log = done_by k es }) (sym same.first)
    ∙ ap (λ a. record { slot = k; first = new.first_port; arg = a; log = done_by k es }) (sym (same_argument old new same))
    ∙ ap (λ l. record { slot = k; first = new.first_port; arg = argument_or_0 new.node.arg; log = l }) (sym log)

pub past_then : (es : List Event) (e : Event) → IsNext es e → (n : ℕ) (ms : List Predecessor) → IsPast es n ms → IsPast (es ++ e ∷ []) n ms
past_then es e next _ _ (first_of_line n m at none_) =
    let new = still_there es e next n m at in first_of_line n new.0 new.1 (new.2.from ∙ none_)
past_then es e next _ _ (behind n k m old ms at from low was rest) =
    let new = still_there es e next n m at in
    let new_old = still_there es e next k old was in
    let source = (sources_are_gone es next.run).gone n k m at from in
    let same : source.old ≡ old = same_Some source.old old (sym source.there ∙ was) in
    let gone : old.live ≡ false = ap (λ (x : Slot). x.live) (sym same) ∙ source.removed in
    let log = done_by_other k es e (gone_does_nothing (state_after es) e k next.well next.legal (not_live (state_after es).config k old was gone)) in
    subst (λ x. IsPast (es ++ e ∷ []) n (ms ++ x ∷ [])) (sym (same_member es e k old new_old.0 new_old.2 log))
    (behind n k new.0 new_old.0 ms new.1 (new.2.from ∙ from) low new_old.1 (past_then es e next k ms rest))

-- ---- a node that was removed is in no service

removed_by : (s : State) (e : Event) (t : Configuration) → Legal s e → Reconfigures s.config e t → (n : ℕ) (m new : Slot) → slot s.config n ≡ Some m → m.live ≡ true → slot t n ≡ Some new → new.live ≡ false → is_settled s n ≡ true
removed_by s (Remove k) t l r n m new at live now gone = ⊎_elim
    (λ (same : n ≡ k). subst (λ i. is_settled s i ≡ true) (sym same) l.settled)
    (λ (other : n ≡ k → ⊥).
    let is : m ≡ new = same_Some m new (sym at ∙ sym (r.slots n ∙ rw (ne_eqb n k other) refl) ∙ now) in
    absurd (both_ways new.live gone (ap (λ (x : Slot). x.live) (sym is) ∙ live)))
    (cases_eq n k)
removed_by s (Make k node from) t l r n m new at live now gone =
    let within = slice_get_within s.config.slots n m at in
    let is : m ≡ new = same_Some m new (sym at ∙ sym (r.slots n ∙ rw (ne_eqb n (length s.config.slots) (λ same. omega (arith, within, same))) refl) ∙ now) in
    absurd (both_ways new.live gone (ap (λ (x : Slot). x.live) (sym is) ∙ live))
removed_by s _ t l r n m new at live now gone =
    absurd (both_ways new.live gone (ap (λ (x : Slot). x.live) (sym (same_Some m new (sym at ∙ sym (r.slots n) ∙ now))) ∙ live))

knows_none : (s : State) (o : Option Service) (w : Option Served) → KnowsService s o w → o ≡ None → w ≡ None
knows_none s None None h is = refl
knows_none s None (Some u) h is = absurd h
knows_none s (Some v) w h is = absurd (cc)

-- ---- a node goes on through what it doesn't do

module _ (es : List Event) (e : Event) (next : IsNext es e) (n : ℕ) (x : NodeSeen) (h : IsHere es n x) (other : is_doer (state_after es) n e ≡ false) where
  here_new : (new : Slot) × (slot (state_after (es ++ e ∷ [])).config n ≡ Some new) × IsStill h.made new
  here_new = still_there es e next n h.made h.there

  was_live : here_new.0.live ≡ true → h.made.live ≡ true
  was_live live =
      by h.made.live refl
    where
      by : (b : Bool) → h.made.live ≡ b → h.made.live ≡ true
      by true is = is
      by false is = absurd (both_ways here_new.0.live (here_new.2.gone is) live)

  step : Step (state_after es) e (state_after (es ++ e ∷ []))
  step = record { allowed = allowed (state_after es) e next.legal; changed = next.next }

  fits_then : here_new.0.live ≡ true → FitsCore (state_after (es ++ e ∷ [])) n x.known
  fits_then live =
      seats_stay (state_after es) (state_after (es ++ e ∷ [])) e n x.known next.well next.traffic step other
      (map_or_at (λ (m : Slot). m.live) (slot (state_after (es ++ e ∷ [])).config n) false here_new.0 here_new.1 ∙ live) (h.fits (was_live live))

  rests_then : here_new.0.live ≡ false → x.state.service ≡ None
  rests_then gone =
      by h.made.live refl
    where
      by : (b : Bool) → h.made.live ≡ b → x.state.service ≡ None
      by false is = h.rests is
      by true is =
          let settled = removed_by (state_after es) e (state_after (es ++ e ∷ [])).config next.legal (config_then es e next) n h.made here_new.0 h.there is here_new.1 gone in
          h.told (knows_none (state_after es) (service (state_after es) n) x.known.service (h.fits is).known.service (settled_serves_nothing (state_after es) n settled))

  pub here_then : IsHere (es ++ e ∷ []) n x
  here_then = record {
    made = here_new.0;
    there = here_new.1;
    place = h.place;
    first = h.first ∙ sym here_new.2.first;
    kind = h.kind ∙ sym (ap (λ (m : Node). m.kind) here_new.2.node);
    arg = h.arg ∙ sym (same_argument h.made here_new.0 here_new.2);
    log = h.log ∙ sym (done_by_other n es e other);
    past = past_then es e next n x.past h.past;
    fits = fits_then;
    rests = rests_then;
    told = h.told;
  }
