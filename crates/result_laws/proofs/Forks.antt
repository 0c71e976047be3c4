-- Each fork is held once: what holds one is the port to which it was lent last.
use Rattle.std.proofs.Common.{◌≡◌, ◌∙◌, ℕ, true, false, not, List, [], ◌∷◌, ◌++◌, append_assoc, Some, refl, sym, ap, subst, arith, ⊎_elim}
use Rattle.std.specs.Prelude.{◌==◌, ◌||◌}
use Rattle.std.proofs.lemmas.Bool.{and_parts, both_ways, cases_Bool, eq-eqb, false_from_ne_true, ne_eqb}
use Rattle.std.proofs.lemmas.List.{append-nil}
use Rattle.std.proofs.lemmas.Option.{same_Some}
use Rattle.config_graph.specs.declared.kind.Kind.TheVariants.{Fork}
use Rattle.quiesce_word.specs.declared.word.TheConstants.{LAST_SERIAL}
use Rattle.quiesce_word.specs.Phases.{is_answered, is_idle}
use Rattle.quiesce_word.proofs.PhaseLaws.{answered_busy}
use Rattle.quiesce_core.specs.Doers.{is_of_change}
use Rattle.quiesce_core.specs.Effect.{effect}
use Rattle.quiesce_core.specs.WellFormed.{IsWithinBounds}
use Rattle.quiesce_laws.proofs.ExchangeLaws.{serials_grow}
use Rattle.quiesce_core.specs.Rules.{is_taken}
use Rattle.quiesce_core.specs.Runs.{IsRun, state_after}
use Rattle.quiesce_core.specs.State.{State, exchange, gate, owner, slot, target}
use Rattle.quiesce_core.specs.declared.event.Event.{Event}
use Rattle.quiesce_core.specs.declared.state.Slot.{Slot}
use Rattle.quiesce_core.proofs.ConfigurationLaws.{linked_made}
use Rattle.quiesce_core.proofs.InductionLaws.{IsNext, place}
use Rattle.quiesce_core.proofs.RunLaws.{runs_are_consistent, runs_are_well_formed}
use Rattle.quiesce_core.proofs.SoundnessLaws.{well_formed_next}
use Rattle.quiesce_core.proofs.StateLaws.{taken_busy}
use Rattle.change_round_laws.proofs.FoldLaws.{StatesAreHanded}
use Rattle.result_laws.specs.Coming.{HasFolds, come}
use Rattle.result_laws.proofs.ComingLaws.{at_place}
use Rattle.result_laws.specs.Holding.{forks_serve_places, has_fork, holds, is_fork, is_place}
use Rattle.result_laws.proofs.Linking.{AllLinked}
use Rattle.result_laws.proofs.Lent.{AllHeld, AreSpare, Forks, Joined, no_forks, place_if}
use Rattle.result_laws.proofs.LentChanges.{change_forks, held_now}
use Rattle.result_laws.proofs.LentSteps.{held_then, node_forks}

module _ (handed : StatesAreHanded) (es : List Event) (e : Event) (here : IsNext es e) (run' : IsRun (es ++ e ∷ [])) (later : HasFolds (es ++ e ∷ [])) (linked : AllLinked forks_serve_places (state_after es).config) (was : Forks es) where
  held_next : AreSpare (state_after es) → AllHeld es → AllHeld (es ++ e ∷ [])
  held_next spare held_ = ⊎_elim (λ (change : is_of_change e ≡ true). held_now handed es e here run' later linked was change held_) (λ (of_node : is_of_change e ≡ false). held_then handed es e here run' later linked was of_node spare held_) (cases_Bool (is_of_change e))

  forks_next : Forks (es ++ e ∷ [])
  forks_next = ⊎_elim (λ (change : is_of_change e ≡ true). change_forks handed es e here run' later linked was change) (λ (of_node : is_of_change e ≡ false). node_forks handed es e here run' later linked was of_node) (cases_Bool (is_of_change e))

module _ (handed : StatesAreHanded) where
  forks_from : (done_ rest : List Event) → IsRun (done_ ++ rest) → HasFolds (done_ ++ rest) → ((before after : List Event) → done_ ++ rest ≡ before ++ after → AllLinked forks_serve_places (state_after before).config) → Forks done_ → Forks (done_ ++ rest)
  forks_from done_ [] run folds linked was = subst Forks (sym (append-nil done_)) was
  forks_from done_ (e ∷ rest) run folds linked was =
      let all = append_assoc done_ (e ∷ []) rest in
      let at = at_place handed (done_ ++ e ∷ rest) run folds done_ rest e refl in
      let next = forks_next handed done_ e (place done_ rest e run) at.0 at.1 (linked done_ (e ∷ rest) refl) was in
      subst Forks all
      (forks_from (done_ ++ e ∷ []) rest (subst (λ xs. IsRun xs) (sym all) run) (subst (λ xs. HasFolds xs) (sym all) folds) (λ before after is. linked before after (sym all ∙ is)) next)

  pub keep_forks : (es : List Event) → IsRun es → HasFolds es → ((before after : List Event) → es ≡ before ++ after → AllLinked forks_serve_places (state_after before).config) → Forks es
  keep_forks es run folds linked = forks_from [] es run folds linked no_forks

-- ---- where no port comes to its last serial

module _ (handed : StatesAreHanded) where
  spare_before : (es : List Event) (e : Event) → IsNext es e → AreSpare (state_after (es ++ e ∷ [])) → AreSpare (state_after es)
  spare_before es e here spare p =
      ne_eqb (exchange (state_after es) p).serial LAST_SERIAL (λ same.
      let more_ = serials_grow (state_after es) e here.well here.traffic here.legal p in
      let bound = (well_then p).serial in
      let at : (exchange (state_after (es ++ e ∷ [])) p).serial ≡ (exchange (effect (state_after es) e) p).serial = ap (λ (x : State). (exchange x p).serial) here.next in
      both_ways ((exchange (state_after (es ++ e ∷ [])) p).serial == LAST_SERIAL) (spare p) (eq-eqb (exchange (state_after (es ++ e ∷ [])) p).serial LAST_SERIAL (omega (arith, same, more_, bound, at))))
    where
      well_then : (p : ℕ) → IsWithinBounds (exchange (state_after (es ++ e ∷ [])) p)
      well_then p = subst (λ (x : State). IsWithinBounds (exchange x p)) (sym here.next) ((well_formed_next (state_after es) e here.well here.legal).bounds p)

  held_from : (done_ rest : List Event) → IsRun (done_ ++ rest) → HasFolds (done_ ++ rest) → ((before after : List Event) → done_ ++ rest ≡ before ++ after → AllLinked forks_serve_places (state_after before).config) → AreSpare (state_after (done_ ++ rest))
      → Forks done_ → AllHeld done_ → AllHeld (done_ ++ rest)
  held_from done_ [] run folds linked spare was held_ = subst AllHeld (sym (append-nil done_)) held_
  held_from done_ (e ∷ rest) run folds linked spare was held_ =
      let all = append_assoc done_ (e ∷ []) rest in
      let at = at_place handed (done_ ++ e ∷ rest) run folds done_ rest e refl in
      let here = place done_ rest e run in
      let link = linked done_ (e ∷ rest) refl in
      subst AllHeld all
      (held_from (done_ ++ e ∷ []) rest (subst (λ xs. IsRun xs) (sym all) run) (subst (λ xs. HasFolds xs) (sym all) folds) (λ before after is. linked before after (sym all ∙ is)) (subst (λ xs. AreSpare (state_after xs)) (sym all) spare)
      (forks_next handed done_ e here at.0 at.1 link was) (held_next handed done_ e here at.0 at.1 link was (spare_at done_ (e ∷ rest) run spare) held_))
    where
      spare_at : (done_ rest : List Event) → IsRun (done_ ++ rest) → AreSpare (state_after (done_ ++ rest)) → AreSpare (state_after done_)
      spare_at done_ [] run spare = subst (λ xs. AreSpare (state_after xs)) (append-nil done_) spare
      spare_at done_ (x ∷ rest) run spare =
          let all = append_assoc done_ (x ∷ []) rest in
          spare_before done_ x (place done_ rest x run) (spare_at (done_ ++ x ∷ []) rest (subst (λ xs. IsRun xs) (sym all) run) (subst (λ xs. AreSpare (state_after xs)) (sym all) spare))

  pub keep_held : (es : List Event) → IsRun es → HasFolds es → ((before after : List Event) → es ≡ before ++ after → AllLinked forks_serve_places (state_after before).config) → AreSpare (state_after es) → AllHeld es
  keep_held es run folds linked spare = held_from [] es run folds linked spare no_forks (λ n m there. absurd (cc there))

-- two ports that hold one fork are one
pub held_once : (es : List Event) → IsRun es → AllLinked forks_serve_places (state_after es).config → Forks es → (p q n x y : ℕ) (m : Slot)
    → target (state_after es).config p ≡ Some (record { node = n; provide = x }) → target (state_after es).config q ≡ Some (record { node = n; provide = y }) → slot (state_after es).config n ≡ Some m → m.node.kind ≡ Fork
    → holds es p ≡ true → holds es q ≡ true → p ≡ q
held_once es run linked was p q n x y m leads_p leads_q there kind holds_p holds_q = same_Some p q (sym (lent_to p x leads_p holds_p) ∙ lent_to q y leads_q holds_q)
  where
    lent_to : (p x : ℕ) → target (state_after es).config p ≡ Some (record { node = n; provide = x }) → holds es p ≡ true → was.lent n ≡ Some p
    lent_to p x leads h =
        let s = state_after es in
        let well = runs_are_well_formed es run in
        let own = well.sound.ports p (linked_made s.config p (record { node = n; provide = x }) leads) in
        let kind_p = place_if own.node.node.kind (sym (ap (λ k. not (is_fork k) || is_place own.node.node.kind) kind) ∙ linked p (record { node = n; provide = x }) own.node m leads own.made there) in
        let j : Joined s.config p (record { node = n; provide = x }) = record { leads = leads; from = own.node; from_there = own.made; is_place_ = kind_p; into = m; into_there = there; is_fork_ = kind } in
        let w = was.ports p (record { node = n; provide = x }) j in
        let both = and_parts (is_idle (exchange s p).phase) (has_fork (come es (owner s.config p)) (gate s.config p).require) h in
        w.before_ (false_from_ne_true (is_taken s p) (λ g. both_ways (is_idle (exchange s p).phase) (taken_busy s p (runs_are_consistent es run) g) both.0))
        (false_from_ne_true (is_answered (exchange s p).phase) (λ g. both_ways (is_idle (exchange s p).phase) (answered_busy (exchange s p).phase g) both.0)) both.1
