-- What a change may do by its configuration is allowed by every rule.
use Rattle.std.proofs.Common.{◌≡◌, ℕ, Bool, true, List, None}
use Rattle.quiesce_core.specs.declared.event.Event.{Event}
use Rattle.quiesce_core.specs.declared.event.Event.TheVariants.{Begin, Call, Take, Give, End, More, Ask, Hear, Miss, Close, Reopen, Make, Link, Unlink, Remove}
use Rattle.quiesce_core.specs.Legal.{Legal}
use Rattle.quiesce_core.specs.Rules.{denial, is_settled}
use Rattle.quiesce_core.specs.Runs.{IsRun, state_after}
use Rattle.quiesce_core.specs.State.{owner}
use Rattle.quiesce_core.proofs.LegalLaws.{allowed}
use Rattle.quiesce_core.proofs.SettledLaws.{if_settled}
use Rattle.quiesce_laws.specs.Drained.{is_drained}
use Rattle.quiesce_laws.proofs.DrainingLaws.{settled_if_drained}
use Rattle.quiesce_laws.specs.Steps.{IsNoted, MayStep}

module _ (noted : ℕ → Bool) (es : List Event) (run : IsRun es) (drained : (p : ℕ) → noted p ≡ true → is_drained (state_after es) p ≡ true) where
  settled : (n : ℕ) → IsNoted noted (state_after es).config n → is_settled (state_after es) n ≡ true
  settled n h = if_settled (state_after es) n (settled_if_drained es n run h.live (λ p o. drained p (h.own p o)) (λ p w. drained p (h.reaching p w)))

  legal_step : (e : Event) → MayStep noted (state_after es).config e → Legal (state_after es) e
  legal_step (Close p) h = record { live = h }
  legal_step (Reopen p) h = record { live = h }
  legal_step (Make n node from) h = h
  legal_step (Link p n x) h = record { live = h.live; unlinked = h.unlinked; provision = h.provision; settled = settled (owner (state_after es).config p) h.settled; no_cycle = h.no_cycle }
  legal_step (Unlink p) h = record { live = h.live; linked = h.linked; settled = settled (owner (state_after es).config p) h.settled }
  legal_step (Remove n) h = record { live = h.settled.live; settled = settled n h.settled; apart = h.apart }
  legal_step (Begin p k v) h = absurd h
  legal_step (Call p k v) h = absurd h
  legal_step (Take p k v) h = absurd h
  legal_step (Give p k v) h = absurd h
  legal_step (End p k v) h = absurd h
  legal_step (More p k v) h = absurd h
  legal_step (Ask p k v) h = absurd h
  legal_step (Hear p k v) h = absurd h
  legal_step (Miss p) h = absurd h

  pub step_allowed : (e : Event) → MayStep noted (state_after es).config e → denial (state_after es) e ≡ None
  step_allowed e h = allowed (state_after es) e (legal_step e h)
