-- Events that make, remove, link and unlink nothing leave all but which gates are closed.
use Rattle.std.proofs.Common.{◌≡◌, ◌∙◌, ℕ, Bool, true, false, List, [], ◌∷◌, Option, None, refl, sym, ap, subst}
use Rattle.std.specs.List.{list_any}
use Rattle.std.proofs.lemmas.Bool.{both_ways, or_parts}
use Rattle.quiesce_core.specs.declared.event.Event.{Event}
use Rattle.quiesce_core.specs.declared.event.Event.TheVariants.{Close, Reopen, Make, Link, Unlink, Remove}
use Rattle.quiesce_core.specs.Effect.{change_next, effect}
use Rattle.quiesce_core.specs.Rules.{denial}
use Rattle.quiesce_core.specs.Runs.{Steps}
use Rattle.quiesce_core.specs.State.{Configuration, State}
use Rattle.quiesce_core.proofs.LegalLaws.{legal}
use Rattle.quiesce_core.proofs.RunLaws.{effect_config}
use Rattle.quiesce_core.proofs.StepsLaws.{end_is, first_of}
use Rattle.quiesce_laws.specs.Steps.{is_shaping}
use Rattle.quiesce_laws.proofs.TurningLaws.{SameLinks, live_port, same_then, same_turned}

same_here : (c : Configuration) → SameLinks c c
same_here c = record { slots = refl; long = refl; owners = λ q. refl; requirements = λ q. refl; targets = λ q. refl }

same_step : (s : State) (e : Event) → is_shaping e ≡ false → denial s e ≡ None → SameLinks s.config (change_next s.config e)
same_step s (Close p) kept free = same_turned s.config s.config p true (live_port s.config p (legal s (Close p) free).live).made (same_here s.config)
same_step s (Reopen p) kept free = same_turned s.config s.config p false (live_port s.config p (legal s (Reopen p) free).live).made (same_here s.config)
same_step s (Make n node from) kept free = absurd (both_ways true kept refl)
same_step s (Link p n x) kept free = absurd (both_ways true kept refl)
same_step s (Unlink p) kept free = absurd (both_ways true kept refl)
same_step s (Remove n) kept free = absurd (both_ways true kept refl)
same_step s _ kept free = same_here s.config

pub same_steps : (s t : State) (es : List Event) → list_any is_shaping es ≡ false → Steps s es t → SameLinks s.config t.config
same_steps s t [] kept steps = subst (λ (u : State). SameLinks s.config u.config) (sym (end_is s t [] steps)) (same_here s.config)
same_steps s t (e ∷ es) kept steps =
    let parts = or_parts (is_shaping e) (list_any is_shaping es) kept in
    let w = first_of s t (e ∷ es) e es steps refl in
    let config : w.0.config ≡ change_next s.config e = ap (λ (u : State). u.config) w.1.changed ∙ effect_config s e in
    same_then s.config w.0.config t.config
    (subst (SameLinks s.config) (sym config) (same_step s e parts.0 w.1.allowed))
    (same_steps w.0 t es parts.1 w.2)
