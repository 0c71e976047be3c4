-- A transaction engages two nodes, from its begin to its end.
use Rattle.std.proofs.Common.{◌≡◌, ℕ, true, false, not, List, Option, Some, refl, ap, ◌∙◌}
use Rattle.std.specs.Prelude.{◌==◌, option_map}
use Rattle.std.specs.List.{list_any}
use Rattle.std.proofs.lemmas.Bool.{and_parts, both_ways, eqb-true, not-true}
use Rattle.config_graph.specs.declared.node.Target.{Target}
use Rattle.quiesce_core.specs.declared.event.Event.{Event}
use Rattle.quiesce_core.specs.declared.event.Event.TheVariants.{Take, Give, End, More, Ask, Hear}
use Rattle.quiesce_core.specs.State.{State, owner, target}
use Rattle.quiesce_core.specs.Runs.{IsRun, state_after, doer, is_begin_of, is_end_of, is_open_after, Begun, initiator, target_at_begin}
use Rattle.quiesce_laws.specs.Events.{is_of_initiator, is_of_target}
use Rattle.quiesce_laws.proofs.OpenLaws.{IsGoing}
use Rattle.quiesce_laws.proofs.QuiescenceLaws.{going_in}

-- the node to which a port leads
abbrev led_to : State → ℕ → Option ℕ
led_to s p = option_map (λ (t : Target). t.node) (target s.config p)

owner_does : (s : State) (p k : ℕ) (e : Event) → is_of_initiator p k e ≡ true → doer s e ≡ Some (owner s.config p)
owner_does s p k (Ask q j v) h = ap (λ i. Some (owner s.config i)) (eqb-true q p (and_parts (q == p) (j == k) h).0)
owner_does s p k (End q j v) h = ap (λ i. Some (owner s.config i)) (eqb-true q p (and_parts (q == p) (j == k) h).0)
owner_does s p k _ h = absurd (both_ways false refl h)

target_does : (s : State) (p k : ℕ) (e : Event) → is_of_target p k e ≡ true → doer s e ≡ led_to s p
target_does s p k (Take q j v) h = ap (λ i. led_to s i) (eqb-true q p (and_parts (q == p) (j == k) h).0)
target_does s p k (Give q j v) h = ap (λ i. led_to s i) (eqb-true q p (and_parts (q == p) (j == k) h).0)
target_does s p k (More q j v) h = ap (λ i. led_to s i) (eqb-true q p (and_parts (q == p) (j == k) h).0)
target_does s p k (Hear q j v) h = ap (λ i. led_to s i) (eqb-true q p (and_parts (q == p) (j == k) h).0)
target_does s p k _ h = absurd (both_ways false refl h)

module _ (es : List Event) (p k : ℕ) (b : Begun es p k) (run : IsRun es) (opened : is_open_after es p k ≡ true) where
  goes_on : IsGoing (state_after b.before) (state_after es) p k
  goes_on =
      going_in es p k b.before b.after b.event run b.parts b.begins
      (not-true (list_any (is_end_of p k) es) (and_parts (list_any (is_begin_of p k) es) (not (list_any (is_end_of p k) es)) opened).1)

  pub by_initiator : (e : Event) → is_of_initiator p k e ≡ true → doer (state_after es) e ≡ Some (initiator es p k b)
  by_initiator e h = owner_does (state_after es) p k e h ∙ ap Some goes_on.owner

  pub by_target : (e : Event) → is_of_target p k e ≡ true → doer (state_after es) e ≡ target_at_begin es p k b
  by_target e h = target_does (state_after es) p k e h ∙ ap (λ o. option_map (λ (t : Target). t.node) o) goes_on.target
