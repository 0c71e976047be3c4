-- Where all is at rest at once, no node can do anything: it could but begin a transaction, and what is done wants none.
use Rattle.std.proofs.Common.{◌≡◌, ◌∙◌, ℕ, Bool, true, false, List, ◌∷◌, Option, Some, None, refl, ap}
use Rattle.std.specs.Prelude.{fold}
use Rattle.std.specs.Option.{option_map_or}
use Rattle.std.proofs.lemmas.Bool.{both_ways}
use Rattle.component_trait.specs.Fold.{fold_from, fold_next, where_so, is_request}
use Rattle.component_trait.specs.Moves as moves
use Rattle.component_trait.specs.States.{NodeState}
use Rattle.component_trait.specs.Tables as tables
use Rattle.component_trait.specs.declared.next.Ask.{Ask as AskFor}
use Rattle.component_trait.proofs.FoldLaws.{fold_none}
use Rattle.component_trait.proofs.WantLaws.{wants_none}
use Rattle.config_graph.specs.declared.kind.Kind.TheVariants as kind
use Rattle.quiesce_word.specs.Phases.{is_idle}
use Rattle.quiesce_word.proofs.PhaseLaws.{answered_busy, asked_busy, more_busy, serving_busy}
use Rattle.quiesce_core.specs.Doers.{is_of_change}
use Rattle.quiesce_core.specs.Legal.{Legal}
use Rattle.quiesce_core.specs.Rules.{is_live_port, serves_through}
use Rattle.quiesce_core.specs.State.{State, depends, exchange, owner, provision, service}
use Rattle.quiesce_core.specs.Traffic.{IsConsistent}
use Rattle.quiesce_core.specs.declared.event.Event.{Event}
use Rattle.quiesce_core.specs.declared.event.Event.TheVariants.{Begin, Call, Take, Give, End, More, Ask, Hear, Miss}
use Rattle.quiesce_core.specs.declared.state.Service.{Service}
use Rattle.quiesce_core.proofs.StateLaws.{taken_is}
use Rattle.quiesce_core.proofs.StabilityLaws.{busy_is_live}

pub done_wants_none : (s : NodeState) → moves.is_done s ≡ true → moves.wants s ≡ None
done_wants_none s h = wants_none s.kind s.arg s.kept h

pub begins_none : (first p k v : ℕ) (s : NodeState) (es : List Event) → moves.is_done s ≡ true → fold_from first s (Begin p k v ∷ es) ≡ None
begins_none first p k v s es h =
    ap (λ (a : Option AskFor). fold (fold_next first) (where_so (is_request first p v a) s) es) (done_wants_none s h) ∙ fold_none first es

-- no transaction is open at a live port
abbrev pub AreAllIdle : State → Type 0
AreAllIdle s = (p : ℕ) → is_live_port s.config p ≡ true → is_idle (exchange s p).phase ≡ true

abbrev pub is_begin : Event → Bool
is_begin (Begin p k v) = true
is_begin _ = false

module _ (s : State) (c : IsConsistent s) (idle : AreAllIdle s) where
  never_busy : (p : ℕ) → is_idle (exchange s p).phase ≡ false → ⊥
  never_busy p busy = both_ways (is_idle (exchange s p).phase) busy (idle p (busy_is_live s p c busy))

  never_serves : (n : ℕ) (v : Service) → service s n ≡ Some v → ⊥
  never_serves n v at = never_busy v.port (serving_busy (exchange s v.port).phase (c.serving n v at).busy)

  never_through : (n p : ℕ) → serves_through s n p ≡ true → ⊥
  never_through n p h = by (service s n) refl h
    where
      by : (o : Option Service) → service s n ≡ o → option_map_or (λ (v : Service). depends s.config n (provision s.config v.port) p) o false ≡ true → ⊥
      by None at h = both_ways false refl h
      by (Some v) at h = never_serves n v at

  pub only_begins : (e : Event) → Legal s e → is_of_change e ≡ false → is_begin e ≡ true
  only_begins (Begin p k v) l h = refl
  only_begins (Call p k v) l h = absurd (never_through (owner s.config p) p l.serves_through)
  only_begins (Miss p) l h = absurd (never_through (owner s.config p) p l.serves_through)
  only_begins (Take p k v) l h = absurd (never_busy p (asked_busy (exchange s p).phase l.asked))
  only_begins (Hear p k v) l h = absurd (never_busy p (asked_busy (exchange s p).phase l.asked))
  only_begins (Ask p k v) l h = absurd (never_busy p (more_busy (exchange s p).phase l.in_more))
  only_begins (End p k v) l h = absurd (never_busy p (answered_busy (exchange s p).phase l.answered))
  only_begins (Give p k v) l h = let t = taken_is s p l.taken in absurd (never_serves t.to.node t.serving t.serviced)
  only_begins (More p k v) l h = let t = taken_is s p l.taken in absurd (never_serves t.to.node t.serving t.serviced)
  only_begins _ l h = absurd (both_ways true h refl)
