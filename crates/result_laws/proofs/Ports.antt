-- What is due at ports: what was sent there last, where an answer other than 0 waits for its End.
use Rattle.std.proofs.Common.{◌≡◌, ◌∙◌, ℕ, ◌+◌, ◌<◌, Bool, true, false, cond, List, [], ◌∷◌, ◌++◌, length, refl, sym, ap, arith}
use Rattle.std.specs.Prelude.{◌==◌, nat_lt}
use Rattle.std.proofs.lemmas.Bool.{and_parts, both_ways, eq-eqb, eqb-true, false_from_ne_true, ltb-true, ne_eqb}
use Rattle.std.proofs.lemmas.List.Sums.{fold_push}
use Rattle.component_trait.specs.States.{NodeState}
use Rattle.quiesce_word.specs.Phases.{is_answered, is_idle, is_in_more}
use Rattle.quiesce_word.proofs.PhaseLaws.{answered_busy, more_not_answered}
use Rattle.quiesce_core.specs.Alters.{exchange_by, exchange_next}
use Rattle.quiesce_core.specs.Doers.{is_of_change}
use Rattle.quiesce_core.specs.Legal.{Legal}
use Rattle.quiesce_core.specs.Rules.{is_live_port, is_taken}
use Rattle.quiesce_core.specs.Runs.{state_after}
use Rattle.quiesce_core.specs.State.{State, exchange, owner, service}
use Rattle.quiesce_core.specs.declared.event.Event.{Event}
use Rattle.quiesce_core.specs.declared.event.Event.TheVariants.{Begin, Call, Take, Give, End, More, Ask, Hear, Miss}
use Rattle.quiesce_core.specs.declared.state.Exchange.{Exchange}
use Rattle.quiesce_core.proofs.AlterLaws.{exchanges_next}
use Rattle.quiesce_core.proofs.InductionLaws.{IsNext}
use Rattle.result_laws.proofs.EventLaws.{answered_untaken, nothing_there}
use Rattle.result_laws.proofs.FactLaws.{Facts}
pub use Rattle.result_laws.specs.UnderWay.{due, due_of, is_port_of_flow, last_sent, sent_next}
use Rattle.result_laws.specs.UnderWay.{unless_0}

-- the port of a node's event
abbrev pub port_of : Event → ℕ
port_of (Begin p k v) = p
port_of (Call p k v) = p
port_of (Miss p) = p
port_of (Take p k v) = p
port_of (Give p k v) = p
port_of (End p k v) = p
port_of (More p k v) = p
port_of (Ask p k v) = p
port_of (Hear p k v) = p
port_of _ = 0

-- what an End takes from what is due, and what a Give adds
abbrev pub ends_at_port : (ℕ → ℕ) → List Event → Event → ℕ
ends_at_port weight es (End p k v) = cond (is_port_of_flow es p) (unless_0 v (weight (last_sent p es))) 0
ends_at_port weight es _ = 0

abbrev pub gives_at_port : (ℕ → ℕ) → List Event → Event → ℕ
gives_at_port weight es (Give p k v) = cond (is_port_of_flow es p) (unless_0 v (weight (last_sent p es))) 0
gives_at_port weight es _ = 0

-- ---- a port that has no answer

idle_due : (weight : ℕ → ℕ) (x : Exchange) (v : ℕ) → is_answered x.phase ≡ false → due_of weight x v ≡ 0
idle_due weight x v h = ap (λ b. cond b (unless_0 x.value (weight v)) 0) h

pub rest_due_of : (weight : ℕ → ℕ) (x : Exchange) (v : ℕ) → is_idle x.phase ≡ true → due_of weight x v ≡ 0
rest_due_of weight x v idle = idle_due weight x v (false_from_ne_true (is_answered x.phase) (λ a. both_ways (is_idle x.phase) (answered_busy x.phase a) idle))

-- and one whose owner is another node
pub rest_due : (weight : ℕ → ℕ) (es : List Event) (p : ℕ) → is_idle (exchange (state_after es) p).phase ≡ true → due weight es p ≡ 0
rest_due weight es p idle = by (is_port_of_flow es p)
  where
    by : (b : Bool) → cond b (due_of weight (exchange (state_after es) p) (last_sent p es)) 0 ≡ 0
    by true = rest_due_of weight (exchange (state_after es) p) (last_sent p es) idle
    by false = refl

-- what an End takes of what is due at its port, and what a Give adds, by the port's owner
abbrev ends_of : (ℕ → ℕ) → List Event → Event → ℕ
ends_of weight es (End p k v) = unless_0 v (weight (last_sent p es))
ends_of weight es _ = 0

abbrev gives_of : (ℕ → ℕ) → List Event → Event → ℕ
gives_of weight es (Give p k v) = unless_0 v (weight (last_sent p es))
gives_of weight es _ = 0

-- ---- an event of a node

module _ (weight : ℕ → ℕ) (es : List Event) (e : Event) (here : IsNext es e) where
  abbrev s : State
  s = state_after es

  pub exchange_then : (q : ℕ) → exchange (state_after (es ++ e ∷ [])) q ≡ exchange_next s q e
  exchange_then q = ap (λ (x : State). exchange x q) here.next ∙ exchanges_next s e here.well here.legal q

  pub sent_then : (q : ℕ) → last_sent q (es ++ e ∷ []) ≡ sent_next q (last_sent q es) e
  sent_then q = fold_push (sent_next q) 0 es e

  abbrev now_due : ℕ → ℕ
  now_due q = due_of weight (exchange s q) (last_sent q es)

  abbrev then_due : ℕ → ℕ
  then_due q = due_of weight (exchange (state_after (es ++ e ∷ [])) q) (last_sent q (es ++ e ∷ []))

  due_then : (q : ℕ) → then_due q ≡ due_of weight (exchange_next s q e) (sent_next q (last_sent q es) e)
  due_then q = λ i. due_of weight (exchange_then q i) (sent_then q i)

  of_elsewhere : (q : ℕ) → (q ≡ port_of e → ⊥) → then_due q ≡ now_due q
  of_elsewhere q other = due_then q ∙ by e other
    where
      x : ℕ
      x = last_sent q es

      apart : (p : ℕ) → (q ≡ p → ⊥) → (p == q) ≡ false
      apart p h = ne_eqb p q (λ same. h (sym same))

      by : (z : Event) → (q ≡ port_of z → ⊥) → due_of weight (exchange_next s q z) (sent_next q (last_sent q es) z) ≡ due_of weight (exchange s q) (last_sent q es)
      by (Begin p k v) h = ap (λ b. due_of weight (cond b (exchange_by (service s (owner s.config q)) (exchange s q) (Begin p k v)) (exchange s q)) (cond b v (last_sent q es))) (apart p h)
      by (Call p k v) h = ap (λ b. due_of weight (cond b (exchange_by (service s (owner s.config q)) (exchange s q) (Call p k v)) (exchange s q)) (cond b v (last_sent q es))) (apart p h)
      by (Give p k v) h = ap (λ b. due_of weight (cond b (exchange_by (service s (owner s.config q)) (exchange s q) (Give p k v)) (exchange s q)) (last_sent q es)) (apart p h)
      by (More p k v) h = ap (λ b. due_of weight (cond b (exchange_by (service s (owner s.config q)) (exchange s q) (More p k v)) (exchange s q)) (last_sent q es)) (apart p h)
      by (Ask p k v) h = ap (λ b. due_of weight (cond b (exchange_by (service s (owner s.config q)) (exchange s q) (Ask p k v)) (exchange s q)) (last_sent q es)) (apart p h)
      by (End p k v) h = ap (λ b. due_of weight (cond b (exchange_by (service s (owner s.config q)) (exchange s q) (End p k v)) (exchange s q)) (last_sent q es)) (apart p h)
      by _ h = refl

  -- at other ports it stays
  pub due_elsewhere : (q : ℕ) → is_port_of_flow (es ++ e ∷ []) q ≡ is_port_of_flow es q → (q ≡ port_of e → ⊥) → due weight (es ++ e ∷ []) q ≡ due weight es q
  due_elsewhere q same other = λ i. cond (same i) (of_elsewhere q other i) 0

  -- an event of the change leaves all as it was
  pub due_stays : is_of_change e ≡ true → (q : ℕ) → (is_idle (exchange s q).phase ≡ false → is_port_of_flow (es ++ e ∷ []) q ≡ is_port_of_flow es q) → due weight (es ++ e ∷ []) q ≡ due weight es q
  due_stays change q same = by_phase (is_idle (exchange s q).phase) refl
    where
      sent_stays : (z : Event) → is_of_change z ≡ true → sent_next q (last_sent q es) z ≡ last_sent q es
      sent_stays (Begin p k v) h = absurd (both_ways false refl h)
      sent_stays (Call p k v) h = absurd (both_ways false refl h)
      sent_stays _ h = refl

      stays_so : then_due q ≡ now_due q
      stays_so = due_then q ∙ (λ i. due_of weight (nothing_there s q e change i) (sent_stays e change i))

      by_phase : (b : Bool) → is_idle (exchange s q).phase ≡ b → due weight (es ++ e ∷ []) q ≡ due weight es q
      by_phase true idle = rest_due weight (es ++ e ∷ []) q (ap (λ (x : Exchange). is_idle x.phase) (exchange_then q ∙ nothing_there s q e change) ∙ idle) ∙ sym (rest_due weight es q idle)
      by_phase false busy = λ i. cond (same busy i) (stays_so i) 0

  module _ (f : ℕ → NodeState) (facts : Facts s f) where
    idle_now : (p : ℕ) → is_idle (exchange s p).phase ≡ true → now_due p ≡ 0
    idle_now p idle = rest_due_of weight (exchange s p) (last_sent p es) idle

    taken_now : (p : ℕ) → is_taken s p ≡ true → now_due p ≡ 0
    taken_now p taken = idle_due weight (exchange s p) (last_sent p es) (false_from_ne_true (is_answered (exchange s p).phase) (λ a. both_ways (is_taken s p) (answered_untaken s f f facts p a) taken))

    more_now : (p : ℕ) → is_in_more (exchange s p).phase ≡ true → now_due p ≡ 0
    more_now p m = idle_due weight (exchange s p) (last_sent p es) (more_not_answered (exchange s p).phase m)

    of_here : is_of_change e ≡ false → then_due (port_of e) + ends_of weight es e ≡ now_due (port_of e) + gives_of weight es e
    of_here of_node = ap (λ x. x + ends_of weight es e) (due_then (port_of e)) ∙ by e here.legal of_node
      where
        by : (z : Event) → Legal s z → is_of_change z ≡ false
            → due_of weight (exchange_next s (port_of z) z) (sent_next (port_of z) (last_sent (port_of z) es) z) + ends_of weight es z ≡ now_due (port_of z) + gives_of weight es z
        by (Begin p k v) l h =
            ap (λ b. due_of weight (cond b (exchange_by (service s (owner s.config p)) (exchange s p) (Begin p k v)) (exchange s p)) (cond b v (last_sent p es)) + 0) (eq-eqb p p refl)
            ∙ sym (ap (λ x. x + 0) (idle_now p l.idle))
        by (Call p k v) l h =
            ap (λ b. due_of weight (cond b (exchange_by (service s (owner s.config p)) (exchange s p) (Call p k v)) (exchange s p)) (cond b v (last_sent p es)) + 0) (eq-eqb p p refl)
            ∙ sym (ap (λ x. x + 0) (idle_now p l.idle))
        by (Give p k v) l h =
            ap (λ b. due_of weight (cond b (exchange_by (service s (owner s.config p)) (exchange s p) (Give p k v)) (exchange s p)) (last_sent p es) + 0) (eq-eqb p p refl)
            ∙ turned (unless_0 v (weight (last_sent p es))) ∙ sym (ap (λ x. x + unless_0 v (weight (last_sent p es))) (taken_now p l.taken))
          where
            turned : (x : ℕ) → x + 0 ≡ 0 + x
            turned x = omega arith
        by (More p k v) l h =
            ap (λ b. due_of weight (cond b (exchange_by (service s (owner s.config p)) (exchange s p) (More p k v)) (exchange s p)) (last_sent p es) + 0) (eq-eqb p p refl)
            ∙ sym (ap (λ x. x + 0) (taken_now p l.taken))
        by (Ask p k v) l h =
            ap (λ b. due_of weight (cond b (exchange_by (service s (owner s.config p)) (exchange s p) (Ask p k v)) (exchange s p)) (last_sent p es) + 0) (eq-eqb p p refl)
            ∙ sym (ap (λ x. x + 0) (more_now p l.in_more))
        by (End p k v) l h =
            ap (λ b. due_of weight (cond b (exchange_by (service s (owner s.config p)) (exchange s p) (End p k v)) (exchange s p)) (last_sent p es) + unless_0 v (weight (last_sent p es))) (eq-eqb p p refl)
            ∙ turned (unless_0 v (weight (last_sent p es)))
            ∙ sym (λ i. cond (l.answered i) (unless_0 (value_is i) (weight (last_sent p es))) 0 + 0)
          where
            turned : (x : ℕ) → 0 + x ≡ x + 0
            turned x = omega arith

            value_is : (exchange s p).value ≡ v
            value_is = sym (eqb-true v (exchange s p).value (and_parts (k == (exchange s p).serial) (v == (exchange s p).value) l.message).1)
        by (Take p k v) l h = refl
        by (Hear p k v) l h = refl
        by (Miss p) l h = refl
        by _ l h = absurd (both_ways true h refl)

    -- by the port's owner
    pub due_here : is_of_change e ≡ false → is_port_of_flow (es ++ e ∷ []) (port_of e) ≡ is_port_of_flow es (port_of e) → due weight (es ++ e ∷ []) (port_of e) + ends_at_port weight es e ≡ due weight es (port_of e) + gives_at_port weight es e
    due_here of_node same =
        let a : ends_at_port weight es e ≡ cond (is_port_of_flow es (port_of e)) (ends_of weight es e) 0 = ends_so e in
        let b : gives_at_port weight es e ≡ cond (is_port_of_flow es (port_of e)) (gives_of weight es e) 0 = gives_so e in
        let c : due weight (es ++ e ∷ []) (port_of e) ≡ cond (is_port_of_flow es (port_of e)) (then_due (port_of e)) 0 = ap (λ x. cond x (then_due (port_of e)) 0) same in
        let d = either (is_port_of_flow es (port_of e)) (then_due (port_of e)) (ends_of weight es e) (now_due (port_of e)) (gives_of weight es e) (of_here of_node) in
        omega (arith, a, b, c, d)
      where
        nothing_either : (b : Bool) → ◌≡◌ {A = ℕ} 0 (cond b 0 0)
        nothing_either true = refl
        nothing_either false = refl

        ends_so : (z : Event) → ends_at_port weight es z ≡ cond (is_port_of_flow es (port_of z)) (ends_of weight es z) 0
        ends_so (End p k v) = refl
        ends_so (Begin p k v) = nothing_either (is_port_of_flow es p)
        ends_so (Call p k v) = nothing_either (is_port_of_flow es p)
        ends_so (Take p k v) = nothing_either (is_port_of_flow es p)
        ends_so (Give p k v) = nothing_either (is_port_of_flow es p)
        ends_so (More p k v) = nothing_either (is_port_of_flow es p)
        ends_so (Ask p k v) = nothing_either (is_port_of_flow es p)
        ends_so (Hear p k v) = nothing_either (is_port_of_flow es p)
        ends_so (Miss p) = nothing_either (is_port_of_flow es p)
        ends_so _ = nothing_either (is_port_of_flow es 0)

        gives_so : (z : Event) → gives_at_port weight es z ≡ cond (is_port_of_flow es (port_of z)) (gives_of weight es z) 0
        gives_so (Give p k v) = refl
        gives_so (Begin p k v) = nothing_either (is_port_of_flow es p)
        gives_so (Call p k v) = nothing_either (is_port_of_flow es p)
        gives_so (Take p k v) = nothing_either (is_port_of_flow es p)
        gives_so (End p k v) = nothing_either (is_port_of_flow es p)
        gives_so (More p k v) = nothing_either (is_port_of_flow es p)
        gives_so (Ask p k v) = nothing_either (is_port_of_flow es p)
        gives_so (Hear p k v) = nothing_either (is_port_of_flow es p)
        gives_so (Miss p) = nothing_either (is_port_of_flow es p)
        gives_so _ = nothing_either (is_port_of_flow es 0)

        either : (b : Bool) (x y z u : ℕ) → x + y ≡ z + u → cond b x 0 + cond b y 0 ≡ cond b z 0 + cond b u 0
        either true x y z u h = h
        either false x y z u h = refl

-- ---- the port of an event is one that was made

pub port_made : (s : State) (e : Event) → Legal s e → is_of_change e ≡ false → port_of e < length s.config.gates
port_made s e l of_node = ltb-true (port_of e) (length s.config.gates) (and_parts (nat_lt (port_of e) (length s.config.gates)) _ (live e l of_node)).0
  where
    live : (z : Event) → Legal s z → is_of_change z ≡ false → is_live_port s.config (port_of z) ≡ true
    live (Begin p k v) l h = l.live
    live (Call p k v) l h = l.live
    live (Miss p) l h = l.live
    live (Take p k v) l h = l.live
    live (Give p k v) l h = l.live
    live (End p k v) l h = l.live
    live (More p k v) l h = l.live
    live (Ask p k v) l h = l.live
    live (Hear p k v) l h = l.live
    live _ l h = absurd (both_ways true h refl)
