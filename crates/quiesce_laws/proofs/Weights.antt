-- What is left of the transaction of a port, by its phase and by what its target services.
use Rattle.std.proofs.Common.{◌≡◌, ℕ, true, false, cond, Option, Some, None, refl, sym, ap, ◌∙◌, inl, inr, ⊎_elim}
use Rattle.std.specs.Prelude.{◌||◌, ◌==◌, ◌⊎◌, option_and_then}
use Rattle.std.specs.Option.{option_map_or}
use Rattle.std.proofs.lemmas.Bool.{cases_eq, or_cases}
use Rattle.config_graph.specs.declared.node.Target.{Target}
use Rattle.quiesce_core.specs.declared.state.Exchange.{Exchange}
use Rattle.quiesce_core.specs.declared.state.Service.{Service}
use Rattle.quiesce_word.specs.declared.phase.Phase.{Phase}
use Rattle.quiesce_word.specs.declared.phase.Phase.TheVariants as phase
use Rattle.quiesce_core.specs.State.{Configuration, Traffic, State, target, exchange, service}
use Rattle.quiesce_word.specs.Phases.{is_idle, is_asked, is_answered, is_in_more}
use Rattle.quiesce_core.specs.Rest.{full, service_rest, asked_rest, port_rest}
use Rattle.quiesce_core.specs.Rules.{is_taken}
use Rattle.base.proofs.OptionLaws.{map_or_at}
use Rattle.quiesce_word.proofs.PhaseLaws.{more_is, answered_is, asked_is, idle_is}
use Rattle.quiesce_laws.specs.Drain.{rest_at}
use Rattle.quiesce_laws.proofs.Busy.{untaken_if}
use Rattle.quiesce_core.proofs.StateLaws.{is_taken_if}

pub left_idle : (s : State) (p : ℕ) → is_idle (exchange s p).phase ≡ true → rest_at s p ≡ 0
left_idle s p h = ap (λ f. port_rest s p f) (idle_is (exchange s p).phase h)

pub left_answered : (s : State) (p : ℕ) → is_answered (exchange s p).phase ≡ true → rest_at s p ≡ 1
left_answered s p h = ap (λ f. port_rest s p f) (answered_is (exchange s p).phase h)

-- it is asked or in more, and leads somewhere
left_busy : (s : State) (p : ℕ) (t : Target) → (is_asked (exchange s p).phase || is_in_more (exchange s p).phase) ≡ true → target s.config p ≡ Some t → rest_at s p ≡ asked_rest s p t
left_busy s p t h e = ⊎_elim
    (λ (asked : is_asked (exchange s p).phase ≡ true). ap (λ f. port_rest s p f) (asked_is (exchange s p).phase asked))
    (λ (more_ : is_in_more (exchange s p).phase ≡ true). ap (λ f. port_rest s p f) (more_is (exchange s p).phase more_))
    (or_cases (is_asked (exchange s p).phase) (is_in_more (exchange s p).phase) h)
    ∙ map_or_at (asked_rest s p) (target s.config p) 0 t e

pub left_untaken : (s : State) (p : ℕ) (t : Target) → (is_asked (exchange s p).phase || is_in_more (exchange s p).phase) ≡ true → target s.config p ≡ Some t → is_taken s p ≡ false
    → rest_at s p ≡ full s.config t.node t.provide
left_untaken s p t busy e h =
    left_busy s p t busy e
    ∙ ap (λ b. cond b (option_map_or (λ (v : Service). service_rest s.config t.node t.provide v (exchange s p).phase) (service s t.node) 0) (full s.config t.node t.provide)) h

pub left_taken : (s : State) (p : ℕ) (t : Target) (v : Service) → (is_asked (exchange s p).phase || is_in_more (exchange s p).phase) ≡ true → target s.config p ≡ Some t → service s t.node ≡ Some v → v.port ≡ p
    → rest_at s p ≡ service_rest s.config t.node t.provide v (exchange s p).phase
left_taken s p t v busy e f same =
    left_busy s p t busy e
    ∙ ap (λ b. cond b (option_map_or (λ (v : Service). service_rest s.config t.node t.provide v (exchange s p).phase) (service s t.node) 0) (full s.config t.node t.provide)) (is_taken_if s p t v e f same)
    ∙ map_or_at (λ (v : Service). service_rest s.config t.node t.provide v (exchange s p).phase) (service s t.node) 0 v f

-- what is left of a port that is asked or in more, by its exchange and what its target services
abbrev asked_by : Configuration → ℕ → Target → Exchange → Option Service → ℕ
asked_by c q u x o =
    cond (option_map_or (λ (v : Service). v.port == q) o false) (option_map_or (λ (v : Service). service_rest c u.node u.provide v x.phase) o 0) (full c u.node u.provide)

asked_rest_is : (s : State) (q : ℕ) (u : Target) → target s.config q ≡ Some u → asked_rest s q u ≡ asked_by s.config q u (exchange s q) (service s u.node)
asked_rest_is s q u e =
    ap (λ o. cond (option_map_or (λ (v : Service). v.port == q) (option_and_then (λ (t : Target). service s t.node) o) false)
    (option_map_or (λ (v : Service). service_rest s.config u.node u.provide v (exchange s q).phase) (service s u.node) 0) (full s.config u.node u.provide)) e

asked_free : (s : State) (q : ℕ) (u : Target) → is_taken s q ≡ false → asked_rest s q u ≡ full s.config u.node u.provide
asked_free s q u h =
    ap (λ b. cond b (option_map_or (λ (v : Service). service_rest s.config u.node u.provide v (exchange s q).phase) (service s u.node) 0) (full s.config u.node u.provide)) h

-- Nothing changes at port q, and its target services what it did, or not q before and after.
pub left_same : (s : State) (t' : Traffic) (q : ℕ) → exchange (record s { traffic = t' }) q ≡ exchange s q
    → ((u : Target) → target s.config q ≡ Some u
    → (service (record s { traffic = t' }) u.node ≡ service s u.node) ⊎ ((is_taken (record s { traffic = t' }) q ≡ false) × (is_taken s q ≡ false)))
    → rest_at (record s { traffic = t' }) q ≡ rest_at s q
left_same s t' q ex cases = ap (λ (x : Exchange). port_rest (record s { traffic = t' }) q x.phase) ex ∙ at (exchange s q).phase
  where
    asked : (u : Target) → target s.config q ≡ Some u → asked_rest (record s { traffic = t' }) q u ≡ asked_rest s q u
    asked u e = ⊎_elim
        (λ (same : service (record s { traffic = t' }) u.node ≡ service s u.node).
        asked_rest_is (record s { traffic = t' }) q u e
        ∙ ap (λ x. asked_by s.config q u x (service (record s { traffic = t' }) u.node)) ex
        ∙ ap (λ o. asked_by s.config q u (exchange s q) o) same
        ∙ sym (asked_rest_is s q u e))
        (λ (free : (is_taken (record s { traffic = t' }) q ≡ false) × (is_taken s q ≡ false)).
        asked_free (record s { traffic = t' }) q u free.0 ∙ sym (asked_free s q u free.1))
        (cases u e)

    led : (o : Option Target) → target s.config q ≡ o → option_map_or (asked_rest (record s { traffic = t' }) q) o 0 ≡ option_map_or (asked_rest s q) o 0
    led None e = refl
    led (Some u) e = asked u e

    at : (f : Phase) → port_rest (record s { traffic = t' }) q f ≡ port_rest s q f
    at phase.Idle = refl
    at phase.Asked = led (target s.config q) refl
    at phase.Answered = refl
    at phase.More = led (target s.config q) refl

-- what node n services changes, and is port q neither before nor after
pub left_elsewhere : (s : State) (t' : Traffic) (n q : ℕ) → exchange (record s { traffic = t' }) q ≡ exchange s q
    → ((m : ℕ) → (m ≡ n → ⊥) → service (record s { traffic = t' }) m ≡ service s m)
    → ((v : Service) → service s n ≡ Some v → v.port ≡ q → ⊥)
    → ((v : Service) → service (record s { traffic = t' }) n ≡ Some v → v.port ≡ q → ⊥)
    → rest_at (record s { traffic = t' }) q ≡ rest_at s q
left_elsewhere s t' n q ex there before after = left_same s t' q ex (λ u e. ⊎_elim
    (λ (same : u.node ≡ n). inr (
      untaken_if (record s { traffic = t' }) q u e (λ v f. after v (sym (ap (λ i. service (record s { traffic = t' }) i) same) ∙ f)),
      untaken_if s q u e (λ v f. before v (sym (ap (λ i. service s i) same) ∙ f)),
    ))
    (λ (other : u.node ≡ n → ⊥). inl (there u.node other))
    (cases_eq u.node n))
