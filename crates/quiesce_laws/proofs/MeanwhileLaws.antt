-- A commit while nodes go on: what they do leaves the configuration, and drained ports drained.
use Rattle.std.proofs.Common.{◌≡◌, ℕ, Bool, true, false, cond, ◌||◌, List, [], ◌∷◌, ◌++◌, None, refl, sym, ap, ◌∙◌, subst, ⊎_elim}
use Rattle.std.specs.Prelude.{fold, filter}
use Rattle.std.specs.List.{list_any}
use Rattle.std.proofs.lemmas.Bool.{cases_Bool, or_parts}
use Rattle.quiesce_core.specs.declared.event.Event.{Event}
use Rattle.quiesce_core.specs.declared.event.Event.TheVariants.{Begin, Call, Take, Give, End, More, Ask, Hear, Miss, Close, Reopen, Make, Link, Unlink, Remove}
use Rattle.quiesce_core.specs.Doers.{is_of_change}
use Rattle.quiesce_core.specs.Effect.{change_next, effect}
use Rattle.quiesce_core.specs.Rules.{denial}
use Rattle.quiesce_core.specs.Runs.{IsRun, state_after}
use Rattle.quiesce_core.specs.State.{Configuration, State, empty}
use Rattle.quiesce_laws.specs.Drained.{is_drained}
use Rattle.quiesce_laws.specs.Events.{reopens}
use Rattle.quiesce_laws.proofs.DrainingLaws.{drained_stays, no_node_reopens}
use Rattle.quiesce_laws.specs.Steps.{MayStep, MayStepAll, change_all}
use Rattle.quiesce_laws.proofs.AllowedLemmas.{step_allowed}
use Rattle.quiesce_core.proofs.RunLaws.{change_only, effect_config, runs_grow}

-- the configuration after events is the one that the change's own events make
pub config_after : (s : State) (es : List Event) → (fold effect s es).config ≡ change_all s.config (filter is_of_change es)
config_after s [] = refl
config_after s (e ∷ es) =
    config_after (effect s e) es ∙ ap (λ c. change_all c (filter is_of_change es)) (effect_config s e)
    ∙ ⊎_elim
    (λ (h : is_of_change e ≡ true). ap (λ b. change_all s.config (cond b (e ∷ filter is_of_change es) (filter is_of_change es))) (sym h))
    (λ (h : is_of_change e ≡ false). ap (λ c. change_all c (filter is_of_change es)) (change_only s.config e h)
    ∙ ap (λ b. change_all s.config (cond b (e ∷ filter is_of_change es) (filter is_of_change es))) (sym h))
    (cases_Bool (is_of_change e))

pub none_reopened : (p : ℕ) (es : List Event) → list_any (reopens p) (filter is_of_change es) ≡ false → list_any (reopens p) es ≡ false
none_reopened p [] h = refl
none_reopened p (e ∷ es) h = ⊎_elim
    (λ (k : is_of_change e ≡ true).
    let here = sym (ap (λ b. list_any (reopens p) (cond b (e ∷ filter is_of_change es) (filter is_of_change es))) k) ∙ h in
    let parts = or_parts (reopens p e) (list_any (reopens p) (filter is_of_change es)) here in
    ap (λ b. b || list_any (reopens p) es) parts.0 ∙ none_reopened p es parts.1)
    (λ (k : is_of_change e ≡ false).
    let here = sym (ap (λ b. list_any (reopens p) (cond b (e ∷ filter is_of_change es) (filter is_of_change es))) k) ∙ h in
    ap (λ b. b || list_any (reopens p) es) (no_node_reopens p e k) ∙ none_reopened p es here)
    (cases_Bool (is_of_change e))

pub may_at : (noted : ℕ → Bool) (c : Configuration) (done : List Event) (e : Event) (left : List Event) → MayStepAll noted c (done ++ e ∷ left) → MayStep noted (change_all c done) e
may_at noted c [] e left h = h.0
may_at noted c (d ∷ done) e left h = may_at noted (change_next c d) done e left h.1

-- the state after further events
pub after_more : (s : State) (es more_ : List Event) → fold effect s (es ++ more_) ≡ fold effect (fold effect s es) more_
after_more s [] more_ = refl
after_more s (e ∷ es) more_ = after_more (effect s e) es more_

-- the configuration after a run and further events
pub now_is : (es more_ : List Event) → (state_after (es ++ more_)).config ≡ change_all (state_after es).config (filter is_of_change more_)
now_is es more_ = ap (λ (s : State). s.config) (after_more empty es more_) ∙ config_after (state_after es) more_

-- A list of steps that may be made, begun after a run: each is allowed after those before it, whatever nodes do in between.
pub allowed_meanwhile : (noted : ℕ → Bool) (es more_ left : List Event) (e : Event) → IsRun (es ++ more_) → ((p : ℕ) → noted p ≡ true → is_drained (state_after es) p ≡ true)
    → ((p : ℕ) → list_any (reopens p) (filter is_of_change more_) ≡ false)
    → MayStepAll noted (state_after es).config (filter is_of_change more_ ++ e ∷ left) → denial (state_after (es ++ more_)) e ≡ None
allowed_meanwhile noted es more_ left e run drained closed_ may =
    step_allowed noted (es ++ more_) run (λ p h. drained_stays es more_ p run (none_reopened p more_ (closed_ p)) (drained p h)) e
    (subst (λ c. MayStep noted c e) (sym (now_is es more_)) (may_at noted (state_after es).config (filter is_of_change more_) e left may))

-- what a change may do is the change's
change_of : (noted : ℕ → Bool) (c : Configuration) (e : Event) → MayStep noted c e → is_of_change e ≡ true
change_of noted c (Begin p k v) h = absurd h
change_of noted c (Call p k v) h = absurd h
change_of noted c (Miss p) h = absurd h
change_of noted c (Take p k v) h = absurd h
change_of noted c (Give p k v) h = absurd h
change_of noted c (More p k v) h = absurd h
change_of noted c (Ask p k v) h = absurd h
change_of noted c (Hear p k v) h = absurd h
change_of noted c (End p k v) h = absurd h
change_of noted c (Close p) h = refl
change_of noted c (Reopen p) h = refl
change_of noted c (Make n node from) h = refl
change_of noted c (Link p n x) h = refl
change_of noted c (Unlink p) h = refl
change_of noted c (Remove n) h = refl

pub front_is_of_change : (noted : ℕ → Bool) (c : Configuration) (done left : List Event) → MayStepAll noted c (done ++ left) → filter is_of_change done ≡ done
front_is_of_change noted c [] left h = refl
front_is_of_change noted c (e ∷ done) left h =
    ap (λ b. cond b (e ∷ filter is_of_change done) (filter is_of_change done)) (change_of noted c e h.0)
    ∙ ap (λ xs. e ∷ xs) (front_is_of_change noted (change_next c e) done left h.1)

nothing_behind : (es : List Event) → es ≡ es ++ []
nothing_behind [] = refl
nothing_behind (e ∷ es) = ap (λ xs. e ∷ xs) (nothing_behind es)

regrouped : (es fs gs : List Event) → (es ++ fs) ++ gs ≡ es ++ (fs ++ gs)
regrouped [] fs gs = refl
regrouped (e ∷ es) fs gs = ap (λ xs. e ∷ xs) (regrouped es fs gs)

-- a run goes on with events each of which is allowed after those before it
run_on : (es done left : List Event) → IsRun (es ++ done) → ((d l : List Event) (e : Event) → d ++ e ∷ l ≡ done ++ left → IsRun (es ++ d) → denial (state_after (es ++ d)) e ≡ None) → IsRun (es ++ (done ++ left))
run_on es done [] run h = subst (λ xs. IsRun (es ++ xs)) (nothing_behind done) run
run_on es done (e ∷ left) run h =
    let more_ : IsRun (es ++ (done ++ e ∷ [])) = subst IsRun (regrouped es done (e ∷ [])) ((runs_grow (es ++ done) e).1 (run, h done left e refl run)) in
    subst (λ xs. IsRun (es ++ xs)) (regrouped done (e ∷ []) left)
    (run_on es (done ++ e ∷ []) left more_ (λ d l f is. h d l f (is ∙ regrouped done (e ∷ []) left)))

pub runs_on : (es left : List Event) → IsRun es → ((d l : List Event) (e : Event) → d ++ e ∷ l ≡ left → IsRun (es ++ d) → denial (state_after (es ++ d)) e ≡ None) → IsRun (es ++ left)
runs_on es left run h = run_on es [] left (subst IsRun (nothing_behind es) run) h
